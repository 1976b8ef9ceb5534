-- The run after a step, one equation for each variant.
use Rattle.std.proofs.Common.{◌≡◌, ℕ, List, map, Option, sym, ap, ◌∙◌}
use Rattle.p4_ast.specs.declared.statement.P4Validity.{P4Validity}
use Rattle.exec_code.specs.declared.code.Code.{Code}
use Rattle.exec_code.specs.declared.step.Target.{Target}
use Rattle.exec_code.specs.declared.step.Reading.{Reading}
use Rattle.exec_code.specs.declared.step.Writing.{Writing}
use Rattle.exec_code.specs.declared.step.Test.{Test}
use Rattle.exec_code.specs.declared.step.Step.{Step, fold-roll-Step}
use Rattle.exec_code.specs.declared.step.Step.TheVariants as step
use Rattle.exec_code.specs.declared.step.Step.TheOpen as layer
use Rattle.app_meaning.specs.Assigning.{set_slot}
use Rattle.app_meaning.specs.Statements.{with_values, with_key, key_bytes}
use Rattle.exec_code.specs.Running.{run_code}
use Rattle.exec_code.specs.Steps.{Does, assign_at, read_at, write_at, validated, test_at, one_by_one, either, step_step, run_step}

pub step-Set : (slot : Option ℕ) (c : Code) → run_step (step.Set slot c) ≡ (λ ns run. with_values run (set_slot run.values slot (run_code c run.values)))
step-Set slot c = ap run_step (sym (step.rolls-Set slot c)) ∙ fold-roll-Step Does step_step (layer.Set slot c)

pub step-Assign : (t : Target) (c : Code) → run_step (step.Assign t c) ≡ (λ ns run. with_values run (assign_at t (run_code c run.values).number run.values))
step-Assign t c = ap run_step (sym (step.rolls-Assign t c)) ∙ fold-roll-Step Does step_step (layer.Assign t c)

pub step-Read : (r : Reading) → run_step (step.Read r) ≡ (λ ns run. read_at r run)
step-Read r = ap run_step (sym (step.rolls-Read r)) ∙ fold-roll-Step Does step_step (layer.Read r)

pub step-Write : (w : Writing) → run_step (step.Write w) ≡ (λ ns run. write_at w run)
step-Write w = ap run_step (sym (step.rolls-Write w)) ∙ fold-roll-Step Does step_step (layer.Write w)

pub step-Key : (c : Code) → run_step (step.Key c) ≡ (λ ns run. with_key run (key_bytes (run_code c run.values)))
step-Key c = ap run_step (sym (step.rolls-Key c)) ∙ fold-roll-Step Does step_step (layer.Key c)

pub step-Validate : (v : P4Validity) (h fields : ℕ) → run_step (step.Validate v h fields) ≡ (λ ns run. with_values run (validated v h fields run.values))
step-Validate v h fields = ap run_step (sym (step.rolls-Validate v h fields)) ∙ fold-roll-Step Does step_step (layer.Validate v h fields)

pub step-Apply : (table : Option ℕ) → run_step (step.Apply table) ≡ (λ ns run. (ns.apply table run).0)
step-Apply table = ap run_step (sym (step.rolls-Apply table)) ∙ fold-roll-Step Does step_step (layer.Apply table)

pub step-Call : (action : Option ℕ) (args : List Code) → run_step (step.Call action args) ≡ (λ ns run. ns.call action (map (λ c. run_code c run.values) args) run)
step-Call action args = ap run_step (sym (step.rolls-Call action args)) ∙ fold-roll-Step Does step_step (layer.Call action args)

pub step-Block : (steps : List Step) → run_step (step.Block steps) ≡ one_by_one (map run_step steps)
step-Block steps = ap run_step (sym (step.rolls-Block steps)) ∙ fold-roll-Step Does step_step (layer.Block steps)

pub step-If : (t : Test) (first second : Step) → run_step (step.If t first second) ≡ (λ ns run. either (run_step first) (run_step second) ns (test_at t ns run))
step-If t first second = ap run_step (sym (step.rolls-If t first second)) ∙ fold-roll-Step Does step_step (layer.If t first second)

pub ruleset step_rules = (step-Set, step-Assign, step-Read, step-Write, step-Key, step-Validate, step-Apply, step-Call, step-Block, step-If)
