use Rattle.std.proofs.Common.{◌∙◌, ap, List, ℕ, Option}
use Rattle.p4_ast.specs.declared.expression.P4Expr.{P4Expr}
use Rattle.app_data.specs.declared.value.Value.{Value}
use Rattle.exec_code.specs.declared.step.Step.{Step}
use Rattle.exec_code.specs.Steps.{Does, run_step}
use Rattle.exec_code.proofs.StepRules.{step-Call}
use Rattle.app_meaning.specs.Statements.{values_of}
use Rattle.tree_eval.specs.Seen.{seen}
use Rattle.exec_steps.proofs.branch.call_of.Goals as goal

pub returns : goal.returns
returns c = λ ns run.
    ap (λ (s : Step). run_step s ns run) c.in_ok-boxed.ensures
    ∙ ap (λ (f : Does). f ns run) (step-Call c.action_number.result c.in_ok-args.args)
    ∙ ap (λ (vs : List Value). ns.call c.action_number.result vs run) (c.in_ok-args.ensures run.values)
    ∙ ap (λ (es : List P4Expr). ns.call c.action_number.result (values_of es (seen c.args.sc) run.values) run) c.as_slice.ensures
    ∙ ap (λ (i : Option ℕ). ns.call i (values_of c.args.c.now.args (seen c.args.sc) run.values) run) c.action_number.ensures
