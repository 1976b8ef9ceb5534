-- Parameters get their arguments by slot as by name.
use Rattle.std.proofs.Common.{◌≡◌, List, [], ◌∷◌, map, refl, ap, ◌∙◌, false}
use Rattle.p4_ast.specs.declared.declaration.P4Field.{P4Field}
use Rattle.p4_ast.specs.declared.control.P4Action.{P4Action}
use Rattle.app_data.specs.declared.run.Run.{Run}
use Rattle.app_data.specs.declared.scope.Scope.{Scope as ScopeValue}
use Rattle.app_data.specs.declared.value.Value.{Value}
use Rattle.app_meaning.specs.Values.{cut}
use Rattle.app_meaning.specs.Slots.{Scope, text, type_width, slot_of}
use Rattle.app_meaning.specs.Assigning.{set_slot}
use Rattle.app_meaning.specs.Actions.{inside, pass, run_action}
use Rattle.app_meaning.specs.Statements.{with_values, run_block}
use Rattle.exec_code.specs.declared.step.Step.{Step}
use Rattle.exec_code.specs.Steps.{run_step}
use Rattle.exec_steps.specs.Tied.{DoesAs}
use Rattle.exec_actions.specs.declared.action.Param.{Param}
use Rattle.exec_actions.specs.Acting.{idle, param_of, pass_at, run_action_at}
use Rattle.tree_eval.specs.Seen.{seen}

pub passed : (sc : Scope) (ps : List P4Field) (args values : List Value) → pass_at (map (param_of sc) ps) args values ≡ pass sc ps args values
passed sc [] args values = refl
passed sc (p ∷ ps) [] values = refl
passed sc (p ∷ ps) (v ∷ vs) values = passed sc ps vs (set_slot values (slot_of sc (text p.name ∷ [])) (cut (type_width sc.types p.type_) v.number))

-- an action by its step is the action of the tree
pub acted : (sc : Scope) (inner : ScopeValue) (a : P4Action) (params : List Param) (body : Step) → seen inner ≡ inside sc (text a.name) → params ≡ map (param_of (seen inner)) a.params
    → DoesAs [] inner body (run_block a.block) → (args : List Value) (run : Run) → run_action_at (record { params = params; body = body }) args run ≡ run_action sc a args run
acted sc inner a params body in_it ps does args run =
    let sent : pass_at params args run.values ≡ pass (inside sc (text a.name)) a.params args run.values =
    ap (λ (qs : List Param). pass_at qs args run.values) ps ∙ passed (seen inner) a.params args run.values ∙ ap (λ (s : Scope). pass s a.params args run.values) in_it in
    ap (λ (vs : List Value). run_step body idle (with_values run vs)) sent
    ∙ does (λ name args run. run) (λ name run. (run, false)) idle (record { calls = λ name args run. refl; applies = λ name run. refl }) (with_values run (pass (inside sc (text a.name)) a.params args run.values))
    ∙ ap (λ (s : Scope). run_block a.block (record { scope = s; call = λ called args run. run; apply = λ table run. (run, false) }) (with_values run (pass (inside sc (text a.name)) a.params args run.values))) in_it
