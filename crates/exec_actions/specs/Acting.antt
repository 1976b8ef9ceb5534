-- What actions do.
use Rattle.std.specs.Prelude.{List, [], ◌∷◌, false}
use Rattle.p4_ast.specs.declared.declaration.P4Field.{P4Field}
use Rattle.app_data.specs.declared.run.Run.{Run}
use Rattle.app_data.specs.declared.value.Value.{Value}
use Rattle.app_meaning.specs.Values.{cut}
use Rattle.app_meaning.specs.Slots.{Scope, text, type_width, slot_of}
use Rattle.app_meaning.specs.Assigning.{set_slot}
use Rattle.app_meaning.specs.Statements.{with_values}
use Rattle.exec_code.specs.Steps.{Numbered, run_step}
use Rattle.exec_actions.specs.declared.action.Param.{Param}
use Rattle.exec_actions.specs.declared.action.Action.{Action}

-- within an action no other one is called, and no table is applied
abbrev pub idle : Numbered
idle = record { call = λ action args run. run; apply = λ table run. (run, false) }

-- the slot and the width of a parameter
abbrev pub param_of : Scope → P4Field → Param
param_of sc p = record { slot = slot_of sc (text p.name ∷ []); width = type_width sc.types p.type_ }

-- each parameter gets its argument
abbrev pub pass_at : List Param → List Value → List Value → List Value
pass_at [] args values = values
pass_at (p ∷ ps) [] values = values
pass_at (p ∷ ps) (v ∷ vs) values = pass_at ps vs (set_slot values p.slot (cut p.width v.number))

-- the action's step, behind its arguments
abbrev pub run_action_at : Action → List Value → Run → Run
run_action_at a args run = run_step a.body idle (with_values run (pass_at a.params args run.values))
