-- What actions and tables do.
use Rattle.std.specs.Prelude.{ℕ, Bool, true, false, List, [], ◌∷◌, map, Option, Some, None, if◌then◌else◌, bytes_eq, position}
use Rattle.p4_ast.specs.declared.declaration.P4Field.{P4Field}
use Rattle.p4_ast.specs.declared.control.P4Local.{P4Local}
use Rattle.p4_ast.specs.declared.control.P4Local.TheVariants as local
use Rattle.p4_ast.specs.declared.control.P4Action.{P4Action}
use Rattle.p4_ast.specs.declared.table.P4Table.{P4Table}
use Rattle.p4_ast.specs.declared.table.P4Key.{P4Key}
use Rattle.p4_ast.specs.declared.table.P4Match.{P4Match}
use Rattle.p4_ast.specs.declared.table.P4Match.TheVariants as matching
use Rattle.p4_ast.specs.declared.table.P4Default.{P4Default}
use Rattle.p4_ast.specs.declared.table.P4Entries.{P4Entries}
use Rattle.p4_ast.specs.declared.table.P4Entry.{P4Entry}
use Rattle.p4_ast.specs.declared.table.P4Call.{P4Call}
use Rattle.app_data.specs.declared.value.Value.{Value}
use Rattle.app_meaning.specs.Values.{cut}
use Rattle.app_meaning.specs.Slots.{Name, Scope, text, type_width, slot_of}
use Rattle.app_data.specs.declared.value.Match.{Match}
use Rattle.app_meaning.specs.Matches.{keyset_row, winner}
use Rattle.app_meaning.specs.Assigning.{set_slot}
use Rattle.app_data.specs.declared.run.Run.{Run}
use Rattle.app_meaning.specs.Statements.{Context, with_values, values_of, run_block}

-- ---- actions

-- the scope of an action's body
abbrev pub inside : Scope → Name → Scope
inside sc name = record { types = sc.types; constants = sc.constants; registers = sc.registers; slots = sc.slots; own = Some name }

-- within an action no other one is called, and no table is applied
abbrev pub action_context : Scope → Name → Context
action_context sc name = record { scope = inside sc name; call = λ called args run. run; apply = λ table run. (run, false) }

-- each parameter gets its argument
abbrev pub pass : Scope → List P4Field → List Value → List Value → List Value
pass sc [] args values = values
pass sc (p ∷ ps) [] values = values
pass sc (p ∷ ps) (v ∷ vs) values =
    pass sc ps vs (set_slot values (slot_of sc (text p.name ∷ [])) (cut (type_width sc.types p.type_) v.number))

-- the action's body, behind its arguments
abbrev pub run_action : Scope → P4Action → List Value → Run → Run
run_action sc a args run =
    run_block a.block (action_context sc (text a.name)) (with_values run (pass (inside sc (text a.name)) a.params args run.values))

-- a call of the action of this name; `NoAction` and names that aren't declared do nothing
abbrev pub call : Scope → List P4Local → Name → List Value → Run → Run
call sc [] name args run = run
call sc (local.Action a ∷ ls) name args run = if bytes_eq (text a.name) name then run_action sc a args run else call sc ls name args run
call sc (l ∷ ls) name args run = call sc ls name args run

-- ---- tables

-- whether a key is matched by its longest prefix
abbrev pub is_lpm : P4Match → Bool
is_lpm matching.Exact = false
is_lpm matching.Lpm = true
is_lpm matching.Ternary = false

-- the place of the lpm key, if there is one
abbrev pub lpm_place : List P4Key → Option ℕ
lpm_place keys = position (λ k. is_lpm k.matching) keys

-- the entries of a table, none where it lists none
abbrev pub entries_of : Option P4Entries → List P4Entry
entries_of None = []
entries_of (Some es) = es.entries

-- the rows of a table, each with the call of its action
abbrev pub rows : Scope → List P4Entry → List (List Match × P4Call)
rows sc es = map (λ e. (keyset_row sc e.keyset, e.call)) es

-- the values of a table's keys
abbrev pub key_values : List P4Key → Scope → List Value → List Value
key_values keys sc values = values_of (map (λ k. k.expr) keys) sc values

-- the call of an entry or of `default_action`
abbrev pub run_call : Scope → List P4Local → P4Call → Run → Run
run_call sc actions c run = call sc actions (text c.name) (values_of c.args sc run.values) run

-- the default action, nothing where there is none
abbrev pub run_default : Scope → List P4Local → Option P4Default → Run → Run
run_default sc actions None run = run
run_default sc actions (Some d) run = run_call sc actions d.call run

-- the run after the winning row's action, or else the default one, and whether it was a hit
abbrev pub after_look : Scope → List P4Local → Option P4Default → Option (List Match × P4Call) → Run → Run × Bool
after_look sc actions default None run = (run_default sc actions default run, false)
after_look sc actions default (Some row) run = (run_call sc actions row.1 run, true)

-- the run after a table, and whether it was a hit
abbrev pub run_table : Scope → List P4Local → P4Table → Run → Run × Bool
run_table sc actions t run =
    after_look sc actions t.default
    (winner (lpm_place t.keys.keys) (key_values t.keys.keys sc run.values) (rows sc (entries_of t.entries)))
    run

-- the table of this name is applied, its actions being among the locals `actions`
abbrev pub apply : Scope → List P4Local → List P4Local → Name → Run → Run × Bool
apply sc actions [] name run = (run, false)
apply sc actions (local.Table t ∷ ls) name run = if bytes_eq (text t.name) name then run_table sc actions t run else apply sc actions ls name run
apply sc actions (l ∷ ls) name run = apply sc actions ls name run

-- the context of the ingress control's block
abbrev pub control_context : Scope → List P4Local → Context
control_context sc locals = record { scope = sc; call = call sc locals; apply = apply sc locals locals }
