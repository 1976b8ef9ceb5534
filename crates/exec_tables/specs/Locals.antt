-- Locals by number do what they do by name.
use Rattle.std.specs.Prelude.{◌≡◌, List, [], ◌∷◌, Option, None, Some, ⊤}
use Rattle.p4_ast.specs.declared.control.P4Local.{P4Local}
use Rattle.p4_ast.specs.declared.control.P4Local.TheVariants as tree
use Rattle.p4_ast.specs.declared.table.P4Call.{P4Call}
use Rattle.p4_ast.specs.declared.table.P4Default.{P4Default}
use Rattle.p4_ast.specs.declared.table.P4Entry.{P4Entry}
use Rattle.p4_ast.specs.declared.table.P4Table.{P4Table}
use Rattle.app_data.specs.declared.run.Run.{Run}
use Rattle.app_data.specs.declared.value.Value.{Value}
use Rattle.app_meaning.specs.Slots.{Scope, text}
use Rattle.app_meaning.specs.Statements.{values_of}
use Rattle.app_meaning.specs.Actions.{entries_of, key_values, run_action}
use Rattle.exec_steps.specs.Tied.{action_number}
use Rattle.exec_actions.specs.Acting.{run_action_at}
use Rattle.exec_tables.specs.declared.local.Call.{Call}
use Rattle.exec_tables.specs.declared.local.Table.{Table}
use Rattle.exec_tables.specs.declared.local.Local.{Local}
use Rattle.exec_tables.specs.declared.local.Local.TheVariants as local
use Rattle.exec_tables.specs.Applying.{code_values}
use Rattle.table_rows.specs.Rows.{IsTableOf}

-- a call by number of the action that a call names
pub record IsCall (sc : Scope) (locals : List P4Local) (c : P4Call) (made : Call) : Type 0 where
  pub action : made.action ≡ action_number locals (text c.name)
  pub args : (values : List Value) → code_values made.args values ≡ values_of c.args sc values

-- the calls of entries
abbrev pub AreCalls : Scope → List P4Local → List P4Entry → List Call → Type 0
AreCalls sc locals [] [] = ⊤
AreCalls sc locals [] (c ∷ cs) = ⊥
AreCalls sc locals (e ∷ es) [] = ⊥
AreCalls sc locals (e ∷ es) (c ∷ cs) = IsCall sc locals e.call c × AreCalls sc locals es cs

-- the default call
abbrev pub IsDefault : Scope → List P4Local → Option P4Default → Option Call → Type 0
IsDefault sc locals None None = ⊤
IsDefault sc locals None (Some c) = ⊥
IsDefault sc locals (Some d) None = ⊥
IsDefault sc locals (Some d) (Some c) = IsCall sc locals d.call c

-- a table with the entries, keys and calls of a table of the tree
pub record IsTable (sc : Scope) (locals : List P4Local) (t : P4Table) (made : Table) : Type 0 where
  pub keys : (values : List Value) → code_values made.keys values ≡ key_values t.keys.keys sc values
  pub rows : IsTableOf sc t.keys.keys (entries_of t.entries) made.rows
  pub calls : AreCalls sc locals (entries_of t.entries) made.calls
  pub default : IsDefault sc locals t.default made.default

-- what a local of the tree is made into
abbrev pub IsLocal : Scope → List P4Local → P4Local → Local → Type 0
IsLocal sc locals (tree.Action a) (local.Action x) = (args : List Value) (run : Run) → run_action_at x args run ≡ run_action sc a args run
IsLocal sc locals (tree.Action a) (local.Table x) = ⊥
IsLocal sc locals (tree.Action a) local.Other = ⊥
IsLocal sc locals (tree.Table t) (local.Action x) = ⊥
IsLocal sc locals (tree.Table t) (local.Table x) = IsTable sc locals t x
IsLocal sc locals (tree.Table t) local.Other = ⊥
IsLocal sc locals l (local.Action x) = ⊥
IsLocal sc locals l (local.Table x) = ⊥
IsLocal sc locals l local.Other = ⊤

-- so are all locals, each in its place
abbrev pub AreLocals : Scope → List P4Local → List P4Local → List Local → Type 0
AreLocals sc locals [] [] = ⊤
AreLocals sc locals [] (x ∷ xs) = ⊥
AreLocals sc locals (l ∷ ls) [] = ⊥
AreLocals sc locals (l ∷ ls) (x ∷ xs) = IsLocal sc locals l x × AreLocals sc locals ls xs
