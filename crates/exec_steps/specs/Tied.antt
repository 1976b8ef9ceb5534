-- Actions and tables by name and by number, and steps that do what statements do.
use Rattle.std.specs.Prelude.{ℕ, ◌≡◌, Bool, List, map, Option, position, bytes_eq}
use Rattle.p4_ast.specs.declared.control.P4Local.{P4Local}
use Rattle.p4_ast.specs.declared.control.P4Local.TheVariants as local
use Rattle.p4_ast.specs.declared.statement.P4Stmt.{P4Stmt}
use Rattle.app_data.specs.declared.scope.Scope.{Scope}
use Rattle.app_data.specs.declared.run.Run.{Run}
use Rattle.app_data.specs.declared.value.Value.{Value}
use Rattle.app_meaning.specs.Slots.{Name, text}
use Rattle.app_meaning.specs.Statements.{Meaning, in_turn, run_stmt}
use Rattle.exec_code.specs.declared.step.Step.{Step}
use Rattle.exec_code.specs.Steps.{Numbered, run_step, one_by_one}
use Rattle.tree_run.specs.Contexts.{context}

-- whether a local is the action of this name
abbrev pub is_action : Name → P4Local → Bool
is_action name (local.Action a) = bytes_eq (text a.name) name
is_action name l = Bool.false

-- whether a local is the table of this name
abbrev pub is_table : Name → P4Local → Bool
is_table name (local.Table t) = bytes_eq (text t.name) name
is_table name l = Bool.false

-- the number of the action of this name: its place among the locals
abbrev pub action_number : List P4Local → Name → Option ℕ
action_number ls name = position (is_action name) ls

-- the number of the table of this name: its place among the locals
abbrev pub table_number : List P4Local → Name → Option ℕ
table_number ls name = position (is_table name) ls

-- what the names of some locals do is what their numbers do
pub record IsTied (locals : List P4Local) (called : Name → List Value → Run → Run) (applied : Name → Run → Run × Bool) (ns : Numbered) : Type 0 where
  pub calls : (name : Name) (args : List Value) (run : Run) → called name args run ≡ ns.call (action_number locals name) args run
  pub applies : (name : Name) (run : Run) → applied name run ≡ ns.apply (table_number locals name) run

-- a step does what statements do, whatever their actions and tables do
abbrev pub DoesAs : List P4Local → Scope → Step → Meaning → Type 0
DoesAs locals sc step meaning =
    (called : Name → List Value → Run → Run) (applied : Name → Run → Run × Bool) (ns : Numbered) → IsTied locals called applied ns
    → (run : Run) → run_step step ns run ≡ meaning (context sc called applied) run

-- so do steps, one after the other
abbrev pub DoAs : List P4Local → Scope → List Step → List P4Stmt → Type 0
DoAs locals sc steps stmts =
    (called : Name → List Value → Run → Run) (applied : Name → Run → Run × Bool) (ns : Numbered) → IsTied locals called applied ns
    → (run : Run) → one_by_one (map run_step steps) ns run ≡ in_turn (map run_stmt stmts) (context sc called applied) run
