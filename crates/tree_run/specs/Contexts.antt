-- The context in which statements run.
use Rattle.std.specs.Prelude.{ℕ, Bool, List}
use Rattle.app_data.specs.declared.scope.Scope.{Scope as ScopeValue}
use Rattle.app_data.specs.declared.run.Run.{Run}
use Rattle.app_data.specs.declared.value.Value.{Value}
use Rattle.app_meaning.specs.Slots.{Name}
use Rattle.app_meaning.specs.Statements.{Context}
use Rattle.tree_eval.specs.Seen.{seen}

-- what names stand for, with what calls and tables do
abbrev pub context : ScopeValue → (Name → List Value → Run → Run) → (Name → Run → Run × Bool) → Context
context sc call apply = record { scope = seen sc; call = call; apply = apply }
