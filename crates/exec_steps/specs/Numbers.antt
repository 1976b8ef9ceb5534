-- What actions and tables do, by their numbers.
use Rattle.std.specs.Prelude.{ℕ, Bool, List, Option}
use Rattle.app_data.specs.declared.run.Run.{Run}
use Rattle.app_data.specs.declared.value.Value.{Value}
use Rattle.exec_code.specs.Steps.{Numbered}

-- what calls and tables do
abbrev pub numbered : (Option ℕ → List Value → Run → Run) → (Option ℕ → Run → Run × Bool) → Numbered
numbered call apply = record { call = call; apply = apply }
