-- What a scope in memory stands for.
use Rattle.std.specs.Prelude.{ℕ, List, option_map}
use Rattle.std.specs.Borrow.{Bor}
use Rattle.app_data.specs.declared.scope.Scope.{Scope as ScopeValue}
use Rattle.app_meaning.specs.Slots.{Scope}

-- the scope that a borrowed one shows
abbrev pub seen : ScopeValue → Scope
seen sc = record { types = sc.types.now; constants = sc.constants.now; registers = sc.registers.now; slots = sc.slots.now; own = option_map (λ (name : Bor (List ℕ)). name.now) sc.own }
