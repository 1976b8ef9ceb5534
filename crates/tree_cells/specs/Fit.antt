-- Cells that there can be.
use Rattle.std.specs.Prelude.{ℕ, ◌+◌, ◌<◌, ◌≤◌, ◌≡◌, List, Option, Some, None}
use Rattle.app_data.specs.declared.scope.Register.{Register}
use Rattle.app_meaning.specs.Slots.{Name, named_register}

-- the cells of a declaration are among the first 256
abbrev pub IsWithin : ℕ → Option ℕ → Type 0
IsWithin first None = first < 256
IsWithin first (Some size) = first + size ≤ 256

-- so are those of each declaration
abbrev pub Fit : List Register → Type 0
Fit registers = (name : Name) (g : Register) → named_register name registers ≡ Some g → IsWithin g.first g.size
