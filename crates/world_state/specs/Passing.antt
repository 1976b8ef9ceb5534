-- Which frames were passed over, found without a search.
use Rattle.std.specs.Prelude.{ℕ, ◌≡◌, ◌<◌, ◌==◌, Bool, true, false, List, Option, Some, None, slice_get, reverse}
use Rattle.std.specs.List.{list_any}

-- whether the frame of this number is passed over
abbrev pub is_passed : List ℕ → ℕ → Bool
is_passed passed i = list_any (λ j. j == i) passed

-- a flag that may be there
abbrev pub flag_at : Option Bool → Bool
flag_at None = false
flag_at (Some b) = b

-- whether the flag of this number is on; one that isn't there is off
abbrev pub flagged : List Bool → ℕ → Bool
flagged flags i = flag_at (slice_get flags i)

-- the flags are those of the passed numbers
pub record IsPassing (order : List ℕ) (flags : List Bool) : Type 0 where
  pub flags_are : (i : ℕ) → flagged flags i ≡ is_passed (reverse order) i
