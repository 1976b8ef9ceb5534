-- Marks of numbers.
use Rattle.std.specs.Prelude.{◌≡◌, ◌<◌, ℕ, Bool, false, List, length}
use Rattle.std.specs.Prelude.{get_or}
use Rattle.p4_cycles.specs.Graphs.{is_among}

-- a mark says whether its number is among these
abbrev pub AreMarks : List Bool → List ℕ → Type 0
AreMarks marks xs = (y : ℕ) → y < length marks → get_or marks y false ≡ is_among y xs
