-- What is seen of lazy snapshots: the cells, and the round that runs with the cells as they were at its begin.
use Rattle.std.specs.Prelude.{ℕ, ◌+◌, ◌*◌, ◌/◌, max, List, [], Option, Some, None, option_map, take, drop}

-- the cells as they are, and the number of a running round with the cells at its begin
pub record Snap : Type 0 where
  pub cells : List ℕ
  pub round : Option (ℕ × List ℕ)

-- the number of the round that runs
abbrev pub round_of : Snap → Option ℕ
round_of s = option_map (λ r. r.0) s.round

-- the cells of a round; none without one
abbrev pub cells_of : Option (ℕ × List ℕ) → List ℕ
cells_of None = []
cells_of (Some r) = r.1

-- the cells at the begin of the round that runs
abbrev pub base : Snap → List ℕ
base s = cells_of s.round

-- how many chunks so many cells have
abbrev pub chunk_count : ℕ → ℕ
chunk_count cells = max 1 ((cells + 31) / 32)

-- the cells of one chunk
abbrev pub chunk_of : ℕ → List ℕ → List ℕ
chunk_of i cells = take 32 (drop (32 * i) cells)
