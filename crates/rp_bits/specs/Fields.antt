-- What readers and writers of bits keep.
use Rattle.std.specs.Prelude.{ℕ, ◌<◌, ◌≤◌, ◌*◌, ◌^◌, List, length, slice_index}

-- fewer than eight bits, of a number that has no more
pub record IsPart (used part : ℕ) : Type 0 where
  pub few : used < 8
  pub below : part < 2 ^ used

-- fewer than eight bits, which are there
pub record IsUsed (used : ℕ) (bytes : List ℕ) : Type 0 where
  pub few : used < 8
  pub there : used ≤ 8 * length bytes

-- each member is a byte
abbrev pub IsBytes : List ℕ → Type 0
IsBytes bytes = (i : ℕ) → slice_index bytes i < 256
