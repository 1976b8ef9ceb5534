-- How many copies are due: they stand at the front.
use Rattle.std.specs.Prelude.{ℕ, List, length}
use Rattle.mirror_buf.specs.Copies.{Named, due_ids}

-- the copies that are due at this age, at most 64
abbrev pub due_count : ℕ → ℕ → List Named → ℕ
due_count now age cs = length (due_ids now age 64 cs)
