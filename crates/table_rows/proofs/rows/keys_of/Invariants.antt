use Rattle.std.proofs.Common.{◌≡◌, take, map}
use Rattle.table_rows.specs.Rows.{kind_of}
use Rattle.table_rows.proofs.rows.keys_of.Given as goal

abbrev pub invariant-loop-k : goal.invariant-loop-k
invariant-loop-k l = map (λ k. k.0) l.made ≡ map (λ k. kind_of k.matching) (take l.k-index l.keys)
