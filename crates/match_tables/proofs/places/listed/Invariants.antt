use Rattle.std.proofs.Common.{◌≡◌, ◌++◌, map}
use Rattle.match_tables.proofs.places.listed.Given as goal

abbrev pub invariant-loop-k : goal.invariant-loop-k
invariant-loop-k l = l.made ++ map (λ k. k.items) l.k-iterator ≡ map (λ k. k.items) l.fn.set.keys
