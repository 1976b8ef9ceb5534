use Rattle.std.proofs.Common.{◌≡◌, ◌++◌, map}
use Rattle.match_tables.proofs.places.sorted.Given as goal

abbrev pub invariant-loop-k : goal.invariant-loop-k
invariant-loop-k l = l.made ++ map (λ e. (e.0.items, e.1)) l.k-iterator ≡ map (λ e. (e.0.items, e.1)) l.fn.places.entries
