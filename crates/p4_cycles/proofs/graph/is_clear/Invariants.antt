use Rattle.std.proofs.Common.{◌≡◌, drop, nat_lt, slice_index}
use Rattle.std.specs.List.{list_all}
use Rattle.p4_cycles.specs.Graphs.{is_clear}
use Rattle.p4_cycles.proofs.graph.is_clear.Given as goal

abbrev pub invariant-loop-y : goal.invariant-loop-y
invariant-loop-y l = list_all (λ y. nat_lt (slice_index l.ranks y) (slice_index l.ranks l.n)) (drop l.y-index l.y-items) ≡ is_clear l.ranks l.g l.n
