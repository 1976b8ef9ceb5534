use Rattle.std.proofs.Common.{◌≡◌, drop}
use Rattle.p4_cycles.specs.Graphs.{is_among}
use Rattle.p4_cycles.proofs.flood.is_among.Given as goal

abbrev pub invariant-loop-x : goal.invariant-loop-x
invariant-loop-x l = is_among l.y (drop l.x-index l.xs) ≡ is_among l.y l.xs
