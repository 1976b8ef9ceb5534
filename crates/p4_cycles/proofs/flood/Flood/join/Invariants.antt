use Rattle.std.proofs.Common.{◌≡◌, drop}
use Rattle.p4_cycles.specs.Graphs.{joined}
use Rattle.p4_cycles.proofs.flood.Flood.join.Given as goal

abbrev pub invariant-loop-y : goal.invariant-loop-y
invariant-loop-y l = joined l.self (drop l.y-index l.ys) ≡ joined l.fn.self l.ys
