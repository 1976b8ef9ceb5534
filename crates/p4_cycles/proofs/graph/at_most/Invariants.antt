use Rattle.std.proofs.Common.{◌≡◌, drop}
use Rattle.p4_cycles.specs.Graphs.{at_most}
use Rattle.p4_cycles.proofs.graph.at_most.Given as goal

abbrev pub invariant-loop-y : goal.invariant-loop-y
invariant-loop-y l = at_most l.ranks l.b (drop l.y-index l.ys) ≡ at_most l.ranks l.b l.ys
