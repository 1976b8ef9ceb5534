use Rattle.std.proofs.Common.{◌≡◌, drop}
use Rattle.p4_cycles.specs.Graphs.{falls}
use Rattle.p4_cycles.proofs.graph.falls.Given as goal

abbrev pub invariant-loop-ys : goal.invariant-loop-ys
invariant-loop-ys l = record {
  told : falls l.ranks l.i (drop l.ys-index l.g) ≡ falls l.ranks 0 l.g;
  count : l.i ≡ l.ys-index;
}
