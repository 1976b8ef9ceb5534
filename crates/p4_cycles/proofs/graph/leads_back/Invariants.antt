use Rattle.std.proofs.Common.{◌≡◌, ◌-◌, ◌≤◌, [], length}
use Rattle.p4_cycles.specs.Graphs.{reached, joined, targets}
use Rattle.p4_cycles.proofs.graph.leads_back.Given as goal

abbrev pub invariant-loop-i : goal.invariant-loop-i
invariant-loop-i l = record {
  told : reached (length l.g - l.i) l.g l.i l.found ≡ reached (length l.g) l.g 0 (joined [] (targets l.g l.n));
  within : l.i ≤ length l.g;
}
