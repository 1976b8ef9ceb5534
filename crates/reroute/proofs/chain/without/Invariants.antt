use Rattle.std.proofs.Common.{◌≡◌, ◌≤◌, ◌==◌, not, filter, length, take}
use Rattle.reroute.proofs.chain.without.Given as goal

abbrev pub invariant-loop-m : goal.invariant-loop-m
invariant-loop-m l = record {
  chain : l.chain ≡ filter (λ m. not (m == l.n)) (take l.m-index l.members);
  fits : length l.chain ≤ l.m-index;
}
