use Rattle.std.proofs.Common.{◌≡◌, replicate, true, length}
use Rattle.reroute.proofs.router.all_up.Given as goal

abbrev pub invariant-loop : goal.invariant-loop
invariant-loop l = record {
  items : l.believed.items ≡ replicate l.counter true;
  length : length l.believed.items ≡ l.counter;
}
