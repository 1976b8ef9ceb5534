use Rattle.std.proofs.Common.{◌≡◌, ◌≤◌, ◌*◌, sum, take}
use Rattle.reroute.proofs.up.byte_sum.Given as goal

abbrev pub invariant-loop-b : goal.invariant-loop-b
invariant-loop-b l = record {
  sum : l.total ≡ sum (take l.b-index l.bytes);
  fits : l.total ≤ 255 * l.b-index;
}
