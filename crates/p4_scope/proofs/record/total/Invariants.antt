use Rattle.std.proofs.Common.{◌≡◌, drop, ◌≤◌, ◌*◌}
use Rattle.p4_scope.specs.Types.{total}
use Rattle.p4_scope.proofs.record.total.Given as goal

abbrev pub invariant-loop-k : goal.invariant-loop-k
invariant-loop-k l = record {
  told : total (drop l.k-index l.kinds) l.n ≡ total l.kinds 0;
  bound : l.n ≤ 255 * l.k-index;
}
