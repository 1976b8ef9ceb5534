use Rattle.std.proofs.Common.{◌≡◌, ◌≤◌, ◌+◌, ◌-◌, ◌*◌, length, min}
use Rattle.std.specs.Prelude.{take, drop}
use Rattle.lazy_snap.specs.Snap.{base}
use Rattle.lazy_snap.proofs.snap.LazySnap.chunk.Given as goal

abbrev pub invariant-loop-at : goal.invariant-loop-at
invariant-loop-at l = record {
  start : l.from ≡ 32 * l.i;
  after : l.from ≤ l.at;
  until : l.at-end ≡ min (length l.self.cells) (l.from + 32);
  items : l.into.items ≡ take (l.at - l.from) (drop l.from (base l.self));
}
