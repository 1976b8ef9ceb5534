use Rattle.std.proofs.Common.{◌≡◌, ◌++◌, length}
use Rattle.std.specs.Prelude.{take, drop}
use Rattle.lazy_snap.proofs.snap.pour.Given as goal

abbrev pub invariant-loop-i : goal.invariant-loop-i
invariant-loop-i l = record {
  length : length l.cells ≡ length l.from;
  cells : l.cells ≡ take l.i l.from ++ drop l.i l.fn.cells;
}
