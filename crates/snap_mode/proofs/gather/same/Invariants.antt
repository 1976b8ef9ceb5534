use Rattle.std.proofs.Common.{◌≡◌, take}
use Rattle.snap_mode.proofs.gather.same.Given as goal

abbrev pub invariant-loop-cell : goal.invariant-loop-cell
invariant-loop-cell l = l.same ≡ take l.cell-index l.cells
