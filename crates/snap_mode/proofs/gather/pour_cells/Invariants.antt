use Rattle.std.proofs.Common.{◌≡◌, ◌++◌, take}
use Rattle.snap_mode.proofs.gather.pour_cells.Given as goal

abbrev pub invariant-loop-cell : goal.invariant-loop-cell
invariant-loop-cell l = l.into ≡ l.fn.into ++ take l.cell-index l.cells
