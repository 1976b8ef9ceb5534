use Rattle.std.proofs.Common.{◌≡◌, take}
use Rattle.store_replica.proofs.gatherings.kept.Given as goal

abbrev pub invariant-loop-cell : goal.invariant-loop-cell
invariant-loop-cell l = l.kept ≡ take l.cell-index l.cells
