use Rattle.std.proofs.Common.{◌≡◌, take}
use Rattle.switch_slot.proofs.cells.as_chunk.Given as goal

abbrev pub invariant-loop-cell : goal.invariant-loop-cell
invariant-loop-cell l = l.chunk ≡ take l.cell-index l.cells
