use Rattle.std.proofs.Common.{◌≡◌, length, take}
use Rattle.rp_app.specs.Application.{written}
use Rattle.switch_slot.proofs.cells.write_into.Given as goal

abbrev pub invariant-loop-pair : goal.invariant-loop-pair
invariant-loop-pair l = (l.snap ≡ record l.initial.snap { cells = written l.initial.snap.cells (take l.pair-index l.pairs) }) × (length l.snap.cells ≡ length l.initial.snap.cells)
