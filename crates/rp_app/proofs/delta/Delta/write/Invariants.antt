use Rattle.std.proofs.Common.{◌≡◌, length, take}
use Rattle.rp_app.specs.Application.{written}
use Rattle.rp_app.proofs.delta.Delta.write.Given as goal

abbrev pub invariant-loop-pair : goal.invariant-loop-pair
invariant-loop-pair l = (l.cells ≡ written l.initial.cells (take l.pair-index l.pair-items)) × (length l.cells ≡ length l.initial.cells) × (l.pair-items ≡ l.fn.self)
