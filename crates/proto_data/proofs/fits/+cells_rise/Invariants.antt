use Rattle.std.proofs.Common.{length}
use Rattle.proto_data.proofs.fits.+cells_rise.Given as goal

abbrev pub decreases-cells_rise : goal.decreases-cells_rise
decreases-cells_rise l = length l.pairs.now
