use Rattle.std.proofs.Common.{length}
use Rattle.proto_data.proofs.fits.+cells_are_within.Given as goal

abbrev pub decreases-cells_are_within : goal.decreases-cells_are_within
decreases-cells_are_within l = length l.pairs.now
