use Rattle.std.proofs.Common.{length}
use Rattle.proto_data.proofs.fits.+rising.Given as goal

abbrev pub decreases-rising : goal.decreases-rising
decreases-rising l = length l.members.now
