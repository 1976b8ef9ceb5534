use Rattle.std.proofs.Common.{length}
use Rattle.proto_data.proofs.fits.+are_replicas.Given as goal

abbrev pub decreases-are_replicas : goal.decreases-are_replicas
decreases-are_replicas l = length l.members.now
