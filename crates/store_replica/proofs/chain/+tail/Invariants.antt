use Rattle.std.proofs.Common.{length}
use Rattle.store_replica.proofs.chain.+tail.Given as goal

abbrev pub decreases-tail : goal.decreases-tail
decreases-tail l = length l.members.now
