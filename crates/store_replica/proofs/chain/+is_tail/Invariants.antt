use Rattle.std.proofs.Common.{length}
use Rattle.store_replica.proofs.chain.+is_tail.Given as goal

abbrev pub decreases-is_tail : goal.decreases-is_tail
decreases-is_tail l = length l.members.now
