use Rattle.std.proofs.Common.{length}
use Rattle.store_replica.proofs.chain.+predecessor.Given as goal

abbrev pub decreases-predecessor : goal.decreases-predecessor
decreases-predecessor l = length l.members.now
