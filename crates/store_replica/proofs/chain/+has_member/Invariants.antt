use Rattle.std.proofs.Common.{length}
use Rattle.store_replica.proofs.chain.+has_member.Given as goal

abbrev pub decreases-has_member : goal.decreases-has_member
decreases-has_member l = length l.members.now
