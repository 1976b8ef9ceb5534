use Rattle.std.proofs.Common.{length}
use Rattle.store_replica.proofs.chain.+successor.Given as goal

abbrev pub decreases-successor : goal.decreases-successor
decreases-successor l = length l.members.now
