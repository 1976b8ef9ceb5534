use Rattle.std.proofs.Common.{length}
use Rattle.tree_deparser.proofs.emits.+emit.Given as goal

abbrev pub decreases-emit : goal.decreases-emit
decreases-emit l = length l.emits.now
