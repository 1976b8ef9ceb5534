use Rattle.std.proofs.Common.{length}
use Rattle.tree_tables.proofs.keyset.+ones_fit.Given as goal

abbrev pub decreases-ones_fit : goal.decreases-ones_fit
decreases-ones_fit l = length l.os.now
