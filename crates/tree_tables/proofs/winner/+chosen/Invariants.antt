use Rattle.std.proofs.Common.{length}
use Rattle.tree_tables.proofs.winner.+chosen.Given as goal

abbrev pub decreases-chosen : goal.decreases-chosen
decreases-chosen l = length l.cs.now
