use Rattle.std.proofs.Common.{length}
use Rattle.tree_tables.proofs.winner.+won.Given as goal

abbrev pub decreases-won : goal.decreases-won
decreases-won l = length l.es.now
