use Rattle.std.proofs.Common.{length}
use Rattle.match_tables.proofs.places.+push_spelled.Given as goal

abbrev pub decreases-push_spelled : goal.decreases-push_spelled
decreases-push_spelled l = length l.row.now
