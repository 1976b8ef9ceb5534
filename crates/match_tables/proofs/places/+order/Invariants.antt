use Rattle.std.proofs.Common.{length}
use Rattle.match_tables.proofs.places.+order.Given as goal

abbrev pub decreases-order : goal.decreases-order
decreases-order l = length l.masks.now
