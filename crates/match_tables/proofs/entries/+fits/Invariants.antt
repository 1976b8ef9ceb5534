use Rattle.std.proofs.Common.{length}
use Rattle.match_tables.proofs.entries.+fits.Given as goal

abbrev pub decreases-fits : goal.decreases-fits
decreases-fits l = length l.row.now
