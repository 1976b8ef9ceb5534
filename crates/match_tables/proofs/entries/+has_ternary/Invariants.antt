use Rattle.std.proofs.Common.{length}
use Rattle.match_tables.proofs.entries.+has_ternary.Given as goal

abbrev pub decreases-has_ternary : goal.decreases-has_ternary
decreases-has_ternary l = length l.keys.now
