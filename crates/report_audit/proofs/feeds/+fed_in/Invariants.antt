use Rattle.std.proofs.Common.{length}
use Rattle.report_audit.proofs.feeds.+fed_in.Given as goal

abbrev pub decreases-fed_in : goal.decreases-fed_in
decreases-fed_in l = length l.feeds.now
