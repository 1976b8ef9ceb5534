use Rattle.link_trace.proofs.Reported.{all_seen}
use Rattle.link_trace.proofs.lines_are_the_report.Goals as goal

pub returns : goal.returns
returns c = all_seen
