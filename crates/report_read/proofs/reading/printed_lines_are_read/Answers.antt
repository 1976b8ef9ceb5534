use Rattle.report_read.proofs.Again.{text-again}
use Rattle.report_read.proofs.reading.printed_lines_are_read.Goals as goal

pub returns : goal.returns
returns c = text-again
