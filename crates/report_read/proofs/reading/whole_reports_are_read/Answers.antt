use Rattle.std.proofs.Common.{◌∙◌}
use Rattle.report_read.specs.Whole.{whole_lines}
use Rattle.report_read.proofs.Again.{text-again}
use Rattle.report_read.proofs.Whole.{whole-said}
use Rattle.report_read.proofs.reading.whole_reports_are_read.Goals as goal

pub returns : goal.returns
returns c = λ events ls fs are lines have fits. text-again events (whole_lines ls fs) are fits ∙ whole-said events ls fs lines have
