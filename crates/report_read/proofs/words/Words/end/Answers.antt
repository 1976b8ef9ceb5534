use Rattle.report_read.proofs.Cuts.{words-some}
use Rattle.report_read.proofs.words.Words.end.Goals as goal

pub returns-in-Some : goal.returns-in-Some
returns-in-Some c = rw (← c.self.view_is, c.in-Some.is) (words-some c.in-Some._words.now)
