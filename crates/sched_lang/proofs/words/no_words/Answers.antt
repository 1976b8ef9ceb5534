use Rattle.std.proofs.Common.{sym}
use Rattle.sched_lang.proofs.Cuts.{none-some}
use Rattle.sched_lang.proofs.words.no_words.Goals as goal

pub returns-in-Some : goal.returns-in-Some
returns-in-Some c = rw c.in-Some.is (sym (none-some c.in-Some._words.now))
