use Rattle.std.proofs.Common.{arith, sym}
use Rattle.std.proofs.lemmas.Grind.{common_steps}
use Rattle.sched_lang.proofs.Cuts.{words-cut, words-last, IsFirst-from, Lacks-from}
use Rattle.sched_lang.proofs.words.first_word.Goals as goal

pub returns-in-Some : goal.returns-in-Some
returns-in-Some c = grind (arith, common_steps, words-cut c.args.line.now c.in-Some.i (IsFirst-from 32 _ _ (sym c.in-Some.ensures)))

pub returns-in-None : goal.returns-in-None
returns-in-None c = words-last c.args.line.now (Lacks-from 32 _ (sym c.in-None.ensures))
