use Rattle.std.proofs.Common.{arith, sym}
use Rattle.std.proofs.lemmas.Grind.{common_steps}
use Rattle.sched_lang.proofs.Cuts.{lines-cut, lines-whole, IsFirst-from, Lacks-from}
use Rattle.sched_lang.proofs.words.first_line.Goals as goal

pub returns-in-Some-clause-lines : goal.returns-in-Some-clause-lines
returns-in-Some-clause-lines c = grind (arith, common_steps, lines-cut c.args.text.now c.in-Some.i (IsFirst-from 10 _ _ (sym c.in-Some.ensures)))

pub returns-in-None-clause-lines : goal.returns-in-None-clause-lines
returns-in-None-clause-lines c = grind (arith, common_steps, lines-whole c.args.text.now c.requires (Lacks-from 10 _ (sym c.in-None.ensures)))
