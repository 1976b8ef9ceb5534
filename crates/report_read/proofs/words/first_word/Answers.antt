use Rattle.std.proofs.Common.{arith, sym}
use Rattle.std.proofs.lemmas.Grind.{common_steps}
use Rattle.report_read.proofs.Cuts.{IsCut-from, Lacks-from, words-cut, words-last}
use Rattle.report_read.proofs.words.first_word.Goals as goal

pub returns-in_default : goal.returns-in_default
returns-in_default c = words-last c.args.line.now (Lacks-from 32 c.args.line.now (sym c.in_default.ensures))

pub returns : goal.returns
returns c = grind (arith, common_steps, words-cut c.args.line.now c.in-Some.i (IsCut-from 32 _ _ (sym c.in-Some.ensures)))
