use Rattle.std.proofs.Common.{arith, sym}
use Rattle.std.proofs.lemmas.Grind.{common_steps}
use Rattle.report_read.proofs.Cuts.{IsCut-from, Lacks-from, lines-cut, lines-whole}
use Rattle.report_read.proofs.words.first_line.Goals as goal

pub returns-in_default-clause-lines : goal.returns-in_default-clause-lines
returns-in_default-clause-lines c = grind (arith, common_steps, lines-whole c.args.text.now c.requires (Lacks-from 10 c.args.text.now (sym c.in_default.ensures)))

pub returns-clause-lines : goal.returns-clause-lines
returns-clause-lines c = grind (arith, common_steps, lines-cut c.args.text.now c.in-Some.i (IsCut-from 10 _ _ (sym c.in-Some.ensures)))
