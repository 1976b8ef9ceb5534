use Rattle.report_judge.proofs.Saying.{judged_legal}
use Rattle.report_judge.proofs.laws.legal_lines_are_judged_legal.Goals as goal

pub returns : goal.returns
returns c = λ app events ls fs lines. judged_legal app events ls fs lines
