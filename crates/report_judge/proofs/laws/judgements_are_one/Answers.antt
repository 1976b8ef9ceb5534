use Rattle.report_judge.proofs.Saying.{one_judgement, only_legal}
use Rattle.report_judge.proofs.laws.judgements_are_one.Goals as goal

pub returns : goal.returns
returns c = record { one = one_judgement; legal = only_legal }
