use Rattle.report_judge.proofs.RunShown.{runs_judged_legal}
use Rattle.report_judge.proofs.laws.reports_of_runs_are_judged_legal.Goals as goal

pub returns : goal.returns
returns c = λ kind spelled app is setup strict terms events. runs_judged_legal kind spelled app setup strict events is terms
