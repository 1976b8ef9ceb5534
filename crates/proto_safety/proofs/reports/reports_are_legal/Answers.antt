use Rattle.proto_safety.proofs.Legality.ReportLegal as legal
use Rattle.proto_safety.proofs.reports.reports_are_legal.Goals as goal

pub returns : goal.returns
returns c = legal.reports_are_legal
