use Rattle.proto_safety.proofs.Legality.ReportLegal as legal
use Rattle.proto_safety.proofs.reports.flows_are_told.Goals as goal

pub returns : goal.returns
returns c = record { ends = legal.end_flows; report = legal.report_flows }
