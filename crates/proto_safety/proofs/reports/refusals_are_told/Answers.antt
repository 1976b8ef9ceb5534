use Rattle.proto_safety.proofs.Legality.ReportLegal as legal
use Rattle.proto_safety.proofs.reports.refusals_are_told.Goals as goal

pub returns : goal.returns
returns c = record { told = legal.run_refusals_told; only = legal.run_refusals_only }
