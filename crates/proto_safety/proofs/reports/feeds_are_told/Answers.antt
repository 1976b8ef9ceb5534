use Rattle.proto_safety.proofs.Legality.ReportLegal as legal
use Rattle.proto_safety.proofs.reports.feeds_are_told.Goals as goal

pub returns : goal.returns
returns c = record { run = legal.run_feeds; report = legal.report_feeds }
