use Rattle.proto_safety.proofs.Legality.ReportLegal as legal
use Rattle.proto_safety.proofs.reports.releases_are_told.Goals as goal

pub returns : goal.returns
returns c = record { lines = legal.run_release_lines; run = legal.run_releases; report = legal.report_releases }
