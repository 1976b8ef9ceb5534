use Rattle.std.proofs.Common.{length}
use Rattle.report_judge.proofs.Keys.{read_apart}
use Rattle.report_judge.proofs.judgement.judge.Goals as goal

pub audited-requires-clause-keys : goal.audited-requires-clause-keys
audited-requires-clause-keys g c = read_apart (length c.args.events.now) c.args.report.now c.in-Ok.report c.in-Ok.ensures
