use Rattle.loss_laws.proofs.LinesBounded.{linked_reports_lose}
use Rattle.loss_laws.proofs.linked.linked_reports_lose_boundedly.Goals as goal

pub returns : goal.returns
returns c = linked_reports_lose
