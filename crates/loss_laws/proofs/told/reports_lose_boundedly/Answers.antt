use Rattle.loss_laws.proofs.LinesBounded.{reports_lose}
use Rattle.loss_laws.proofs.told.reports_lose_boundedly.Goals as goal

pub returns : goal.returns
returns c = reports_lose
