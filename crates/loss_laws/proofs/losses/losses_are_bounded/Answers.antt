use Rattle.loss_laws.proofs.LossKept.{losses_bounded}
use Rattle.loss_laws.proofs.losses.losses_are_bounded.Goals as goal

pub returns : goal.returns
returns c = losses_bounded
