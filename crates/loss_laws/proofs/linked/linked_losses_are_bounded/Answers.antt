use Rattle.loss_laws.proofs.LossKept.{linked_losses_bounded}
use Rattle.loss_laws.proofs.linked.linked_losses_are_bounded.Goals as goal

pub returns : goal.returns
returns c = linked_losses_bounded
