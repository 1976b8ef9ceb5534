use Rattle.loss_laws.proofs.EpochsTold.{linked_told}
use Rattle.loss_laws.proofs.linked.linked_epochs_are_told.Goals as goal

pub returns : goal.returns
returns c = linked_told
