use Rattle.loss_laws.proofs.EpochsTold as told
use Rattle.loss_laws.proofs.told.epochs_are_told.Goals as goal

pub returns : goal.returns
returns c = told.report_told
