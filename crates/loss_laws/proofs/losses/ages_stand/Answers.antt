use Rattle.loss_laws.proofs.RecentRun.{ages_are}
use Rattle.loss_laws.proofs.losses.ages_stand.Goals as goal

pub returns : goal.returns
returns c = ages_are
