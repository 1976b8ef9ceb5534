use Rattle.loss_laws.proofs.OwnRules.{world_same}
use Rattle.loss_laws.proofs.losses.own_rules_are_the_model.Goals as goal

pub returns : goal.returns
returns c = world_same
