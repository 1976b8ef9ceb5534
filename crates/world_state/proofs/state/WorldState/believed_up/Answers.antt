use Rattle.std.proofs.Common.{◌∙◌}
use Rattle.world_state.proofs.WorldTests.{believed_is}
use Rattle.world_state.proofs.state.WorldState.believed_up.Goals as goal

pub returns : goal.returns
returns c = c.is_up.ensures ∙ believed_is c.args.self.now c.args.node c.requires.routed
