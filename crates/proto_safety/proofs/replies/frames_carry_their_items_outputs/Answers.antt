use Rattle.proto_safety.proofs.Messages.WorldOutputs.{outputs_ride}
use Rattle.proto_safety.proofs.replies.frames_carry_their_items_outputs.Goals as goal

pub returns : goal.returns
returns c = outputs_ride
