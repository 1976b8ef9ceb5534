use Rattle.proto_safety.proofs.Messages.FramesGrow.{hand_grows}
use Rattle.proto_safety.proofs.sizes.hand_overs_send_few.Goals as goal

pub returns : goal.returns
returns c = hand_grows
