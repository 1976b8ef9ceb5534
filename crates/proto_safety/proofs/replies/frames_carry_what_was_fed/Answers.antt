use Rattle.proto_safety.proofs.Messages.FramesCarry.{frames_carry}
use Rattle.proto_safety.proofs.replies.frames_carry_what_was_fed.Goals as goal

pub returns : goal.returns
returns c = frames_carry
