use Rattle.proto_safety.proofs.Messages.FramesGrow.{frames_grow}
use Rattle.proto_safety.proofs.first_facts.frames_only_grow.Goals as goal

pub returns : goal.returns
returns c = frames_grow
