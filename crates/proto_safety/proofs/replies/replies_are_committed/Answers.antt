use Rattle.proto_safety.proofs.Messages.WorldReplies.{frames_reply}
use Rattle.proto_safety.proofs.replies.replies_are_committed.Goals as goal

pub returns : goal.returns
returns c = frames_reply
