use Rattle.proto_safety.proofs.Messages.EventFrames.{grant_says}
use Rattle.proto_safety.proofs.replies.new_grants_say_the_committed_record.Goals as goal

pub returns : goal.returns
returns c = grant_says
