use Rattle.std.proofs.Common.{◌∙◌, sym, subst}
use Rattle.std.specs.List.{AllByRecursion}
use Rattle.proto_model.specs.WorldStep.{announcements}
use Rattle.sent_frames.specs.Frames.{IsSendable}
use Rattle.world_state.specs.WorldStates.{world_of}
use Rattle.world_state.proofs.Sendables.{sendable_behind}
use Rattle.world_state.proofs.state.WorldState.announce.Goals as goal

pub send-requires : goal.send-requires
send-requires g c =
    subst (AllByRecursion IsSendable) (sym (c.as_slice.ensures ∙ c.in_ok-msgs.ensures))
    (sendable_behind c.args.self.now.frames (announcements (world_of c.args.self.now)) c.requires.sent)
