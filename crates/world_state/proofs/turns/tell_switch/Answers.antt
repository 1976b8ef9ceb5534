use Rattle.std.proofs.Common.{◌≡◌, List, subst}
use Rattle.rp_base.specs.declared.line.Line.{Line as Shown}
use Rattle.proto_data.specs.declared.message.Msg.{Msg}
use Rattle.proto_model.specs.SwitchState.{SwitchDid}
use Rattle.proto_model.specs.World.{History}
use Rattle.world_state.specs.Turns.{told_switch}
use Rattle.world_state.proofs.Told.{told_is}
use Rattle.world_state.proofs.turns.tell_switch.Goals as goal

pub returns : goal.returns
returns c =
    let did : SwitchDid =
    record {
      sent = c.did.inside.sent;
      released = c.did.inside.released;
      item = c.did.inside.item;
      dropped = c.did.inside.dropped;
      begun = c.did.inside.begun.items;
      lost = c.did.inside.lost;
    }
    in
    let goal_of : SwitchDid → Type 0 = λ d. ◌≡◌ {A = List Msg × History × List Shown} (c.send.new.frames, c.push_released.new.self, c.send.new.lines) (told_switch c.args.event c.args.frames.now c.args.history.now d) in
    subst goal_of c.did.view_is
    (told_is c.args.event c.args.frames.now c.args.history.now did c.deref.result.now c.as_slice.result.now c.as_slice-2.result.now c.push_rounds.new.self c.push_item.new.self c.push_released.new.self
    c.send.new.frames c.in_ok-lines.lines c.send.new.lines c.deref.ensures.value c.as_slice.ensures c.as_slice-2.ensures
    c.in_ok-push_rounds.ensures c.in_ok-push_item.ensures c.in_ok-push_released.ensures c.in_ok-send.ensures.frames c.in_ok-lines.ensures c.in_ok-send.ensures.lines)
