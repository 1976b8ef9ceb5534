use Rattle.std.proofs.Common.{◌≤◌, ◌∙◌, List, ap, length, subst, sym}
use Rattle.proto_data.specs.declared.limits.TheConstants.{MESSAGES}
use Rattle.proto_data.specs.declared.message.Msg.{Msg}
use Rattle.switch_core.specs.Walks.{Going}
use Rattle.switch_core.proofs.AlarmParts.{asks_more, take_short}
use Rattle.switch_core.proofs.switch.Switch.repeat_asks.Goals as goal

pub ask_at-requires-clause-few : goal.ask_at-requires-clause-few
ask_at-requires-clause-few c = subst (λ (ms : List Msg). length ms ≤ MESSAGES) (sym c.loop-place.invariant.sent) (take_short MESSAGES _)

pub loop-place-preserved : goal.loop-place-preserved
loop-place-preserved c =
    record {
      sent = asks_more c.args.self.now.state c.args.self.now.latest c.loop-place.place c.args.self.now.state.slots c.args.going.now.sent c.loop-place.going.sent c.ask_at.new.going.sent
          c.loop-place.invariant.sent (ap (λ (g : Going). g.sent) c.in_ok-ask_at.ensures);
      begun = ap (λ (g : Going). g.begun) c.in_ok-ask_at.ensures ∙ c.loop-place.invariant.begun;
    }
