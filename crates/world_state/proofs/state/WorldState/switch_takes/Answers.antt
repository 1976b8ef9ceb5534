use Rattle.std.proofs.Common.{◌∙◌, slice_get, sym}
use Rattle.world_state.proofs.Sendables.{switch_sendable}
use Rattle.world_state.proofs.state.WorldState.switch_takes.Goals as goal

pub tell_switch-requires : goal.tell_switch-requires
tell_switch-requires g c =
    let s = c.args.self.now in
    record {
      sent = switch_sendable (g.A.App.meaning c.args.app.now) s c.args.n c.args.input.now (slice_get s.switches c.args.n) c.take.new.self c.in-Some.did
          ((λ i. (c.take.new.self, sym c.in-Some.is i)) ∙ c.in_ok-did.ensures) c.requires.sent;
    }
