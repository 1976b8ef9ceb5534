use Rattle.std.proofs.Common.{◌∙◌, slice_get, sym}
use Rattle.world_state.proofs.Sendables.{replica_sendable}
use Rattle.world_state.proofs.state.WorldState.replica_takes.Goals as goal

pub tell_replica-requires : goal.tell_replica-requires
tell_replica-requires g c =
    let s = c.args.self.now in
    record {
      sent = replica_sendable s c.args.n c.args.input.now (slice_get s.replicas c.args.n) c.take.new.self c.in-Some.said
          ((λ i. (c.take.new.self, sym c.in-Some.is i)) ∙ c.in_ok-said.ensures) c.requires.sent;
    }
