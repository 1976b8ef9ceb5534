use Rattle.std.proofs.Common.{◌≡◌, true, subst, sym}
use Rattle.proto_model.specs.Records.{entry_fits}
use Rattle.proto_model.specs.ReplicaState.{Replica}
use Rattle.store_replica.proofs.Counts.{counted-entry}
use Rattle.store_replica.proofs.state.ReplicaState.enter.Goals as goal

pub invariant_of-self-2 : goal.invariant_of-self-2
invariant_of-self-2 c =
    let fits : entry_fits c.self.inside.leases.cell_count c.self.inside.leases.records c.args.entry.now ≡ true =
    subst (λ (s : Replica). entry_fits s.cell_count s.records c.args.entry.now ≡ true) (sym c.self.view_is) c.requires.next in
    rw c.in_ok-apply.ensures.ok
    (counted-entry c.self.inside.leases.cell_count c.self.inside.applied c.self.inside.known c.self.inside.leases.records c.args.entry.now c.args.now c.self.invariant.0 fits, c.self.invariant.1, c.self.invariant.2)
