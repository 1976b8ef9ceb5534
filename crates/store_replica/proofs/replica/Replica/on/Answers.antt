use Rattle.std.proofs.Common.{subst, sym}
use Rattle.proto_model.specs.Stands.{Stands}
use Rattle.store_replica.specs.Stores.{Running}
use Rattle.store_replica.proofs.Steps.{counts_on, stands_on}
use Rattle.store_replica.proofs.replica.Replica.on.Goals as goal

pub invariant_of-self-in-Ok : goal.invariant_of-self-in-Ok
invariant_of-self-in-Ok c =
    λ ok. counts_on c.self.inside.state c.on.new.self c.in-Ok.did c.args.now c.self.inside.turns c.args.input.now c.in-Ok.ensures (c.self.invariant ok)

pub returns-in-Ok-clause-stands : goal.returns-in-Ok-clause-stands
returns-in-Ok-clause-stands c =
    λ book event h. stands_on c.self.inside.state c.on.new.self c.in-Ok.did c.args.now c.args.input.now c.in-Ok.ensures book event
    (subst (λ (r : Running). Stands r.replica book) (sym c.self.view_is) h)
