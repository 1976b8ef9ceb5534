use Rattle.std.proofs.Common.{◌≡◌, ◌++◌, map, take}
use Rattle.rp_base.specs.declared.node.Node.{Node}
use Rattle.proto_model.specs.World.{numbers_from}
use Rattle.world_state.specs.Announcing.{config_to, replica_runs}
use Rattle.world_state.proofs.announcements.push_to_replicas.Given as goal

abbrev pub invariant-loop-n : goal.invariant-loop-n
invariant-loop-n l = l.msgs ≡ l.fn.msgs ++ map (λ n. config_to l.fn.config (Node.Replica n)) (numbers_from replica_runs 0 (take l.n l.replicas))
