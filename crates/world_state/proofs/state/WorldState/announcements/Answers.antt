use Rattle.std.proofs.Common.{◌∙◌, ◌++◌, map}
use Rattle.rp_base.specs.declared.node.Node.{Node}
use Rattle.proto_model.specs.World.{numbers_from}
use Rattle.world_state.specs.Announcing.{config_to, replica_runs, switch_runs}
use Rattle.world_state.proofs.Announced.{announced}
use Rattle.world_state.proofs.state.WorldState.announcements.Goals as goal

pub returns : goal.returns
returns c =
    announced c.args.self.now c.push_to_switches.new.msgs c.push_to_replicas.new.msgs c.requires.routed
    (c.in_ok-push_to_switches.ensures ∙ (λ i. c.new-msgs.ensures i ++ map (λ n. config_to (c.config.ensures i) (Node.Switch n)) (numbers_from switch_runs 0 (c.as_slice.ensures i))))
    (c.in_ok-push_to_replicas.ensures ∙ (λ i. c.push_to_switches.new.msgs ++ map (λ n. config_to (c.config-2.ensures i) (Node.Replica n)) (numbers_from replica_runs 0 (c.as_slice-2.ensures i))))
