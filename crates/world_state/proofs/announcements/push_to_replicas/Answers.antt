use Rattle.std.proofs.Common.{◌∙◌, ap}
use Rattle.rp_base.specs.declared.node.Node.{Node}
use Rattle.world_state.specs.declared.nodes.ReplicaNode.{ReplicaNode}
use Rattle.world_state.specs.Announcing.{config_to, replica_runs}
use Rattle.world_state.proofs.Announced.{told_none, told_one}
use Rattle.world_state.proofs.announcements.push_to_replicas.Goals as goal
use Rattle.world_state.proofs.announcements.push_to_replicas.Goals.{then-replicas-n+in_ok-push_config, else-replicas-n}

pub loop-n-preserved : goal.loop-n-preserved
loop-n-preserved c = elim c.if-replicas-n.branch [
  | then-replicas-n+in_ok-push_config w ↦ w.msgs-is ∙ w.in_ok-push_config.ensures
      ∙ told_one replica_runs (λ n. config_to c.args.config.now (Node.Replica n)) c.args.replicas.now c.loop-n.n c.index-replicas-n.result c.args.msgs.now c.loop-n.msgs c.loop-n-test.true c.index-replicas-n.is (ap (λ (x : ReplicaNode). x.runs) c.index-replicas-n.is ∙ w.if-replicas-n.true) c.loop-n.invariant
  | else-replicas-n w ↦ w.msgs-is
      ∙ told_none replica_runs (λ n. config_to c.args.config.now (Node.Replica n)) c.args.replicas.now c.loop-n.n c.index-replicas-n.result c.args.msgs.now c.loop-n.msgs c.loop-n-test.true c.index-replicas-n.is (ap (λ (x : ReplicaNode). x.runs) c.index-replicas-n.is ∙ w.if-replicas-n.false) c.loop-n.invariant
]
