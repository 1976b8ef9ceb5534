use Rattle.std.proofs.Common.{◌∙◌, ap}
use Rattle.rp_base.specs.declared.node.Node.{Node}
use Rattle.world_state.specs.declared.nodes.SwitchNode.{SwitchNode}
use Rattle.world_state.specs.Announcing.{config_to, switch_runs}
use Rattle.world_state.proofs.Announced.{told_none, told_one}
use Rattle.world_state.proofs.announcements.push_to_switches.Goals as goal
use Rattle.world_state.proofs.announcements.push_to_switches.Goals.{then-switches-n+in_ok-push_config, else-switches-n}

pub loop-n-preserved : goal.loop-n-preserved
loop-n-preserved c = elim c.if-switches-n.branch [
  | then-switches-n+in_ok-push_config w ↦ w.msgs-is ∙ w.in_ok-push_config.ensures
      ∙ told_one switch_runs (λ n. config_to c.args.config.now (Node.Switch n)) c.args.switches.now c.loop-n.n c.index-switches-n.result c.args.msgs.now c.loop-n.msgs c.loop-n-test.true c.index-switches-n.is (ap (λ (x : SwitchNode). x.runs) c.index-switches-n.is ∙ w.if-switches-n.true) c.loop-n.invariant
  | else-switches-n w ↦ w.msgs-is
      ∙ told_none switch_runs (λ n. config_to c.args.config.now (Node.Switch n)) c.args.switches.now c.loop-n.n c.index-switches-n.result c.args.msgs.now c.loop-n.msgs c.loop-n-test.true c.index-switches-n.is (ap (λ (x : SwitchNode). x.runs) c.index-switches-n.is ∙ w.if-switches-n.false) c.loop-n.invariant
]
