use Rattle.std.proofs.Common.{◌≡◌, ◌∙◌, ◌+◌, ℕ, ap, arith, length, take, true, false, Bool}
use Rattle.std.specs.Prelude.{if◌then◌else◌}
use Rattle.proto_model.specs.World.{ReplicaNode, numbers_from}
use Rattle.proto_safety.proofs.Basics.Lists.{length_map, length_take_le, numbers_few}
use Rattle.world_state.specs.Nodes.{replica_node, replica_nodes}
use Rattle.world_state.proofs.WorldTests.{replica_counted, counted_if}
use Rattle.world_state.proofs.state.count_running.Goals as goal
use Rattle.world_state.proofs.state.count_running.Goals.{then-node, else-node}

pub overflow_add-count : goal.overflow_add-count
overflow_add-count c =
    let few = numbers_few (λ (n : ReplicaNode). n.runs) 0 (replica_nodes (take c.loop-node.node-index c.args.nodes.now)) in
    let long = length_map replica_node (take c.loop-node.node-index c.args.nodes.now) in
    omega (arith, c.loop-node.invariant, few, long, length_take_le c.loop-node.node-index c.args.nodes.now, c.loop-node-test.true, c.requires)

pub loop-node-preserved : goal.loop-node-preserved
loop-node-preserved c = elim c.if-node.branch [
  | then-node w ↦ w.count-is ∙ ap (λ (n : ℕ). n + 1) c.loop-node.invariant ∙ counted_if c.args.nodes.now c.loop-node.node-index c.node-item.result c.loop-node-test.true c.node-item.is true w.if-node.true
  | else-node w ↦ w.count-is ∙ c.loop-node.invariant ∙ counted_if c.args.nodes.now c.loop-node.node-index c.node-item.result c.loop-node-test.true c.node-item.is false w.if-node.false
]
