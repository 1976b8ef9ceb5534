use Rattle.std.proofs.Common.{◌≡◌, length, take}
use Rattle.proto_model.specs.World.{ReplicaNode, numbers_from}
use Rattle.world_state.specs.Nodes.{replica_nodes}
use Rattle.world_state.proofs.state.count_running.Given as goal

abbrev pub invariant-loop-node : goal.invariant-loop-node
invariant-loop-node l = l.count ≡ length (numbers_from (λ (n : ReplicaNode). n.runs) 0 (replica_nodes (take l.node-index l.nodes)))
