-- The master's messages to nodes as they are kept.
use Rattle.std.specs.Prelude.{Bool}
use Rattle.rp_base.specs.declared.node.Node.{Node}
use Rattle.proto_data.specs.declared.message.Body.{Body}
use Rattle.proto_data.specs.declared.message.Config.{Config}
use Rattle.proto_data.specs.declared.message.Msg.{Msg}
use Rattle.world_state.specs.declared.nodes.SwitchNode.{SwitchNode as SwitchSeat}
use Rattle.world_state.specs.declared.nodes.ReplicaNode.{ReplicaNode as ReplicaSeat}

-- the master tells a node its configuration
abbrev pub config_to : Config → Node → Msg
config_to config to = record { from = Node.Master; to = to; body = Body.Config config }

-- whether a switch runs
abbrev pub switch_runs : SwitchSeat → Bool
switch_runs s = s.runs

-- whether a replica runs
abbrev pub replica_runs : ReplicaSeat → Bool
replica_runs r = r.runs
