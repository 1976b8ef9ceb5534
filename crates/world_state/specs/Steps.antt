-- What an act makes of a world as it is kept.
use Rattle.std.specs.Prelude.{ℕ, ◌+◌, ◌≡◌, ◌≤◌, ◌<◌, ◌^◌, List, [], ◌∷◌, ◌++◌, Option, Some, None, All, length, set, take, drop, slice_get}
use Rattle.std.specs.List.{AllByRecursion}
use Rattle.rp_base.specs.declared.line.Line.{Line as Shown}
use Rattle.rp_base.specs.declared.node.Node.{Node}
use Rattle.rp_base.specs.declared.node.Packet.{Packet}
use Rattle.rp_app.specs.Application.{Application}
use Rattle.proto_data.specs.declared.message.Msg.{Msg}
use Rattle.proto_data.specs.declared.message.Input.{Input}
use Rattle.proto_model.specs.Lines.{Refused, send_lines}
use Rattle.proto_model.specs.WorldStep.{Act, Refuses, Feeds, Delivers, Passes, Advances, Alarms, Stops, Boots, Detects, Announces, Pumps, announcements, changed_at, runs_now}
use Rattle.reroute.specs.Routes.{detection}
use Rattle.run_history.specs.Shown.{shown}
use Rattle.world_state.specs.declared.nodes.SwitchNode.{SwitchNode as SwitchSeat}
use Rattle.world_state.specs.declared.nodes.ReplicaNode.{ReplicaNode as ReplicaSeat}
use Rattle.world_state.specs.declared.state.WorldState.{WorldState}
use Rattle.world_state.specs.Nodes.{begun_switch, switch_stops, replica_stops, switches_later, replicas_later}
use Rattle.world_state.specs.Turns.{switch_turned, replica_turned, told_switch, told_replica, CanTakeSwitch, CanTakeReplica}
use Rattle.world_state.specs.WorldStates.{world_of}

-- the world after an act, with the lines that the act writes
abbrev pub Step : Type 0
Step = WorldState × List Shown

-- no lines are written
abbrev pub quiet : WorldState → Step
quiet s = (s, [])

-- ---- a node takes an input

-- the switch of this number takes an input, and what it did is written down; where there is none, nothing happens
abbrev pub switch_goes : Application → WorldState → ℕ → Input → Option SwitchSeat → Step
switch_goes app s n input None = (s, [])
switch_goes app s n input (Some node) =
    let turned = switch_turned app node input in
    let told = told_switch s.event s.frames s.history turned.1 in
    (record s { switches = set s.switches n turned.0; frames = told.0; history = told.1 }, told.2)

-- the replica of this number takes an input, and what it did is written down; where there is none, nothing happens
abbrev pub replica_goes : WorldState → ℕ → Input → Option ReplicaSeat → Step
replica_goes s n input None = (s, [])
replica_goes s n input (Some node) =
    let turned = replica_turned node s.event input in
    let told = told_replica s.event s.frames turned.1 in
    (record s { replicas = set s.replicas n turned.0; frames = told.0 }, told.1)

-- a node takes an input; the master takes none
abbrev pub node_goes : Application → WorldState → Node → Input → Step
node_goes app s (Node.Switch n) input = switch_goes app s n input (slice_get s.switches n)
node_goes app s (Node.Replica n) input = replica_goes s n input (slice_get s.replicas n)
node_goes app s Node.Master input = (s, [])

-- ---- what changes without a node's step

-- a packet was fed in the present event
abbrev pub fed : WorldState → Packet → WorldState
fed s p = record s { history = record s.history { fed = s.history.fed ++ record { event = s.event; packet = p } ∷ [] } }

-- the frame of this number is passed over from now on
abbrev pub passes : WorldState → ℕ → WorldState
passes s i = record s { passed = i ∷ s.passed }

-- the clocks go on, switches first
abbrev pub later : WorldState → List ℕ → WorldState
later s by =
    record s {
      switches = switches_later s.switches (take (length s.switches) by);
      replicas = replicas_later s.replicas (drop (length s.switches) by);
    }

-- a node fails; the master never does
abbrev pub stops : WorldState → Node → WorldState
stops s (Node.Switch n) = record s { switches = changed_at s.switches n switch_stops }
stops s (Node.Replica n) = record s { replicas = changed_at s.replicas n replica_stops }
stops s Node.Master = s

-- the switch begins empty, with the next incarnation
abbrev pub begins_again : WorldState → SwitchSeat → SwitchSeat
begins_again s node = begun_switch node.clock node.state.state.me (node.state.state.inc + 1) s.cells s.terms s.router.config

-- the switch in this place begins again, if there is one
abbrev pub boots_at : WorldState → ℕ → Option SwitchSeat → WorldState
boots_at s n None = s
boots_at s n (Some node) = record s { switches = set s.switches n (begins_again s node) }

-- the switch of this number begins again, if there is one
abbrev pub boots : WorldState → ℕ → WorldState
boots s n = boots_at s n (slice_get s.switches n)

-- routing, or the configuration, learns whether a node runs
abbrev pub detects : WorldState → Node → WorldState
detects s node = record s { router = (detection s.router node (runs_now (world_of s) node)).0 }

-- messages are sent in the present event: their frames come last
abbrev pub sends : WorldState → List Msg → Step
sends s ms = (record s { frames = s.frames ++ ms }, shown (send_lines s.event (length s.frames) ms))

-- ---- an act

-- the world after an act of the present event
abbrev pub goes : Application → WorldState → Act → Step
goes app s (Refuses cause) = (s, shown (Refused s.event cause ∷ []))
goes app s (Feeds n p) = node_goes app (fed s p) (Node.Switch n) (Input.Packet p)
goes app s (Delivers i m) = node_goes app (passes s i) m.to (Input.Msg m)
goes app s (Passes i) = (passes s i, [])
goes app s (Advances by) = (later s by, [])
goes app s (Alarms node) = node_goes app s node Input.Alarm
goes app s (Stops node) = (stops s node, [])
goes app s (Boots n) = (boots s n, [])
goes app s (Detects node) = (detects s node, [])
goes app s Announces = sends s (announcements (world_of s))
goes app s Pumps = (s, [])

-- ---- what acts need

-- the nodes can take an input, and a switch can begin again
pub record IsAble (app : Application) (s : WorldState) : Type 0 where
  pub term : s.terms.t_switch ≤ 1000000
  pub cells : s.cells ≤ 256
  pub routed : length s.router.believed ≡ length s.switches
  pub some : length s.switches ≤ 8
  pub few : length s.replicas ≤ 5
  pub switches : AllByRecursion (CanTakeSwitch app) s.switches
  pub replicas : AllByRecursion CanTakeReplica s.replicas

-- clocks go on by one advance of at most 1,000,000,000 for each node
abbrev pub CanDo : WorldState → Act → Type 0
CanDo s (Advances by) = (length by ≡ length s.switches + length s.replicas) × All (λ x. x ≤ 1000000000) by
CanDo s _ = Unit {0}
