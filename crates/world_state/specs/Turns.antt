-- A node's turn as it is kept, and what is written down of it.
use Rattle.std.specs.Prelude.{ℕ, ◌≡◌, ◌≤◌, ◌<◌, ◌^◌, List, ◌++◌, Option, Some, None, length, set}
use Rattle.rp_base.specs.declared.line.Line.{Line as Shown}
use Rattle.rp_app.specs.Application.{Application}
use Rattle.proto_data.specs.declared.message.Msg.{Msg}
use Rattle.proto_data.specs.declared.message.Input.{Input}
use Rattle.proto_model.specs.Effects.{added, history_after, switch_lines}
use Rattle.proto_model.specs.Lines.{LostLine, send_lines}
use Rattle.proto_model.specs.ReplicaState.{StoreDid}
use Rattle.proto_model.specs.SwitchState.{SwitchDid}
use Rattle.proto_model.specs.World.{History}
use Rattle.switch_core.specs.States.{turn}
use Rattle.store_replica.specs.Stores.{stepped, booked}
use Rattle.run_history.specs.Shown.{shown}
use Rattle.world_state.specs.declared.nodes.SwitchNode.{SwitchNode as SwitchSeat}
use Rattle.world_state.specs.declared.nodes.ReplicaNode.{ReplicaNode as ReplicaSeat}
use Rattle.world_state.specs.declared.turns.Said.{Said}

-- a switch of this application, whose clock, number of turns and incarnation are within its limits
pub record CanTakeSwitch (app : Application) (s : SwitchSeat) : Type 0 where
  pub cells : app.cell_count ≡ s.state.cells
  pub turns : s.state.turns < 4000000000
  pub later : s.state.latest ≤ s.clock
  pub clock : s.clock ≤ 2 ^ 62
  pub inc : s.state.state.inc ≤ 2 ^ 62

-- a replica whose number of turns is within its limit
pub record CanTakeReplica (r : ReplicaSeat) : Type 0 where
  pub turns : r.state.turns < 4000000000
  pub clock : r.clock ≤ 2 ^ 62

-- ---- turns

-- a switch takes an input at its own clock
abbrev pub switch_turned : Application → SwitchSeat → Input → SwitchSeat × SwitchDid
switch_turned app s input = (record s { state = (turn app s.state s.clock input).0 }, (turn app s.state s.clock input).1)

-- the switch of this number takes an input, if it is there
abbrev pub switches_turned : Application → List SwitchSeat → ℕ → Input → Option SwitchSeat → List SwitchSeat × Option SwitchDid
switches_turned app ss n input None = (ss, None)
switches_turned app ss n input (Some s) = (set ss n (switch_turned app s input).0, Some (switch_turned app s input).1)

-- what is told of a replica's step
abbrev pub said_by : StoreDid → Said
said_by did = record { sent = did.sent; lost = did.lost }

-- a replica takes an input at its own clock, and books what it applied in the event of this number
abbrev pub replica_turned : ReplicaSeat → ℕ → Input → ReplicaSeat × Said
replica_turned r event input = (
  record r {
    state = (stepped r.state r.clock input).0;
    book = booked r.book r.clock event (stepped r.state r.clock input).1;
  },
  said_by (stepped r.state r.clock input).1,
)

-- the replica of this number takes an input, if it is there
abbrev pub replicas_turned : List ReplicaSeat → ℕ → ℕ → Input → Option ReplicaSeat → List ReplicaSeat × Option Said
replicas_turned rs n event input None = (rs, None)
replicas_turned rs n event input (Some r) = (set rs n (replica_turned r event input).0, Some (replica_turned r event input).1)

-- ---- what is written down

-- the frames and the history behind what a switch did in this event, and its lines
abbrev pub told_switch : ℕ → List Msg → History → SwitchDid → List Msg × History × List Shown
told_switch event frames history did = (frames ++ did.sent, history_after event history did, shown (switch_lines event (length frames) did))

-- the frames behind what a replica did in this event, and its lines
abbrev pub told_replica : ℕ → List Msg → Said → List Msg × List Shown
told_replica event frames said = (
  frames ++ said.sent,
  shown (added (LostLine event) said.lost ++ send_lines event (length frames) said.sent),
)
