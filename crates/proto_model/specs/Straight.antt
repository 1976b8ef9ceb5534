-- Straight paths of strict runs: requests that go through the chain with nothing in their way, and what comes of them.
use Rattle.std.specs.Prelude.{ℕ, ◌+◌, ◌≡◌, ◌≢◌, ◌≤◌, ◌<◌, ◌==◌, ◌&&◌, ◌||◌, ◌⊎◌, Bool, true, false, List, [], ◌∷◌, Option, Some, None, nat_lt, length, drop, filter, slice_get, option_map, option_and_then}
use Rattle.std.specs.List.{IsAmong}
use Rattle.proto_data.specs.declared.message.Msg.{Msg}
use Rattle.proto_data.specs.declared.message.Body.{Body}
use Rattle.rp_base.specs.declared.node.Node.{Node}
use Rattle.proto_data.specs.declared.terms.Mode.{Mode}
use Rattle.proto_data.specs.declared.message.Entry.{Entry}
use Rattle.proto_data.specs.declared.message.Input.{Input}
use Rattle.rp_base.specs.declared.node.Packet.{Packet}
use Rattle.rp_base.specs.declared.node.Output.{Output}
use Rattle.proto_data.specs.declared.message.Carried.{Carried}
use Rattle.proto_data.specs.declared.message.Record.{Record}
use Rattle.rp_base.specs.declared.event.DropCause.{DropCause}
use Rattle.rp_app.specs.Application.{Delta}
use Rattle.proto_data.specs.Carrying.{carried_packet, carried_output}
use Rattle.key_table.specs.Table.{Key, same_key}
use Rattle.proto_model.specs.Ring.{remembers}
use Rattle.proto_model.specs.Slot.{Lease, Slot, Asking, is_young}
use Rattle.proto_model.specs.SwitchState.{slot_at}
use Rattle.proto_model.specs.SwitchRow.{has_epoch}
use Rattle.proto_model.specs.ReplicaState.{is_tail, record_at}
use Rattle.proto_model.specs.ReplicaRows.{StoreRow, Appends, store_row}
use Rattle.proto_model.specs.World.{World, SwitchNode, ReplicaNode, Journaled}
use Rattle.rp_base.specs.declared.legality.Released.{Released}
use Rattle.proto_model.specs.Lines.{Dropped}
use Rattle.proto_model.specs.Feeds.{Each}
use Rattle.proto_model.specs.WorldStep.{Act, Delivers, Stops, Boots, Detects}
use Rattle.proto_model.specs.Runs.{Run, before, act_at, lines_at, between}
use Rattle.proto_data.specs.declared.limits.TheConstants.{COPIES, MARKS, PENDING}

-- ---- frames that are handed on

-- what a message carries
abbrev pub load_of : Body → Option Carried
load_of (Body.Ask inc nonce key load) = load
load_of (Body.Grant inc nonce epoch key cells load) = load
load_of (Body.Put inc epoch number key delta load) = load
load_of (Body.Ack inc epoch upto key load) = load
load_of (Body.Forward config index entry load) = load
load_of (Body.Echo of load) = load
load_of _ = None

-- at this place this frame is delivered
pub record Hop : Type 0 where
  pub place : ℕ
  pub frame : ℕ
  pub msg : Msg

-- the frame was sent at an earlier place, with this carried part
pub record SentAt (r : Run) (c : Carried) (place : ℕ) (h : Hop) : Type 0 where
  pub later : place < h.place
  pub not_before : length (before r place).frames ≤ h.frame
  pub sent : h.frame < length (before r (place + 1)).frames
  pub carries : load_of h.msg.body ≡ Some c
  pub delivered : act_at r h.place ≡ Some (Delivers h.frame h.msg)

-- each hop delivers a frame that the event of the hop before it sent
abbrev pub Hops : Run → Carried → ℕ → List Hop → Hop → Type 0
Hops r c place [] last = SentAt r c place last
Hops r c place (h ∷ hs) last = SentAt r c place h × Hops r c h.place hs last

-- ---- nothing in the way

-- each member of the master's configuration runs and has it, and the switch has it too
pub record Ready (w : World) (s : ℕ) : Type 0 where
  pub members :
      Each (λ n. (node : ReplicaNode) × (slice_get w.replicas n ≡ Some node) × (node.runs ≡ true) × (node.state.config ≡ w.config))
      w.config.chain
  pub switch : (node : SwitchNode) × (slice_get w.switches s ≡ Some node) × (node.state.config ≡ w.config)

-- no `fail`, `boot` or `detect` takes place
abbrev pub is_calm : Option Act → Bool
is_calm (Some (Stops node)) = false
is_calm (Some (Boots switch)) = false
is_calm (Some (Detects node)) = false
is_calm _ = true

abbrev pub replica_at : World → Node → Option ReplicaNode
replica_at w (Node.Replica n) = slice_get w.replicas n
replica_at w _ = None

-- the replica that a hop reaches, before its event
abbrev pub reached : Run → Hop → Option ReplicaNode
reached r h = replica_at (before r h.place) h.msg.to

-- the tail, or fewer than 256 pending entries
abbrev pub has_room : Option ReplicaNode → Bool
has_room None = false
has_room (Some node) = is_tail node.state || nat_lt (length node.state.pending) PENDING

-- the replica has applied exactly the entries before the Forward's index
abbrev pub comes_next : Option ReplicaNode → Body → Bool
comes_next (Some node) (Body.Forward config index entry load) = index == node.state.applied + 1
comes_next _ _ = false

-- a request of switch s goes to the head and on to the tail, whose answer comes back
pub record Goes (r : Run) (c : Carried) (place s : ℕ) (first : Hop) (forwards : List Hop) (last : Hop) : Type 0 where
  pub strict : r.setup.terms.mode ≡ Mode.Strict
  pub asked_by : first.msg.from ≡ Node.Switch s
  pub answered_to : last.msg.to ≡ Node.Switch s
  pub hops : Hops r c place (first ∷ forwards) last
  pub ready : Ready (before r place) s
  pub calm : Each (λ i. is_calm (act_at r i) ≡ true) (between place last.place)
  pub in_order : Each (λ h. comes_next (reached r h) h.msg.body ≡ true) forwards
  pub room : Each (λ h. has_room (reached r h) ≡ true) (first ∷ forwards)

-- ---- a Put

abbrev pub slot_of : World → ℕ → Key → Option Slot
slot_of w s key = option_and_then (λ (node : SwitchNode). slot_at node.state key) (slice_get w.switches s)

-- whether the slot is Held or Lapsed in this epoch
abbrev pub owns : ℕ → Option Slot → Bool
owns epoch None = false
owns epoch (Some slot) = has_epoch slot.lease epoch

-- whether the record has this epoch, and this number comes next
abbrev pub put_next : ℕ → ℕ → Option Record → Bool
put_next epoch number None = false
put_next epoch number (Some rec) = (rec.epoch == epoch) && (number == rec.last + 1)

abbrev pub record_of : Option ReplicaNode → Key → Option Record
record_of node key = option_and_then (λ (n : ReplicaNode). record_at n.state key) node

-- a Put of this flow with an output, whose mark then entered the slot's `held` ring
abbrev pub enters_held : Key → Node → Body → Bool
enters_held key (Node.Switch n) (Body.Put inc epoch number k delta (Some c)) = same_key k key
enters_held key _ _ = false

abbrev pub from_switch : ℕ → Node → Bool
from_switch s (Node.Switch n) = n == s
from_switch s _ = false

abbrev pub later_marks : World → ℕ → Key → ℕ → ℕ
later_marks w s key frame =
    length (filter (λ (m : Msg). from_switch s m.from && enters_held key m.from m.body) (drop (frame + 1) w.frames))

-- A Put that carries an output, so a mark that was processed by Process case 3 at this place, on a straight path.
pub record StraightPut (r : Run) (place s : ℕ) (key : Key) (inc epoch number : ℕ) (delta : Delta) (out : Output) (first : Hop) (forwards : List Hop) (last : Hop) : Type 0 where
  pub goes : Goes r (carried_output out) place s first forwards last
  pub put : first.msg.body ≡ Body.Put inc epoch number key delta (Some (carried_output out))
  pub head : put_next epoch number (record_of (reached r first) key) ≡ true
  pub owned : Each (λ i. owns epoch (slot_of (before r i) s key) ≡ true) (between place (last.place + 1))
  pub few : later_marks (before r last.place) s key first.frame < MARKS
  pub waits : Each (λ (x : Released). x.output.mark ≢ out.mark) (before r last.place).history.released

-- its output is released at the last event
abbrev pub PutReleased : Run → Output → Hop → Type 0
PutReleased r out last =
    IsAmong (before r (last.place + 1)).history.released (record { event = last.place + 1; output = out })

-- ---- an Ask

-- the head appends a Grant
abbrev pub row_of : Option ReplicaNode → Msg → Option StoreRow
row_of node m = option_map (λ (n : ReplicaNode). store_row n.state n.clock (Input.Msg m)) node

-- the slot is Asking, young, with this nonce and the mark in `asked`
abbrev pub awaits_lease : ℕ → ℕ → ℕ → Lease → Bool
awaits_lease t_switch now nonce (Asking own first) = (own == nonce) && is_young t_switch first now
awaits_lease t_switch now nonce _ = false

abbrev pub awaits : SwitchNode → ℕ → ℕ → Option Slot → Bool
awaits node nonce mark None = false
awaits node nonce mark (Some slot) =
    awaits_lease node.state.terms.t_switch node.clock nonce slot.lease && remembers slot.asked mark

abbrev pub awaits_at : Option SwitchNode → Key → ℕ → ℕ → Bool
awaits_at None key nonce mark = false
awaits_at (Some node) key nonce mark = awaits node nonce mark (slot_at node.state key)

-- An Ask that carries a packet, on a straight path.
pub record StraightAsk (r : Run) (place s : ℕ) (key : Key) (inc nonce epoch : ℕ) (packet : Packet) (first : Hop) (forwards : List Hop) (last : Hop) : Type 0 where
  pub goes : Goes r (carried_packet packet) place s first forwards last
  pub ask : first.msg.body ≡ Body.Ask inc nonce key (Some (carried_packet packet))
  pub grants :
      row_of (reached r first) first.msg
      ≡ Some (Appends (Entry.Grant key epoch s inc nonce) (Some (carried_packet packet)))
  pub meets : awaits_at (slice_get (before r last.place).switches s) key nonce packet.mark ≡ true

-- the packet is processed at the Grant's event
abbrev pub Processed : Run → Key → ℕ → Packet → Hop → Type 0
Processed r key epoch packet last =
    (j : Journaled) × IsAmong (before r (last.place + 1)).history.items j × (j.event ≡ last.place + 1)
    × (j.item.key ≡ key) × (j.item.epoch ≡ epoch) × (j.item.mark ≡ packet.mark)

-- or it is dropped there, with 1,024 copies
abbrev pub NoMirror : Run → ℕ → Packet → Hop → Type 0
NoMirror r s packet last =
    ((node : SwitchNode) × (slice_get (before r last.place).switches s ≡ Some node) × (length node.state.copies ≡ COPIES))
    × IsAmong (lines_at r last.place) (Dropped (last.place + 1) packet.mark DropCause.Mirror)

abbrev pub AskAnswered : Run → ℕ → Key → ℕ → Packet → Hop → Type 0
AskAnswered r s key epoch packet last = Processed r key epoch packet last ⊎ NoMirror r s packet last

-- ---- what straight paths come to

abbrev pub PutsRelease : Run → Type 0
PutsRelease r =
    (place s : ℕ) (key : Key) (inc epoch number : ℕ) (delta : Delta) (out : Output) (first : Hop) (forwards : List Hop) (last : Hop) →
    StraightPut r place s key inc epoch number delta out first forwards last → PutReleased r out last

abbrev pub AsksAnswered : Run → Type 0
AsksAnswered r =
    (place s : ℕ) (key : Key) (inc nonce epoch : ℕ) (packet : Packet) (first : Hop) (forwards : List Hop) (last : Hop) →
    StraightAsk r place s key inc nonce epoch packet first forwards last → AskAnswered r s key epoch packet last
