-- How large what the nodes of a run keep and send is. Numbers go by the events so far: each event raises each of them by one at most.
use Rattle.std.specs.Prelude.{ℕ, ◌+◌, ◌≡◌, ◌≤◌, ◌<◌, Bool, true, false, List, [], Option, Some, None, length, slice_get}
use Rattle.proto_data.specs.declared.message.Msg.{Msg}
use Rattle.proto_data.specs.declared.message.Body.{Body}
use Rattle.proto_data.specs.declared.message.Entry.{Entry}
use Rattle.proto_data.specs.declared.message.Echoed.{Echoed}
use Rattle.proto_data.specs.declared.message.Record.{Record}
use Rattle.proto_data.specs.declared.message.Carried.{Carried}
use Rattle.proto_data.specs.declared.message.Config.{Config}
use Rattle.proto_data.specs.declared.terms.Mode.{Mode}
use Rattle.proto_data.specs.declared.terms.Terms.{Terms}
use Rattle.proto_data.specs.MessageFits.{nodes_fit}
use Rattle.rp_base.specs.declared.event.Event.{Event}
use Rattle.rp_app.specs.Application.{Application, Delta, IsDelta}
use Rattle.proto_model.specs.Feeds.{Each}
use Rattle.key_table.specs.Table.{Key}
use Rattle.proto_model.specs.Slot.{Slot, Lease, Round, Idle, Asking, Held, Lapsed, chunk_count}
use Rattle.proto_model.specs.SwitchState.{Switch, Copy}
use Rattle.proto_model.specs.ReplicaState.{Replica, Gathered, is_tail, part_cells}
use Rattle.proto_model.specs.World.{World, SwitchNode, ReplicaNode}
use Rattle.proto_safety.specs.Books.{In, Rising}

-- ---- what a run is given

-- a packet that is fed has a port of two bytes and at most 1,500 bytes
abbrev pub EventSized : Event → Type 0
EventSized (Event.Feed port bytes) = (port < 65536) × (length bytes ≤ 1500)
EventSized (Event.FeedAt n port bytes) = (port < 65536) × (length bytes ≤ 1500)
EventSized _ = Unit {0}

-- ---- parts of messages; n is the greatest number, d how many cells a delta has at most

-- a key has 1 to 16 bytes
abbrev pub KeySized : Key → Type 0
KeySized key = (1 ≤ length key) × (length key ≤ 16)

-- what rides along has such a mark, a port of two bytes and at most 1,500 bytes
abbrev pub LoadSized : ℕ → Option Carried → Type 0
LoadSized n None = Unit {0}
LoadSized n (Some c) = (c.mark ≤ n) × (c.port < 65536) × (length c.bytes ≤ 1500)

-- the mark that a Busy brings back
abbrev pub MarkSized : ℕ → Option ℕ → Type 0
MarkSized n None = Unit {0}
MarkSized n (Some mark) = mark ≤ n

-- a delta names cells by rising number, and at most so many
abbrev pub DeltaSized : ℕ → Delta → Type 0
DeltaSized d delta = IsDelta delta × (length delta ≤ d)

-- how many cells a delta that is sent has at most: in snapshot mode no delta is sent but the empty one
abbrev pub delta_room : Mode → ℕ → ℕ
delta_room Mode.Strict cells = cells
delta_room (Mode.Snapshot bound) cells = 0

-- an entry of the book
abbrev pub EntrySized : ℕ → ℕ → Entry → Type 0
EntrySized n d (Entry.Grant key epoch switch inc nonce) = KeySized key × (epoch ≤ n) × (switch < 8) × (inc ≤ n) × (nonce ≤ n)
EntrySized n d (Entry.Put key epoch number delta) = KeySized key × (epoch ≤ n) × (number ≤ n) × DeltaSized d delta
EntrySized n d (Entry.Snap key epoch round cells) = KeySized key × (epoch ≤ n) × (round ≤ n) × (length cells ≤ 256)

-- what an Echo stands for
abbrev pub EchoedSized : ℕ → Echoed → Type 0
EchoedSized n (Echoed.Ask switch inc nonce key) = (switch < 8) × (inc ≤ n) × (nonce ≤ n) × KeySized key
EchoedSized n (Echoed.Put switch epoch number key) = (switch < 8) × (epoch ≤ n) × (number ≤ n) × KeySized key

-- one to five replicas by rising number
pub record ConfigSized (n : ℕ) (c : Config) : Type 0 where
  pub number : c.number ≤ n
  pub some : 1 ≤ length c.chain
  pub few : length c.chain ≤ 5
  pub rises : Rising c.chain
  pub replicas : Each (λ r. r < 5) c.chain

-- what a message says, by its kind
abbrev pub BodySized : ℕ → ℕ → Body → Type 0
BodySized n d (Body.Ask inc nonce key load) = (inc ≤ n) × (nonce ≤ n) × KeySized key × LoadSized n load
BodySized n d (Body.Grant inc nonce epoch key cells load) =
    (inc ≤ n) × (nonce ≤ n) × (epoch ≤ n) × KeySized key × (length cells ≤ 256) × LoadSized n load
BodySized n d (Body.Busy inc nonce key mark) = (inc ≤ n) × (nonce ≤ n) × KeySized key × MarkSized n mark
BodySized n d (Body.Put inc epoch number key delta load) =
    (inc ≤ n) × (epoch ≤ n) × (number ≤ n) × KeySized key × DeltaSized d delta × LoadSized n load
BodySized n d (Body.Ack inc epoch upto key load) = (inc ≤ n) × (epoch ≤ n) × (upto ≤ n) × KeySized key × LoadSized n load
BodySized n d (Body.Deny inc epoch key) = (inc ≤ n) × (epoch ≤ n) × KeySized key
BodySized n d (Body.Forward config index entry load) = (config ≤ n) × (index ≤ n) × EntrySized n d entry × LoadSized n load
BodySized n d (Body.Have index) = index ≤ n
BodySized n d (Body.Echo of load) = EchoedSized n of × LoadSized n load
BodySized n d (Body.Config config) = ConfigSized n config
BodySized n d (Body.Snap inc epoch round key chunk chunks cells) =
    (inc ≤ n) × (epoch ≤ n) × (round ≤ n) × KeySized key × (chunk < chunks) × (chunks ≤ 8) × (length cells ≤ 32)

-- it goes between nodes of the right sorts, and its parts are of these sizes
abbrev pub MsgSized : ℕ → ℕ → Msg → Type 0
MsgSized n d m = (nodes_fit m.from m.to m.body ≡ true) × BodySized n d m.body

-- ---- what a switch keeps, where a flow has so many cells

-- a lease was granted, and may have lapsed since
abbrev pub is_leased : Lease → Bool
is_leased Idle = false
is_leased (Asking nonce first) = false
is_leased (Held nonce epoch expiry) = true
is_leased (Lapsed nonce epoch expiry) = true

-- a leased slot has all its cells
pub record SlotCells (cells : ℕ) (slot : Slot) : Type 0 where
  pub cells_are : is_leased slot.lease ≡ true → length slot.cells ≡ cells

-- the number that a lease goes by: the nonce of what is asked, or the epoch of what was granted
abbrev pub LeaseSized : ℕ → Lease → Type 0
LeaseSized n Idle = Unit {0}
LeaseSized n (Asking nonce first) = nonce ≤ n
LeaseSized n (Held nonce epoch expiry) = epoch ≤ n
LeaseSized n (Lapsed nonce epoch expiry) = epoch ≤ n

-- a running round, whose next chunk is one of its chunks
abbrev pub RoundSized : ℕ → Option Round → Type 0
RoundSized n None = Unit {0}
RoundSized n (Some r) = (r.number ≤ n) × (length r.cells ≤ 256) × (r.chunk < chunk_count (length r.cells))

-- a slot of this flow
pub record SlotSized (n cells : ℕ) (key : Key) (slot : Slot) : Type 0 where
  pub key_fits : KeySized key
  pub lease : LeaseSized n slot.lease
  pub whole : SlotCells cells slot
  pub last : slot.last ≤ n
  pub round : RoundSized n slot.round

-- a copy that waits for its Ack
pub record CopySized (n d : ℕ) (c : Copy) : Type 0 where
  pub key : KeySized c.key
  pub number : c.number ≤ n
  pub delta : DeltaSized d c.delta

-- a switch with these terms; its nonces, incarnation and the numbers of its slots and copies are at most n
pub record SwitchSized (n cells : ℕ) (terms : Terms) (s : Switch) : Type 0 where
  pub me : s.me < 8
  pub terms_are : s.terms ≡ terms
  pub inc : s.inc ≤ n
  pub nonces : s.nonces ≤ n
  pub config : ConfigSized n s.config
  pub slots : Each (λ (e : Key × Slot). SlotSized n cells e.0 e.1) s.slots
  pub copies : Each (CopySized n (delta_room terms.mode cells)) s.copies

-- ---- what a replica keeps

-- the record of this flow
pub record RecordSized (n : ℕ) (key : Key) (r : Record) : Type 0 where
  pub key_fits : KeySized key
  pub epoch : r.epoch ≤ n
  pub switch : r.switch < 8
  pub inc : r.inc ≤ n
  pub nonce : r.nonce ≤ n
  pub last : r.last ≤ n
  pub cells : length r.cells ≤ 256

-- at most 8 chunks of at most 32 cells
abbrev pub GatheredSized : Gathered → Type 0
GatheredSized g = (length g.parts ≤ 8) × Each (λ (p : Option (List ℕ)). length (part_cells p) ≤ 32) g.parts

-- a replica; what it applied, knows and records is at most n
pub record ReplicaSized (n d cells : ℕ) (r : Replica) : Type 0 where
  pub me : r.me < 5
  pub cells_are : r.cell_count ≡ cells
  pub config : ConfigSized n r.config
  pub applied : r.applied ≤ n
  -- pending are entries behind the known commit; a tail has none
  pub pending_behind : r.known + length r.pending ≤ r.applied
  pub none_at_tail : is_tail r ≡ true → r.pending ≡ []
  pub pending : Each (EntrySized n d) r.pending
  pub records : Each (λ (e : Key × Record). RecordSized n e.0 e.1) r.records
  pub gathered : Each (λ (e : Key × Gathered). GatheredSized e.1) r.gathered

-- ---- the world

-- replica a runs
abbrev pub Running : World → ℕ → Type 0
Running w a = (node : ReplicaNode) × ((slice_get w.replicas a ≡ Some node) × (node.runs ≡ true))

-- No number in this world is above b, nor is that of its next event. A running replica is in the master's configuration, and one runs.
pub record SizedAt (b : ℕ) (app : Application) (w : World) : Type 0 where
  pub event : w.event < b
  pub switches_few : length w.switches ≤ 8
  pub replicas_few : length w.replicas ≤ 5
  pub config : ConfigSized b w.config
  pub runs : (a : ℕ) × Running w a
  pub present : (a : ℕ) → Running w a → In w.config.chain a
  pub switches : Each (λ (node : SwitchNode). SwitchSized b app.cell_count w.terms node.state) w.switches
  pub replicas : Each (λ (node : ReplicaNode). ReplicaSized b (delta_room w.terms.mode app.cell_count) app.cell_count node.state) w.replicas
  pub frames : Each (MsgSized b (delta_room w.terms.mode app.cell_count)) w.frames

-- What every world of a run without a link keeps to: each event raises numbers by one at most.
abbrev pub Sized : Application → World → Type 0
Sized app w = SizedAt (w.event + 1) app w
