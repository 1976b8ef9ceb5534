-- What the protocol promises of cells, in strict mode.
use Rattle.std.specs.Prelude.{◌⊎◌, ℕ, ◌≡◌, ◌≢◌, ◌≤◌, ◌-◌, ◌==◌, nat_lt, false, List, [], ◌∷◌, ◌++◌, Option, Some, None, slice_get, map, filter, flat_map, filter_map}
use Rattle.rp_base.specs.declared.node.Node.{Node}
use Rattle.proto_data.specs.declared.message.Body.{Body}
use Rattle.proto_data.specs.declared.message.Entry.{Entry}
use Rattle.proto_data.specs.declared.terms.Mode.{Mode}
use Rattle.rp_base.specs.declared.node.Packet.{Packet}
use Rattle.proto_data.specs.declared.message.Carried.{Carried}
use Rattle.rp_app.specs.Application.{Application, Delta, after, zeros}
use Rattle.key_table.specs.Table.{Key, Table}
use Rattle.proto_model.specs.Ring.{Ring}
use Rattle.proto_model.specs.Slot.{Slot, Round, Lease, Idle, Asking, Held, Lapsed, epoch_of}
use Rattle.proto_model.specs.SwitchState.{Copy, is_of, slot_at}
use Rattle.proto_model.specs.Feeds.{Each, Pairwise, packet_at, packets_at, key_at}
use Rattle.proto_model.specs.Stands.{entries_of}
use Rattle.proto_model.specs.Committed.{journal, closed_items, committed_book, epochs_of, serial_marks}
use Rattle.proto_model.specs.World.{World, SwitchNode, ReplicaNode, Journaled}
use Rattle.rp_base.specs.declared.legality.Released.{Released}
use Rattle.rp_base.specs.declared.legality.Fed.{Fed}
use Rattle.proto_model.specs.Legal.{StandsIn}
use Rattle.proto_safety.specs.Books.{In, Runs, committed_of}
use Rattle.proto_safety.specs.LeaseLaws.{SlotAt, HasNonce}
use Rattle.proto_safety.specs.Flows.{AckedIn}
use Rattle.proto_safety.specs.Epochs.{WithinClosing}

-- the committed items of the epochs before this one, by rising epoch
abbrev pub serial_before : World → Key → ℕ → List Journaled
serial_before w key epoch = flat_map (closed_items w key) (filter (λ e. nat_lt e epoch) (epochs_of key (committed_book w)))

abbrev pub packets_of : World → List Journaled → List Packet
packets_of w js = packets_at w.history.fed (map (λ (j : Journaled). j.item.mark) js)

-- the cells after the committed items of earlier epochs and these items of the epoch
abbrev pub cells_after : Application → World → Key → ℕ → List Journaled → List ℕ
cells_after app w key epoch js = after app (zeros app.cell_count) (packets_of w (serial_before w key epoch ++ js))

-- an item stands behind these in its journal
pub record ItemAt (w : World) (key : Key) (epoch : ℕ) (front : List Journaled) (item : Journaled) : Type 0 where
  pub behind : List Journaled
  pub journal_is : journal w key epoch ≡ front ++ item ∷ behind

-- what the application makes of the packet of an item, in the cells before it
pub record MadeAs (app : Application) (w : World) (key : Key) (epoch : ℕ) (front : List Journaled) (item : Journaled) : Type 0 where
  pub packet : Packet
  pub fed : packet_at w.history.fed item.item.mark ≡ Some packet
  pub output_is : item.output ≡ (app.plain (cells_after app w key epoch front) packet).1

abbrev pub items_of : World → Key → ℕ → ℕ → List Journaled
items_of w key epoch number = filter (λ (j : Journaled). j.item.number == number) (journal w key epoch)

-- The delta of a Put is that of the first item with its number, and the further ones are clean; without an item it is empty.
pub data IsDelta (app : Application) (w : World) (key : Key) (epoch number : ℕ) (delta : Delta) : Type 0 where
  no_item : items_of w key epoch number ≡ [] → delta ≡ [] → IsDelta app w key epoch number delta
  of_items :
      (front : List Journaled) (first : Journaled) (more : List Journaled) (packet : Packet) → ItemAt w key epoch front first → items_of w key epoch number ≡ first ∷ more →
      packet_at w.history.fed first.item.mark ≡ Some packet → (app.plain (cells_after app w key epoch front) packet).0 ≡ delta → Each (λ (j : Journaled). j.item.dirty ≡ false) more →
      IsDelta app w key epoch number delta

-- ---- marks

abbrev pub ring_marks : Ring → List ℕ
ring_marks ring = filter_map (λ (m : Option ℕ). m) ring

abbrev pub slot_marks : Slot → List ℕ
slot_marks slot = ring_marks slot.asked ++ ring_marks slot.held

abbrev pub table_marks : Table Slot → List ℕ
table_marks slots = flat_map (λ (e : Key × Slot). slot_marks e.1) slots

abbrev pub all_ring_marks : World → List ℕ
all_ring_marks w = flat_map (λ (n : SwitchNode). table_marks n.state.slots) w.switches

abbrev pub asked_marks : World → List ℕ
asked_marks w = flat_map (λ (n : SwitchNode). flat_map (λ (e : Key × Slot). ring_marks e.1.asked) n.state.slots) w.switches

abbrev pub journal_marks : World → List ℕ
journal_marks w = map (λ (j : Journaled). j.item.mark) w.history.items

abbrev pub released_marks : World → List ℕ
released_marks w = map (λ (r : Released). r.output.mark) w.history.released

pub record MarksStand (w : World) : Type 0 where
  pub once_in_journals : Pairwise (λ a b. a ≢ b) (journal_marks w)
  pub once_in_rings : Pairwise (λ a b. a ≢ b) (all_ring_marks w)
  pub asked_in_none : (m : ℕ) → In (asked_marks w) m → In (journal_marks w) m → ⊥
  pub not_released : (m : ℕ) → In (all_ring_marks w) m → In (released_marks w) m → ⊥
  pub were_fed : (m : ℕ) → In (all_ring_marks w) m ⊎ (In (journal_marks w) m ⊎ In (released_marks w) m) → (f : Fed) × (In w.history.fed f × (f.packet.mark ≡ m))

-- ---- cells

abbrev pub copies_of : SwitchNode → Key → List Copy
copies_of node key = filter (is_of key) node.state.copies

-- without copies, or in a leased slot with them, none above the slot's last and one with it
abbrev pub CopiesHaveLastAt : Option Slot → List Copy → Type 0
CopiesHaveLastAt None cs = cs ≡ []
CopiesHaveLastAt (Some slot) cs = (cs ≡ []) ⊎ (((c : Copy) → In cs c → c.number ≤ slot.last) × ((epoch_of slot.lease ≢ None) × ((c : Copy) × (In cs c × (c.number ≡ slot.last)))))

abbrev pub CopiesHaveLast : SwitchNode → Key → Type 0
CopiesHaveLast node key = CopiesHaveLastAt (slot_at node.state key) (copies_of node key)

-- a number of this epoch that is at least the slot's last is committed
abbrev pub Reached : List Entry → Key → ℕ → ℕ → Type 0
Reached es key epoch last = AckedIn es epoch last key

-- a leased slot's Grant is committed, and without copies so is its last number
abbrev pub Rests : List Entry → ℕ → ℕ → Key → Lease → ℕ → List Copy → Type 0
Rests es n inc key Idle last cs = Unit {0}
Rests es n inc key (Asking nonce first) last cs = Unit {0}
Rests es n inc key (Held nonce epoch expiry) last cs = In es (Entry.Grant key epoch n inc nonce) × (cs ≡ [] → Reached es key epoch last)
Rests es n inc key (Lapsed nonce epoch expiry) last cs = In es (Entry.Grant key epoch n inc nonce) × (cs ≡ [] → Reached es key epoch last)

abbrev pub SlotRests : List Entry → ℕ → ℕ → Key → Option Slot → List Copy → Type 0
SlotRests es n inc key None cs = Unit {0}
SlotRests es n inc key (Some slot) cs = Rests es n inc key slot.lease slot.last cs

-- in snapshot mode a leased slot's Grant is committed; a running round has the slot's last number, the one before
-- is committed, and without a running round the last is; other slots have no round
abbrev pub RoundRests : List Entry → ℕ → ℕ → Key → Lease → ℕ → Option Round → Type 0
RoundRests es n inc key Idle last round = round ≡ None
RoundRests es n inc key (Asking nonce first) last round = round ≡ None
RoundRests es n inc key (Held nonce epoch expiry) last None = In es (Entry.Grant key epoch n inc nonce) × AckedIn es epoch last key
RoundRests es n inc key (Held nonce epoch expiry) last (Some r) = In es (Entry.Grant key epoch n inc nonce) × (r.number ≡ last) × AckedIn es epoch (last - 1) key
RoundRests es n inc key (Lapsed nonce epoch expiry) last None = In es (Entry.Grant key epoch n inc nonce) × AckedIn es epoch last key
RoundRests es n inc key (Lapsed nonce epoch expiry) last (Some r) = In es (Entry.Grant key epoch n inc nonce) × (r.number ≡ last) × AckedIn es epoch (last - 1) key

abbrev pub SlotRounds : List Entry → ℕ → ℕ → Key → Option Slot → Type 0
SlotRounds es n inc key None = Unit {0}
SlotRounds es n inc key (Some slot) = RoundRests es n inc key slot.lease slot.last slot.round

-- what a leased slot of this epoch rests on
pub record LeaseBasis (w : World) (n : ℕ) (key : Key) (epoch : ℕ) (node : SwitchNode) (slot : Slot) : Type 0 where
  -- its Grant is committed
  pub nonce : ℕ
  pub nonce_is : HasNonce slot.lease nonce
  pub granted : In (committed_of w.replicas) (Entry.Grant key epoch n node.state.inc nonce)
  -- in strict mode its last number is committed where it has no copies
  pub no_copies : node.state.terms.mode ≡ Mode.Strict → copies_of node key ≡ [] → WithinClosing w key epoch slot.last
  -- in snapshot mode it is committed where no round runs, and a running round has that number
  pub no_round : (bound : ℕ) → node.state.terms.mode ≡ Mode.Snapshot bound → slot.round ≡ None → WithinClosing w key epoch slot.last
  pub round : (bound : ℕ) (r : Round) → node.state.terms.mode ≡ Mode.Snapshot bound → slot.round ≡ Some r → r.number ≡ slot.last

-- a slot that is Held or Lapsed in this epoch
pub record LeasedAt (w : World) (n : ℕ) (key : Key) (epoch : ℕ) (node : SwitchNode) (slot : Slot) : Type 0 where
  pub slot_is : SlotAt w n key node slot
  pub leased : epoch_of slot.lease ≡ Some epoch

pub record CellsStand (app : Application) (w : World) : Type 0 where
  -- journals
  pub granted : (j : Journaled) → In w.history.items j → (switch : ℕ) × ((inc : ℕ) × ((nonce : ℕ) × In (committed_of w.replicas) (Entry.Grant j.item.key j.item.epoch switch inc nonce)))
  pub rise : (key : Key) (epoch : ℕ) → Pairwise (λ (a b : Journaled). a.item.number ≤ b.item.number) (journal w key epoch)
  pub within_last : (n epoch : ℕ) (key : Key) (node : SwitchNode) (slot : Slot) → LeasedAt w n key epoch node slot → Each (λ (j : Journaled). j.item.number ≤ slot.last) (journal w key epoch)
  -- cells and outputs
  pub cells_are : (n epoch : ℕ) (key : Key) (node : SwitchNode) (slot : Slot) → LeasedAt w n key epoch node slot → slot.cells ≡ cells_after app w key epoch (journal w key epoch)
  pub outputs_are : (epoch : ℕ) (key : Key) (front : List Journaled) (item : Journaled) → ItemAt w key epoch front item → MadeAs app w key epoch front item
  -- Puts
  pub frames_are :
      (i inc epoch number : ℕ) (from to : Node) (key : Key) (delta : Delta) (load : Option Carried) →
      slice_get w.frames i ≡ Some (record { from = from; to = to; body = Body.Put inc epoch number key delta load }) → IsDelta app w key epoch number delta
  pub copies_are : (n epoch : ℕ) (key : Key) (node : SwitchNode) (slot : Slot) (c : Copy) → LeasedAt w n key epoch node slot → In (copies_of node key) c → IsDelta app w key epoch c.number c.delta
  pub entries_are : (r epoch number : ℕ) (node : ReplicaNode) (key : Key) (delta : Delta) → slice_get w.replicas r ≡ Some node → In (entries_of node.book) (Entry.Put key epoch number delta) → IsDelta app w key epoch number delta
  -- an Asking slot whose Grant stands in a running book has done nothing in its epoch
  pub untouched :
      (n r epoch nonce first : ℕ) (key : Key) (node : SwitchNode) (slot : Slot) (replica : ReplicaNode) → SlotAt w n key node slot → slot.lease ≡ Asking nonce first → Runs w r replica →
      In (entries_of replica.book) (Entry.Grant key epoch n node.state.inc nonce) → journal w key epoch ≡ []
  pub unsent :
      (n r epoch nonce first i inc number : ℕ) (key : Key) (node : SwitchNode) (slot : Slot) (replica : ReplicaNode) (from to : Node) (delta : Delta) (load : Option Carried) → SlotAt w n key node slot →
      slot.lease ≡ Asking nonce first → Runs w r replica → In (entries_of replica.book) (Entry.Grant key epoch n node.state.inc nonce) →
      slice_get w.frames i ≡ Some (record { from = from; to = to; body = Body.Put inc epoch number key delta load }) → ⊥
  -- copies
  pub last_copied :
      (n epoch : ℕ) (key : Key) (node : SwitchNode) (slot : Slot) (c : Copy) → LeasedAt w n key epoch node slot → In (copies_of node key) c →
      (d : Copy) × (In (copies_of node key) d × (d.number ≡ slot.last))
  pub none_copied : (n epoch : ℕ) (key : Key) (node : SwitchNode) (slot : Slot) → LeasedAt w n key epoch node slot → copies_of node key ≡ [] → WithinClosing w key epoch slot.last
  -- released marks
  pub released_in : (r : Released) (key : Key) → In w.history.released r → key_at app w.history.fed r.output.mark ≡ Some key → StandsIn (serial_marks w key) r.output.mark

-- the items up to a released mark never change
abbrev pub SerialStays : Application → World → World → Type 0
SerialStays app old new =
    (key : Key) (front behind : List ℕ) (r : Released) → In old.history.released r → key_at app old.history.fed r.output.mark ≡ Some key → serial_marks old key ≡ front ++ r.output.mark ∷ behind →
    (more : List ℕ) × (serial_marks new key ≡ front ++ r.output.mark ∷ more)
