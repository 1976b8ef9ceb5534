-- What the cells of a run rest on in strict mode, and what is kept of them.
use Rattle.std.proofs.Common.{◌≡◌, ℕ, ◌≤◌, ◌<◌, List, [], ◌∷◌, Option, Some, None, arith, refl, sym, ◌∙◌, ap, true, false, Bool, slice_get, fold}
use Rattle.std.specs.Prelude.{option_map, nat_le, if◌then◌else◌}
use Rattle.std.proofs.lemmas.Bool.{leb-false}
use Rattle.rp_base.specs.declared.node.Node.{Node}
use Rattle.proto_data.specs.declared.message.Msg.{Msg}
use Rattle.proto_data.specs.declared.message.Body.{Body}
use Rattle.proto_data.specs.declared.message.Entry.{Entry}
use Rattle.proto_data.specs.declared.message.Carried.{Carried}
use Rattle.proto_data.specs.declared.terms.Mode.{Mode}
use Rattle.rp_app.specs.Application.{Application, Delta}
use Rattle.key_table.specs.Table.{Key}
use Rattle.proto_model.specs.Feeds.{Each}
use Rattle.proto_model.specs.Records.{Booked}
use Rattle.proto_model.specs.Stands.{entries_of}
use Rattle.proto_model.specs.Committed.{number_in, greater, closing_of}
use Rattle.proto_model.specs.Slot.{Slot, Lease, Idle, Asking, Held, Lapsed, epoch_of, is_young, lapsed_lease, lapsed_slot}
use Rattle.proto_model.specs.SwitchState.{slot_at, lapsed, Switch}
use Rattle.proto_model.specs.World.{World, SwitchNode}
use Rattle.rp_base.specs.declared.legality.Fed.{Fed}
use Rattle.proto_safety.specs.Books.{In, BooksHold, committed_of}
use Rattle.proto_safety.specs.CellLaws.{copies_of}
use Rattle.proto_safety.specs.Flows.{FlowRecord, FitsFrom, AckedIn, flow_of}
use Rattle.proto_safety.specs.Origins.{Origin}
use Rattle.proto_safety.proofs.Packets.FedMarks.{FedOnce}
use Rattle.proto_safety.proofs.Messages.FramesCarry.{FramesCarry}
use Rattle.proto_safety.proofs.Store.EpochNumbers.{Reaches, closing_reaches}
use Rattle.proto_safety.proofs.Serial.FlowCells.{ItemsKnown, CellsOf}
use Rattle.proto_safety.proofs.Serial.FlowSerial.{PutIs}
use Rattle.proto_safety.proofs.Leasing.NoSnaps.{NoSnap}
use Rattle.proto_safety.proofs.Serial.SerialLists.{closing_in, closes, journal_in, front_in}
use Rattle.proto_safety.proofs.Serial.SwitchCells.{SwitchStands}
use Rattle.proto_safety.proofs.Nodes.SwitchNodes.{AllAt}
use Rattle.proto_safety.proofs.Nodes.SwitchTable.{msg}
use Rattle.key_table.proofs.Tables.{get-map_values}
use Rattle.proto_safety.proofs.Nodes.WorldSays.{AllSay}
use Rattle.proto_safety.proofs.Inductions.Induction.{Comes}

-- the flow is granted up to this epoch, or further
pub record GrantedTo (n : ℕ) (es : List Entry) (key : Key) (e : ℕ) : Type 0 where
  pub flow : FlowRecord
  pub flow_is : flow_of n key es ≡ Some flow
  pub reached : e ≤ flow.epoch

-- a switch owns the epoch
pub record OwnGrant (es : List Entry) (key : Key) (e n inc : ℕ) : Type 0 where
  pub nonce : ℕ
  pub there : In es (Entry.Grant key e n inc nonce)

-- a Put of this flow and epoch, as it was sent
pub record SentPut (frames : List Msg) (key : Key) (e k : ℕ) (delta : Delta) : Type 0 where
  pub msg : Msg
  pub there : In frames msg
  pub inc : ℕ
  pub load : Option Carried
  pub body_is : msg.body ≡ Body.Put inc e k key delta load

-- a Grant that is taken in time: the committed flow is as it says, and nothing was done in its epoch
pub record GrantSaid (app : Application) (w : World) (n inc : ℕ) (key : Key) (epoch : ℕ) (cells : List ℕ) : Type 0 where
  pub flow : FlowRecord
  pub flow_is : flow_of app.cell_count key (committed_of w.replicas) ≡ Some flow
  pub epoch_is : flow.epoch ≡ epoch
  pub last_is : flow.last ≡ 0
  pub cells_are : flow.cells ≡ cells
  pub no_items : journal_in key w.history.items epoch ≡ []
  pub no_puts : (k : ℕ) (delta : Delta) → SentPut w.frames key epoch k delta → ⊥
  pub owner : OwnGrant (committed_of w.replicas) key epoch n inc

pub record CellFacts (app : Application) (w : World) : Type 0 where
  pub books : BooksHold w
  pub fits : (key : Key) → FitsFrom app.cell_count key None (committed_of w.replicas)
  pub known : (key : Key) → ItemsKnown app.cell_count (committed_of w.replicas) w.history.items key
  pub puts_granted : (e k : ℕ) (key : Key) (delta : Delta) → SentPut w.frames key e k delta → GrantedTo app.cell_count (committed_of w.replicas) key e
  pub puts_reached :
      (n e k : ℕ) (key : Key) (node : SwitchNode) (slot : Slot) (delta : Delta) → slice_get w.switches n ≡ Some node → slot_at node.state key ≡ Some slot → epoch_of slot.lease ≡ Some e →
      SentPut w.frames key e k delta → k ≤ slot.last
  pub slots_granted :
      (n e : ℕ) (key : Key) (node : SwitchNode) (slot : Slot) → slice_get w.switches n ≡ Some node → slot_at node.state key ≡ Some slot → epoch_of slot.lease ≡ Some e →
      GrantedTo app.cell_count (committed_of w.replicas) key e × OwnGrant (committed_of w.replicas) key e n node.state.inc
  pub says : AllSay w
  pub strict : AllAt (λ n (node : SwitchNode). node.state.terms.mode ≡ Mode.Strict) w.switches
  -- no later epoch than a live slot's is committed
  pub live :
      (n nonce e expiry : ℕ) (key : Key) (node : SwitchNode) (slot : Slot) (f : FlowRecord) → slice_get w.switches n ≡ Some node → node.runs ≡ true → slot_at node.state key ≡ Some slot →
      slot.lease ≡ Held nonce e expiry → node.clock < expiry → flow_of app.cell_count key (committed_of w.replicas) ≡ Some f → f.epoch ≤ e
  pub grants :
      (n nonce first epoch : ℕ) (from to : Node) (key : Key) (cells : List ℕ) (load : Option Carried) (node : SwitchNode) (slot : Slot) → slice_get w.switches n ≡ Some node → node.runs ≡ true →
      slot_at node.state key ≡ Some slot → slot.lease ≡ Asking nonce first → is_young node.state.terms.t_switch first node.clock ≡ true →
      Comes w (Node.Switch n) (msg from to (Body.Grant node.state.inc nonce epoch key cells load)) → GrantSaid app w n node.state.inc key epoch cells
  pub acked :
      (n e : ℕ) (key : Key) (node : SwitchNode) (slot : Slot) → slice_get w.switches n ≡ Some node → slot_at node.state key ≡ Some slot → epoch_of slot.lease ≡ Some e → copies_of node key ≡ [] →
      AckedIn (committed_of w.replicas) e slot.last key
  pub carried : FramesCarry app w
  pub once : FedOnce w
  pub entries : (x : Entry) → In (committed_of w.replicas) x → Origin w.frames x
  pub snapless : Each (λ (m : Msg). NoSnap m.body) w.frames

-- what is kept
pub record CellsHold (app : Application) (feeds : List Fed) (w : World) : Type 0 where
  pub flows : (key : Key) → CellsOf app feeds (committed_of w.replicas) w.history.items key
  pub slots : AllAt (λ n (node : SwitchNode). SwitchStands app feeds (committed_of w.replicas) w.history.items node.state) w.switches
  pub puts : (e k : ℕ) (key : Key) (delta : Delta) → SentPut w.frames key e k delta → PutIs app feeds (front_in key (committed_of w.replicas) w.history.items e) (journal_in key w.history.items e) k delta

-- ---- the closing of entries

closing_from : (key : Key) (e : ℕ) (c : Option ℕ) (book : List Booked) → fold (λ o (b : Booked). greater o (number_in key e b.entry)) c book ≡ fold (λ o x. greater o (number_in key e x)) c (entries_of book)
closing_from key e c [] = refl
closing_from key e c (b ∷ bs) = closing_from key e (greater c (number_in key e b.entry)) bs

pub closing_entries : (key : Key) (e : ℕ) (book : List Booked) → closing_of key e book ≡ closing_in key e (entries_of book)
closing_entries key e book = closing_from key e None book

-- each number of the flow's epoch is at most its last
pub number_low : (n : ℕ) (key : Key) (book : List Booked) (f : FlowRecord) (x : Entry) (m : ℕ) → FitsFrom n key None (entries_of book) → flow_of n key (entries_of book) ≡ Some f → In (entries_of book) x → number_in key f.epoch x ≡ Some m → m ≤ f.last
number_low n key book f x m fits flow i is =
    let r : Reaches (closing_of key f.epoch book) m = closing_reaches key f.epoch m book x i is in
    let l : closing_of key f.epoch book ≡ Some f.last = closing_entries key f.epoch book ∙ (closes n key (entries_of book) fits).last f flow in
    let same : r.0 ≡ f.last = cc (sym r.1.0 ∙ l) in omega (arith, r.1.1)

-- ---- a slot before its ended lease lapsed

pub record WasSlot (s : Switch) (now : ℕ) (key : Key) (slot : Slot) : Type 0 where
  pub old : Slot
  pub found : slot_at s key ≡ Some old
  pub is : lapsed_slot now old ≡ slot

pub was_slot : (s : Switch) (now : ℕ) (key : Key) (slot : Slot) → slot_at (lapsed now s) key ≡ Some slot → WasSlot s now key slot
was_slot s now key slot at = slot_case (slot_at s key) refl
  where
    slot_case : (o : Option Slot) → slot_at s key ≡ o → WasSlot s now key slot
    slot_case None is = let no : None ≡ Some slot = ap (λ o. option_map (lapsed_slot now) o) (sym is) ∙ (sym (get-map_values (lapsed_slot now) s.slots key) ∙ at) in cc
    slot_case (Some old) is = let same : Some (lapsed_slot now old) ≡ Some slot = ap (λ o. option_map (lapsed_slot now) o) (sym is) ∙ (sym (get-map_values (lapsed_slot now) s.slots key) ∙ at) in record { old = old; found = is; is = cc }

-- a lease that is Held after the lapse is live, and was Held
pub was_held : (now : ℕ) (l : Lease) (nonce e expiry : ℕ) → lapsed_lease now l ≡ Held nonce e expiry → (l ≡ Held nonce e expiry) × (now < expiry)
was_held now Idle nonce e expiry is = cc
was_held now (Asking k first) nonce e expiry is = cc
was_held now (Held k d x) nonce e expiry is = held_case (nat_le x now) refl is
  where
    held_case : (b : Bool) → nat_le x now ≡ b → (if b then Lapsed k d x else Held k d x) ≡ Held nonce e expiry → (Held k d x ≡ Held nonce e expiry) × (now < expiry)
    held_case true le is = cc
    held_case false gt is = let same : x ≡ expiry = cc in (is, omega (arith, leb-false x now gt))
was_held now (Lapsed k d x) nonce e expiry is = cc
