-- What the protocol promises of leases. A request is an Ask's nonce, a Put's number or a round; `firsts` are the first sendings of all that were made.
use Rattle.std.specs.Prelude.{◌⊎◌, ℕ, ◌≡◌, ◌≤◌, ◌<◌, ◌+◌, false, List, ◌∷◌, ◌++◌, Option, Some, length, slice_get}
use Rattle.proto_data.specs.declared.message.Entry.{Entry}
use Rattle.key_table.specs.Table.{Key}
use Rattle.proto_model.specs.Slot.{Slot, Lease, Idle, Asking, Held, Lapsed, is_young}
use Rattle.proto_model.specs.SwitchState.{slot_at}
use Rattle.proto_model.specs.Records.{Booked}
use Rattle.proto_model.specs.Stands.{entries_of}
use Rattle.proto_model.specs.Clocks.{clocks, Aged}
use Rattle.proto_model.specs.World.{World, SwitchNode, ReplicaNode}
use Rattle.proto_safety.specs.Books.{In, IsGranted, Runs, committed_of}

-- an Ask of this incarnation and nonce, or a Put or a round of this epoch with this number
pub data Request : Type 0 where
  AskOf : (inc nonce : ℕ) → Request
  NumberOf : (epoch number : ℕ) → Request

-- when a switch's clock read `moment`, it sent this request for the first time
pub record First : Type 0 where
  pub switch : ℕ
  pub key : Key
  pub request : Request
  pub moment : ℕ

-- the entry that a request becomes
abbrev pub IsEntryOf : First → Entry → Type 0
IsEntryOf f (Entry.Grant key epoch switch inc nonce) = (key ≡ f.key) × (switch ≡ f.switch) × (f.request ≡ AskOf inc nonce)
IsEntryOf f (Entry.Put key epoch number delta) = (key ≡ f.key) × (f.request ≡ NumberOf epoch number)
IsEntryOf f (Entry.Snap key epoch round cells) = (key ≡ f.key) × (f.request ≡ NumberOf epoch round)

abbrev pub HasEpoch : Key → ℕ → Entry → Type 0
HasEpoch key epoch (Entry.Grant k e switch inc nonce) = (k ≡ key) × (e ≡ epoch)
HasEpoch key epoch (Entry.Put k e number delta) = (k ≡ key) × (e ≡ epoch)
HasEpoch key epoch (Entry.Snap k e round cells) = (k ≡ key) × (e ≡ epoch)

-- switch n, which may have failed, has this slot of the flow
pub record SlotAt (w : World) (n : ℕ) (key : Key) (node : SwitchNode) (slot : Slot) : Type 0 where
  pub at : slice_get w.switches n ≡ Some node
  pub found : slot_at node.state key ≡ Some slot

-- (a, b) is at most (c, d)
abbrev pub NotLater : ℕ → ℕ → ℕ → ℕ → Type 0
NotLater a b c d = (a < c) ⊎ ((a ≡ c) × (b ≤ d))

abbrev pub IsLater : ℕ → ℕ → ℕ → ℕ → Type 0
IsLater a b c d = (c < a) ⊎ ((a ≡ c) × (d < b))

-- what a lease rests on: its Ask, or a number of its epoch
abbrev pub IsRequestOf : ℕ → ℕ → ℕ → Request → Type 0
IsRequestOf inc nonce epoch (AskOf i k) = (i ≡ inc) × (k ≡ nonce)
IsRequestOf inc nonce epoch (NumberOf e number) = e ≡ epoch

-- a lease that ends at `expiry` was begun or kept by a request whose entry is committed
pub record Grounded (firsts : List First) (w : World) (n inc : ℕ) (key : Key) (nonce epoch expiry : ℕ) : Type 0 where
  pub first : First
  pub was : In firsts first
  pub switch_is : first.switch ≡ n
  pub key_is : first.key ≡ key
  pub request_of : IsRequestOf inc nonce epoch first.request
  pub expiry_is : expiry ≡ first.moment + w.terms.t_switch
  pub entry : Entry
  pub committed : In (committed_of w.replicas) entry
  pub entry_of : IsEntryOf first entry
  pub in_epoch : HasEpoch key epoch entry

abbrev pub LeaseGrounded : List First → World → ℕ → ℕ → Key → Lease → Type 0
LeaseGrounded firsts w n inc key Idle = Unit {0}
LeaseGrounded firsts w n inc key (Asking nonce first) = In firsts (record { switch = n; key = key; request = AskOf inc nonce; moment = first })
LeaseGrounded firsts w n inc key (Held nonce epoch expiry) = Grounded firsts w n inc key nonce epoch expiry
LeaseGrounded firsts w n inc key (Lapsed nonce epoch expiry) = Grounded firsts w n inc key nonce epoch expiry

abbrev pub HasNonce : Lease → ℕ → Type 0
HasNonce Idle k = ⊥
HasNonce (Asking nonce first) k = nonce ≡ k
HasNonce (Held nonce epoch expiry) k = nonce ≡ k
HasNonce (Lapsed nonce epoch expiry) k = nonce ≡ k

-- the nonce of a slot that has one
pub record NonceAt (o : Option Slot) (k : ℕ) : Type 0 where
  pub slot : Slot
  pub found : o ≡ Some slot
  pub nonce : HasNonce slot.lease k

-- the clock of switch n is at least this
abbrev pub ClockPast : World → ℕ → ℕ → Type 0
ClockPast w n moment = (node : SwitchNode) → slice_get w.switches n ≡ Some node → moment ≤ node.clock

-- a Grant of the next epoch, as it stands in a replica's book; the replica may have failed
pub record HandedOver (w : World) (key : Key) (epoch switch inc nonce : ℕ) (before : List Entry) : Type 0 where
  pub replica : ℕ
  pub node : ReplicaNode
  pub at : slice_get w.replicas replica ≡ Some node
  pub behind : List Entry
  pub book_is : entries_of node.book ≡ before ++ Entry.Grant key (epoch + 1) switch inc nonce ∷ behind

pub record Leases (firsts : List First) (w : World) : Type 0 where
  -- a clock at a store went on since it applied an entry at most as far, within the ratio, as the switch's did since it first sent the request
  pub aged :
      (f : First) (r : ℕ) (node : ReplicaNode) (b : Booked) → In firsts f → slice_get w.replicas r ≡ Some node → In node.book b → IsEntryOf f b.entry →
      Aged w.terms.ratio (clocks w) f.switch f.moment (length w.switches + r) b.moment
  -- expiries and first sendings
  pub grounded : (n : ℕ) (key : Key) (node : SwitchNode) (slot : Slot) → SlotAt w n key node slot → LeaseGrounded firsts w n node.state.inc key slot.lease
  -- a slot has the greatest (incarnation, nonce) of its switch's Asks for the flow
  pub greatest :
      (n inc nonce k : ℕ) (key : Key) (node : SwitchNode) (slot : Slot) (f : First) → SlotAt w n key node slot → HasNonce slot.lease k → In firsts f → f.switch ≡ n → f.key ≡ key →
      f.request ≡ AskOf inc nonce → NotLater inc nonce node.state.inc k
  -- a Grant of the next epoch stands behind that of this one; it goes to the same switch, or to any once all that is behind it of this epoch is over
  pub handed :
      (key : Key) (epoch switch inc nonce : ℕ) (before : List Entry) → 1 ≤ epoch → HandedOver w key epoch switch inc nonce before →
      (old : IsGranted before key epoch)
      × (((switch ≡ old.switch) × IsLater inc nonce old.inc old.nonce)
      ⊎ ((f : First) (e : Entry) → In firsts f → In before e → HasEpoch key epoch e → IsEntryOf f e → ClockPast w f.switch (f.moment + w.terms.t_switch)))
  -- so no slot of an earlier epoch is live
  pub over :
      (r n epoch later : ℕ) (key : Key) (replica : ReplicaNode) (node : SwitchNode) (slot : Slot) (e : Entry) (nonce expiry : ℕ) → Runs w r replica → In (entries_of replica.book) e → HasEpoch key later e → epoch < later →
      SlotAt w n key node slot → slot.lease ≡ Held nonce epoch expiry → expiry ≤ node.clock
  -- and no Asking whose Grant stands there with an earlier epoch is young
  pub late :
      (r n epoch later : ℕ) (key : Key) (replica : ReplicaNode) (node : SwitchNode) (slot : Slot) (e : Entry) (nonce first : ℕ) → Runs w r replica → In (entries_of replica.book) e → HasEpoch key later e → epoch < later →
      SlotAt w n key node slot → slot.lease ≡ Asking nonce first → In (entries_of replica.book) (Entry.Grant key epoch n node.state.inc nonce) → is_young w.terms.t_switch first node.clock ≡ false
