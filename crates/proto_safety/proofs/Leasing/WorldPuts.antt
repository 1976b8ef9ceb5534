-- In strict mode: each Put frame and each item is of a granted epoch, with a number that its slot has reached while it is leased in that epoch; an Asking slot whose Grant stands in a running book has done nothing in its epoch.
use Rattle.std.proofs.Common.{◌≡◌, ◌≢◌, ◌⊎◌, inl, inr, ℕ, ◌+◌, ◌≤◌, List, [], ◌∷◌, ◌++◌, Option, Some, None, refl, sym, ap, ◌∙◌, subst, true, set, slice_get, arith, append-nil}
use Rattle.rp_base.specs.declared.node.Node.{Node}
use Rattle.proto_data.specs.declared.message.Msg.{Msg}
use Rattle.proto_data.specs.declared.message.Body.{Body}
use Rattle.proto_data.specs.declared.message.Entry.{Entry}
use Rattle.proto_data.specs.declared.message.Input.{Input}
use Rattle.proto_data.specs.declared.message.Carried.{Carried}
use Rattle.rp_base.specs.declared.node.Output.{Output}
use Rattle.rp_app.specs.Application.{Application, Delta}
use Rattle.key_table.specs.Table.{Key}
use Rattle.proto_model.specs.Slot.{Slot, Round, Asking, epoch_of}
use Rattle.proto_model.specs.SwitchState.{Switch, Item, slot_at}
use Rattle.proto_model.specs.SwitchRows.{switch_step}
use Rattle.proto_model.specs.Effects.{added}
use Rattle.proto_model.specs.Feeds.{Each, Pairwise}
use Rattle.proto_model.specs.Stands.{entries_of}
use Rattle.proto_model.specs.World.{SwitchNode, ReplicaNode, Journaled}
use Rattle.proto_safety.specs.Books.{In, IsPrefix, lives, committed_of}
use Rattle.proto_safety.specs.Flows.{FitsFrom}
use Rattle.proto_safety.specs.SwitchSent.{SentNow, SaysNow, PutsNow, SnapsNow}
use Rattle.proto_safety.specs.Firsts.{request_of}
use Rattle.proto_safety.specs.LeaseLaws.{NumberOf}
use Rattle.proto_safety.proofs.Inductions.FlowInduction.{step_same}
use Rattle.proto_safety.proofs.Store.BookEpochs.{one_grant}
use Rattle.proto_safety.proofs.Leasing.Copies.{HasSlot}
use Rattle.proto_safety.proofs.Nodes.SwitchSays.{Tidy, step_says}
use Rattle.proto_safety.proofs.Nodes.SwitchTable.{msg}
use Rattle.proto_safety.proofs.Nodes.SwitchWas.{Was, goes_on, asks, takes, ItemStands, step_was, step_item}
use Rattle.proto_safety.proofs.Leasing.SlotFirsts.{not_asking}
use Rattle.key_table.proofs.Tables.{same_some}
use Rattle.proto_safety.proofs.Basics.Eachs.{each_in}
use Rattle.proto_safety.proofs.Basics.Lists.{at_set, get-set_same}
use Rattle.proto_safety.proofs.Basics.Members.{in_append}
use Rattle.proto_safety.proofs.Basics.Pairs.{pairwise_push}
use Rattle.proto_safety.proofs.Basics.Prefixes.{in_prefix}

-- a Put or a Snap of this incarnation, epoch and number
abbrev pub NumberIn : ℕ → ℕ → ℕ → Key → Body → Type 0
NumberIn inc epoch number key (Body.Put i e m k delta load) = (i ≡ inc) × (e ≡ epoch) × (m ≡ number) × (k ≡ key)
NumberIn inc epoch number key (Body.Snap i e m k chunk chunks cells) = (i ≡ inc) × (e ≡ epoch) × (m ≡ number) × (k ≡ key)
NumberIn inc epoch number key _ = ⊥

-- a Put or a Snap that switch n sent
pub record NumberFrame (frames : List Msg) (n inc : ℕ) (key : Key) (epoch number : ℕ) : Type 0 where
  pub msg : Msg
  pub there : In frames msg
  pub from_is : msg.from ≡ Node.Switch n
  pub number_in : NumberIn inc epoch number key msg.body

pub is_put : (m : Msg) (inc e k : ℕ) (key : Key) (delta : Delta) (load : Option Carried) → m.body ≡ Body.Put inc e k key delta load → NumberIn inc e k key m.body
is_put m inc e k key delta load is = subst (λ (b : Body). NumberIn inc e k key b) (sym is) (refl, refl, refl, refl)

pub is_snap : (m : Msg) (inc e k chunk chunks : ℕ) (key : Key) (cells : List ℕ) → m.body ≡ Body.Snap inc e k key chunk chunks cells → NumberIn inc e k key m.body
is_snap m inc e k chunk chunks key cells is = subst (λ (b : Body). NumberIn inc e k key b) (sym is) (refl, refl, refl, refl)

pub number_request : (b : Body) (inc e k : ℕ) (key : Key) → NumberIn inc e k key b → request_of b ≡ Some (key, NumberOf e k)
number_request (Body.Put i f m q delta load) inc e k key h = rw (h.1, h.2, h.3) refl
number_request (Body.Snap i f m q chunk chunks cells) inc e k key h = rw (h.1, h.2, h.3) refl
number_request (Body.Ask i m q load) inc e k key h = absurd h
number_request (Body.Grant i m f q cells load) inc e k key h = absurd h
number_request (Body.Busy i m q mark) inc e k key h = absurd h
number_request (Body.Ack i f u q load) inc e k key h = absurd h
number_request (Body.Deny i f q) inc e k key h = absurd h
number_request (Body.Forward c i entry load) inc e k key h = absurd h
number_request (Body.Have i) inc e k key h = absurd h
number_request (Body.Echo of load) inc e k key h = absurd h
number_request (Body.Config c) inc e k key h = absurd h

-- an epoch's Grant to switch n
pub record GrantOf (es : List Entry) (n inc : ℕ) (key : Key) (epoch : ℕ) : Type 0 where
  pub nonce : ℕ
  pub there : In es (Entry.Grant key epoch n inc nonce)

-- what is known before and after each step
pub record Known (cells : ℕ) (frames : List Msg) (switches : List SwitchNode) (replicas : List ReplicaNode) : Type 0 where
  pub me : (n : ℕ) (node : SwitchNode) → slice_get switches n ≡ Some node → node.state.me ≡ n
  pub tidy : (n : ℕ) (node : SwitchNode) → slice_get switches n ≡ Some node → Tidy node.state
  pub leased : (n : ℕ) (node : SwitchNode) (key : Key) (slot : Slot) (e : ℕ) → slice_get switches n ≡ Some node → slot_at node.state key ≡ Some slot → epoch_of slot.lease ≡ Some e → GrantOf (committed_of replicas) n node.state.inc key e
  pub rounds : (n : ℕ) (node : SwitchNode) (key : Key) (slot : Slot) (r : Round) → slice_get switches n ≡ Some node → slot_at node.state key ≡ Some slot → slot.round ≡ Some r → (1 ≤ r.number) × (r.number ≤ slot.last)
  pub fits : (r : ℕ) (replica : ReplicaNode) (key : Key) → slice_get replicas r ≡ Some replica → FitsFrom cells key None (entries_of replica.book)
  pub committed_fits : (key : Key) → FitsFrom cells key None (committed_of replicas)
  pub within : (r : ℕ) (replica : ReplicaNode) → slice_get replicas r ≡ Some replica → lives replica ≡ true → IsPrefix (committed_of replicas) (entries_of replica.book)
  pub runner : (x : Entry) → In (committed_of replicas) x → (r : ℕ) × (replica : ReplicaNode) × (slice_get replicas r ≡ Some replica) × (lives replica ≡ true) × In (entries_of replica.book) x
  pub nonces : (n : ℕ) (node : SwitchNode) (key : Key) (e k r : ℕ) (replica : ReplicaNode) → slice_get switches n ≡ Some node → slice_get replicas r ≡ Some replica → In (entries_of replica.book) (Entry.Grant key e n node.state.inc k) → k ≤ node.state.nonces

-- a number that a leased slot has reached
abbrev pub Reaches : List SwitchNode → Key → ℕ → ℕ → Type 0
Reaches switches key e k = (n : ℕ) (node : SwitchNode) (slot : Slot) → slice_get switches n ≡ Some node → slot_at node.state key ≡ Some slot → epoch_of slot.lease ≡ Some e → k ≤ slot.last

-- an epoch of which a running book has the Grant of an Asking slot
pub record Awaited (switches : List SwitchNode) (replicas : List ReplicaNode) (key : Key) (e : ℕ) : Type 0 where
  pub n : ℕ
  pub node : SwitchNode
  pub slot : Slot
  pub nonce : ℕ
  pub first : ℕ
  pub r : ℕ
  pub replica : ReplicaNode
  pub at : slice_get switches n ≡ Some node
  pub found : slot_at node.state key ≡ Some slot
  pub asking : slot.lease ≡ Asking nonce first
  pub here : slice_get replicas r ≡ Some replica
  pub up : lives replica ≡ true
  pub granted : In (entries_of replica.book) (Entry.Grant key e n node.state.inc nonce)

-- what is sent or processed in an epoch of a flow with a number
pub record NumberFits (switches : List SwitchNode) (replicas : List ReplicaNode) (key : Key) (e k : ℕ) : Type 0 where
  pub reached : Reaches switches key e k
  pub awaited : Awaited switches replicas key e → ⊥

-- numbers of an epoch rise
abbrev pub InTurn : Journaled → Journaled → Type 0
InTurn a b = a.item.key ≡ b.item.key → a.item.epoch ≡ b.item.epoch → a.item.number ≤ b.item.number

-- a switch owns an epoch of a flow
pub record Owned (es : List Entry) (key : Key) (epoch : ℕ) : Type 0 where
  pub n : ℕ
  pub inc : ℕ
  pub grant : GrantOf es n inc key epoch

pub record NumberFramesFit (frames : List Msg) (switches : List SwitchNode) (replicas : List ReplicaNode) (items : List Journaled) : Type 0 where
  pub granted : (n inc e k : ℕ) (key : Key) → NumberFrame frames n inc key e k → GrantOf (committed_of replicas) n inc key e
  pub numbers : (n inc e k : ℕ) (key : Key) → NumberFrame frames n inc key e k → NumberFits switches replicas key e k
  pub item_granted : (j : Journaled) → In items j → Owned (committed_of replicas) j.item.key j.item.epoch
  pub item_numbers : (j : Journaled) → In items j → NumberFits switches replicas j.item.key j.item.epoch j.item.number
  pub in_turn : Pairwise InTurn items

pub put_parts : (frames ms : List Msg) (n inc e k : ℕ) (key : Key) → NumberFrame (frames ++ ms) n inc key e k → NumberFrame frames n inc key e k ⊎ NumberFrame ms n inc key e k
put_parts frames ms n inc e k key p = parts_case (in_append frames ms p.msg p.there)
  where
    parts_case : In frames p.msg ⊎ In ms p.msg → NumberFrame frames n inc key e k ⊎ NumberFrame ms n inc key e k
    parts_case (inl i) = inl (record { msg = p.msg; there = i; from_is = p.from_is; number_in = p.number_in })
    parts_case (inr i) = inr (record { msg = p.msg; there = i; from_is = p.from_is; number_in = p.number_in })

-- ---- a switch takes an input

module _ (app : Application) (frames : List Msg) (switches : List SwitchNode) (replicas : List ReplicaNode) (items : List Journaled) (n : ℕ) (node : SwitchNode) (input : Input) (at : slice_get switches n ≡ Some node) where
  abbrev state : Switch
  state = (switch_step app node.state node.clock input).0

  abbrev sent : List Msg
  sent = (switch_step app node.state node.clock input).1.sent

  abbrev moved : SwitchNode
  moved = record node { state = state }

  abbrev after : List SwitchNode
  after = set switches n moved

  at_after : slice_get after n ≡ Some moved
  at_after = get-set_same switches n node moved at

  module _ (k : Known app.cell_count frames switches replicas) (later : Known app.cell_count (frames ++ sent) after replicas)
      (told : (from to : Node) (nonce e : ℕ) (key : Key) (cells : List ℕ) (load : Option Carried) → input ≡ msg from to (Body.Grant node.state.inc nonce e key cells load) → In (committed_of replicas) (Entry.Grant key e n node.state.inc nonce))
      (h : NumberFramesFit frames switches replicas items) where
    -- in the epoch of a slot of this switch
    abbrev Here : Key → ℕ → ℕ → Type 0
    Here key e number = (slot : Slot) × (slot_at state key ≡ Some slot) × (epoch_of slot.lease ≡ Some e) × (number ≤ slot.last)

    same_inc : state.inc ≡ node.state.inc
    same_inc = (step_same app node.state node.clock input).inc

    -- what this switch does now fits every slot
    now_fits : (key : Key) (e number : ℕ) → Here key e number → NumberFits after replicas key e number
    now_fits key e number here = record { reached = reached; awaited = awaited }
      where
        own : GrantOf (committed_of replicas) n state.inc key e
        own = later.leased n moved key here.0 e at_after here.1 here.2

        reached : Reaches after key e number
        reached m other slot there found leased = node_case (at_set switches n m moved other there)
          where
            node_case : ((m ≡ n) × (other ≡ moved)) ⊎ ((m ≢ n) × (slice_get switches m ≡ Some other)) → number ≤ slot.last
            node_case (inl same) =
                let one : slot_at state key ≡ Some slot = ap (λ (x : SwitchNode). slot_at x.state key) (sym same.1) ∙ found in
                let s : here.0 ≡ slot = same_some (slot_at state key) here.0 slot here.1 one in
                let l : here.0.last ≡ slot.last = ap (λ (x : Slot). x.last) s in
                omega (arith, l, here.3)
            node_case (inr p) =
                let theirs = later.leased m other key slot e there found leased in
                absurd (p.0 (sym (one_grant app.cell_count key None (committed_of replicas) e n state.inc own.nonce m other.state.inc theirs.nonce (later.committed_fits key) own.there theirs.there).switch))

        awaited : Awaited after replicas key e → ⊥
        awaited a = node_case (at_set switches n a.n moved a.node a.at)
          where
            node_case : ((a.n ≡ n) × (a.node ≡ moved)) ⊎ ((a.n ≢ n) × (slice_get switches a.n ≡ Some a.node)) → ⊥
            node_case (inl same) =
                let one : slot_at state key ≡ Some a.slot = ap (λ (x : SwitchNode). slot_at x.state key) (sym same.1) ∙ a.found in
                let s : here.0 ≡ a.slot = same_some (slot_at state key) here.0 a.slot here.1 one in
                not_asking here.0.lease e a.nonce a.first here.2 (ap (λ (x : Slot). x.lease) s ∙ a.asking)
            node_case (inr p) =
                let there = in_prefix (committed_of replicas) (entries_of a.replica.book) _ (later.within a.r a.replica a.here a.up) own.there in
                p.0 (sym (one_grant app.cell_count key None (entries_of a.replica.book) e n state.inc own.nonce a.n a.node.state.inc a.nonce (later.fits a.r a.replica key a.here) there a.granted).switch)

    -- what fitted before fits now
    still_fits : (key : Key) (e number : ℕ) → NumberFits switches replicas key e number → NumberFits after replicas key e number
    still_fits key e number f = record { reached = reached; awaited = awaited }
      where
        was_reached : (slot : Slot) → epoch_of slot.lease ≡ Some e → Was node.state.inc node.state.nonces node.clock node.state.slots input key slot → number ≤ slot.last
        was_reached slot leased (goes_on old there l a) = let p = l e leased in omega (arith, f.reached n node old at there p.0, p.1)
        was_reached slot leased (asks is) = absurd (not_asking slot.lease e (node.state.nonces + 1) node.clock leased is)
        was_reached slot leased (takes {from = from} {to = to} {nonce = nonce} {first = first} {epoch = epoch} {cells = cells} {load = load} old there is came own) =
            let same : epoch ≡ e = same_some (epoch_of slot.lease) epoch e own leased in
            let g : In (committed_of replicas) (Entry.Grant key e n node.state.inc nonce) = subst (λ (x : ℕ). In (committed_of replicas) (Entry.Grant key x n node.state.inc nonce)) same (told from to nonce epoch key cells load came) in
            let r = k.runner (Entry.Grant key e n node.state.inc nonce) g in
            absurd (f.awaited (record { n = n; node = node; slot = old; nonce = nonce; first = first; r = r.0; replica = r.1; at = at; found = there; asking = is; here = r.2; up = r.3; granted = r.4 }))

        reached : Reaches after key e number
        reached m other slot there found leased = node_case (at_set switches n m moved other there)
          where
            node_case : ((m ≡ n) × (other ≡ moved)) ⊎ ((m ≢ n) × (slice_get switches m ≡ Some other)) → number ≤ slot.last
            node_case (inl same) = was_reached slot leased (step_was app node.state node.clock input key slot (ap (λ (x : SwitchNode). slot_at x.state key) (sym same.1) ∙ found))
            node_case (inr p) = f.reached m other slot p.1 found leased

        awaited : Awaited after replicas key e → ⊥
        awaited a = node_case (at_set switches n a.n moved a.node a.at)
          where
            mine : (a.n ≡ n) → (a.node ≡ moved) → In (entries_of a.replica.book) (Entry.Grant key e n node.state.inc a.nonce)
            mine same_n same_node =
                subst (λ (x : ℕ). In (entries_of a.replica.book) (Entry.Grant key e n x a.nonce)) (ap (λ (x : SwitchNode). x.state.inc) same_node ∙ same_inc)
                (subst (λ (x : ℕ). In (entries_of a.replica.book) (Entry.Grant key e x a.node.state.inc a.nonce)) same_n a.granted)

            was_awaited : (a.n ≡ n) → (a.node ≡ moved) → Was node.state.inc node.state.nonces node.clock node.state.slots input key a.slot → ⊥
            was_awaited same_n same_node (goes_on old there l q) =
                f.awaited (record { n = n; node = node; slot = old; nonce = a.nonce; first = a.first; r = a.r; replica = a.replica; at = at; found = there; asking = q a.nonce a.first a.asking; here = a.here; up = a.up; granted = mine same_n same_node })
            was_awaited same_n same_node (asks is) =
                let e' : Asking (node.state.nonces + 1) node.clock ≡ Asking a.nonce a.first = sym is ∙ a.asking in
                let nonce : node.state.nonces + 1 ≡ a.nonce = cc in
                absurd (omega (arith, nonce, k.nonces n node key e a.nonce a.r a.replica at a.here (mine same_n same_node)))
            was_awaited same_n same_node (takes {epoch = epoch} old there is came own) = not_asking a.slot.lease epoch a.nonce a.first own a.asking

            node_case : ((a.n ≡ n) × (a.node ≡ moved)) ⊎ ((a.n ≢ n) × (slice_get switches a.n ≡ Some a.node)) → ⊥
            node_case (inl same) = was_awaited same.0 same.1 (step_was app node.state node.clock input key a.slot (ap (λ (x : SwitchNode). slot_at x.state key) (sym same.1) ∙ a.found))
            node_case (inr p) = f.awaited (record { n = a.n; node = a.node; slot = a.slot; nonce = a.nonce; first = a.first; r = a.r; replica = a.replica; at = p.1; found = a.found; asking = a.asking; here = a.here; up = a.up; granted = a.granted })

    -- a number that is sent now
    record OwnPut (m inc : ℕ) (key : Key) (e number : ℕ) : Type 0 where
      sender : m ≡ n
      inc_is : inc ≡ state.inc
      here : Here key e number

    own_put : (m inc e number : ℕ) (key : Key) → NumberFrame sent m inc key e number → OwnPut m inc key e number
    own_put m inc e number key p =
        let s : SentNow state p.msg = each_in (SentNow state) sent p.msg (step_says app node.state node.clock input (k.tidy n node at)) p.there in
        let from : Node.Switch m ≡ Node.Switch state.me = sym p.from_is ∙ s.0 in
        let sender : m ≡ state.me = cc in
        let h = number_now p.msg.body s.1 p.number_in in
        record { sender = sender ∙ later.me n moved at_after; inc_is = h.0; here = h.1 }
      where
        put_now : (i f k : ℕ) (q : Key) (delta : Delta) → PutsNow state i f k q delta → (i ≡ state.inc) × Here q f k
        put_now i f k q delta h =
            let fit = each_in (HasSlot state.slots) state.copies h.copy (later.tidy n moved at_after).copies h.there in
            let same : fit.slot ≡ h.slot = same_some (slot_at state q) fit.slot h.slot (subst (λ (x : Key). slot_at state x ≡ Some fit.slot) h.key_is fit.found) h.found in
            let last : fit.slot.last ≡ h.slot.last = ap (λ (x : Slot). x.last) same in
            (h.here, (h.slot, h.found, h.leased, omega (arith, h.number_is, fit.number, last)))

        snap_now : (i f k : ℕ) (q : Key) (chunk chunks : ℕ) (cells : List ℕ) → SnapsNow state i f k q chunk chunks cells → (i ≡ state.inc) × Here q f k
        snap_now i f k q chunk chunks cells h =
            let r = later.rounds n moved q h.slot h.running at_after h.found h.round_is in
            (h.here, (h.slot, h.found, h.leased, omega (arith, h.number_is, r.1)))

        number_now : (b : Body) → SaysNow state b → NumberIn inc e number key b → (inc ≡ state.inc) × Here key e number
        number_now (Body.Put i f k q delta load) h is = rw (← is.0, ← is.1, ← is.2, ← is.3) (put_now i f k q delta h)
        number_now (Body.Snap i f k q chunk chunks cells) h is = rw (← is.0, ← is.1, ← is.2, ← is.3) (snap_now i f k q chunk chunks cells h)
        number_now (Body.Ask i m q load) h is = absurd is
        number_now (Body.Grant i m f q cells load) h is = absurd is
        number_now (Body.Busy i m q mark) h is = absurd is
        number_now (Body.Ack i f u q load) h is = absurd is
        number_now (Body.Deny i f q) h is = absurd is
        number_now (Body.Forward c i entry load) h is = absurd is
        number_now (Body.Have i) h is = absurd is
        number_now (Body.Echo of load) h is = absurd is
        number_now (Body.Config c) h is = absurd is

    put_granted : (m inc e number : ℕ) (key : Key) → NumberFrame frames m inc key e number ⊎ NumberFrame sent m inc key e number → GrantOf (committed_of replicas) m inc key e
    put_granted m inc e number key (inl p) = h.granted m inc e number key p
    put_granted m inc e number key (inr p) =
        let o = own_put m inc e number key p in
        let g = later.leased n moved key o.here.0 e at_after o.here.1 o.here.2 in
        subst (λ (x : ℕ). GrantOf (committed_of replicas) x inc key e) (sym o.sender) (subst (λ (x : ℕ). GrantOf (committed_of replicas) n x key e) (sym o.inc_is) g)

    put_numbers : (m inc e number : ℕ) (key : Key) → NumberFrame frames m inc key e number ⊎ NumberFrame sent m inc key e number → NumberFits after replicas key e number
    put_numbers m inc e number key (inl p) = still_fits key e number (h.numbers m inc e number key p)
    put_numbers m inc e number key (inr p) = now_fits key e number (own_put m inc e number key p).here

    -- ---- items

    abbrev more : ℕ → Option Output → List Journaled
    more event out = added (λ (i : Item). record { event = event; item = i; output = out }) (switch_step app node.state node.clock input).1.item

    item_here : (i : Item) → ItemStands state i → Here i.key i.epoch i.number
    item_here i s = (s.slot, s.found, s.leased, omega (arith, s.number))

    item_owned : (i : Item) → ItemStands state i → Owned (committed_of replicas) i.key i.epoch
    item_owned i s = record { n = n; inc = state.inc; grant = later.leased n moved i.key s.slot i.epoch at_after s.found s.leased }

    items_fit : (event : ℕ) (out : Option Output) (o : Option Item) → ((i : Item) → o ≡ Some i → ItemStands state i) →
        ((j : Journaled) → In (items ++ added (λ (i : Item). record { event = event; item = i; output = out }) o) j → Owned (committed_of replicas) j.item.key j.item.epoch)
        × ((j : Journaled) → In (items ++ added (λ (i : Item). record { event = event; item = i; output = out }) o) j → NumberFits after replicas j.item.key j.item.epoch j.item.number)
        × Pairwise InTurn (items ++ added (λ (i : Item). record { event = event; item = i; output = out }) o)
    items_fit event out None stands = (
      λ j i. h.item_granted j (subst (λ (l : List Journaled). In l j) (append-nil items) i),
      λ j i. still_fits j.item.key j.item.epoch j.item.number (h.item_numbers j (subst (λ (l : List Journaled). In l j) (append-nil items) i)),
      subst (Pairwise InTurn) (sym (append-nil items)) h.in_turn,
    )
    items_fit event out (Some x) stands = (owned, numbers, pairwise_push InTurn items new h.in_turn (turns items (λ j i. i)))
      where
        new : Journaled
        new = record { event = event; item = x; output = out }

        owned_case : (j : Journaled) → In items j ⊎ In (new ∷ []) j → Owned (committed_of replicas) j.item.key j.item.epoch
        owned_case j (inl i) = h.item_granted j i
        owned_case j (inr (inl e)) = subst (λ (y : Journaled). Owned (committed_of replicas) y.item.key y.item.epoch) e (item_owned x (stands x refl))
        owned_case j (inr (inr i)) = absurd i

        owned : (j : Journaled) → In (items ++ new ∷ []) j → Owned (committed_of replicas) j.item.key j.item.epoch
        owned j i = owned_case j (in_append items (new ∷ []) j i)

        numbers_case : (j : Journaled) → In items j ⊎ In (new ∷ []) j → NumberFits after replicas j.item.key j.item.epoch j.item.number
        numbers_case j (inl i) = still_fits j.item.key j.item.epoch j.item.number (h.item_numbers j i)
        numbers_case j (inr (inl e)) = subst (λ (y : Journaled). NumberFits after replicas y.item.key y.item.epoch y.item.number) e (now_fits x.key x.epoch x.number (item_here x (stands x refl)))
        numbers_case j (inr (inr i)) = absurd i

        numbers : (j : Journaled) → In (items ++ new ∷ []) j → NumberFits after replicas j.item.key j.item.epoch j.item.number
        numbers j i = numbers_case j (in_append items (new ∷ []) j i)

        -- an earlier item's number is at most the slot's last
        turn : (j : Journaled) → In items j → InTurn j new
        turn j i same_key same_epoch =
            let s = stands x refl in
            let f = still_fits j.item.key j.item.epoch j.item.number (h.item_numbers j i) in
            let r = f.reached n moved s.slot at_after (subst (λ (y : Key). slot_at state y ≡ Some s.slot) (sym same_key) s.found) (s.leased ∙ ap (λ (y : ℕ). Some y) (sym same_epoch)) in
            omega (arith, r, s.number)

        turns : (js : List Journaled) → ((j : Journaled) → In js j → In items j) → Each (λ (j : Journaled). InTurn j new) js
        turns [] sub = tt
        turns (j ∷ js) sub = (turn j (sub j (inl refl)), turns js (λ y i. sub y (inr i)))

    pub moved_puts : (event : ℕ) (out : Option Output) → NumberFramesFit (frames ++ sent) after replicas (items ++ more event out)
    moved_puts event out =
        let f = items_fit event out (switch_step app node.state node.clock input).1.item (λ i e. step_item app node.state node.clock input i e) in
        record {
          granted = λ m inc e number key p. put_granted m inc e number key (put_parts frames sent m inc e number key p);
          numbers = λ m inc e number key p. put_numbers m inc e number key (put_parts frames sent m inc e number key p);
          item_granted = f.0;
          item_numbers = f.1;
          in_turn = f.2;
        }
