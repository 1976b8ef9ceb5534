-- What each move of a flow keeps, given what replies say of the committed book, holds of each flow at each switch after every list of events.
use Rattle.std.proofs.Common.{◌≡◌, ◌⊎◌, ℕ, ◌+◌, ◌≤◌, List, [], ◌∷◌, ◌++◌, Option, Some, None, arith, refl, sym, subst, inl, inr, true, false, Bool, eqb-true}
use Rattle.std.specs.Prelude.{filter, not, option_map, if◌then◌else◌, nat_le, nat_lt}
use Rattle.std.proofs.lemmas.Bool.{leb-true, and_parts, false≢true}
use Rattle.rp_base.specs.declared.node.Node.{Node}
use Rattle.proto_data.specs.declared.message.Body.{Body}
use Rattle.proto_data.specs.declared.terms.Mode.{Mode}
use Rattle.proto_data.specs.declared.message.Entry.{Entry}
use Rattle.proto_data.specs.declared.message.Input.{Input}
use Rattle.proto_data.specs.declared.terms.Terms.{Terms}
use Rattle.proto_data.specs.declared.message.Carried.{Carried}
use Rattle.rp_app.specs.Application.{Application}
use Rattle.key_table.specs.Table.{Key}
use Rattle.proto_model.specs.Slot.{Slot, Lease, Idle, Asking, Held, Lapsed, lapsed_slot, lapsed_lease}
use Rattle.proto_model.specs.SwitchState.{Copy, Item, is_covered}
use Rattle.proto_model.specs.SwitchRow.{has_epoch}
use Rattle.proto_model.specs.SwitchOutcomes.{acked_lease}
use Rattle.proto_safety.specs.Books.{In, IsPrefix}
use Rattle.proto_safety.specs.Flows.{GrantedIn, AckedIn, Reply, ToSwitch}
use Rattle.proto_safety.specs.CellLaws.{Reached, Rests, SlotRests}
use Rattle.proto_safety.proofs.Store.FlowBooks.{granted_in, numbered_grant}
use Rattle.proto_safety.proofs.Inductions.FlowMoves.{View, Move, elsewhere, lapses, asks, asks_again, takes_grant, forgets, direct, mirrored, acked, idles, resends, keeps_lease, snapped, round_done, sends_chunk, begins_round}
use Rattle.proto_safety.proofs.Leasing.FlowCopies.{LastCopied, CopiesAt, CopiesStand, copies_move, not_strict, copies_of_slot}
use Rattle.key_table.proofs.Tables.{same_key-refl}
use Rattle.proto_safety.proofs.Nodes.SwitchTable.{msg}
use Rattle.proto_safety.proofs.Basics.Lists.{never_none}
use Rattle.proto_safety.proofs.Basics.Members.{nobody, to_filter}
use Rattle.proto_safety.proofs.Basics.Prefixes.{in_prefix}

pub record FlowRests (es : List Entry) (n inc : ℕ) (terms : Terms) (key : Key) (v : View) : Type 0 where
  pub copies : CopiesStand terms key v
  pub rests : terms.mode ≡ Mode.Strict → SlotRests es n inc key v.slot v.copies

-- what is known of an input at switch n
abbrev pub Told : ℕ → List Entry → ℕ → Input → Type 0
Told cells es n (Input.Msg m) = (m.to ≡ Node.Switch n) × Reply cells es m.to m.body
Told cells es n _ = Unit {0}

-- ---- the committed book goes on

reached_later : (old new : List Entry) (key : Key) (epoch last : ℕ) → IsPrefix old new → Reached old key epoch last → Reached new key epoch last
reached_later old new key epoch last p h = record { entry = h.entry; there = in_prefix old new h.entry p h.there; number = h.number; number_is = h.number_is; reaches = h.reaches }

rests_later : (old new : List Entry) (n inc : ℕ) (key : Key) (l : Lease) (last : ℕ) (cs : List Copy) → IsPrefix old new → Rests old n inc key l last cs → Rests new n inc key l last cs
rests_later old new n inc key Idle last cs p h = tt
rests_later old new n inc key (Asking nonce first) last cs p h = tt
rests_later old new n inc key (Held nonce epoch expiry) last cs p h = (in_prefix old new _ p h.0, λ e. reached_later old new key epoch last p (h.1 e))
rests_later old new n inc key (Lapsed nonce epoch expiry) last cs p h = (in_prefix old new _ p h.0, λ e. reached_later old new key epoch last p (h.1 e))

slot_later : (old new : List Entry) (n inc : ℕ) (key : Key) (o : Option Slot) (cs : List Copy) → IsPrefix old new → SlotRests old n inc key o cs → SlotRests new n inc key o cs
slot_later old new n inc key None cs p h = tt
slot_later old new n inc key (Some slot) cs p h = rests_later old new n inc key slot.lease slot.last cs p h

pub flow_later : (old new : List Entry) (n inc : ℕ) (terms : Terms) (key : Key) (v : View) → IsPrefix old new → FlowRests old n inc terms key v → FlowRests new n inc terms key v
flow_later old new n inc terms key v p h = record { copies = h.copies; rests = λ m. slot_later old new n inc key v.slot v.copies p (h.rests m) }

-- ---- leases and copies

-- other copies, of which there are none only where there were none
other_copies_rest : (es : List Entry) (n inc : ℕ) (key : Key) (l : Lease) (last : ℕ) (old new : List Copy) → (new ≡ [] → old ≡ []) → Rests es n inc key l last old → Rests es n inc key l last new
other_copies_rest es n inc key Idle last old new k h = tt
other_copies_rest es n inc key (Asking nonce first) last old new k h = tt
other_copies_rest es n inc key (Held nonce epoch expiry) last old new k h = (h.0, λ e. h.1 (k e))
other_copies_rest es n inc key (Lapsed nonce epoch expiry) last old new k h = (h.0, λ e. h.1 (k e))

other_slot_rests : (es : List Entry) (n inc : ℕ) (key : Key) (o : Option Slot) (old new : List Copy) → (new ≡ [] → old ≡ []) → SlotRests es n inc key o old → SlotRests es n inc key o new
other_slot_rests es n inc key None old new k h = tt
other_slot_rests es n inc key (Some slot) old new k h = other_copies_rest es n inc key slot.lease slot.last old new k h

-- one more copy, at any last number
pushed_rests : (es : List Entry) (n inc : ℕ) (key : Key) (nonce epoch expiry last next : ℕ) (l : Lease) (cs : List Copy) (c : Copy) → l ≡ Held nonce epoch expiry → Rests es n inc key l last cs → Rests es n inc key l next (cs ++ c ∷ [])
pushed_rests es n inc key nonce epoch expiry last next l cs c is h =
    let k : Rests es n inc key (Held nonce epoch expiry) last cs = subst (λ x. Rests es n inc key x last cs) is h in
    subst (λ x. Rests es n inc key x next (cs ++ c ∷ [])) (sym is) (k.0, λ e. absurd (never_none cs c e))

lapsed_rests : (es : List Entry) (n inc now : ℕ) (key : Key) (l : Lease) (last : ℕ) (cs : List Copy) → Rests es n inc key l last cs → Rests es n inc key (lapsed_lease now l) last cs
lapsed_rests es n inc now key (Held nonce epoch expiry) last cs h = held_case (nat_le expiry now)
  where
    held_case : (b : Bool) → Rests es n inc key (if b then Lapsed nonce epoch expiry else Held nonce epoch expiry) last cs
    held_case true = h
    held_case false = h
lapsed_rests es n inc now key Idle last cs h = tt
lapsed_rests es n inc now key (Asking nonce first) last cs h = tt
lapsed_rests es n inc now key (Lapsed nonce epoch expiry) last cs h = h

lapsed_slot_rests : (es : List Entry) (n inc now : ℕ) (key : Key) (o : Option Slot) (cs : List Copy) → SlotRests es n inc key o cs → SlotRests es n inc key (option_map (lapsed_slot now) o) cs
lapsed_slot_rests es n inc now key None cs h = tt
lapsed_slot_rests es n inc now key (Some slot) cs h = lapsed_rests es n inc now key slot.lease slot.last cs h

-- a lease after an Ack has its epoch and its nonce still
acked_rests : (es : List Entry) (n inc t now epoch : ℕ) (key : Key) (l : Lease) (o : Option (ℕ × ℕ)) (last : ℕ) (old new : List Copy) → has_epoch l epoch ≡ true → (new ≡ [] → (old ≡ []) ⊎ Reached es key epoch last) →
    Rests es n inc key l last old → Rests es n inc key (acked_lease t now l o) last new
acked_rests es n inc t now epoch key Idle o last old new of k h = absurd (false≢true of)
acked_rests es n inc t now epoch key (Asking nonce first) o last old new of k h = absurd (false≢true of)
acked_rests es n inc t now epoch key (Held nonce e expiry) o last old new of k h = held_case o
  where
    reach : (old ≡ []) ⊎ Reached es key epoch last → Reached es key e last
    reach (inl gone) = h.1 gone
    reach (inr r) = subst (λ x. Reached es key x last) (sym (eqb-true e epoch of)) r

    held_case : (o : Option (ℕ × ℕ)) → Rests es n inc key (acked_lease t now (Held nonce e expiry) o) last new
    held_case None = (h.0, λ gone. reach (k gone))
    held_case (Some best) = (h.0, λ gone. reach (k gone))
acked_rests es n inc t now epoch key (Lapsed nonce e expiry) o last old new of k h = lapsed_case o
  where
    reach : (old ≡ []) ⊎ Reached es key epoch last → Reached es key e last
    reach (inl gone) = h.1 gone
    reach (inr r) = subst (λ x. Reached es key x last) (sym (eqb-true e epoch of)) r

    renew_case : (b : Bool) (at : ℕ) → Rests es n inc key (if b then Held nonce e at else Lapsed nonce e expiry) last new
    renew_case true at = (h.0, λ gone. reach (k gone))
    renew_case false at = (h.0, λ gone. reach (k gone))

    lapsed_case : (o : Option (ℕ × ℕ)) → Rests es n inc key (acked_lease t now (Lapsed nonce e expiry) o) last new
    lapsed_case None = (h.0, λ gone. reach (k gone))
    lapsed_case (Some best) = renew_case (nat_lt now (best.1 + t)) (best.1 + t)

-- where an Ack leaves no copy there was none, or it covers the last number
acked_reaches : (es : List Entry) (key : Key) (epoch upto : ℕ) (slot : Slot) (cs : List Copy) → CopiesAt slot cs → AckedIn es epoch upto key → filter (λ c. not (is_covered key upto c)) cs ≡ [] → (cs ≡ []) ⊎ Reached es key epoch slot.last
acked_reaches es key epoch upto slot cs h a gone = last_case h.last
  where
    reach_case : (k : LastCopied slot cs) → (b : Bool) → is_covered key upto k.copy ≡ b → (cs ≡ []) ⊎ Reached es key epoch slot.last
    reach_case k true is =
        let le : k.copy.number ≤ upto = leb-true k.copy.number upto (and_parts _ _ is).1 in
        inr (record { entry = a.entry; there = a.there; number = a.number; number_is = a.number_is; reaches = omega (arith, a.reaches, k.number_is) })
    reach_case k false is = absurd (subst (λ ds. In ds k.copy) gone (to_filter (λ c. not (is_covered key upto c)) cs k.copy k.there (rw is refl)))

    last_case : (cs ≡ []) ⊎ LastCopied slot cs → (cs ≡ []) ⊎ Reached es key epoch slot.last
    last_case (inl e) = inl e
    last_case (inr k) = reach_case k (is_covered key upto k.copy) refl

-- what a Grant that comes says
pub granted_rests : (cells : ℕ) (es : List Entry) (n inc nonce epoch : ℕ) (from to : Node) (key : Key) (values : List ℕ) (load : Option Carried) (input : Input) → input ≡ msg from to (Body.Grant inc nonce epoch key values load) → Told cells es n input →
    In es (Entry.Grant key epoch n inc nonce)
granted_rests cells es n inc nonce epoch from to key values load input came told =
    let t : Told cells es n (msg from to (Body.Grant inc nonce epoch key values load)) = subst (λ i. Told cells es n i) came told in
    let g : GrantedIn cells es n inc nonce epoch key values = subst (λ (x : Node). ToSwitch (λ s. GrantedIn cells es s inc nonce epoch key values) x) t.0 t.1 in
    in_prefix g.front es (Entry.Grant key epoch n inc nonce) g.prefix (granted_in cells key g.front _ g.flow_is)

pub acked_told : (cells : ℕ) (es : List Entry) (n inc epoch upto : ℕ) (from to : Node) (key : Key) (load : Option Carried) (input : Input) → input ≡ msg from to (Body.Ack inc epoch upto key load) → Told cells es n input → AckedIn es epoch upto key
acked_told cells es n inc epoch upto from to key load input came told =
    let t : Told cells es n (msg from to (Body.Ack inc epoch upto key load)) = subst (λ i. Told cells es n i) came told in t.1

slot_of : (es : List Entry) (n inc : ℕ) (key : Key) (v : View) (slot : Slot) → v.slot ≡ Some slot → SlotRests es n inc key v.slot v.copies → Rests es n inc key slot.lease slot.last v.copies
slot_of es n inc key v slot at h = subst (λ o. SlotRests es n inc key o v.copies) at h

rests_move : (app : Application) (es : List Entry) (n inc : ℕ) (terms : Terms) (now : ℕ) (input : Input) (key : Key) (v u : View) (items : List Item) → Told app.cell_count es n input → terms.mode ≡ Mode.Strict → CopiesStand terms key v →
    Move app inc terms now input key v items u → SlotRests es n inc key v.slot v.copies → SlotRests es n inc key u.slot u.copies
rests_move app es n inc terms now input key v u items told m c (elsewhere le) h = h
rests_move app es n inc terms now input key v u items told m c lapses h = lapsed_slot_rests es n inc now key v.slot v.copies h
rests_move app es n inc terms now input key v u items told m c (asks slot came of) h = tt
rests_move app es n inc terms now input key v u items told m c (asks_again {slot = slot} came of at is young) h = slot_of es n inc key v slot at h
rests_move app es n inc terms now input key v u items told m c (takes_grant {from = from} {to = to} {nonce = nonce} {epoch = epoch} {cells = cells} {load = load} came whole at is young) h = (
  granted_rests app.cell_count es n inc nonce epoch from to key cells load input came told,
  λ e. record {
    entry = Entry.Grant key epoch n inc nonce;
    there = granted_rests app.cell_count es n inc nonce epoch from to key cells load input came told;
    number = 0;
    number_is = numbered_grant key key epoch n inc nonce (same_key-refl key);
    reaches = omega arith;
  },
)
rests_move app es n inc terms now input key v u items told m c (forgets {slot = slot} mark at) h = slot_of es n inc key v slot at h
rests_move app es n inc terms now input key v u items told m c (direct {slot = slot} b at is mode e clean alone) h = slot_of es n inc key v slot at h
rests_move app es n inc terms now input key v u items told m c (mirrored {slot = slot} {nonce = nonce} {epoch = epoch} {expiry = expiry} b at is mode e) h =
    pushed_rests es n inc key nonce epoch expiry slot.last (slot.last + 1) slot.lease v.copies _ is (slot_of es n inc key v slot at h)
rests_move app es n inc terms now input key v u items told m c (acked {from = from} {to = to} {epoch = epoch} {upto = upto} {load = load} {slot = slot} came mode at of) h =
    acked_rests es n inc terms.t_switch now epoch key slot.lease _ slot.last v.copies _ of
    (acked_reaches es key epoch upto slot v.copies (copies_of_slot v slot at (c.stand m)) (acked_told app.cell_count es n inc epoch upto from to key load input came told))
    (slot_of es n inc key v slot at h)
rests_move app es n inc terms now input key v u items told m c (idles at) h = tt
rests_move app es n inc terms now input key v u items told m c (resends {cs = cs} same) h =
    other_slot_rests es n inc key v.slot v.copies cs (λ e. nobody v.copies (λ d i. let x = same.are d i in subst (λ ds. In ds x.0) e x.1.0)) h
rests_move app es n inc terms now input key v u items told m c (keeps_lease {slot = slot} {nonce = nonce} {epoch = epoch} {expiry = expiry} mode at is alone) h =
    pushed_rests es n inc key nonce epoch expiry slot.last (slot.last + 1) slot.lease v.copies _ is (slot_of es n inc key v slot at h)
rests_move app es n inc terms now input key v u items told m c (snapped {bound = bound} b at is mode e young) h = absurd (not_strict terms.mode bound m mode)
rests_move app es n inc terms now input key v u items told m c (round_done {bound = bound} came mode at e is k) h = absurd (not_strict terms.mode bound m mode)
rests_move app es n inc terms now input key v u items told m c (sends_chunk {slot = slot} at is r) h = slot_of es n inc key v slot at h
rests_move app es n inc terms now input key v u items told m c (begins_round {bound = bound} at is mode r) h = absurd (not_strict terms.mode bound m mode)

pub flow_move : (app : Application) (es : List Entry) (n inc : ℕ) (terms : Terms) (now : ℕ) (input : Input) (key : Key) (v u : View) (items : List Item) → Told app.cell_count es n input → Move app inc terms now input key v items u →
    FlowRests es n inc terms key v → FlowRests es n inc terms key u
flow_move app es n inc terms now input key v u items told move h =
    record { copies = copies_move app inc terms now input key v u items move h.copies; rests = λ m. rests_move app es n inc terms now input key v u items told m h.copies move (h.rests m) }
