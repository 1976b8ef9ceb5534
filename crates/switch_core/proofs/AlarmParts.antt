-- The loops of an Alarm: Asks and slots, one after the other.
use Rattle.std.proofs.Common.{◌≡◌, ◌≤◌, ◌<◌, ℕ, zero, suc, ◌+◌, ◌-◌, List, [], ◌∷◌, ◌++◌, length, map, take, drop, Option, Some, None, Bool, true, false, refl, ap, sym, ◌∙◌, subst, arith, slice_get, add-one, OnOk, Result, ◌^◌}
use Rattle.std.specs.Prelude.{if◌then◌else◌, nat_lt, nat_le, option_map, ◌/◌}
use Rattle.std.proofs.lemmas.Bool.{le-leb, leb-false, leb-true}
use Rattle.std.proofs.lemmas.List.{append-nil, append_assoc, length-append, length-drop}
use Rattle.key_table.specs.Table.{Key, Table, get, keys}
use Rattle.proto_data.specs.declared.limits.TheConstants.{MESSAGES}
use Rattle.proto_data.specs.declared.message.Body.{Body}
use Rattle.proto_data.specs.declared.message.Msg.{Msg}
use Rattle.proto_safety.proofs.Basics.Lists.{length_map}
use Rattle.proto_model.specs.Slot.{Slot, Lease, Idle, Asking, Held, Lapsed, is_young, lapsed_slot}
use Rattle.proto_model.specs.SwitchState.{Switch, SwitchDid, Copy, slot_at, to_head, with_slot}
use Rattle.proto_model.specs.SwitchAlarm.{Walk, alarm, due_copies, other_copies, resent, resent_put, walked_slots, walked_slot, walked_more, walked_key, walk_order, repeated_ask, repeated_asks}
use Rattle.switch_core.specs.States.{SwitchAt, stepped}
use Rattle.switch_core.specs.Steady.{IsSteady}
use Rattle.switch_core.specs.Walks.{CanWalk, Going, ask_of, copies_again, walk_of}
use Rattle.switch_core.proofs.Steady.{steady_at}
use Rattle.switch_core.proofs.SteadyAlarm.{steady_resent}
use Rattle.switch_core.proofs.Over.{put_back}
use Rattle.switch_core.proofs.Walks.{ask_seen, asks_same, due_few, walk_append, walk_keys, walk_steady}

-- ---- the first of a list

pub take_again : {A : Type 0} (n : ℕ) (xs ys : List A) → take n (take n xs ++ ys) ≡ take n (xs ++ ys)
take_again zero xs ys = refl
take_again (suc n) [] ys = refl
take_again (suc n) (x ∷ xs) ys = ap (λ zs. x ∷ zs) (take_again n xs ys)

pub take_full : {A : Type 0} (n : ℕ) (xs ys : List A) → length xs ≡ n → take n (xs ++ ys) ≡ xs
take_full zero [] ys h = refl
take_full zero (x ∷ xs) ys h = absurd (omega (arith, h))
take_full (suc n) [] ys h = absurd (omega (arith, h))
take_full (suc n) (x ∷ xs) ys h = ap (λ zs. x ∷ zs) (take_full n xs ys (omega (arith, h)))

pub take_room : {A : Type 0} (n : ℕ) (xs : List A) → length xs ≤ n → take n xs ≡ xs
take_room zero [] h = refl
take_room zero (x ∷ xs) h = absurd (omega (arith, h))
take_room (suc n) [] h = refl
take_room (suc n) (x ∷ xs) h = ap (λ zs. x ∷ zs) (take_room n xs (omega (arith, h)))

-- one more
pub take_next : {A : Type 0} (n : ℕ) (xs : List A) → take (suc n) xs ≡ take n xs ++ take 1 (drop n xs)
take_next zero xs = refl
take_next (suc n) [] = refl
take_next (suc n) (x ∷ xs) = ap (λ zs. x ∷ zs) (take_next n xs)

drop_none : {A : Type 0} (n : ℕ) → ◌≡◌ {A = List A} (drop n []) []
drop_none zero = refl
drop_none (suc n) = refl

pub drop_add : {A : Type 0} (m n : ℕ) (xs : List A) → drop n (drop m xs) ≡ drop (m + n) xs
drop_add zero n xs = let e : n ≡ 0 + n = omega arith in ap (λ k. drop k xs) e
drop_add (suc m) n [] = drop_none n ∙ sym (drop_none (suc m + n))
drop_add (suc m) n (x ∷ xs) = let e : suc (m + n) ≡ suc m + n = omega arith in drop_add m n xs ∙ ap (λ k. drop k (x ∷ xs)) e

-- the key at a place
pub key_there : (ks : List Key) (i : ℕ) (k : Key) → slice_get ks i ≡ Some k → take 1 (drop i ks) ≡ k ∷ []
key_there [] i k h = absurd (cc)
key_there (x ∷ xs) zero k h = ap keys_of h
  where
    keys_of : Option Key → List Key
    keys_of None = []
    keys_of (Some x) = x ∷ []
key_there (x ∷ xs) (suc i) k h = key_there xs i k h

pub no_key : (ks : List Key) (i : ℕ) → slice_get ks i ≡ None → take 1 (drop i ks) ≡ []
no_key [] zero h = refl
no_key [] (suc i) h = refl
no_key (x ∷ xs) zero h = absurd (cc)
no_key (x ∷ xs) (suc i) h = no_key xs i h

-- the key of a row
pub key_of_row : {V : Type 0} (t : Table V) (i : ℕ) → slice_get (keys t) i ≡ option_map (λ (e : Key × V). e.0) (slice_get t i)
key_of_row [] i = refl
key_of_row (x ∷ xs) zero = refl
key_of_row (x ∷ xs) (suc i) = key_of_row xs i

pub keys_length : {V : Type 0} (t : Table V) → length (keys t) ≡ length t
keys_length [] = refl
keys_length (e ∷ es) = ap suc (keys_length es)

-- ---- Asks

pub asks_next : (s : Switch) (now i : ℕ) (es : Table Slot) → repeated_asks s now (take (suc i) es) ≡ repeated_asks s now (take i es) ++ ask_of s now (slice_get es i)
asks_next s now zero [] = refl
asks_next s now (suc i) [] = refl
asks_next s now zero (e ∷ es) = append-nil (repeated_ask s now e.0 e.1.lease)
asks_next s now (suc i) (e ∷ es) = ap (λ ms. repeated_ask s now e.0 e.1.lease ++ ms) (asks_next s now i es) ∙ sym (append_assoc (repeated_ask s now e.0 e.1.lease) (repeated_asks s now (take i es)) (ask_of s now (slice_get es i)))

-- a slot asks once at most
ask_once : (s : Switch) (now : ℕ) (o : Option (Key × Slot)) → length (ask_of s now o) ≤ 1
ask_once s now None = omega arith
ask_once s now (Some e) = lease_case e.1.lease
  where
    young_case : (ask : Msg) (b : Bool) → length (if b then ask ∷ [] else []) ≤ 1
    young_case ask true = omega arith
    young_case ask false = omega arith

    lease_case : (lease : Lease) → length (repeated_ask s now e.0 lease) ≤ 1
    lease_case Idle = omega arith
    lease_case (Asking nonce first) = young_case (to_head s (Body.Ask s.inc nonce e.0 None)) (is_young s.terms.t_switch first now)
    lease_case (Held nonce epoch expiry) = omega arith
    lease_case (Lapsed nonce epoch expiry) = omega arith

-- before the 64th message it goes whole, and behind it not at all
pub ask_fits : (s : Switch) (now : ℕ) (sent : List Msg) (o : Option (Key × Slot)) → length sent < MESSAGES → take MESSAGES (sent ++ ask_of s now o) ≡ sent ++ ask_of s now o
ask_fits s now sent o lt = take_room MESSAGES (sent ++ ask_of s now o) (omega (arith, length-append sent (ask_of s now o), ask_once s now o, lt))

pub asks_more : (s : Switch) (now i : ℕ) (es : Table Slot) (before sent after : List Msg) → sent ≡ take MESSAGES (before ++ repeated_asks s now (take i es)) → after ≡ take MESSAGES (sent ++ ask_of s now (slice_get es i)) →
    after ≡ take MESSAGES (before ++ repeated_asks s now (take (i + 1) es))
asks_more s now i es before sent after h k =
    k ∙ ap (λ ms. take MESSAGES (ms ++ ask_of s now (slice_get es i))) h
    ∙ take_again MESSAGES (before ++ repeated_asks s now (take i es)) (ask_of s now (slice_get es i))
    ∙ ap (λ ms. take MESSAGES ms) (append_assoc before (repeated_asks s now (take i es)) (ask_of s now (slice_get es i)) ∙ ap (λ ms. before ++ ms) (sym (asks_next s now i es)))
    ∙ ap (λ n. take MESSAGES (before ++ repeated_asks s now (take n es))) (sym (add-one i))

-- before the first slot
pub asks_begin : (sent : List Msg) → length sent ≤ MESSAGES → sent ≡ take MESSAGES (sent ++ [])
asks_begin sent few = sym (ap (take MESSAGES) (append-nil sent) ∙ take_room MESSAGES sent few)

-- past the 64th message no Ask goes
pub ask_full : (going : Going) (asks : List Msg) → nat_le MESSAGES (length going.sent) ≡ true → length going.sent ≤ MESSAGES → going ≡ record { sent = take MESSAGES (going.sent ++ asks); begun = going.begun }
ask_full going asks full few =
    let sent : going.sent ≡ take MESSAGES (going.sent ++ asks) = sym (take_full MESSAGES going.sent asks (omega (arith, few, leb-true MESSAGES (length going.sent) full))) in
    (λ i. record { sent = sent i; begun = going.begun })

-- and before it that of the slot at a place
pub ask_there : (old : SwitchAt) (going : Going) (key : Key) (slot : Slot) (place : ℕ) → slice_get old.state.slots place ≡ Some (key, lapsed_slot old.latest slot) → nat_le MESSAGES (length going.sent) ≡ false →
    ◌≡◌ {A = Going} (record { sent = going.sent ++ repeated_ask old.state old.latest key slot.lease; begun = going.begun })
    (record { sent = take MESSAGES (going.sent ++ ask_of old.state old.latest (slice_get old.state.slots place)); begun = going.begun })
ask_there old going key slot place there room =
    let one : repeated_ask old.state old.latest key slot.lease ≡ ask_of old.state old.latest (slice_get old.state.slots place) =
    sym (ask_seen old.state old.latest key slot.lease) ∙ ap (ask_of old.state old.latest) (sym there) in
    let sent : going.sent ++ repeated_ask old.state old.latest key slot.lease ≡ take MESSAGES (going.sent ++ ask_of old.state old.latest (slice_get old.state.slots place)) =
    ap (λ ms. going.sent ++ ms) one
    ∙ sym (ask_fits old.state old.latest going.sent (slice_get old.state.slots place) (leb-false MESSAGES (length going.sent) room)) in
    (λ i. record { sent = sent i; begun = going.begun })

-- ---- the walk

-- past the 64th message nothing goes
pub walk_full : (w : Walk) (now : ℕ) (xs : List Key) → nat_lt (length w.sent) MESSAGES ≡ false → walked_slots w now xs ≡ w
walk_full w now [] h = refl
walk_full w now (x ∷ xs) h = ap (λ b. walked_slots (walked_more w now x b) now xs) h ∙ walk_full w now xs h

-- and before it one more slot
pub walk_one : (w : Walk) (now : ℕ) (x : Key) → nat_lt (length w.sent) MESSAGES ≡ true → walked_slots w now (x ∷ []) ≡ walked_key w now x (get w.state.slots x)
walk_one w now x h = ap (walked_more w now x) h

pub take_short : {A : Type 0} (n : ℕ) (xs : List A) → length (take n xs) ≤ n
take_short zero xs = omega arith
take_short (suc n) [] = omega arith
take_short (suc n) (x ∷ xs) = omega (arith, take_short n xs)

-- after some of the slots, others may follow
pub can_follow : (more rest : ℕ) (old s : SwitchAt) (going g : Going) (now : ℕ) (xs : List Key) → CanWalk more old → walk_of s g ≡ walked_slots (walk_of old going) now xs → length xs + rest ≤ more → CanWalk rest s
can_follow more rest old s going g now xs can e le = (
  can.0,
  can.1 + length xs,
  omega (arith, can.2, le),
  subst (λ (w : Walk). IsSteady can.0 (can.1 + length xs) w.state) (sym e) (walk_steady now can.0 xs can.1 (walk_of old going) can.3),
)

pub can_less : (more rest : ℕ) (s : SwitchAt) → CanWalk more s → rest ≤ more → CanWalk rest s
can_less more rest s can le = (can.0, can.1, omega (arith, can.2, le), can.3)

-- one more slot of a walk from a place on
pub walk_more : (w : Walk) (now from place : ℕ) (v u : Walk) → from ≤ place → v ≡ walked_slots w now (take (place - from) (drop from (keys w.state.slots))) → u ≡ walked_slots v now (take 1 (drop place (keys v.state.slots))) →
    u ≡ walked_slots w now (take (place + 1 - from) (drop from (keys w.state.slots)))
walk_more w now from place v u le h k =
    let ks : List Key = keys w.state.slots in
    let same : keys v.state.slots ≡ ks = ap (λ (x : Walk). keys x.state.slots) h ∙ walk_keys now (take (place - from) (drop from ks)) w in
    let there : drop (place - from) (drop from ks) ≡ drop place ks = drop_add from (place - from) ks ∙ ap (λ n. drop n ks) (omega (arith, le)) in
    let count : suc (place - from) ≡ place + 1 - from = omega (arith, le) in
    k ∙ ap (λ xs. walked_slots v now (take 1 (drop place xs))) same
    ∙ ap (λ x. walked_slots x now (take 1 (drop place ks))) h
    ∙ sym (walk_append now (take (place - from) (drop from ks)) (take 1 (drop place ks)) w)
    ∙ ap (λ xs. walked_slots w now (take (place - from) (drop from ks) ++ take 1 xs)) (sym there)
    ∙ ap (walked_slots w now) (sym (take_next (place - from) (drop from ks)))
    ∙ ap (λ n. walked_slots w now (take n (drop from ks))) count

-- both parts of a walk
pub walk_around : (w : Walk) (now start end : ℕ) (v u : Walk) (order : List Key) → start ≤ end → end ≡ length w.state.slots → order ≡ drop start (keys w.state.slots) ++ take start (keys w.state.slots) →
    v ≡ walked_slots w now (take (end - start) (drop start (keys w.state.slots))) → u ≡ walked_slots v now (take (start - 0) (drop 0 (keys v.state.slots))) →
    u ≡ walked_slots w now order
walk_around w now start end v u order le all is h k =
    let ks : List Key = keys w.state.slots in
    let same : keys v.state.slots ≡ ks = ap (λ (x : Walk). keys x.state.slots) h ∙ walk_keys now (take (end - start) (drop start ks)) w in
    let whole : take (end - start) (drop start ks) ≡ drop start ks = take_room (end - start) (drop start ks) (omega (arith, length-drop start ks, keys_length w.state.slots, all)) in
    k ∙ ap (λ n. walked_slots v now (take n (keys v.state.slots))) (omega arith)
    ∙ ap (λ xs. walked_slots v now (take start xs)) same
    ∙ ap (λ x. walked_slots x now (take start ks)) h
    ∙ ap (λ xs. walked_slots (walked_slots w now xs) now (take start ks)) whole
    ∙ sym (walk_append now (drop start ks) (take start ks) w)
    ∙ ap (walked_slots w now) (sym is)

-- the slot of a key that was taken out
pub kept_is : (old mid : SwitchAt) (g : Going) (key k : Key) (v slot : Slot) → k ≡ key → mid ≡ record { state = with_slot old.state k v; latest = old.latest } → slot_at old.state k ≡ Some slot →
    walked_slot (walk_of (record { state = with_slot mid.state k slot; latest = mid.latest }) g) mid.latest k slot slot.lease ≡ walked_key (walk_of old g) old.latest key (slot_at old.state key)
kept_is old mid g key k v slot same e at =
    ap (λ (m : SwitchAt). walked_slot (walk_of (record { state = with_slot m.state k slot; latest = m.latest }) g) m.latest k slot slot.lease) e
    ∙ ap (λ (s : Switch). walked_slot (walk_of (record { state = s; latest = old.latest }) g) old.latest k slot slot.lease) (put_back old.state k v slot at)
    ∙ ap (λ o. walked_key (walk_of old g) old.latest k o) (sym at)
    ∙ ap (λ j. walked_key (walk_of old g) old.latest j (slot_at old.state j)) same

-- and its last number
pub kept_last : (old mid : SwitchAt) (k : Key) (slot : Slot) → mid ≡ old → CanWalk 1 old → slot_at mid.state k ≡ Some slot → slot.last ≤ 2 ^ 62
kept_last old mid k slot e can at =
    let there : slot_at old.state k ≡ Some slot = ap (λ (m : SwitchAt). slot_at m.state k) (sym e) ∙ at in
    omega (arith, can.2, (steady_at can.0 can.1 old.state k slot can.3 there).last)

-- an answer that says the same of an equal walk
pub ok_same : {T E A : Type 0} (r : Result T E) (x a b : A) → a ≡ b → OnOk r (x ≡ a) → OnOk r (x ≡ b)
ok_same r x a b e h = subst (λ w. OnOk r (x ≡ w)) e h

-- the slots that a walk finds
pub can_few : (more : ℕ) (s : SwitchAt) → CanWalk more s → length s.state.slots ≤ 1024
can_few more s can = can.3.few

-- ---- the whole Alarm

-- once the copies went again
pub can_resent : (old mid : SwitchAt) (g0 g : Going) → CanWalk 1024 old → walk_of mid g ≡ copies_again old g0 → CanWalk 1024 mid
can_resent old mid g0 g can e = (
  can.0,
  can.1,
  can.2,
  subst (λ (w : Walk). IsSteady can.0 can.1 w.state) (sym e) (steady_resent can.0 can.1 old.latest (old.state.terms.t_switch / 4) MESSAGES old.state can.3),
)

-- what went in all
pub alarm_is : (old mid new : SwitchAt) (g0 g1 g2 g3 : Going) (did : SwitchDid) →
    g0 ≡ record { sent = []; begun = [] } → walk_of mid g1 ≡ copies_again old g0 → mid.latest ≡ old.latest →
    g2 ≡ record { sent = take MESSAGES (g1.sent ++ repeated_asks mid.state mid.latest mid.state.slots); begun = g1.begun } →
    walk_of new g3 ≡ walked_slots (walk_of mid g2) mid.latest (walk_order mid.state.walked (keys mid.state.slots)) → new.latest ≡ mid.latest →
    did ≡ record { sent = g3.sent; released = None; item = None; dropped = None; begun = g3.begun; lost = None } →
    ◌≡◌ {A = SwitchAt × SwitchDid} (new, did) (stepped old (alarm old.state old.latest))
alarm_is old mid new g0 g1 g2 g3 did e0 e1 l1 e2 e3 l3 is =
    let due : List Copy = due_copies old.latest (old.state.terms.t_switch / 4) MESSAGES old.state.copies in
    let others : List Copy = other_copies old.latest (old.state.terms.t_switch / 4) MESSAGES old.state.copies in
    let first : Walk = resent old.state old.latest due others in
    let state : mid.state ≡ first.state = ap (λ (w : Walk). w.state) e1 in
    let sent : g1.sent ≡ map (resent_put old.state) due = ap (λ (w : Walk). w.sent) e1 ∙ ap (λ (g : Going). g.sent ++ map (resent_put old.state) due) e0 in
    let begun : g1.begun ≡ [] = ap (λ (w : Walk). w.begun) e1 ∙ ap (λ (g : Going). g.begun) e0 in
    let asks : repeated_asks mid.state mid.latest mid.state.slots ≡ repeated_asks old.state old.latest old.state.slots =
    ap (λ (s : Switch). repeated_asks s mid.latest s.slots) state ∙ ap (λ n. repeated_asks first.state n old.state.slots) l1 ∙ asks_same old.state first.state.copies old.latest old.state.slots in
    let sent2 : g2.sent ≡ first.sent =
    ap (λ (g : Going). g.sent) e2 ∙ ap (λ ms. take MESSAGES (ms ++ repeated_asks mid.state mid.latest mid.state.slots)) sent
    ∙ ap (λ ms. take MESSAGES (map (resent_put old.state) due ++ ms)) asks in
    let begun2 : g2.begun ≡ [] = ap (λ (g : Going). g.begun) e2 ∙ begun in
    let both : walk_of mid g2 ≡ first = (λ i. record { state = state i; sent = sent2 i; begun = begun2 i }) in
    let last : walk_of new g3 ≡ walked_slots first old.latest (walk_order old.state.walked (keys old.state.slots)) =
    e3 ∙ ap (λ (w : Walk). walked_slots w mid.latest (walk_order mid.state.walked (keys mid.state.slots))) both
    ∙ ap (λ n. walked_slots first n (walk_order mid.state.walked (keys mid.state.slots))) l1
    ∙ ap (λ (s : Switch). walked_slots first old.latest (walk_order s.walked (keys s.slots))) state in
    let latest : new.latest ≡ old.latest = l3 ∙ l1 in
    ap (λ (d : SwitchDid). (new, d)) is
    ∙ (λ i. (record { state = (last i).state; latest = latest i }, record { sent = (last i).sent; released = None; item = None; dropped = None; begun = (last i).begun; lost = None }))

-- no more copies go than an Alarm sends messages
pub again_few : (old mid : SwitchAt) (g0 g : Going) → g0 ≡ record { sent = []; begun = [] } → walk_of mid g ≡ copies_again old g0 → length g.sent ≤ MESSAGES
again_few old mid g0 g e0 e =
    let due : List Copy = due_copies old.latest (old.state.terms.t_switch / 4) MESSAGES old.state.copies in
    let sent : g.sent ≡ map (resent_put old.state) due = ap (λ (w : Walk). w.sent) e ∙ ap (λ (h : Going). h.sent ++ map (resent_put old.state) due) e0 in
    subst (λ (ms : List Msg). length ms ≤ MESSAGES) (sym sent)
    (omega (arith, length_map (resent_put old.state) due, due_few old.latest (old.state.terms.t_switch / 4) MESSAGES old.state.copies))

-- a slot of the walk, before the 64th message
pub walk_there : (old : SwitchAt) (g : Going) (key : Key) (place : ℕ) → slice_get (keys old.state.slots) place ≡ Some key → nat_le MESSAGES (length g.sent) ≡ false →
    walked_key (walk_of old g) old.latest key (slot_at old.state key) ≡ walked_slots (walk_of old g) old.latest (take 1 (drop place (keys old.state.slots)))
walk_there old g key place there room =
    let left : nat_lt (length g.sent) MESSAGES ≡ true = le-leb (suc (length g.sent)) MESSAGES (omega (arith, leb-false MESSAGES (length g.sent) room)) in
    sym (ap (walked_slots (walk_of old g) old.latest) (key_there (keys old.state.slots) place key there) ∙ walk_one (walk_of old g) old.latest key left)
