-- The walk of an Alarm, slot by slot.
use Rattle.std.proofs.Common.{◌≡◌, ◌≤◌, ℕ, zero, suc, ◌+◌, List, [], ◌∷◌, ◌++◌, length, take, drop, Option, Some, None, Bool, true, false, refl, ap, sym, ◌∙◌, subst, arith, add-one}
use Rattle.std.proofs.lemmas.List.{append-nil}
use Rattle.std.specs.Prelude.{if◌then◌else◌, nat_lt, nat_le, is_some, not, ◌&&◌, ◌||◌}
use Rattle.key_table.specs.Table.{Key, Table, get, put, keys, same_key}
use Rattle.key_table.proofs.Tables.{same_key-true}
use Rattle.proto_data.specs.declared.limits.TheConstants.{COPIES, MESSAGES}
use Rattle.proto_data.specs.declared.terms.Mode.{Mode}
use Rattle.proto_model.specs.Slot.{Slot, Lease, Round, Idle, Asking, Held, Lapsed, lapsed_lease}
use Rattle.proto_model.specs.SwitchState.{Switch, Copy, slot_at, has_copies}
use Rattle.proto_model.specs.SwitchAlarm.{Walk, ends_soon, snap_slot, held_slot, walked_slot, walked_key, walked_more, walked_slots, keys_behind, keys_to, repeated_ask, repeated_asks, walk_order, is_due, due_copies}
use Rattle.switch_flows.specs.Places.{IsPlaceOf}
use Rattle.switch_core.specs.Steady.{IsSteady}
use Rattle.switch_core.proofs.Steady.{steady_later}
use Rattle.switch_core.proofs.SteadyAlarm.{steady_walked}

-- ---- keys of a table

-- a key that stands there keeps its place
pub keys_put : (t : Table Slot) (key : Key) (old new : Slot) → get t key ≡ Some old → keys (put t key new) ≡ keys t
keys_put [] key old new at = absurd (cc)
keys_put (e ∷ es) key old new at = put_case (same_key e.0 key) refl at (keys_put es key old new)
  where
    put_case : (b : Bool) → same_key e.0 key ≡ b → (if b then Some e.1 else get es key) ≡ Some old → (get es key ≡ Some old → keys (put es key new) ≡ keys es) →
        keys (if b then (key, new) ∷ es else e ∷ put es key new) ≡ e.0 ∷ keys es
    put_case true is at more = ap (λ k. k ∷ keys es) (sym (same_key-true e.0 key is))
    put_case false is at more = ap (λ ks. e.0 ∷ ks) (more at)

-- the keys behind one and up to it, by its place
pub behind_place : {V : Type 0} (t : Table V) (key : Key) (i : ℕ) → IsPlaceOf t key i → keys_behind key (keys t) ≡ drop (suc i) (keys t)
behind_place [] key i h = absurd h
behind_place (e ∷ es) key zero h = rw h refl
behind_place (e ∷ es) key (suc i) h = rw h.0 (behind_place es key i h.1)

pub to_place : {V : Type 0} (t : Table V) (key : Key) (i : ℕ) → IsPlaceOf t key i → keys_to key (keys t) ≡ take (suc i) (keys t)
to_place [] key i h = absurd h
to_place (e ∷ es) key zero h = rw h refl
to_place (e ∷ es) key (suc i) h = rw h.0 (ap (λ ks. e.0 ∷ ks) (to_place es key i h.1))

pub place_within : {V : Type 0} (t : Table V) (key : Key) (i : ℕ) → IsPlaceOf t key i → suc i ≤ length t
place_within [] key i h = absurd h
place_within (e ∷ es) key zero h = omega arith
place_within (e ∷ es) key (suc i) h = omega (arith, place_within es key i h.1)

-- a key that isn't there
pub behind_none : {V : Type 0} (t : Table V) (key : Key) → get t key ≡ None → keys_behind key (keys t) ≡ []
behind_none [] key h = refl
behind_none (e ∷ es) key h = none_case (same_key e.0 key) h (behind_none es key)
  where
    none_case : (b : Bool) → (if b then Some e.1 else get es key) ≡ None → (get es key ≡ None → keys_behind key (keys es) ≡ []) → (if b then keys es else keys_behind key (keys es)) ≡ []
    none_case true h more = absurd (cc)
    none_case false h more = more h

pub to_none : {V : Type 0} (t : Table V) (key : Key) → get t key ≡ None → keys_to key (keys t) ≡ keys t
to_none [] key h = refl
to_none (e ∷ es) key h = none_case (same_key e.0 key) h (to_none es key)
  where
    none_case : (b : Bool) → (if b then Some e.1 else get es key) ≡ None → (get es key ≡ None → keys_to key (keys es) ≡ keys es) → (if b then e.0 ∷ [] else e.0 ∷ keys_to key (keys es)) ≡ e.0 ∷ keys es
    none_case true h more = absurd (cc)
    none_case false h more = ap (λ ks. e.0 ∷ ks) (more h)

-- the order of a walk that begins behind a place
pub order_behind : {V : Type 0} (t : Table V) (key : Key) (i : ℕ) → IsPlaceOf t key i → walk_order (Some key) (keys t) ≡ drop (suc i) (keys t) ++ take (suc i) (keys t)
order_behind t key i h = ap (λ ks. ks ++ keys_to key (keys t)) (behind_place t key i h) ∙ ap (λ ks. drop (suc i) (keys t) ++ ks) (to_place t key i h)

pub order_none : {V : Type 0} (t : Table V) (key : Key) → get t key ≡ None → walk_order (Some key) (keys t) ≡ keys t
order_none t key h = ap (λ ks. ks ++ keys_to key (keys t)) (behind_none t key h) ∙ to_none t key h

-- the same with a count of places
pub order_at : {V : Type 0} (t : Table V) (o : Option Key) (key k : Key) (i : ℕ) → o ≡ Some key → k ≡ key → IsPlaceOf t k i → walk_order o (keys t) ≡ drop (i + 1) (keys t) ++ take (i + 1) (keys t)
order_at t o key k i is same h =
    ap (λ x. walk_order x (keys t)) is ∙ ap (λ x. walk_order (Some x) (keys t)) (sym same) ∙ order_behind t k i h
    ∙ ap (λ n. drop n (keys t) ++ take n (keys t)) (sym (add-one i))

pub order_absent : {V : Type 0} (t : Table V) (o : Option Key) (key : Key) → o ≡ Some key → get t key ≡ None → walk_order o (keys t) ≡ drop 0 (keys t) ++ take 0 (keys t)
order_absent t o key is h = ap (λ x. walk_order x (keys t)) is ∙ order_none t key h ∙ sym (append-nil (keys t))

pub order_first : {V : Type 0} (t : Table V) (o : Option Key) → o ≡ None → walk_order o (keys t) ≡ drop 0 (keys t) ++ take 0 (keys t)
order_first t o is = ap (λ x. walk_order x (keys t)) is ∙ sym (append-nil (keys t))

-- ---- a walk keeps the keys in their places

module _ (now : ℕ) where
  abbrev SameKeys : Walk → Walk → Type 0
  SameKeys w x = keys x.state.slots ≡ keys w.state.slots

  either_keys : (b : Bool) (w x y : Walk) → SameKeys w x → SameKeys w y → SameKeys w (if b then x else y)
  either_keys true w x y h k = h
  either_keys false w x y h k = k

  held_keys : (m : Mode) (w : Walk) (key : Key) (slot : Slot) (epoch expiry : ℕ) (o : Option Round) → slot.round ≡ o → slot_at w.state key ≡ Some slot → SameKeys w (held_slot m w now key slot epoch expiry)
  held_keys Mode.Strict w key slot epoch expiry o is at =
      either_keys (nat_lt (length w.state.copies) COPIES && (not (has_copies w.state key) && ends_soon w.state now slot expiry)) w _ w (keys_put w.state.slots key slot _ at) refl
  held_keys (Mode.Snapshot bound) w key slot epoch expiry None is at =
      subst (λ r. SameKeys w (snap_slot w now key slot epoch expiry r)) (sym is)
      (either_keys (is_some slot.ages.pre || ends_soon w.state now slot expiry) w _ w (keys_put w.state.slots key slot _ at) refl)
  held_keys (Mode.Snapshot bound) w key slot epoch expiry (Some r) is at =
      subst (λ r. SameKeys w (snap_slot w now key slot epoch expiry r)) (sym is) (keys_put w.state.slots key slot _ at)

  slot_keys : (w : Walk) (key : Key) (slot : Slot) (lease : Lease) → slot_at w.state key ≡ Some slot → SameKeys w (walked_slot w now key slot lease)
  slot_keys w key slot Idle at = refl
  slot_keys w key slot (Asking nonce first) at = refl
  slot_keys w key slot (Held nonce epoch expiry) at = held_keys w.state.terms.mode w key slot epoch expiry slot.round refl at
  slot_keys w key slot (Lapsed nonce epoch expiry) at = refl

  pub key_keys : (w : Walk) (key : Key) (o : Option Slot) → slot_at w.state key ≡ o → SameKeys w (walked_key w now key o)
  key_keys w key None at = refl
  key_keys w key (Some slot) at = slot_keys w key slot slot.lease at

  pub more_keys : (w : Walk) (key : Key) (b : Bool) → SameKeys w (walked_more w now key b)
  more_keys w key true = key_keys w key (slot_at w.state key) refl
  more_keys w key false = refl

  -- ---- walks one after the other

  pub walk_append : (xs ys : List Key) (w : Walk) → walked_slots w now (xs ++ ys) ≡ walked_slots (walked_slots w now xs) now ys
  walk_append [] ys w = refl
  walk_append (x ∷ xs) ys w = walk_append xs ys (walked_more w now x (nat_lt (length w.sent) MESSAGES))

  pub walk_keys : (xs : List Key) (w : Walk) → SameKeys w (walked_slots w now xs)
  walk_keys [] w = refl
  walk_keys (x ∷ xs) w = walk_keys xs (walked_more w now x (nat_lt (length w.sent) MESSAGES)) ∙ more_keys w x (nat_lt (length w.sent) MESSAGES)

  pub walk_steady : (count : ℕ) (xs : List Key) (n : ℕ) (w : Walk) → IsSteady count n w.state → IsSteady count (n + length xs) (walked_slots w now xs).state
  walk_steady count [] n w h = steady_later count n (n + 0) w.state (omega arith) h
  walk_steady count (x ∷ xs) n w h =
      let next : Walk = walked_more w now x (nat_lt (length w.sent) MESSAGES) in
      steady_later count (n + 1 + length xs) (n + length (x ∷ xs)) (walked_slots next now xs).state (omega arith)
      (walk_steady count xs (n + 1) next (steady_walked count n now w x (nat_lt (length w.sent) MESSAGES) h))

-- ---- Asks that go again

-- copies don't count
pub asks_same : (s : Switch) (copies : List Copy) (now : ℕ) (es : Table Slot) → repeated_asks (record s { copies = copies }) now es ≡ repeated_asks s now es
asks_same s copies now [] = refl
asks_same s copies now (e ∷ es) = ap (λ ms. ms ++ repeated_asks (record s { copies = copies }) now es) (ask_same e.1.lease) ∙ ap (λ ms. repeated_ask s now e.0 e.1.lease ++ ms) (asks_same s copies now es)
  where
    ask_same : (lease : Lease) → repeated_ask (record s { copies = copies }) now e.0 lease ≡ repeated_ask s now e.0 lease
    ask_same Idle = refl
    ask_same (Asking nonce first) = refl
    ask_same (Held nonce epoch expiry) = refl
    ask_same (Lapsed nonce epoch expiry) = refl

-- a lease asks the same once it is seen at a moment
pub ask_seen : (s : Switch) (now : ℕ) (key : Key) (lease : Lease) → repeated_ask s now key (lapsed_lease now lease) ≡ repeated_ask s now key lease
ask_seen s now key Idle = refl
ask_seen s now key (Asking nonce first) = refl
ask_seen s now key (Held nonce epoch expiry) = lapse_case (nat_le expiry now)
  where
    lapse_case : (b : Bool) → repeated_ask s now key (if b then Lapsed nonce epoch expiry else Held nonce epoch expiry) ≡ []
    lapse_case true = refl
    lapse_case false = refl
ask_seen s now key (Lapsed nonce epoch expiry) = refl

-- at most so many copies go
pub due_few : (now age room : ℕ) (cs : List Copy) → length (due_copies now age room cs) ≤ room
due_few now age room [] = omega arith
due_few now age zero (c ∷ cs) = omega arith
due_few now age (suc room) (c ∷ cs) = due_case (is_due now age c) (due_few now age room cs) (due_few now age (suc room) cs)
  where
    due_case : (b : Bool) → length (due_copies now age room cs) ≤ room → length (due_copies now age (suc room) cs) ≤ suc room →
        length (if b then c ∷ due_copies now age room cs else due_copies now age (suc room) cs) ≤ suc room
    due_case true h k = omega (arith, h)
    due_case false h k = k
