-- Rows by the places of their keys, and how they are seen at a moment.
use Rattle.std.proofs.Common.{◌≡◌, ℕ, zero, suc, ◌+◌, ◌<◌, ◌≤◌, Bool, true, false, List, [], ◌∷◌, ◌++◌, length, Option, Some, None, refl, sym, ap, ◌∙◌, subst, arith, position, slice_get, get_or}
use Rattle.std.specs.Prelude.{not, nat_le, if◌then◌else◌, option_map}
use Rattle.std.specs.List.{AllByRecursion, position_or_len}
use Rattle.std.specs.Map.{keys_of, values_of}
use Rattle.std.proofs.lemmas.Option.{get_or_from_slice_get}
use Rattle.indexmap.specs.IndexMap.{set_value_at}
use Rattle.indexmap.proofs.MapLemmas.{Found-position}
use Rattle.key_table.specs.Table.{Key, Table, same_key, get, put, keys, map_values}
use Rattle.key_table.proofs.Tables.{same_key-refl, same_key-true, get-map_values}
use Rattle.key_table.proofs.KeyMaps.{key_eq, key_eq-same}
use Rattle.proto_model.specs.Slot.{Slot, Lease, Idle, Asking, Held, Lapsed, lapsed_lease, lapsed_slot, epoch_of}
use Rattle.switch_slot.specs.Leases.{IsSeenAt}
use Rattle.switch_flows.specs.Places.{IsPlaceOf, IsAt, Distinct}

-- ---- places

pub at_of_place : {V : Type 0} (t : Table V) (k : Key) (i : ℕ) → IsPlaceOf t k i → IsAt (keys t) k i
at_of_place [] k i h = h
at_of_place (e ∷ es) k zero h = h
at_of_place (e ∷ es) k (suc i) h = (h.0, at_of_place es k i h.1)

pub place_of_at : {V : Type 0} (t : Table V) (k : Key) (i : ℕ) → IsAt (keys t) k i → IsPlaceOf t k i
place_of_at [] k i h = h
place_of_at (e ∷ es) k zero h = h
place_of_at (e ∷ es) k (suc i) h = (h.0, place_of_at es k i h.1)

pub keys_mapped : {V : Type 0} (f : V → V) (t : Table V) → keys (map_values f t) ≡ keys t
keys_mapped f [] = refl
keys_mapped f (e ∷ es) = ap (λ ks. e.0 ∷ ks) (keys_mapped f es)

-- a place is the same with other values
pub place_mapped : {V : Type 0} (f : V → V) (t : Table V) (k : Key) (i : ℕ) → IsPlaceOf t k i → IsPlaceOf (map_values f t) k i
place_mapped f [] k i h = h
place_mapped f (e ∷ es) k zero h = h
place_mapped f (e ∷ es) k (suc i) h = (h.0, place_mapped f es k i h.1)

pub place_before : {V : Type 0} (f : V → V) (t : Table V) (k : Key) (i : ℕ) → IsPlaceOf (map_values f t) k i → IsPlaceOf t k i
place_before f [] k i h = h
place_before f (e ∷ es) k zero h = h
place_before f (e ∷ es) k (suc i) h = (h.0, place_before f es k i h.1)

pub within : {V : Type 0} (t : Table V) (k : Key) (i : ℕ) → IsPlaceOf t k i → i < length t
within [] k i h = absurd h
within (e ∷ es) k zero h = omega arith
within (e ∷ es) k (suc i) h = omega (arith, within es k i h.1)

pub length_keys : {V : Type 0} (t : Table V) → length (keys t) ≡ length t
length_keys [] = refl
length_keys (e ∷ es) = ap suc (length_keys es)

pub length_mapped : {V : Type 0} (f : V → V) (t : Table V) → length (map_values f t) ≡ length t
length_mapped f [] = refl
length_mapped f (e ∷ es) = ap suc (length_mapped f es)

-- the place that a search gives
place_of_len : {V : Type 0} (t : Table V) (k : Key) (i : ℕ) → position_or_len (key_eq k) (keys_of t) ≡ i → i < length t → IsPlaceOf t k i
place_of_len [] k i at lt = absurd (omega (arith, lt))
place_of_len (e ∷ es) k i at lt = test_case (key_eq k e.0) refl i at lt (λ j. place_of_len es k j)
  where
    test_case : (b : Bool) → key_eq k e.0 ≡ b → (i : ℕ) → (if not b then 1 + position_or_len (key_eq k) (keys_of es) else 0) ≡ i → i < suc (length es) →
        ((j : ℕ) → position_or_len (key_eq k) (keys_of es) ≡ j → j < length es → IsPlaceOf es k j) → IsPlaceOf (e ∷ es) k i
    test_case true is zero at lt rest = sym (key_eq-same k e.0) ∙ is
    test_case true is (suc i) at lt rest = absurd (omega (arith, at))
    test_case false is zero at lt rest = absurd (omega (arith, at))
    test_case false is (suc i) at lt rest = (sym (key_eq-same k e.0) ∙ is, rest i (omega (arith, at)) (omega (arith, lt)))

pub place_found : {V : Type 0} (t : Table V) (k : Key) (i : ℕ) → position (key_eq k) (keys_of t) ≡ Some i → IsPlaceOf t k i
place_found t k i at = let found = Found-position (key_eq k) t i at in place_of_len t k i found.or_len found.within

-- ---- what stands at a place

got : {V : Type 0} (t : Table V) (k : Key) (i : ℕ) (v : V) → IsPlaceOf t k i → get_or (values_of t) i v ≡ v → get t k ≡ Some v
got [] k i v h at = absurd h
got (e ∷ es) k zero v h at = let test : same_key e.0 k ≡ true = h in rw test (ap Some at)
got (e ∷ es) k (suc i) v h at = let test : same_key e.0 k ≡ false = h.0 in rw test (got es k i v h.1 at)

pub get_at : {V : Type 0} (t : Table V) (k : Key) (i : ℕ) (v : V) → IsPlaceOf t k i → slice_get (values_of t) i ≡ Some v → get t k ≡ Some v
get_at t k i v h at = got t k i v h (get_or_from_slice_get (values_of t) i v v at)

pub set_at : {V : Type 0} (t : Table V) (k : Key) (i : ℕ) (w : V) → IsPlaceOf t k i → set_value_at t i w ≡ put t k w
set_at [] k i w h = absurd h
set_at (e ∷ es) k zero w h = let test : same_key e.0 k ≡ true = h in rw test (ap (λ j. (j, w) ∷ es) (same_key-true e.0 k h))
set_at (e ∷ es) k (suc i) w h = let test : same_key e.0 k ≡ false = h.0 in rw test (ap (λ t. e ∷ t) (set_at es k i w h.1))

pub keys_put : {V : Type 0} (t : Table V) (k : Key) (i : ℕ) (w : V) → IsPlaceOf t k i → keys (put t k w) ≡ keys t
keys_put [] k i w h = absurd h
keys_put (e ∷ es) k zero w h = let test : same_key e.0 k ≡ true = h in rw test (ap (λ j. j ∷ keys es) (sym (same_key-true e.0 k h)))
keys_put (e ∷ es) k (suc i) w h = let test : same_key e.0 k ≡ false = h.0 in rw test (ap (λ ks. e.0 ∷ ks) (keys_put es k i w h.1))

pub place_put : {V : Type 0} (t : Table V) (k : Key) (i : ℕ) (w : V) → IsPlaceOf t k i → IsPlaceOf (put t k w) k i
place_put t k i w h = place_of_at (put t k w) k i (subst (λ ks. IsAt ks k i) (sym (keys_put t k i w h)) (at_of_place t k i h))

pub map_put : {V : Type 0} (f : V → V) (t : Table V) (k : Key) (w : V) → map_values f (put t k w) ≡ put (map_values f t) k (f w)
map_put f [] k w = refl
map_put f (e ∷ es) k w = test_case (same_key e.0 k) (map_put f es k w)
  where
    test_case : (b : Bool) → map_values f (put es k w) ≡ put (map_values f es) k (f w) →
        map_values f (if b then (k, w) ∷ es else e ∷ put es k w) ≡ (if b then (k, f w) ∷ map_values f es else (e.0, f e.1) ∷ put (map_values f es) k (f w))
    test_case true rest = refl
    test_case false rest = ap (λ t. (e.0, f e.1) ∷ t) rest

-- ---- a key that has no place

none_mapped : {V : Type 0} (f : V → V) (o : Option V) → option_map f o ≡ None → o ≡ None
none_mapped f None e = refl
none_mapped f (Some v) e = absurd cc

pub none_before : {V : Type 0} (f : V → V) (t : Table V) (k : Key) → get (map_values f t) k ≡ None → get t k ≡ None
none_before f t k e = none_mapped f (get t k) (sym (get-map_values f t k) ∙ e)

pub put_new : {V : Type 0} (t : Table V) (k : Key) (w : V) → get t k ≡ None → put t k w ≡ t ++ (k, w) ∷ []
put_new [] k w none = refl
put_new (e ∷ es) k w none = test_case (same_key e.0 k) none (put_new es k w)
  where
    test_case : (b : Bool) → (if b then Some e.1 else get es k) ≡ None → (get es k ≡ None → put es k w ≡ es ++ (k, w) ∷ []) → (if b then (k, w) ∷ es else e ∷ put es k w) ≡ e ∷ es ++ (k, w) ∷ []
    test_case true none rest = absurd cc
    test_case false none rest = ap (λ t. e ∷ t) (rest none)

keys_last : {V : Type 0} (t : Table V) (k : Key) (w : V) → keys (t ++ (k, w) ∷ []) ≡ keys t ++ k ∷ []
keys_last [] k w = refl
keys_last (e ∷ es) k w = ap (λ ks. e.0 ∷ ks) (keys_last es k w)

pub keys_new : {V : Type 0} (t : Table V) (k : Key) (w : V) → get t k ≡ None → keys (put t k w) ≡ keys t ++ k ∷ []
keys_new t k w none = ap keys (put_new t k w none) ∙ keys_last t k w

pub none_same : {V : Type 0} (t : Table V) (k : Key) → get t k ≡ None → AllByRecursion (λ j. same_key j k ≡ false) (keys t)
none_same [] k none = tt
none_same (e ∷ es) k none = test_case (same_key e.0 k) refl none (none_same es k)
  where
    test_case : (b : Bool) → same_key e.0 k ≡ b → (if b then Some e.1 else get es k) ≡ None → (get es k ≡ None → AllByRecursion (λ j. same_key j k ≡ false) (keys es)) →
        (same_key e.0 k ≡ false) × AllByRecursion (λ j. same_key j k ≡ false) (keys es)
    test_case true is none rest = absurd cc
    test_case false is none rest = (is, rest none)

pub place_new : {V : Type 0} (t : Table V) (k : Key) (w : V) → get t k ≡ None → IsPlaceOf (put t k w) k (length t)
place_new [] k w none = same_key-refl k
place_new (e ∷ es) k w none = test_case (same_key e.0 k) refl none (place_new es k w)
  where
    test_case : (b : Bool) → same_key e.0 k ≡ b → (if b then Some e.1 else get es k) ≡ None → (get es k ≡ None → IsPlaceOf (put es k w) k (length es)) →
        IsPlaceOf (if b then (k, w) ∷ es else e ∷ put es k w) k (suc (length es))
    test_case true is none rest = absurd cc
    test_case false is none rest = (is, rest none)

distinct_last : (ks : List Key) (k : Key) → Distinct ks → AllByRecursion (λ j. same_key j k ≡ false) ks → Distinct (ks ++ k ∷ [])
distinct_last [] k d h = (tt, tt)
distinct_last (j ∷ js) k d h = (each_last js d.0, distinct_last js k d.1 h.1)
  where
    each_last : (is : List Key) → AllByRecursion (λ i. same_key j i ≡ false) is → AllByRecursion (λ i. same_key j i ≡ false) (is ++ k ∷ [])
    each_last [] g = (h.0, tt)
    each_last (i ∷ is) g = (g.0, each_last is g.1)

pub distinct_new : {V : Type 0} (t : Table V) (k : Key) → Distinct (keys t) → get t k ≡ None → Distinct (keys t ++ k ∷ [])
distinct_new t k d none = distinct_last (keys t) k d (none_same t k none)

-- ---- seen at a moment

above : (a b : ℕ) → a < b → nat_le b a ≡ false
above a b lt = grind (arith)

lapsed_later : (was now : ℕ) (lease : Lease) → was ≤ now → lapsed_lease now (lapsed_lease was lease) ≡ lapsed_lease now lease
lapsed_later was now Idle le = refl
lapsed_later was now (Asking nonce first) le = refl
lapsed_later was now (Lapsed nonce epoch expiry) le = refl
lapsed_later was now (Held nonce epoch expiry) le = test_case (nat_le expiry was) refl
  where
    over : nat_le expiry was ≡ true → nat_le expiry now ≡ true
    over is = grind (arith)

    test_case : (b : Bool) → nat_le expiry was ≡ b → lapsed_lease now (if b then Lapsed nonce epoch expiry else Held nonce epoch expiry) ≡ (if nat_le expiry now then Lapsed nonce epoch expiry else Held nonce epoch expiry)
    test_case true is = let later : nat_le expiry now ≡ true = over is in rw later refl
    test_case false is = refl

pub seen_later : (was now : ℕ) (t : Table Slot) → was ≤ now → map_values (lapsed_slot now) (map_values (lapsed_slot was) t) ≡ map_values (lapsed_slot now) t
seen_later was now [] le = refl
seen_later was now (e ∷ es) le =
    λ i. (e.0, record e.1 { lease = lapsed_later was now e.1.lease le i }) ∷ seen_later was now es le i

lapsed_seen : (now : ℕ) (lease : Lease) → IsSeenAt now lease → lapsed_lease now lease ≡ lease
lapsed_seen now Idle h = refl
lapsed_seen now (Asking nonce first) h = refl
lapsed_seen now (Lapsed nonce epoch expiry) h = refl
lapsed_seen now (Held nonce epoch expiry) h = let lasts : nat_le expiry now ≡ false = above now expiry h in rw lasts refl

-- a slot that is seen at a moment is as it is seen then
pub slot_seen : (now : ℕ) (slot : Slot) → IsSeenAt now slot.lease → lapsed_slot now slot ≡ slot
slot_seen now slot h = λ i. record slot { lease = lapsed_seen now slot.lease h i }

pub epoch_seen : (now : ℕ) (lease : Lease) → epoch_of (lapsed_lease now lease) ≡ epoch_of lease
epoch_seen now Idle = refl
epoch_seen now (Asking nonce first) = refl
epoch_seen now (Lapsed nonce epoch expiry) = refl
epoch_seen now (Held nonce epoch expiry) = test_case (nat_le expiry now)
  where
    test_case : (b : Bool) → epoch_of (if b then Lapsed nonce epoch expiry else Held nonce epoch expiry) ≡ Some epoch
    test_case true = refl
    test_case false = refl
