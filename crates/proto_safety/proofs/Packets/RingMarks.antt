-- How often a mark stands in a ring, and in all the rings of a table of slots.
use Rattle.std.proofs.Common.{◌≡◌, ℕ, ◌+◌, ◌≤◌, [], ◌∷◌, ◌++◌, length, drop, Option, Some, None, refl, ap, true, false, Bool, arith}
use Rattle.std.specs.Prelude.{◌==◌, ◌||◌, if◌then◌else◌, nat_lt}
use Rattle.std.proofs.lemmas.Bool.{false≢true}
use Rattle.key_table.specs.Table.{Key, Table, same_key, get, put, map_values}
use Rattle.proto_model.specs.Ring.{Ring, holds, remembers, remember, forget}
use Rattle.proto_data.specs.declared.limits.TheConstants.{MARKS}
use Rattle.proto_model.specs.Slot.{Slot}

abbrev pub one : Bool → ℕ
one true = 1
one false = 0

-- the places of a ring that hold this mark
abbrev pub count_in : ℕ → Ring → ℕ
count_in m [] = 0
count_in m (place ∷ places) = one (holds m place) + count_in m places

count_append : (m : ℕ) (a b : Ring) → count_in m (a ++ b) ≡ count_in m a + count_in m b
count_append m [] b = omega arith
count_append m (x ∷ xs) b = omega (arith, count_append m xs b)

count_drop : (m : ℕ) (ring : Ring) → count_in m (drop 1 ring) ≤ count_in m ring
count_drop m [] = omega arith
count_drop m (x ∷ xs) = omega arith

-- a mark that comes adds itself alone
pub count_remember : (n m : ℕ) (ring : Ring) → count_in n (remember ring m) ≤ count_in n ring + one (m == n)
count_remember n m ring = room_case (nat_lt (length ring) MARKS)
  where
    room_case : (b : Bool) → count_in n (if b then ring ++ Some m ∷ [] else drop 1 ring ++ Some m ∷ []) ≤ count_in n ring + one (m == n)
    room_case true = omega (arith, count_append n ring (Some m ∷ []))
    room_case false = omega (arith, count_append n (drop 1 ring) (Some m ∷ []), count_drop n ring)

emptied_place : (n m : ℕ) (place : Option ℕ) → one (holds n (if holds m place then None else place)) ≤ one (holds n place)
emptied_place n m place = place_case (holds m place)
  where
    place_case : (b : Bool) → one (holds n (if b then None else place)) ≤ one (holds n place)
    place_case true = omega arith
    place_case false = omega arith

-- a mark that is forgotten leaves the others
pub count_forget : (n m : ℕ) (ring : Ring) → count_in n (forget ring m) ≤ count_in n ring
count_forget n m [] = omega arith
count_forget n m (x ∷ xs) = omega (arith, count_forget n m xs, emptied_place n m x)

emptied_same : (m : ℕ) (place : Option ℕ) (b : Bool) → holds m place ≡ b → one (holds m (if b then None else place)) ≡ 0
emptied_same m place true is = refl
emptied_same m place false is = ap one is

-- and stands nowhere
pub forgotten : (m : ℕ) (ring : Ring) → count_in m (forget ring m) ≡ 0
forgotten m [] = refl
forgotten m (x ∷ xs) = omega (arith, forgotten m xs, emptied_same m x (holds m x) refl)

pub remembered : (m : ℕ) (ring : Ring) → remembers ring m ≡ true → 1 ≤ count_in m ring
remembered m [] h = absurd (false≢true h)
remembered m (x ∷ xs) h = place_case (holds m x) h (remembered m xs)
  where
    place_case : (b : Bool) → (b || remembers xs m) ≡ true → (remembers xs m ≡ true → 1 ≤ count_in m xs) → 1 ≤ one b + count_in m xs
    place_case true h rest = omega arith
    place_case false h rest = omega (arith, rest h)

-- ---- tables

abbrev pub total : (Slot → ℕ) → Table Slot → ℕ
total f [] = 0
total f (e ∷ es) = f e.1 + total f es

-- what a slot had goes, what it has comes
pub total-put_some : (f : Slot → ℕ) (t : Table Slot) (k : Key) (old v : Slot) → get t k ≡ Some old → total f (put t k v) + f old ≡ total f t + f v
total-put_some f [] k old v at = absurd cc
total-put_some f (e ∷ es) k old v at = put_case (same_key e.0 k) at (total-put_some f es k old v)
  where
    put_case : (b : Bool) → (if b then Some e.1 else get es k) ≡ Some old → (get es k ≡ Some old → total f (put es k v) + f old ≡ total f es + f v) → total f (if b then (k, v) ∷ es else e ∷ put es k v) + f old ≡ f e.1 + total f es + f v
    put_case true is rest = let same : e.1 ≡ old = cc in let g : f e.1 ≡ f old = ap f same in omega arith
    put_case false is rest = omega (arith, rest is)

pub total-put_none : (f : Slot → ℕ) (t : Table Slot) (k : Key) (v : Slot) → get t k ≡ None → total f (put t k v) ≡ total f t + f v
total-put_none f [] k v at = omega arith
total-put_none f (e ∷ es) k v at = put_case (same_key e.0 k) at (total-put_none f es k v)
  where
    put_case : (b : Bool) → (if b then Some e.1 else get es k) ≡ None → (get es k ≡ None → total f (put es k v) ≡ total f es + f v) → total f (if b then (k, v) ∷ es else e ∷ put es k v) ≡ f e.1 + total f es + f v
    put_case true is rest = absurd cc
    put_case false is rest = omega (arith, rest is)

pub total-map : (f : Slot → ℕ) (g : Slot → Slot) (t : Table Slot) → ((v : Slot) → f (g v) ≡ f v) → total f (map_values g t) ≡ total f t
total-map f g [] same = refl
total-map f g (e ∷ es) same = omega (arith, same e.1, total-map f g es same)
