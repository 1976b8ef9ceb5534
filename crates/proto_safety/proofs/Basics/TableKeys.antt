-- The keys of a table differ, so that each of its members is what a look-up of its key gives.
use Rattle.std.proofs.Common.{◌≡◌, ◌≢◌, [], ◌∷◌, Some, refl, sym, ◌∙◌, ap, subst, true, false, Bool, inl, inr}
use Rattle.std.specs.Prelude.{if◌then◌else◌}
use Rattle.std.proofs.lemmas.Bool.{both_ways}
use Rattle.key_table.specs.Table.{Key, Table, same_key, get, put, map_values}
use Rattle.proto_model.specs.Feeds.{Each, Pairwise}
use Rattle.proto_safety.specs.Books.{In}
use Rattle.key_table.proofs.Tables.{same_key-true, same_key-refl}

abbrev OtherKey : {V : Type 0} → Key × V → Key × V → Type 0
OtherKey a b = a.0 ≢ b.0

abbrev pub KeysDiffer : {V : Type 0} → Table V → Type 0
KeysDiffer t = Pairwise (λ a b. a.0 ≢ b.0) t

-- a key that isn't there isn't there after another one is put
put_others : {V : Type 0} (j : Key) (t : Table V) (k : Key) (v : V) → j ≢ k → Each (λ (b : Key × V). j ≢ b.0) t → Each (λ (b : Key × V). j ≢ b.0) (put t k v)
put_others j [] k v ne h = (ne, tt)
put_others {V = V} j (e ∷ es) k v ne h = put_case (same_key e.0 k) (put_others j es k v ne h.1)
  where
    put_case : (b : Bool) → Each (λ (b : Key × V). j ≢ b.0) (put es k v) → Each (λ (b : Key × V). j ≢ b.0) (if b then (k, v) ∷ es else e ∷ put es k v)
    put_case true rest = (ne, h.1)
    put_case false rest = (h.0, rest)

pub differ_put : {V : Type 0} (t : Table V) (k : Key) (v : V) → KeysDiffer t → KeysDiffer (put t k v)
differ_put [] k v h = (tt, tt)
differ_put {V = V} (e ∷ es) k v h = put_case (same_key e.0 k) refl (differ_put es k v h.1)
  where
    put_case : (b : Bool) → same_key e.0 k ≡ b → KeysDiffer (put es k v) → KeysDiffer (if b then (k, v) ∷ es else e ∷ put es k v)
    put_case true is rest = let same : e.0 ≡ k = same_key-true e.0 k is in (subst (λ j. Each (λ (b : Key × V). j ≢ b.0) es) same h.0, h.1)
    put_case false is rest = (put_others e.0 es k v (λ q. both_ways _ is (rw q (same_key-refl k))) h.0, rest)

map_others : {V : Type 0} (f : V → V) (j : Key) (t : Table V) → Each (λ (b : Key × V). j ≢ b.0) t → Each (λ (b : Key × V). j ≢ b.0) (map_values f t)
map_others f j [] h = tt
map_others f j (e ∷ es) h = (h.0, map_others f j es h.1)

pub differ_map : {V : Type 0} (f : V → V) (t : Table V) → KeysDiffer t → KeysDiffer (map_values f t)
differ_map f [] h = tt
differ_map f (e ∷ es) h = (map_others f e.0 es h.0, differ_map f es h.1)

other_in : {V : Type 0} (j : Key) (t : Table V) (e : Key × V) → Each (λ (b : Key × V). j ≢ b.0) t → In t e → j ≢ e.0
other_in j [] e h i = absurd i
other_in j (x ∷ xs) e h (inl same) = λ q. h.0 (q ∙ sym (ap (λ y. y.0) same))
other_in j (x ∷ xs) e h (inr i) = other_in j xs e h.1 i

-- a member is what its key has
pub member_found : {V : Type 0} (t : Table V) (e : Key × V) → KeysDiffer t → In t e → get t e.0 ≡ Some e.1
member_found [] e h i = absurd i
member_found (x ∷ xs) e h (inl same) = rw same (rw (same_key-refl e.0) refl)
member_found (x ∷ xs) e h (inr i) = find_case (same_key x.0 e.0) refl (member_found xs e h.1 i)
  where
    find_case : (b : Bool) → same_key x.0 e.0 ≡ b → get xs e.0 ≡ Some e.1 → (if b then Some x.1 else get xs e.0) ≡ Some e.1
    find_case true is rest = absurd (other_in x.0 xs e h.0 i (same_key-true x.0 e.0 is))
    find_case false is rest = rest
