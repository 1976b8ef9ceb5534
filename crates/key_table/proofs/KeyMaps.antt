-- What an `IndexMap` by `Key` does to its entries, in the words of the tables.
use Rattle.std.proofs.Common.{◌≡◌, ℕ, ◌-◌, Bool, true, false, [], ◌∷◌, ◌++◌, List, Some, refl, ap, sym, ◌∙◌, length, take, replicate, eqb, eqb-true, eq-eqb}
use Rattle.std.specs.Prelude.{if◌then◌else◌, ◌&&◌}
use Rattle.std.specs.Str.{bytes_eq}
use Rattle.std.specs.Map.{lookup, set_value}
use Rattle.std.proofs.Math.Seq.{take-append_seam}
use Rattle.std.proofs.lemmas.Bool.{and_parts, and_from, false≢true}
use Rattle.indexmap.specs.IndexMap.{insert_entry}
use Rattle.key_table.specs.Table.{Key, Table, same_key, get, put}
use Rattle.key_table.proofs.Tables.{same_key-refl, same_key-true}

-- the bytes of a key in its 16 places
abbrev filled : Key → List ℕ
filled k = k ++ replicate (16 - length k) 0

-- how `==` compares two keys
abbrev pub key_eq : Key → Key → Bool
key_eq j k = eqb (length j) (length k) && bytes_eq (filled j) (filled k)

same_from_eq : (j k : Key) → key_eq j k ≡ true → j ≡ k
same_from_eq j k h =
    let size : length j ≡ length k = eqb-true _ _ (and_parts _ _ h).0 in
    let whole : filled j ≡ filled k = same_key-true (filled j) (filled k) (and_parts _ _ h).1 in
    sym (take-append_seam j _) ∙ ap (λ n. take n (filled j)) size ∙ ap (λ b. take (length k) b) whole ∙ take-append_seam k _

eq_from_same : (j k : Key) → j ≡ k → key_eq j k ≡ true
eq_from_same j k e = rw e (and_from _ _ (eq-eqb (length k) (length k) refl) (same_key-refl (filled k)))

-- `==` on keys is equality of their bytes
pub key_eq-same : (j k : Key) → key_eq j k ≡ same_key k j
key_eq-same j k = eq_case j k (key_eq j k) (same_key k j) refl refl
  where
    eq_case : (j k : Key) (a b : Bool) → key_eq j k ≡ a → same_key k j ≡ b → a ≡ b
    eq_case j k true true p q = refl
    eq_case j k false false p q = refl
    eq_case j k true false p q = let e : j ≡ k = same_from_eq j k p in absurd (false≢true (sym q ∙ ap (λ x. same_key x j) (sym e) ∙ same_key-refl j))
    eq_case j k false true p q = let e : k ≡ j = same_key-true k j q in absurd (false≢true (sym p ∙ eq_from_same j k (sym e)))

pub lookup_get : {V : Type 0} (t : Table V) (k : Key) → lookup (key_eq k) t ≡ get t k
lookup_get [] k = refl
lookup_get (e ∷ es) k = rw (key_eq-same k e.0) (ap (λ o. if same_key e.0 k then Some e.1 else o) (lookup_get es k))

pub insert_put : {V : Type 0} (t : Table V) (k : Key) (v : V) → insert_entry key_eq t k v ≡ put t k v
insert_put [] k v = refl
insert_put (e ∷ es) k v = rw (key_eq-same k e.0) (insert_case e es k v (same_key e.0 k) refl (insert_put es k v))
  where
    insert_case : {V : Type 0} (e : Key × V) (es : Table V) (k : Key) (v : V) (b : Bool) → same_key e.0 k ≡ b → insert_entry key_eq es k v ≡ put es k v →
        (if b then (e.0, v) ∷ es else e ∷ insert_entry key_eq es k v) ≡ (if b then (k, v) ∷ es else e ∷ put es k v)
    insert_case e es k v true is h = ap (λ j. (j, v) ∷ es) (same_key-true e.0 k is)
    insert_case e es k v false is h = ap (λ t. e ∷ t) h

pub set_put : {V : Type 0} (t : Table V) (k : Key) (v w : V) → get t k ≡ Some v → set_value (key_eq k) t w ≡ put t k w
set_put [] k v w h = absurd cc
set_put (e ∷ es) k v w h = rw (key_eq-same k e.0) (set_case e es k v w (same_key e.0 k) refl (set_put es k v w) h)
  where
    set_case : {V : Type 0} (e : Key × V) (es : Table V) (k : Key) (v w : V) (b : Bool) → same_key e.0 k ≡ b → (get es k ≡ Some v → set_value (key_eq k) es w ≡ put es k w) →
        (if b then Some e.1 else get es k) ≡ Some v → (if b then (e.0, w) ∷ es else e ∷ set_value (key_eq k) es w) ≡ (if b then (k, w) ∷ es else e ∷ put es k w)
    set_case e es k v w true is rest h = ap (λ j. (j, w) ∷ es) (same_key-true e.0 k is)
    set_case e es k v w false is rest h = ap (λ t. e ∷ t) (rest h)
