-- Values by key: the second of two puts stands, and what is there may be put again.
use Rattle.std.proofs.Common.{◌≡◌, Bool, true, false, [], ◌∷◌, Some, refl, ap, sym}
use Rattle.std.specs.Prelude.{if◌then◌else◌}
use Rattle.key_table.specs.Table.{Key, Table, same_key, get, put}
use Rattle.key_table.proofs.Tables.{same_key-refl, same_key-true}

-- the second of two puts stands
pub put_put : {V : Type 0} (t : Table V) (k : Key) (a b : V) → put (put t k a) k b ≡ put t k b
put_put [] k a b = rw (same_key-refl k)
put_put (e ∷ es) k a b = put_case e es k a b (same_key e.0 k) refl (put_put es k a b)
  where
    put_case : {V : Type 0} (e : Key × V) (es : Table V) (k : Key) (a b : V) (c : Bool) → same_key e.0 k ≡ c → put (put es k a) k b ≡ put es k b →
        put (if c then (k, a) ∷ es else e ∷ put es k a) k b ≡ (if c then (k, b) ∷ es else e ∷ put es k b)
    put_case e es k a b true is h = rw (same_key-refl k)
    put_case e es k a b false is h = rw is (ap (λ t. e ∷ t) h)

-- what is there, put again, changes nothing
pub put_same : {V : Type 0} (t : Table V) (k : Key) (v : V) → get t k ≡ Some v → put t k v ≡ t
put_same [] k v h = absurd (cc)
put_same (e ∷ es) k v h = same_case e es k v (same_key e.0 k) refl (put_same es k v) h
  where
    same_case : {V : Type 0} (e : Key × V) (es : Table V) (k : Key) (v : V) (c : Bool) → same_key e.0 k ≡ c → (get es k ≡ Some v → put es k v ≡ es) →
        (if c then Some e.1 else get es k) ≡ Some v → (if c then (k, v) ∷ es else e ∷ put es k v) ≡ e ∷ es
    same_case e es k v true is rest h = let key : e.0 ≡ k = same_key-true e.0 k is in let value : e.1 ≡ v = cc in λ i. (sym key i, sym value i) ∷ es
    same_case e es k v false is rest h = ap (λ t. e ∷ t) (rest h)
