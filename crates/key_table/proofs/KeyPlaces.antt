-- A table by the place of a key.
use Rattle.std.proofs.Common.{◌≡◌, ℕ, Option, Some, None, refl, sym, ◌∙◌, false, position, slice_get, is_some}
use Rattle.std.proofs.lemmas.Bool.{false≢true}
use Rattle.std.specs.Map.{keys_of, values_of, lookup}
use Rattle.indexmap.specs.IndexMap.{set_value_at}
use Rattle.indexmap.proofs.MapLemmas.{insert_entry-first, Found-position}
use Rattle.key_table.specs.Table.{Key, Table, get, put}
use Rattle.key_table.proofs.KeyMaps.{key_eq, lookup_get, insert_put}

-- writing at the place of a key
set-put : {V : Type 0} (t : Table V) (k : Key) (i : ℕ) (v : V) → position (key_eq k) (keys_of t) ≡ Some i → set_value_at t i v ≡ put t k v
set-put t k i v at = sym (insert_entry-first key_eq k v t i (Found-position (key_eq k) t i at).first) ∙ insert_put t k v

-- what a table has at the place of a key; `t` and `s` are the same table
pub record AtPlace {V : Type 0} (t s : Table V) (k : Key) (i : ℕ) (v : V) : Type 0 where
  pub looked_up : get s k ≡ Some v
  pub stored : (w : V) → set_value_at t i w ≡ put s k w

pub at_place : {V : Type 0} (t s : Table V) (k : Key) (i : ℕ) (v : V) → t ≡ s → Some i ≡ position (key_eq k) (keys_of t) → slice_get (values_of t) i ≡ lookup (key_eq k) t → slice_get (values_of t) i ≡ Some v →
    AtPlace t s k i v
at_place t s k i v same at value has =
    record {
      looked_up = rw (sym same) (sym (lookup_get t k) ∙ sym value ∙ has);
      stored = λ w. rw (sym same) (set-put t k i w (sym at));
    }

-- a key without a place has nothing
pub no_place : {V : Type 0} (t s : Table V) (k : Key) → t ≡ s → false ≡ is_some (lookup (key_eq k) t) → get s k ≡ None
no_place t s k same found = rw (sym same) (sym (lookup_get t k) ∙ by (lookup (key_eq k) t) found)
  where
    by : {V : Type 0} (o : Option V) → false ≡ is_some o → o ≡ None
    by None e = refl
    by (Some v) e = absurd (false≢true e)
