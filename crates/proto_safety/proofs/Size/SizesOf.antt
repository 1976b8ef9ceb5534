-- Sizes in tables, chains and deltas.
use Rattle.std.proofs.Common.{◌≡◌, ℕ, ◌≤◌, ◌<◌, List, [], ◌∷◌, length, Some, arith, refl, true, false, Bool, subst}
use Rattle.std.specs.Prelude.{◌==◌, if◌then◌else◌}
use Rattle.std.specs.List.{All}
use Rattle.std.proofs.lemmas.Bool.{lt-ltb}
use Rattle.std.proofs.lemmas.List.Elements.{All-nil}
use Rattle.proto_data.specs.MessageFits.{is_store}
use Rattle.rp_app.specs.Application.{Delta, IsDelta, cells_named}
use Rattle.rp_app.proofs.Deltas.{short_is, named_length}
use Rattle.proto_model.specs.Feeds.{Each}
use Rattle.key_table.specs.Table.{Key, Table, same_key, get, put, map_values}
use Rattle.proto_model.specs.Slot.{chunk_count}
use Rattle.proto_model.specs.SwitchState.{head_node}
use Rattle.proto_model.specs.ReplicaState.{successor_of, predecessor_of, last_of}
use Rattle.proto_safety.specs.Sizes.{DeltaSized}
use Rattle.key_table.proofs.Tables.{same_key-true}

-- ---- tables

module _ {V : Type 0} (P : Key → V → Type 0) where
  abbrev pub EachRow : Table V → Type 0
  EachRow t = Each (λ (e : Key × V). P e.0 e.1) t

  pub each_put : (t : Table V) (key : Key) (v : V) → P key v → EachRow t → EachRow (put t key v)
  each_put [] key v p h = (p, tt)
  each_put (e ∷ es) key v p h = put_case (same_key e.0 key) (each_put es key v p h.1)
    where
      put_case : (b : Bool) → EachRow (put es key v) → EachRow (if b then (key, v) ∷ es else e ∷ put es key v)
      put_case true rest = (p, h.1)
      put_case false rest = (h.0, rest)

  pub each_get : (t : Table V) (key : Key) (v : V) → get t key ≡ Some v → EachRow t → P key v
  each_get [] key v at h = cc
  each_get (e ∷ es) key v at h = get_case (same_key e.0 key) refl (λ found. each_get es key v found h.1) at
    where
      get_case : (b : Bool) → same_key e.0 key ≡ b → (get es key ≡ Some v → P key v) → (if b then Some e.1 else get es key) ≡ Some v → P key v
      get_case true is rest found =
          let k : e.0 ≡ key = same_key-true e.0 key is in
          let same : e.1 ≡ v = cc found in
          subst (λ x. P key x) same (subst (λ x. P x e.1) k h.0)
      get_case false is rest found = rest found

  pub each_values : (f : V → V) (t : Table V) → ((key : Key) (v : V) → P key v → P key (f v)) → EachRow t → EachRow (map_values f t)
  each_values f [] k h = tt
  each_values f (e ∷ es) k h = (k e.0 e.1 h.0, each_values f es k h.1)

-- ---- chains

pub head_is : (chain : List ℕ) → 1 ≤ length chain → Each (λ r. r < 5) chain → is_store (head_node chain) ≡ true
head_is [] some h = absurd (omega (arith, some))
head_is (r ∷ rs) some h = lt-ltb r 5 h.0

pub last_is : (P : ℕ → Type 0) (chain : List ℕ) (n : ℕ) → last_of chain ≡ Some n → Each P chain → P n
last_is P [] n at h = cc
last_is P (x ∷ []) n at h = let same : x ≡ n = cc in subst P same h.0
last_is P (x ∷ y ∷ ys) n at h = last_is P (y ∷ ys) n at h.1

pub successor_is : (P : ℕ → Type 0) (chain : List ℕ) (me n : ℕ) → successor_of chain me ≡ Some n → Each P chain → P n
successor_is P [] me n at h = cc
successor_is P (x ∷ []) me n at h = cc
successor_is P (x ∷ y ∷ ys) me n at h = next_case (x == me) (λ is. successor_is P (y ∷ ys) me n is h.1) at
  where
    next_case : (b : Bool) → (successor_of (y ∷ ys) me ≡ Some n → P n) → (if b then Some y else successor_of (y ∷ ys) me) ≡ Some n → P n
    next_case true rest is = let same : y ≡ n = cc is in subst P same h.1.0
    next_case false rest is = rest is

pub predecessor_is : (P : ℕ → Type 0) (chain : List ℕ) (me n : ℕ) → predecessor_of chain me ≡ Some n → Each P chain → P n
predecessor_is P [] me n at h = cc
predecessor_is P (x ∷ []) me n at h = cc
predecessor_is P (x ∷ y ∷ ys) me n at h = next_case (y == me) (λ is. predecessor_is P (y ∷ ys) me n is h.1) at
  where
    next_case : (b : Bool) → (predecessor_of (y ∷ ys) me ≡ Some n → P n) → (if b then Some x else predecessor_of (y ∷ ys) me) ≡ Some n → P n
    next_case true rest is = let same : x ≡ n = cc is in subst P same h.0
    next_case false rest is = rest is

-- ---- deltas and chunks

pub delta_few : (n : ℕ) (delta : Delta) → IsDelta delta → All (λ c. c < n) (cells_named delta) → DeltaSized n delta
delta_few n delta is h = (is, omega (arith, short_is n (cells_named delta) is.rises h, named_length delta))

pub no_delta : (d : ℕ) → DeltaSized d []
no_delta d = (record { rises = refl; within = All-nil (λ c. c < 256); short = omega arith }, omega arith)

pub chunk_some : (n : ℕ) → 0 < chunk_count n
chunk_some n = omega arith

pub chunk_few : (n : ℕ) → n ≤ 256 → chunk_count n ≤ 8
chunk_few n h = omega arith
