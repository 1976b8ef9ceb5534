-- What an `IndexMap` by flow and epoch does to its entries, in the words of the notes.
use Rattle.std.proofs.Common.{◌≡◌, ℕ, Bool, true, false, [], ◌∷◌, Some, None, refl, ap, sym, ◌∙◌, eqb, eqb-true, eq-eqb}
use Rattle.std.specs.Prelude.{if◌then◌else◌, ◌&&◌}
use Rattle.std.specs.Map.{lookup, set_value}
use Rattle.std.proofs.lemmas.Bool.{and_parts, and_from, false≢true}
use Rattle.indexmap.specs.IndexMap.{insert_entry}
use Rattle.key_table.proofs.Tables.{same_key-refl, same_key-true}
use Rattle.key_table.proofs.KeyMaps.{key_eq, key_eq-same}
use Rattle.run_ending.specs.declared.epoch_table.FlowEpoch.{FlowEpoch}
use Rattle.run_ending.specs.declared.epoch_notes.Note.{Note}
use Rattle.run_ending.specs.EpochNotes.{EpochNotes, no_notes, with_note}
use Rattle.run_ending.specs.EpochTable.{Epochs, same_epoch, find_notes, put_notes, notes_or_none, notes_at, noted_at}

pub same_epoch-true : (a b : FlowEpoch) → same_epoch a b ≡ true → a ≡ b
same_epoch-true a b h =
    let key : a.key ≡ b.key = same_key-true a.key b.key (and_parts _ _ h).0 in
    let epoch : a.epoch ≡ b.epoch = eqb-true a.epoch b.epoch (and_parts _ _ h).1 in
    λ i. record { key = key i; epoch = epoch i }

same_epoch-refl : (a : FlowEpoch) → same_epoch a a ≡ true
same_epoch-refl a = and_from _ _ (same_key-refl a.key) (eq-eqb a.epoch a.epoch refl)

-- how `==` compares two epochs
abbrev pub epoch_eq : FlowEpoch → FlowEpoch → Bool
epoch_eq a b = key_eq a.key b.key && eqb a.epoch b.epoch

eqb-sym : (m n : ℕ) → eqb m n ≡ eqb n m
eqb-sym m n = by (eqb m n) (eqb n m) refl refl
  where
    by : (b c : Bool) → eqb m n ≡ b → eqb n m ≡ c → b ≡ c
    by true true p q = refl
    by false false p q = refl
    by true false p q = absurd (false≢true (sym q ∙ eq-eqb n m (sym (eqb-true m n p))))
    by false true p q = absurd (false≢true (sym p ∙ eq-eqb m n (sym (eqb-true n m q))))

-- `==` on epochs is equality of flow and number
pub epoch_eq-same : (a b : FlowEpoch) → epoch_eq a b ≡ same_epoch b a
epoch_eq-same a b = λ i. key_eq-same a.key b.key i && eqb-sym a.epoch b.epoch i

pub lookup_find : (es : Epochs) (at : FlowEpoch) → lookup (epoch_eq at) es ≡ find_notes es at
lookup_find [] at = refl
lookup_find (e ∷ es) at = rw (epoch_eq-same at e.0) (ap (λ o. if same_epoch e.0 at then Some e.1 else o) (lookup_find es at))

pub insert_put : (es : Epochs) (at : FlowEpoch) (n : EpochNotes) → insert_entry epoch_eq es at n ≡ put_notes es at n
insert_put [] at n = refl
insert_put (e ∷ es) at n = rw (epoch_eq-same at e.0) (by (same_epoch e.0 at) refl (insert_put es at n))
  where
    by : (b : Bool) → same_epoch e.0 at ≡ b → insert_entry epoch_eq es at n ≡ put_notes es at n →
        (if b then (e.0, n) ∷ es else e ∷ insert_entry epoch_eq es at n) ≡ (if b then (at, n) ∷ es else e ∷ put_notes es at n)
    by true is h = ap (λ a. (a, n) ∷ es) (same_epoch-true e.0 at is)
    by false is h = ap (λ t. e ∷ t) h

pub set_put : (es : Epochs) (at : FlowEpoch) (n m : EpochNotes) → find_notes es at ≡ Some n → set_value (epoch_eq at) es m ≡ put_notes es at m
set_put [] at n m h = absurd cc
set_put (e ∷ es) at n m h = rw (epoch_eq-same at e.0) (by (same_epoch e.0 at) refl (set_put es at n m) h)
  where
    by : (b : Bool) → same_epoch e.0 at ≡ b → (find_notes es at ≡ Some n → set_value (epoch_eq at) es m ≡ put_notes es at m) →
        (if b then Some e.1 else find_notes es at) ≡ Some n → (if b then (e.0, m) ∷ es else e ∷ set_value (epoch_eq at) es m) ≡ (if b then (at, m) ∷ es else e ∷ put_notes es at m)
    by true is rest h = ap (λ a. (a, m) ∷ es) (same_epoch-true e.0 at is)
    by false is rest h = ap (λ t. e ∷ t) (rest h)

-- what is stored for one more note; `t` and `s` are the same table
module _ (t s : Epochs) (at : FlowEpoch) (note : Note) (same : t ≡ s) where
  pub note_stored : (old new : EpochNotes) (lent : Epochs) → Some old ≡ lookup (epoch_eq at) t → new ≡ with_note old note → lent ≡ set_value (epoch_eq at) t new → lent ≡ noted_at s at note
  note_stored old new lent has is holds =
      let there : find_notes t at ≡ Some old = sym (lookup_find t at) ∙ sym has in
      holds ∙ set_put t at old new there ∙ ap (put_notes t at) (is ∙ ap (λ n. with_note (notes_or_none n) note) (sym there)) ∙ ap (λ t. noted_at t at note) same

  -- the first note of an epoch
  pub note_begun : (new : EpochNotes) (lent es : Epochs) → None ≡ lookup (epoch_eq at) t → new ≡ with_note no_notes note → lent ≡ t → es ≡ insert_entry epoch_eq lent at new → es ≡ noted_at s at note
  note_begun new lent es has is back made =
      let there : find_notes t at ≡ None = sym (lookup_find t at) ∙ sym has in
      made ∙ ap (λ l. insert_entry epoch_eq l at new) back ∙ insert_put t at new ∙ ap (put_notes t at) (is ∙ ap (λ n. with_note (notes_or_none n) note) (sym there)) ∙ ap (λ t. noted_at t at note) same

-- what is found after a put
pub find-put : (es : Epochs) (a b : FlowEpoch) (n : EpochNotes) → find_notes (put_notes es a n) b ≡ (if same_epoch a b then Some n else find_notes es b)
find-put [] a b n = refl
find-put (e ∷ es) a b n = by (same_epoch e.0 a) refl (same_epoch a b) refl (find-put es a b n)
  where
    by : (s : Bool) → same_epoch e.0 a ≡ s → (t : Bool) → same_epoch a b ≡ t → find_notes (put_notes es a n) b ≡ (if same_epoch a b then Some n else find_notes es b) →
        find_notes (if s then (a, n) ∷ es else e ∷ put_notes es a n) b ≡ (if t then Some n else find_notes (e ∷ es) b)
    by true s true t h = rw t refl
    by true s false t h = let other : same_epoch e.0 b ≡ false = ap (λ x. same_epoch x b) (same_epoch-true e.0 a s) ∙ t in rw (t, other) refl
    by false s true t h = let other : same_epoch e.0 b ≡ false = ap (same_epoch e.0) (sym (same_epoch-true a b t)) ∙ s in rw (other, h, t) refl
    by false s false t h = ap (λ o. if same_epoch e.0 b then Some e.1 else o) (h ∙ ap (λ c. if c then Some n else find_notes es b) t)

-- the notes of an epoch after one more note
pub note_found : (es : Epochs) (a b : FlowEpoch) (note : Note) → notes_at (noted_at es a note) b ≡ (if same_epoch a b then with_note (notes_at es b) note else notes_at es b)
note_found es a b note = ap notes_or_none (find-put es a b (with_note (notes_at es a) note)) ∙ by (same_epoch a b) refl
  where
    by : (s : Bool) → same_epoch a b ≡ s → notes_or_none (if s then Some (with_note (notes_at es a) note) else find_notes es b) ≡ (if s then with_note (notes_at es b) note else notes_at es b)
    by true is = ap (λ x. with_note (notes_at es x) note) (same_epoch-true a b is)
    by false is = refl
