-- What the notes of one epoch say of its marks and of those that a snapshot keeps.
use Rattle.std.proofs.Common.{◌≡◌, ℕ, zero, suc, ◌+◌, ◌-◌, ◌<◌, ◌≤◌, [], ◌∷◌, List, Option, Some, None, Bool, true, false, refl, sym, ap, ◌∙◌, arith, length, take, map, filter, cond, nat_lt}
use Rattle.std.specs.Prelude.{if◌then◌else◌, ◌==◌, ◌&&◌, find, option_map}
use Rattle.std.proofs.lemmas.Bool.{ltb-true, ltb-false}
use Rattle.std.proofs.lemmas.List.Sums.{length-filter}
use Rattle.key_table.specs.Table.{Key, same_key}
use Rattle.proto_model.specs.World.{World, Journaled, RoundBegun}
use Rattle.proto_model.specs.Committed.{closing, is_in, is_closed}
use Rattle.proto_model.specs.Kept.{is_round, kept, kept_at, items_before as world_before}
use Rattle.run_ending.specs.declared.epoch_notes.Processed.{Processed}
use Rattle.run_ending.specs.EpochNotes.{is_within, begin_of, items_before, kept_by}
use Rattle.run_ending.proofs.EpochsNoted.{processed_at, processed_in, begin_at, begins_in}

abbrev marks_of : List Journaled → List ℕ
marks_of js = map (λ (j : Journaled). j.item.mark) js

-- the marks of all packets
pub all_same : (k : Key) (e n : ℕ) (items : List Journaled) → map (λ (i : Processed). i.mark) (processed_in k e n items) ≡ marks_of (filter (is_in k e) items)
all_same k e n [] = refl
all_same k e n (j ∷ js) = by (is_in k e j) (all_same k e (n + 1) js)
  where
    by : (s : Bool) → map (λ (i : Processed). i.mark) (processed_in k e (n + 1) js) ≡ marks_of (filter (is_in k e) js) →
        map (λ (i : Processed). i.mark) (if s then processed_at n j ∷ processed_in k e (n + 1) js else processed_in k e (n + 1) js) ≡ marks_of (cond s (j ∷ filter (is_in k e) js) (filter (is_in k e) js))
    by true h = ap (λ l. j.item.mark ∷ l) h
    by false h = h

within_closed : (c : Option ℕ) (n : ℕ) (j : Journaled) → is_within c (processed_at n j) ≡ is_closed c j
within_closed None n j = refl
within_closed (Some m) n j = refl

-- the marks of the packets up to the closing
pub closed_same : (c : Option ℕ) (k : Key) (e n : ℕ) (items : List Journaled) →
    map (λ (i : Processed). i.mark) (filter (is_within c) (processed_in k e n items)) ≡ marks_of (filter (is_closed c) (filter (is_in k e) items))
closed_same c k e n [] = refl
closed_same c k e n (j ∷ js) = by (is_in k e j) (is_closed c j) (within_closed c n j) refl (closed_same c k e (n + 1) js)
  where
    by : (s t : Bool) → is_within c (processed_at n j) ≡ t → is_closed c j ≡ t →
        map (λ (i : Processed). i.mark) (filter (is_within c) (processed_in k e (n + 1) js)) ≡ marks_of (filter (is_closed c) (filter (is_in k e) js)) →
        map (λ (i : Processed). i.mark) (filter (is_within c) (if s then processed_at n j ∷ processed_in k e (n + 1) js else processed_in k e (n + 1) js))
        ≡ marks_of (filter (is_closed c) (cond s (j ∷ filter (is_in k e) js) (filter (is_in k e) js)))
    by true true w u h = rw (w, u) (ap (λ l. j.item.mark ∷ l) h)
    by true false w u h = rw (w, u) h
    by false t w u h = h

-- the first begin of a round
begin_found : (k : Key) (e r : ℕ) (rounds : List RoundBegun) → begin_of r (begins_in k e rounds) ≡ option_map begin_at (find (is_round k e r) rounds)
begin_found k e r [] = refl
begin_found k e r (b ∷ bs) = by (same_key b.begun.key k) (b.begun.epoch == e) (b.begun.round == r) refl (begin_found k e r bs)
  where
    by : (s t u : Bool) → (b.begun.round == r) ≡ u → begin_of r (begins_in k e bs) ≡ option_map begin_at (find (is_round k e r) bs) →
        begin_of r (if s && t then begin_at b ∷ begins_in k e bs else begins_in k e bs) ≡ option_map begin_at (cond (s && (t && u)) (Some b) (find (is_round k e r) bs))
    by true true true is h = rw is refl
    by true true false is h = rw is h
    by true false u is h = h
    by false t u is h = h

none_there : (k : Key) (e q : ℕ) → 0 ≡ length (filter (is_in k e) (take q []))
none_there k e zero = refl
none_there k e (suc q) = refl

-- the packets processed before so many in all
counted : (k : Key) (e m n : ℕ) (items : List Journaled) → length (filter (λ (i : Processed). nat_lt i.place m) (processed_in k e n items)) ≡ length (filter (is_in k e) (take (m - n) items))
counted k e m n [] = none_there k e (m - n)
counted k e m n (j ∷ js) = by (nat_lt n m) refl (is_in k e j) refl (counted k e m (n + 1) js)
  where
    by : (t : Bool) → nat_lt n m ≡ t → (s : Bool) → is_in k e j ≡ s →
        length (filter (λ (i : Processed). nat_lt i.place m) (processed_in k e (n + 1) js)) ≡ length (filter (is_in k e) (take (m - (n + 1)) js)) →
        length (filter (λ (i : Processed). nat_lt i.place m) (if s then processed_at n j ∷ processed_in k e (n + 1) js else processed_in k e (n + 1) js)) ≡ length (filter (is_in k e) (take (m - n) (j ∷ js)))
    by true lt true is h =
        let before : n < m = ltb-true n m lt in
        let one : m - n ≡ suc (m - (n + 1)) = omega (arith, before) in rw (one, lt, is) (ap suc h)
    by true lt false is h =
        let before : n < m = ltb-true n m lt in
        let one : m - n ≡ suc (m - (n + 1)) = omega (arith, before) in rw (one, is) h
    by false ge true is h =
        let past : m ≤ n = ltb-false n m ge in
        let none : m - n ≡ 0 = omega (arith, past) in
        let rest : m - (n + 1) ≡ 0 = omega (arith, past) in rw (none, ge) (h ∙ ap (λ q. length (filter (is_in k e) (take q js))) rest)
    by false ge false is h =
        let past : m ≤ n = ltb-false n m ge in
        let none : m - n ≡ 0 = omega (arith, past) in
        let rest : m - (n + 1) ≡ 0 = omega (arith, past) in rw none (h ∙ ap (λ q. length (filter (is_in k e) (take q js))) rest)

before_same : (w : World) (k : Key) (e : ℕ) (o : Option RoundBegun) → items_before (processed_in k e 0 w.history.items) (option_map begin_at o) ≡ world_before w k e o
before_same w k e None = refl
before_same w k e (Some b) =
    let all : b.items_before - 0 ≡ b.items_before = omega arith in
    sym (length-filter (λ (i : Processed). nat_lt i.place b.items_before) (processed_in k e 0 w.history.items))
    ∙ counted k e b.items_before 0 w.history.items
    ∙ ap (λ q. length (filter (is_in k e) (take q w.history.items))) all

-- how many packets the last committed snapshot has
pub kept_same : (w : World) (k : Key) (e : ℕ) → kept_by (processed_in k e 0 w.history.items) (begins_in k e w.history.rounds) (closing w k e) ≡ kept w k e
kept_same w k e = by (closing w k e)
  where
    by : (c : Option ℕ) → kept_by (processed_in k e 0 w.history.items) (begins_in k e w.history.rounds) c ≡ kept_at w k e c
    by None = refl
    by (Some r) = ap (items_before (processed_in k e 0 w.history.items)) (begin_found k e r w.history.rounds) ∙ before_same w k e (find (is_round k e r) w.history.rounds)
