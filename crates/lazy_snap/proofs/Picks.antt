-- The cells at the last begin: after a begin, after a write, and one by one.
use Rattle.std.proofs.Common.{◌≡◌, ◌≢◌, ℕ, zero, suc, ◌+◌, ◌<◌, ◌≤◌, Bool, true, false, List, [], ◌∷◌, ◌++◌, length, refl, sym, ap, ◌∙◌, subst, arith, set, get_or, eq-eqb, take, drop, length-set, length-drop, ◌-◌}
use Rattle.std.specs.Prelude.{◌==◌, if◌then◌else◌, All, min, Option, Some, None, IsSome, slice_index}
use Rattle.std.proofs.lemmas.Bool.{ne_eqb}
use Rattle.std.proofs.lemmas.List.{take_more, get_or-drop}
use Rattle.lazy_snap.specs.declared.kept.Kept.{Kept}
use Rattle.lazy_snap.specs.Picking.{picked, picked_one, keep_at, seen, IsSnap}
use Rattle.lazy_snap.specs.Snap.{Snap, base}

-- where no cell was kept this turn
pub picked_none : (turn : ℕ) (ks : List Kept) (cs : List ℕ) → length ks ≡ length cs → All (λ (k : Kept). k.turn < turn) ks → picked turn ks cs ≡ cs
picked_none turn [] [] same past = refl
picked_none turn [] (c ∷ cs) same past = absurd (omega (arith, same))
picked_none turn (k ∷ ks) [] same past = absurd (omega (arith, same))
picked_none turn (k ∷ ks) (c ∷ cs) same past =
    let test : (k.turn == turn) ≡ false = ne_eqb k.turn turn (λ e. absurd (omega (arith, e, past 0 k (omega arith)))) in
    rw (test, picked_none turn ks cs (omega (arith, same)) (λ i d lt. past (suc i) d (omega (arith, lt)))) refl

-- a cell is written after its value was kept
pub picked_write : (turn : ℕ) (ks : List Kept) (cs : List ℕ) (i v e : ℕ) → length ks ≡ length cs → picked turn (keep_at turn i (get_or cs i e) ks) (set cs i v) ≡ picked turn ks cs
picked_write turn [] [] i v e same = refl
picked_write turn [] (c ∷ cs) i v e same = refl
picked_write turn (k ∷ ks) [] i v e same = absurd (omega (arith, same))
picked_write turn (k ∷ ks) (c ∷ cs) zero v e same = test_case (k.turn == turn) refl
  where
    test_case : (b : Bool) → (k.turn == turn) ≡ b → picked_one turn (if b then k else record { turn = turn; value = c }) v ∷ picked turn ks cs ≡ (if b then k.value else c) ∷ picked turn ks cs
    test_case true is = rw is refl
    test_case false is = let own : (turn == turn) ≡ true = eq-eqb turn turn refl in rw own refl
picked_write turn (k ∷ ks) (c ∷ cs) (suc i) v e same = ap (λ xs. picked_one turn k c ∷ xs) (picked_write turn ks cs i v e (omega (arith, same)))

-- keeping by a test and a write
pub kept_before : (turn at value : ℕ) (ks : List Kept) (d : Kept) → at < length ks → (get_or ks at d).turn ≡ turn → keep_at turn at value ks ≡ ks
kept_before turn at value [] d lt is = refl
kept_before turn zero value (k ∷ ks) d lt is = let test : (k.turn == turn) ≡ true = eq-eqb k.turn turn is in rw test refl
kept_before turn (suc at) value (k ∷ ks) d lt is = ap (λ xs. k ∷ xs) (kept_before turn at value ks d (omega (arith, lt)) is)

pub kept_now : (turn at value : ℕ) (ks : List Kept) (d : Kept) → at < length ks → (get_or ks at d).turn ≢ turn → keep_at turn at value ks ≡ set ks at (record { turn = turn; value = value })
kept_now turn at value [] d lt ne = absurd (omega (arith, lt))
kept_now turn zero value (k ∷ ks) d lt ne = let test : (k.turn == turn) ≡ false = ne_eqb k.turn turn ne in rw test refl
kept_now turn (suc at) value (k ∷ ks) d lt ne = ap (λ xs. k ∷ xs) (kept_now turn at value ks d (omega (arith, lt)) ne)

-- one of them
pub picked_at : (turn : ℕ) (ks : List Kept) (cs : List ℕ) (i e f : ℕ) (d : Kept) → length ks ≡ length cs → i < length ks → get_or (picked turn ks cs) i e ≡ picked_one turn (get_or ks i d) (get_or cs i f)
picked_at turn [] cs i e f d same lt = absurd (omega (arith, lt))
picked_at turn (k ∷ ks) [] i e f d same lt = absurd (omega (arith, same))
picked_at turn (k ∷ ks) (c ∷ cs) zero e f d same lt = refl
picked_at turn (k ∷ ks) (c ∷ cs) (suc i) e f d same lt = picked_at turn ks cs i e f d (omega (arith, same)) (omega (arith, lt))

pub picked_length : (turn : ℕ) (ks : List Kept) (cs : List ℕ) → length ks ≡ length cs → length (picked turn ks cs) ≡ length cs
picked_length turn [] [] same = refl
picked_length turn [] (c ∷ cs) same = absurd (omega (arith, same))
picked_length turn (k ∷ ks) [] same = refl
picked_length turn (k ∷ ks) (c ∷ cs) same = ap suc (picked_length turn ks cs (omega (arith, same)))

-- ---- lists

-- as many as there are
pub take_short : (n m : ℕ) (xs : List ℕ) → n ≡ min (length xs) m → take n xs ≡ take m xs
take_short zero zero xs e = refl
take_short zero (suc m) [] e = refl
take_short zero (suc m) (x ∷ xs) e = absurd (omega (arith, e))
take_short (suc n) zero xs e = absurd (omega (arith, e))
take_short (suc n) (suc m) [] e = refl
take_short (suc n) (suc m) (x ∷ xs) e = ap (λ ys. x ∷ ys) (take_short n m xs (omega (arith, e)))

-- ---- what is seen

module _ (cells : List ℕ) (kept : List Kept) (turn : ℕ) (both : length kept ≡ length cells) where
  base_seen : (round : Option ℕ) → IsSome (seen cells kept turn round).round → base (seen cells kept turn round) ≡ picked turn kept cells
  base_seen None there = cc
  base_seen (Some n) there = refl

  pub length_seen : (round : Option ℕ) (v : Snap) → seen cells kept turn round ≡ v → IsSome v.round → length (base v) ≡ length v.cells
  length_seen round v is there =
      subst (λ (w : Snap). IsSome w.round → length (base w) ≡ length w.cells) is (λ t. ap length (base_seen round t) ∙ picked_length turn kept cells both) there

  pub at_seen : (round : Option ℕ) (v : Snap) → seen cells kept turn round ≡ v → IsSome v.round → (i f : ℕ) (d : Kept) → i < length v.cells → slice_index (base v) i ≡ picked_one turn (get_or kept i d) (get_or cells i f)
  at_seen round v is there i f d lt =
      subst (λ (w : Snap). IsSome w.round → i < length w.cells → slice_index (base w) i ≡ picked_one turn (get_or kept i d) (get_or cells i f)) is
      (λ t l. ap (λ xs. get_or xs i 0) (base_seen round t) ∙ picked_at turn kept cells i 0 f d both (omega (arith, l, both))) there lt

  pub begun_seen : (turn2 : ℕ) (kept2 : List Kept) (n : ℕ) → length kept2 ≡ length kept → All (λ (k : Kept). k.turn < turn2) kept2 → seen cells kept2 turn2 (Some n) ≡ record { cells = cells; round = Some (n, cells) }
  begun_seen turn2 kept2 n same past = ap (λ xs. record { cells = cells; round = Some (n, xs) }) (picked_none turn2 kept2 cells (same ∙ both) past)

  pub written_seen : (round : Option ℕ) (i v e : ℕ) → seen (set cells i v) (keep_at turn i (get_or cells i e) kept) turn round ≡ record { cells = set cells i v; round = (seen cells kept turn round).round }
  written_seen None i v e = refl
  written_seen (Some n) i v e = ap (λ xs. record { cells = set cells i v; round = Some (n, xs) }) (picked_write turn kept cells i v e both)

pub keeps_past : (turn2 at value : ℕ) (ks : List Kept) → All (λ (k : Kept). k.turn ≤ turn2) ks → All (λ (k : Kept). k.turn ≤ turn2) (keep_at turn2 at value ks)
keeps_past turn2 at value [] past i d lt = absurd (omega (arith, lt))
keeps_past turn2 zero value (k ∷ ks) past zero d lt = test_case (k.turn == turn2)
  where
    test_case : (b : Bool) → (if b then k else record { turn = turn2; value = value }).turn ≤ turn2
    test_case true = past 0 k (omega arith)
    test_case false = omega arith
keeps_past turn2 zero value (k ∷ ks) past (suc i) d lt = past (suc i) d lt
keeps_past turn2 (suc at) value (k ∷ ks) past zero d lt = past 0 k (omega arith)
keeps_past turn2 (suc at) value (k ∷ ks) past (suc i) d lt = keeps_past turn2 at value ks (λ j e le. past (suc j) e (omega (arith, le))) i d (omega (arith, lt))

pub keeps_length : (turn2 at value : ℕ) (ks : List Kept) → length (keep_at turn2 at value ks) ≡ length ks
keeps_length turn2 at value [] = refl
keeps_length turn2 zero value (k ∷ ks) = refl
keeps_length turn2 (suc at) value (k ∷ ks) = ap suc (keeps_length turn2 at value ks)

pub one_kept : (turn c : ℕ) (k : Kept) → k.turn ≡ turn → picked_one turn k c ≡ k.value
one_kept turn c k is = let test : (k.turn == turn) ≡ true = eq-eqb k.turn turn is in rw test refl

pub one_not : (turn c : ℕ) (k : Kept) → k.turn ≢ turn → picked_one turn k c ≡ c
one_not turn c k ne = let test : (k.turn == turn) ≡ false = ne_eqb k.turn turn ne in rw test refl

pub after_write : (cells cells2 slice : List ℕ) (kept kept2 : List Kept) (turn : ℕ) (round : Option ℕ) (v : Snap) (i x : ℕ) → length kept ≡ length cells → seen cells kept turn round ≡ v → slice ≡ cells → kept2 ≡ keep_at turn i (get_or slice i 0) kept → cells2 ≡ set cells i x → seen cells2 kept2 turn round ≡ record { cells = set v.cells i x; round = v.round }
after_write cells cells2 slice kept kept2 turn round v i x both is same kept_is cells_is =
    let values : kept2 ≡ keep_at turn i (get_or cells i 0) kept = kept_is ∙ ap (λ xs. keep_at turn i (get_or xs i 0) kept) same in
    (λ j. seen (cells_is j) (values j) turn round)
    ∙ (written_seen cells kept turn both round i x 0 ∙ ap (λ (w : Snap). record { cells = set w.cells i x; round = w.round }) is)

pub snap_write : (cells cells2 : List ℕ) (kept kept2 : List Kept) (turn i x value : ℕ) → IsSnap cells kept turn → kept2 ≡ keep_at turn i value kept → cells2 ≡ set cells i x → IsSnap cells2 kept2 turn
snap_write cells cells2 kept kept2 turn i x value h kept_is cells_is =
    let size : length cells2 ≡ length cells = ap length cells_is ∙ length-set cells i x in
    record {
      both = ap length kept_is ∙ (keeps_length turn i value kept ∙ (h.both ∙ sym size));
      few = omega (arith, size, h.few);
      past = subst (All (λ (k : Kept). k.turn ≤ turn)) (sym kept_is) (keeps_past turn i value kept h.past);
    }

-- ---- a chunk

pub chunk_more : (cs items new : List ℕ) (from at x : ℕ) → from ≤ at → at < length cs → items ≡ take (at - from) (drop from cs) → new ≡ items ++ x ∷ [] → x ≡ slice_index cs at → new ≡ take (at + 1 - from) (drop from cs)
chunk_more cs items new from at x after lt items_is new_is x_is =
    let more : at + 1 - from ≡ at - from + 1 = omega (arith, after) in
    let within : at - from < length (drop from cs) = omega (arith, length-drop from cs, after, lt) in
    let place : from + (at - from) ≡ at = omega (arith, after) in
    let value : x ≡ get_or (drop from cs) (at - from) 0 = x_is ∙ (ap (λ n. get_or cs n 0) (sym place) ∙ sym (get_or-drop from cs (at - from) 0)) in
    new_is
    ∙ ((λ j. items_is j ++ value j ∷ [])
    ∙ (sym (take_more (drop from cs) (at - from) 0 within) ∙ ap (λ n. take n (drop from cs)) (sym more)))

pub chunk_whole : (cs items : List ℕ) (from at : ℕ) → from ≤ length cs → at ≡ min (length cs) (from + 32) → items ≡ take (at - from) (drop from cs) → items ≡ take 32 (drop from cs)
chunk_whole cs items from at fits is items_is = items_is ∙ take_short (at - from) 32 (drop from cs) (omega (arith, length-drop from cs, fits, is))
