-- The items behind a round, over lists alone: behind a later round stands an end of what stands behind an earlier one.
use Rattle.std.proofs.Common.{◌≡◌, ◌⊎◌, inl, inr, ℕ, ◌≤◌, zero, suc, List, [], ◌∷◌, ◌++◌, Option, Some, None, arith, refl, sym, ◌∙◌, ap, subst, true, false, Bool, length, filter, eqb-true}
use Rattle.std.specs.Prelude.{take, drop, find, if◌then◌else◌}
use Rattle.std.proofs.lemmas.Bool.{and_parts}
use Rattle.std.proofs.lemmas.List.{take-append-drop}
use Rattle.std.proofs.lemmas.List.Elements.{filter-append}
use Rattle.std.proofs.Math.Seq.{drop-append_seam}
use Rattle.key_table.specs.Table.{Key}
use Rattle.key_table.proofs.Tables.{same_key-true}
use Rattle.proto_model.specs.Feeds.{Each, Pairwise}
use Rattle.proto_model.specs.Committed.{is_in}
use Rattle.proto_model.specs.Kept.{is_round}
use Rattle.proto_model.specs.World.{Journaled, RoundBegun}
use Rattle.proto_safety.specs.Books.{In}
use Rattle.proto_safety.specs.LossLaws.{round_at, items_behind, RoundTurn}
use Rattle.proto_safety.proofs.Basics.Eachs.{each_all, each_in}
use Rattle.proto_safety.proofs.Basics.Members.{to_append}
use Rattle.proto_safety.proofs.Snapshots.KeptFronts.{find_in, find_none}

-- ---- ends of lists

-- the second is an end of the first
abbrev pub IsEnd : List Journaled → List Journaled → Type 0
IsEnd xs ys = (pre : List Journaled) × (xs ≡ pre ++ ys)

pub same_end : (xs ys : List Journaled) → xs ≡ ys → IsEnd xs ys
same_end xs ys same = ([], same)

drop_end : (k m : ℕ) (xs : List Journaled) → k ≤ m → IsEnd (drop k xs) (drop m xs)
drop_end zero m xs le = (take m xs, sym (take-append-drop m xs))
drop_end (suc k) zero xs le = absurd (omega (arith, le))
drop_end (suc k) (suc m) [] le = ([], refl)
drop_end (suc k) (suc m) (x ∷ xs) le = drop_end k m xs (omega (arith, le))

filter_end : (p : Journaled → Bool) (xs ys : List Journaled) → IsEnd xs ys → IsEnd (filter p xs) (filter p ys)
filter_end p xs ys h = (filter p h.0, ap (filter p) h.1 ∙ filter-append p h.0 ys)

pub each_end : (P : Journaled → Type 0) (xs ys : List Journaled) → IsEnd xs ys → Each P xs → Each P ys
each_end P xs ys h e = each_all P ys (λ y i. each_in P xs y e (subst (λ l. In l y) (sym h.1) (to_append h.0 ys y (inr i))))

pub pairwise_end : (R : Journaled → Journaled → Type 0) (xs ys : List Journaled) → IsEnd xs ys → Pairwise R xs → Pairwise R ys
pairwise_end R xs ys h p = behind_front h.0 (subst (Pairwise R) h.1 p)
  where
    behind_front : (pre : List Journaled) → Pairwise R (pre ++ ys) → Pairwise R ys
    behind_front [] q = q
    behind_front (x ∷ pre) q = behind_front pre q.1

-- the filtered end of a list is an end of the filtered list
pub drop_filter : (p : Journaled → Bool) (k : ℕ) (xs : List Journaled) → drop (length (filter p (take k xs))) (filter p xs) ≡ filter p (drop k xs)
drop_filter p k xs =
    ap (λ l. drop (length (filter p (take k xs))) l) (ap (filter p) (sym (take-append-drop k xs)) ∙ filter-append p (take k xs) (drop k xs))
    ∙ drop-append_seam (filter p (take k xs)) (filter p (drop k xs))

-- ---- rounds

find_meets : (p : RoundBegun → Bool) (xs : List RoundBegun) (b : RoundBegun) → find p xs ≡ Some b → p b ≡ true
find_meets p [] b is = cc
find_meets p (x ∷ xs) b is = meets_case (p x) refl is (find_meets p xs b)
  where
    meets_case : (t : Bool) → p x ≡ t → (if t then Some x else find p xs) ≡ Some b → (find p xs ≡ Some b → p b ≡ true) → p b ≡ true
    meets_case true meets is rest = let same : x ≡ b = cc in subst (λ (y : RoundBegun). p y ≡ true) same meets
    meets_case false meets is rest = rest is

-- of two rounds one was begun first, or they are one
round_pair : (xs : List RoundBegun) (a b : RoundBegun) → Pairwise RoundTurn xs → In xs a → In xs b → (a ≡ b) ⊎ (RoundTurn a b ⊎ RoundTurn b a)
round_pair [] a b h i j = absurd i
round_pair (x ∷ xs) a b h (inl e) (inl f) = inl (sym e ∙ f)
round_pair (x ∷ xs) a b h (inl e) (inr j) = inr (inl (subst (λ y. RoundTurn y b) e (each_in (RoundTurn x) xs b h.0 j)))
round_pair (x ∷ xs) a b h (inr i) (inl f) = inr (inr (subst (λ y. RoundTurn y a) f (each_in (RoundTurn x) xs a h.0 i)))
round_pair (x ∷ xs) a b h (inr i) (inr j) = round_pair xs a b h.1 i j

-- this number of an epoch is 0, or that of a begun round
abbrev pub HasRound : Key → ℕ → List RoundBegun → ℕ → Type 0
HasRound key e rounds c = (c ≡ 0) ⊎ ((b : RoundBegun) × (round_at key e c rounds ≡ Some b))

-- no round has the number 0
pub no_zero : (key : Key) (e : ℕ) (rounds : List RoundBegun) → Each (λ (b : RoundBegun). 1 ≤ b.begun.round) rounds → round_at key e 0 rounds ≡ None
no_zero key e rounds begun = find_none (is_round key e 0) rounds (λ b i. number_case b (each_in (λ (b : RoundBegun). 1 ≤ b.begun.round) rounds b begun i) (is_round key e 0 b) refl)
  where
    number_case : (b : RoundBegun) → 1 ≤ b.begun.round → (t : Bool) → is_round key e 0 b ≡ t → t ≡ false
    number_case b some true is = absurd (omega (arith, some, eqb-true b.begun.round 0 (and_parts _ _ (and_parts _ _ is).1).1))
    number_case b some false is = refl

-- behind any round stands an end of the epoch's items
pub all_end : (key : Key) (e : ℕ) (items : List Journaled) (o : Option RoundBegun) → IsEnd (filter (is_in key e) items) (items_behind key e items o)
all_end key e items None = ([], refl)
all_end key e items (Some b) = filter_end (is_in key e) items (drop b.items_before items) (drop_end 0 b.items_before items (omega arith))

module _ (key : Key) (e : ℕ) (rounds : List RoundBegun) (turns : Pairwise RoundTurn rounds) where
  record Found (number : ℕ) (b : RoundBegun) : Type 0 where
    there : In rounds b
    key_is : b.begun.key ≡ key
    epoch_is : b.begun.epoch ≡ e
    number_is : b.begun.round ≡ number

  found_at : (number : ℕ) (b : RoundBegun) → round_at key e number rounds ≡ Some b → Found number b
  found_at number b is =
      let p = and_parts _ _ (find_meets (is_round key e number) rounds b is) in
      let q = and_parts _ _ p.1 in
      record { there = find_in (is_round key e number) rounds b is; key_is = same_key-true b.begun.key key p.0; epoch_is = eqb-true b.begun.epoch e q.0; number_is = eqb-true b.begun.round number q.1 }

  -- a later round has no fewer items before it
  rounds_rise : (k c : ℕ) (a b : RoundBegun) → k ≤ c → round_at key e k rounds ≡ Some a → round_at key e c rounds ≡ Some b → a.items_before ≤ b.items_before
  rounds_rise k c a b le at_k at_c = turn_case (round_pair rounds a b turns f.there g.there)
    where
      f : Found k a
      f = found_at k a at_k

      g : Found c b
      g = found_at c b at_c

      turn_case : (a ≡ b) ⊎ (RoundTurn a b ⊎ RoundTurn b a) → a.items_before ≤ b.items_before
      turn_case (inl same) = let before : a.items_before ≡ b.items_before = ap (λ (x : RoundBegun). x.items_before) same in omega (arith, before)
      turn_case (inr (inl turn)) = (turn (f.key_is ∙ sym g.key_is) (f.epoch_is ∙ sym g.epoch_is)).1
      turn_case (inr (inr turn)) = let t = turn (g.key_is ∙ sym f.key_is) (g.epoch_is ∙ sym f.epoch_is) in absurd (omega (arith, t.0, f.number_is, g.number_is, le))

  -- behind a later round stands an end of what stands behind an earlier one
  pub round_end : (items : List Journaled) (k c : ℕ) → k ≤ c → HasRound key e rounds c → IsEnd (items_behind key e items (round_at key e k rounds)) (items_behind key e items (round_at key e c rounds))
  round_end items k c le (inl none) =
      let same : k ≡ c = omega (arith, le, none) in same_end (items_behind key e items (round_at key e k rounds)) (items_behind key e items (round_at key e c rounds)) (ap (λ m. items_behind key e items (round_at key e m rounds)) same)
  round_end items k c le (inr b) = earlier_case (round_at key e k rounds) refl
    where
      earlier_case : (o : Option RoundBegun) → round_at key e k rounds ≡ o → IsEnd (items_behind key e items o) (items_behind key e items (round_at key e c rounds))
      earlier_case None is = all_end key e items (round_at key e c rounds)
      earlier_case (Some a) is =
          subst (λ o. IsEnd (items_behind key e items (Some a)) (items_behind key e items o)) (sym b.1)
          (filter_end (is_in key e) (drop a.items_before items) (drop b.0.items_before items) (drop_end a.items_before b.0.items_before items (rounds_rise k c a b.0 le is b.1)))
