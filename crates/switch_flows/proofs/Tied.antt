-- Slots' numbers and keys are tied: tests, folds and lists by the one are those by the other.
use Rattle.std.proofs.Common.{◌≡◌, ◌≢◌, ℕ, zero, suc, ◌<◌, ◌≤◌, Bool, true, false, List, [], ◌∷◌, ◌++◌, length, Option, Some, None, refl, sym, ap, ◌∙◌, inl, inr, arith, filter, eq-eqb}
use Rattle.std.specs.Prelude.{◌==◌, ◌&&◌, ◌||◌, not, nat_le, if◌then◌else◌, All, fold, option_map, slice_index_or, IfSome}
use Rattle.std.specs.List.{AllByRecursion, list_any}
use Rattle.std.proofs.lemmas.Bool.{cases_eq, ne_eqb}
use Rattle.key_table.specs.Table.{Key, same_key}
use Rattle.key_table.proofs.Tables.{same_key-refl, same_key-true, same_key-sym}
use Rattle.mirror_buf.specs.declared.kept.Kept.{Kept}
use Rattle.mirror_buf.specs.Copies.{Named, numbered_below, is_of as of_slot, is_covered as covered_slot, greatest_first as greatest_slot, first_of_greatest}
use Rattle.mirror_buf.specs.Places.{Each}
use Rattle.mirror_buf.proofs.Listing.{each_weaker, each_filter}
use Rattle.proto_model.specs.SwitchState.{Copy, is_of, is_covered, greatest_first}
use Rattle.switch_flows.specs.Places.{IsAt, Distinct}
use Rattle.switch_flows.specs.Kept.{copy_of, copies_of, first_by, placed}

-- ---- one key

each_at : (P : Key → Type 0) (ks : List Key) → AllByRecursion P ks → (j : ℕ) → j < length ks → P (slice_index_or ks j [])
each_at P [] h j lt = absurd (omega (arith, lt))
each_at P (k ∷ ks) h zero lt = h.0
each_at P (k ∷ ks) h (suc j) lt = each_at P ks h.1 j (omega (arith, lt))

pub key_at : (ks : List Key) (k : Key) (i : ℕ) → IsAt ks k i → slice_index_or ks i [] ≡ k
key_at [] k i h = absurd h
key_at (j ∷ js) k zero h = same_key-true j k h
key_at (j ∷ js) k (suc i) h = key_at js k i h.1

differs : (ks : List Key) → Distinct ks → (k : Key) (i j : ℕ) → IsAt ks k i → j < length ks → j ≢ i → same_key (slice_index_or ks j []) k ≡ false
differs [] d k i j h lt ne = absurd h
differs (x ∷ xs) d k zero zero h lt ne = absurd (ne refl)
differs (x ∷ xs) d k zero (suc j) h lt ne =
    let apart : same_key x (slice_index_or xs j []) ≡ false = each_at (λ y. same_key x y ≡ false) xs d.0 j (omega (arith, lt)) in
    same_key-sym (slice_index_or xs j []) k ∙ (ap (λ y. same_key y (slice_index_or xs j [])) (sym (same_key-true x k h)) ∙ apart)
differs (x ∷ xs) d k (suc i) zero h lt ne = h.0
differs (x ∷ xs) d k (suc i) (suc j) h lt ne = differs xs d.1 k i j h.1 (omega (arith, lt)) (λ e. ne (ap suc e))

-- the key of a slot is that of a place exactly where the slot has this place
pub tie : (ks : List Key) → Distinct ks → (k : Key) (i j : ℕ) → IsAt ks k i → j < length ks → same_key (slice_index_or ks j []) k ≡ (j == i)
tie ks d k i j h lt = elim (cases_eq j i) [
  | inl same ↦ ap (λ y. same_key y k) (ap (λ n. slice_index_or ks n []) same ∙ key_at ks k i h) ∙ (same_key-refl k ∙ sym (eq-eqb j i same))
  | inr ne ↦ differs ks d k i j h lt ne ∙ sym (ne_eqb j i ne)
]

-- ---- lists

and_sym : (a b : Bool) → (a && b) ≡ (b && a)
and_sym true true = refl
and_sym true false = refl
and_sym false true = refl
and_sym false false = refl

filter_tied : (ks : List Key) (p : Copy → Bool) (q : Named → Bool) (cs : List Named) → Each (λ c. p (copy_of ks c.1) ≡ q c) cs → filter p (copies_of ks cs) ≡ copies_of ks (filter q cs)
filter_tied ks p q [] h = refl
filter_tied ks p q (c ∷ cs) h = rw h.0 (test_case (q c) (filter_tied ks p q cs h.1))
  where
    test_case : (b : Bool) → filter p (copies_of ks cs) ≡ copies_of ks (filter q cs) → (if b then copy_of ks c.1 ∷ filter p (copies_of ks cs) else filter p (copies_of ks cs)) ≡ copies_of ks (if b then c ∷ filter q cs else filter q cs)
    test_case true rest = ap (λ xs. copy_of ks c.1 ∷ xs) rest
    test_case false rest = rest

any_tied : (ks : List Key) (p : Copy → Bool) (q : Named → Bool) (cs : List Named) → Each (λ c. p (copy_of ks c.1) ≡ q c) cs → list_any p (copies_of ks cs) ≡ not (length (filter q cs) == 0)
any_tied ks p q [] h = refl
any_tied ks p q (c ∷ cs) h = rw h.0 (test_case (q c) (any_tied ks p q cs h.1))
  where
    test_case : (b : Bool) → list_any p (copies_of ks cs) ≡ not (length (filter q cs) == 0) → (b || list_any p (copies_of ks cs)) ≡ not (length (if b then c ∷ filter q cs else filter q cs) == 0)
    test_case true rest = let some : (length (c ∷ filter q cs) == 0) ≡ false = ne_eqb (length (c ∷ filter q cs)) 0 (λ e. absurd (omega (arith, e))) in rw some refl
    test_case false rest = rest

fold_tied : (ks : List Key) (best : Option (ℕ × ℕ)) (cs : List Named) → fold greatest_first best (copies_of ks cs) ≡ fold greatest_slot best cs
fold_tied ks best [] = refl
fold_tied ks None (c ∷ cs) = fold_tied ks (Some (c.1.number, c.1.first)) cs
fold_tied ks (Some best) (c ∷ cs) = fold_tied ks (if nat_le c.1.number best.0 then Some best else Some (c.1.number, c.1.first)) cs

-- the first sending of what was the greatest is past
fold_past : (moment : ℕ) (best : Option (ℕ × ℕ)) (cs : List Named) → IfSome best (λ b. b.1 ≤ moment) → Each (first_by moment) cs → IfSome (option_map (λ g. g.1) (fold greatest_slot best cs)) (λ first. first ≤ moment)
fold_past moment None [] past h = tt
fold_past moment (Some best) [] past h = past
fold_past moment None (c ∷ cs) past h = fold_past moment (Some (c.1.number, c.1.first)) cs h.0 h.1
fold_past moment (Some best) (c ∷ cs) past h = test_case (nat_le c.1.number best.0) (fold_past moment (Some best) cs past h.1) (fold_past moment (Some (c.1.number, c.1.first)) cs h.0 h.1)
  where
    test_case : (b : Bool) → IfSome (option_map (λ (g : ℕ × ℕ). g.1) (fold greatest_slot (Some best) cs)) (λ first. first ≤ moment) →
        IfSome (option_map (λ (g : ℕ × ℕ). g.1) (fold greatest_slot (Some (c.1.number, c.1.first)) cs)) (λ first. first ≤ moment) →
        IfSome (option_map (λ (g : ℕ × ℕ). g.1) (fold greatest_slot (if b then Some best else Some (c.1.number, c.1.first)) cs)) (λ first. first ≤ moment)
    test_case true old new = old
    test_case false old new = new

pub greatest_past : (moment : ℕ) (p : Named → Bool) (cs : List Named) → Each (first_by moment) cs → IfSome (first_of_greatest (filter p cs)) (λ first. first ≤ moment)
greatest_past moment p cs h = fold_past moment None (filter p cs) tt (each_filter (first_by moment) p cs h)

-- ---- the flow at a place

module _ (ks : List Key) (d : Distinct ks) (k : Key) (i : ℕ) (at : IsAt ks k i) (cs : List Named) (there : Each (placed (length ks)) cs) where
  tied : Each (λ c. is_of k (copy_of ks c.1) ≡ of_slot i c) cs
  tied = each_weaker (placed (length ks)) (λ c. is_of k (copy_of ks c.1) ≡ of_slot i c) cs (λ c lt. tie ks d k i c.1.slot at lt) there

  covered : (upto : ℕ) → Each (λ c. is_covered k upto (copy_of ks c.1) ≡ covered_slot i upto c) cs
  covered upto = each_weaker (λ c. is_of k (copy_of ks c.1) ≡ of_slot i c) (λ c. is_covered k upto (copy_of ks c.1) ≡ covered_slot i upto c) cs
      (λ c is. ap (λ b. b && nat_le c.1.number upto) is ∙ and_sym (of_slot i c) (nat_le c.1.number upto)) tied

  pub any_of : list_any (is_of k) (copies_of ks cs) ≡ not (length (filter (of_slot i) cs) == 0)
  any_of = any_tied ks (is_of k) (of_slot i) cs tied

  pub without_of : filter (λ c. not (is_of k c)) (copies_of ks cs) ≡ copies_of ks (filter (λ c. not (of_slot i c)) cs)
  without_of = filter_tied ks (λ c. not (is_of k c)) (λ c. not (of_slot i c)) cs
      (each_weaker (λ c. is_of k (copy_of ks c.1) ≡ of_slot i c) (λ c. not (is_of k (copy_of ks c.1)) ≡ not (of_slot i c)) cs (λ c is. ap not is) tied)

  pub without_covered : (upto : ℕ) → filter (λ c. not (is_covered k upto c)) (copies_of ks cs) ≡ copies_of ks (filter (λ c. not (covered_slot i upto c)) cs)
  without_covered upto = filter_tied ks (λ c. not (is_covered k upto c)) (λ c. not (covered_slot i upto c)) cs
      (each_weaker (λ c. is_covered k upto (copy_of ks c.1) ≡ covered_slot i upto c) (λ c. not (is_covered k upto (copy_of ks c.1)) ≡ not (covered_slot i upto c)) cs (λ c is. ap not is) (covered upto))

  pub greatest_of : (upto : ℕ) → option_map (λ b. b.1) (fold greatest_first None (filter (is_covered k upto) (copies_of ks cs))) ≡ first_of_greatest (filter (covered_slot i upto) cs)
  greatest_of upto = ap (λ xs. option_map (λ (b : ℕ × ℕ). b.1) (fold greatest_first None xs)) (filter_tied ks (is_covered k upto) (covered_slot i upto) cs (covered upto))
      ∙ ap (option_map (λ (b : ℕ × ℕ). b.1)) (fold_tied ks None (filter (covered_slot i upto) cs))

-- a number above those of the flow's copies is above those of its slot's
pub below_of : (ks : List Key) (k : Key) (i number : ℕ) → IsAt ks k i → (cs : List Named) → All (λ (c : Copy). is_of k c ≡ true → c.number < number) (copies_of ks cs) → All (numbered_below i number) cs
below_of ks k i number at [] h j e lt same = absurd (omega (arith, lt))
below_of ks k i number at (c ∷ cs) h zero e lt same =
    h 0 (copy_of ks c.1) (omega arith) (ap (λ y. same_key y k) (ap (λ n. slice_index_or ks n []) same ∙ key_at ks k i at) ∙ same_key-refl k)
below_of ks k i number at (c ∷ cs) h (suc j) e lt same = below_of ks k i number at cs (λ m f le. h (suc m) f (omega (arith, le))) j e (omega (arith, lt)) same

-- ---- one key more

get_before : (ks : List Key) (k : Key) (j : ℕ) → j < length ks → slice_index_or (ks ++ k ∷ []) j [] ≡ slice_index_or ks j []
get_before [] k j lt = absurd (omega (arith, lt))
get_before (x ∷ xs) k zero lt = refl
get_before (x ∷ xs) k (suc j) lt = get_before xs k j (omega (arith, lt))

pub copies_before : (ks : List Key) (k : Key) (cs : List Named) → Each (placed (length ks)) cs → copies_of (ks ++ k ∷ []) cs ≡ copies_of ks cs
copies_before ks k [] h = refl
copies_before ks k (c ∷ cs) h =
    λ i. record { key = get_before ks k c.1.slot h.0 i; number = c.1.number; delta = c.1.delta; first = c.1.first; sent = c.1.sent } ∷ copies_before ks k cs h.1 i

-- a new copy is of its flow
pub copy_at : (ks : List Key) (k : Key) (i : ℕ) → IsAt ks k i → (kept : Kept) → kept.slot ≡ i → copy_of ks kept ≡ record { key = k; number = kept.number; delta = kept.delta; first = kept.first; sent = kept.sent }
copy_at ks k i at kept same =
    let key : slice_index_or ks kept.slot [] ≡ k = ap (λ n. slice_index_or ks n []) same ∙ key_at ks k i at in
    λ j. record { key = key j; number = kept.number; delta = kept.delta; first = kept.first; sent = kept.sent }
