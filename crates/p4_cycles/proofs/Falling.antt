-- Where ranks never rise, a state that leads to lesser ranks alone can't lead back.
use Rattle.std.proofs.Common.{◌≡◌, ℕ, zero, suc, ◌+◌, List, [], ◌∷◌, ◌++◌, length, Bool, true, false, Option, Some, None, ◌&&◌, nat_eq, nat_lt, refl, sym, ap, ◌∙◌, subst, arith}
use Rattle.std.proofs.lemmas.Grind.{common_steps}
use Rattle.std.specs.Prelude.{slice_get, slice_index, nat_le, if◌then◌else◌}
use Rattle.std.specs.List.{list_all}
use Rattle.p4_cycles.specs.Graphs.{Graph, targets, is_among, grown, joined, onward, reached, leads_back, at_most, falls, is_clear}

-- whether all of these have lesser ranks
abbrev below : List ℕ → ℕ → List ℕ → Bool
below ranks b xs = list_all (λ y. nat_lt (slice_index ranks y) b) xs

both : (a b : Bool) → (a && b) ≡ true → (a ≡ true) × (b ≡ true)
both true true h = (refl, refl)
both true false h = (refl, h)
both false b h = grind (arith, common_steps)

join : (a b : Bool) → a ≡ true → b ≡ true → (a && b) ≡ true
join true true h k = refl
join true false h k = k
join false b h k = h

module _ (ranks : List ℕ) (b : ℕ) where
  below_push : (xs : List ℕ) (y : ℕ) → below ranks b xs ≡ true → nat_lt (slice_index ranks y) b ≡ true → below ranks b (xs ++ y ∷ []) ≡ true
  below_push [] y h k = join _ _ k refl
  below_push (x ∷ xs) y h k = join _ _ (both _ _ h).0 (below_push xs y (both _ _ h).1 k)

  below_grown : (xs : List ℕ) (y : ℕ) → below ranks b xs ≡ true → nat_lt (slice_index ranks y) b ≡ true → below ranks b (grown xs y) ≡ true
  below_grown xs y h k = by (is_among y xs)
    where
      by : (c : Bool) → below ranks b (if c then xs else xs ++ y ∷ []) ≡ true
      by true = h
      by false = below_push xs y h k

  below_joined : (xs ys : List ℕ) → below ranks b xs ≡ true → below ranks b ys ≡ true → below ranks b (joined xs ys) ≡ true
  below_joined xs [] h k = h
  below_joined xs (y ∷ ys) h k = below_joined (grown xs y) ys (below_grown xs y h (both _ _ k).0) (both _ _ k).1

  below_get : (xs : List ℕ) (i x : ℕ) → below ranks b xs ≡ true → slice_get xs i ≡ Some x → nat_lt (slice_index ranks x) b ≡ true
  below_get [] i x h k = grind (arith, common_steps)
  below_get (y ∷ xs) zero x h k =
      let e : y ≡ x = grind (arith, common_steps) in
      ap (λ z. nat_lt (slice_index ranks z) b) (sym e) ∙ (both _ _ h).0
  below_get (y ∷ xs) (suc i) x h k = below_get xs i x (both _ _ h).1 k

  below_most : (c : ℕ) (ys : List ℕ) → nat_lt c b ≡ true → at_most ranks c ys ≡ true → below ranks b ys ≡ true
  below_most c [] h k = refl
  below_most c (y ∷ ys) h k =
      let one : nat_le (slice_index ranks y) c ≡ true = (both _ _ k).0 in
      let less : nat_lt (slice_index ranks y) b ≡ true = grind (arith, common_steps) in
      join _ _ less (below_most c ys h (both _ _ k).1)

falls_at : (ranks : List ℕ) (i : ℕ) (g : Graph) (n : ℕ) → falls ranks i g ≡ true → at_most ranks (slice_index ranks (i + n)) (targets g n) ≡ true
falls_at ranks i [] n h = refl
falls_at ranks i (ys ∷ g) zero h =
    let e : i ≡ i + 0 = omega arith in
    subst (λ (k : ℕ). at_most ranks (slice_index ranks k) ys ≡ true) e (both _ _ h).0
falls_at ranks i (ys ∷ g) (suc n) h =
    let e : (i + 1) + n ≡ i + suc n = omega arith in
    subst (λ (k : ℕ). at_most ranks (slice_index ranks k) (targets g n) ≡ true) e (falls_at ranks (i + 1) g n (both _ _ h).1)

falls_here : (ranks : List ℕ) (g : Graph) (n : ℕ) → falls ranks 0 g ≡ true → at_most ranks (slice_index ranks n) (targets g n) ≡ true
falls_here ranks g n h =
    let e : 0 + n ≡ n = omega arith in
    subst (λ (k : ℕ). at_most ranks (slice_index ranks k) (targets g n) ≡ true) e (falls_at ranks 0 g n h)

below_reached : (ranks : List ℕ) (b : ℕ) (g : Graph) → falls ranks 0 g ≡ true → (k i : ℕ) (xs : List ℕ) → below ranks b xs ≡ true → below ranks b (reached k g i xs) ≡ true
below_reached ranks b g f zero i xs h = h
below_reached ranks b g f (suc k) i xs h = by (below_reached ranks b g f k (i + 1)) (slice_get xs i) refl
  where
    by : ((ys : List ℕ) → below ranks b ys ≡ true → below ranks b (reached k g (i + 1) ys) ≡ true) → (o : Option ℕ) → slice_get xs i ≡ o → below ranks b (onward (reached k g (i + 1)) g xs o) ≡ true
    by again None s = h
    by again (Some x) s = again (joined xs (targets g x)) (below_joined ranks b xs (targets g x) h (below_most ranks b (slice_index ranks x) (targets g x) (below_get ranks b xs i x h s) (falls_here ranks g x f)))

not_among : (ranks : List ℕ) (n : ℕ) (xs : List ℕ) → below ranks (slice_index ranks n) xs ≡ true → is_among n xs ≡ false
not_among ranks n [] h = refl
not_among ranks n (x ∷ xs) h =
    let less : nat_lt (slice_index ranks x) (slice_index ranks n) ≡ true = (both _ _ h).0 in
    let rest : is_among n xs ≡ false = not_among ranks n xs (both _ _ h).1 in
    let apart : nat_eq x n ≡ false = grind (arith, common_steps) in
    grind (arith, common_steps)

pub clear_law : (ranks : List ℕ) (g : Graph) (n : ℕ) → falls ranks 0 g ≡ true → is_clear ranks g n ≡ true → leads_back g n ≡ false
clear_law ranks g n f h = not_among ranks n (reached (length g) g 0 (joined [] (targets g n)))
    (below_reached ranks (slice_index ranks n) g f (length g) 0 (joined [] (targets g n)) (below_joined ranks (slice_index ranks n) [] (targets g n) refl h))
