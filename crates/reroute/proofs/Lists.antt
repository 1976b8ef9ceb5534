-- The numbers of those that pass, and chains without a member.
use Rattle.std.proofs.Common.{◌≡◌, ℕ, zero, suc, ◌+◌, ◌<◌, ◌≤◌, Bool, true, false, cond, not, List, [], ◌∷◌, ◌++◌, length, take, get_or, refl, ap, ◌∙◌, arith}
use Rattle.std.specs.Prelude.{◌==◌, ◌||◌, filter}
use Rattle.std.specs.List.{list_any}
use Rattle.proto_model.specs.World.{numbers_from}

numbers_next : {N : Type 0} (test : N → Bool) (k : ℕ) (xs : List N) (n : ℕ) (d : N) → n < length xs →
    numbers_from test k (take (suc n) xs) ≡ numbers_from test k (take n xs) ++ cond (test (get_or xs n d)) ((k + n) ∷ []) []
numbers_next test k [] n d lt = absurd (omega (arith, lt))
numbers_next test k (x ∷ xs) zero d lt =
    let place : k ≡ k + 0 = omega arith in
    elim (test x) as (λ b. cond b (k ∷ []) [] ≡ cond b ((k + 0) ∷ []) []) [
      | true ↦ ap (λ j. j ∷ []) place
      | false ↦ refl
    ]
numbers_next test k (x ∷ xs) (suc n) d lt =
    let place : k + 1 + n ≡ k + suc n = omega arith in
    let more : numbers_from test (k + 1) (take (suc n) xs) ≡ numbers_from test (k + 1) (take n xs) ++ cond (test (get_or xs n d)) ((k + suc n) ∷ []) [] =
    numbers_next test (k + 1) xs n d (omega (arith, lt)) ∙ ap (λ j. numbers_from test (k + 1) (take n xs) ++ cond (test (get_or xs n d)) (j ∷ []) []) place in
    elim (test x) as (λ b. cond b (k ∷ numbers_from test (k + 1) (take (suc n) xs)) (numbers_from test (k + 1) (take (suc n) xs)) ≡ cond b (k ∷ numbers_from test (k + 1) (take n xs)) (numbers_from test (k + 1) (take n xs)) ++ cond (test (get_or xs n d)) ((k + suc n) ∷ []) []) [
      | true ↦ ap (λ ys. k ∷ ys) more
      | false ↦ more
    ]

-- the numbers of those that pass, with one more of them
pub numbers_more : {N : Type 0} (test : N → Bool) (xs : List N) (n : ℕ) (d : N) → n < length xs →
    numbers_from test 0 (take (n + 1) xs) ≡ numbers_from test 0 (take n xs) ++ cond (test (get_or xs n d)) (n ∷ []) []
numbers_more test xs n d lt =
    let next : n + 1 ≡ suc n = omega arith in
    let place : 0 + n ≡ n = omega arith in
    ap (λ k. numbers_from test 0 (take k xs)) next ∙ numbers_next test 0 xs n d lt
    ∙ ap (λ k. numbers_from test 0 (take n xs) ++ cond (test (get_or xs n d)) (k ∷ []) []) place

filter_fits : {X : Type 0} (p : X → Bool) (xs : List X) → length (filter p xs) ≤ length xs
filter_fits p [] = omega arith
filter_fits p (x ∷ xs) =
    let rest = filter_fits p xs in
    elim (p x) as (λ b. length (cond b (x ∷ filter p xs) (filter p xs)) ≤ suc (length xs)) [
      | true ↦ omega (arith, rest)
      | false ↦ omega (arith, rest)
    ]

-- a chain without one of its members is shorter
pub fewer : (n : ℕ) (ms : List ℕ) → list_any (λ m. m == n) ms ≡ true → length (filter (λ m. not (m == n)) ms) < length ms
fewer n [] there = absurd (grind (arith, there))
fewer n (m ∷ ms) there =
    let fits = filter_fits (λ m. not (m == n)) ms in
    elim (m == n) as (λ b. (b || list_any (λ m. m == n) ms) ≡ true → length (cond (not b) (m ∷ filter (λ m. not (m == n)) ms) (filter (λ m. not (m == n)) ms)) < suc (length ms)) [
      | true ↦ λ h. omega (arith, fits)
      | false ↦ λ h. let rest = fewer n ms h in omega (arith, rest)
    ] there
