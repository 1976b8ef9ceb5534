-- Facts about lists: lengths, places, filters and folds.
use Rattle.proto_model.specs.World.{numbers_from}
use Rattle.proto_model.specs.WorldStep.{changed_at}
use Rattle.std.proofs.Common.{Bool, List, None, Some, [], ap, arith, false, filter, inl, inr, length, length-take, map, refl, set, slice_get, suc, sym, take, true, zero, ℕ, ◌++◌, ◌+◌, ◌<◌, ◌∙◌, ◌∷◌, ◌≡◌, ◌≢◌, ◌≤◌, ◌⊎◌}
use Rattle.std.proofs.lemmas.Grind.{common_steps}
use Rattle.std.proofs.lemmas.List.Sums.{count_by-le-length, length-filter}
use Rattle.std.specs.List.{prefix_len}
use Rattle.std.specs.Prelude.{take_while, if◌then◌else◌}

pub take_one_more : {A : Type 0} (n : ℕ) (xs : List A) (x : A) → slice_get xs n ≡ Some x → take (suc n) xs ≡ take n xs ++ x ∷ []
take_one_more n [] x at = cc
take_one_more zero (y ∷ ys) x at = let e : y ≡ x = cc in rw e refl
take_one_more (suc n) (y ∷ ys) x at = ap (λ l. y ∷ l) (take_one_more n ys x at)

pub take_all_there : {A : Type 0} (n : ℕ) (xs : List A) → slice_get xs n ≡ None → take (suc n) xs ≡ take n xs
take_all_there zero [] at = refl
take_all_there (suc n) [] at = refl
take_all_there zero (y ∷ ys) at = cc
take_all_there (suc n) (y ∷ ys) at = ap (λ l. y ∷ l) (take_all_there n ys at)

pub zero_in : {A : Type 0} (f : A → ℕ) (xs : List A) (x c : ℕ) → ((a : A) → f a ≡ 0) → (rest : List ℕ) → ((y : ℕ) → slice_get rest y ≡ Some c → c ≡ 0) → slice_get (map f xs ++ rest) x ≡ Some c → c ≡ 0
zero_in f [] x c z rest k at = k x at
zero_in f (a ∷ as') zero c z rest k at = let e : f a ≡ c = cc in sym e ∙ z a
zero_in f (a ∷ as') (suc x) c z rest k at = zero_in f as' x c z rest k at

pub map_map : {A B C : Type 0} (f : A → B) (g : B → C) (xs : List A) → map g (map f xs) ≡ map (λ a. g (f a)) xs
map_map f g [] = refl
map_map f g (x ∷ xs) = ap (λ l. g (f x) ∷ l) (map_map f g xs)

pub filter_few : {A : Type 0} (p : A → Bool) (xs : List A) → length (filter p xs) ≤ length xs
filter_few p xs = omega (arith, length-filter p xs, count_by-le-length p xs)

pub at_past : {A : Type 0} (xs : List A) (i : ℕ) (x : A) → slice_get xs i ≡ Some x → length xs ≤ i → ⊥
at_past [] i x at le = cc
at_past (y ∷ ys) zero x at le = absurd (omega arith)
at_past (y ∷ ys) (suc i) x at le = at_past ys i x at (omega arith)

-- two filters in either order
pub filter_comm : {A : Type 0} (p q : A → Bool) (xs : List A) → filter p (filter q xs) ≡ filter q (filter p xs)
filter_comm p q [] = refl
filter_comm {A = A} p q (x ∷ xs) = comm_case (p x) (q x) refl refl (filter_comm p q xs)
  where
    comm_case : (b c : Bool) → p x ≡ b → q x ≡ c → filter p (filter q xs) ≡ filter q (filter p xs) →
        filter p (if c then x ∷ filter q xs else filter q xs) ≡ filter q (if b then x ∷ filter p xs else filter p xs)
    comm_case true true e f rest = rw (e, f) (ap (λ (ys : List A). x ∷ ys) rest)
    comm_case true false e f rest = rw f rest
    comm_case false true e f rest = rw e rest
    comm_case false false e f rest = rest

pub never_none : {A : Type 0} (xs : List A) (x : A) → xs ++ x ∷ [] ≡ [] → ⊥
never_none [] x e = cc
never_none (y ∷ ys) x e = cc

-- the last element, or one before it
pub last_or : {A : Type 0} (xs pre post : List A) (y j : A) → xs ++ y ∷ [] ≡ pre ++ j ∷ post → ((xs ≡ pre) × (y ≡ j)) ⊎ ((rest : List A) × (xs ≡ pre ++ j ∷ rest))
last_or [] [] post y j is = inl (refl, cc)
last_or [] (p ∷ []) post y j is = cc
last_or [] (p ∷ q ∷ ps) post y j is = cc
last_or {A = A} (x ∷ xs) [] post y j is = let e : x ≡ j = cc in inr (xs, rw e refl)
last_or {A = A} (x ∷ xs) (p ∷ ps) post y j is = let e : x ≡ p = cc in let rest : xs ++ y ∷ [] ≡ ps ++ j ∷ post = cc in last_case e (last_or xs ps post y j rest)
  where
    last_case : x ≡ p → ((xs ≡ ps) × (y ≡ j)) ⊎ ((rest : List A) × (xs ≡ ps ++ j ∷ rest)) → ((x ∷ xs ≡ p ∷ ps) × (y ≡ j)) ⊎ ((rest : List A) × (x ∷ xs ≡ p ∷ (ps ++ j ∷ rest)))
    last_case e (inl h) = inl (rw (e, h.0) refl, h.1)
    last_case e (inr h) = inr (h.0, rw (e, h.1) refl)

pub while_on : {A : Type 0} (p : A → Bool) (x : A) (xs : List A) → p x ≡ true → take_while p (x ∷ xs) ≡ x ∷ take_while p xs
while_on p x xs h = let e : 1 + prefix_len p xs ≡ suc (prefix_len p xs) = omega arith in rw h (ap (λ k. take k (x ∷ xs)) e)

pub while_off : {A : Type 0} (p : A → Bool) (x : A) (xs : List A) → p x ≡ false → take_while p (x ∷ xs) ≡ []
while_off p x xs h = rw h refl

pub length_take_le : {A : Type 0} (n : ℕ) (xs : List A) → length (take n xs) ≤ n
length_take_le n xs = omega (arith, length-take n xs)

pub length_map : {A B : Type 0} (f : A → B) (xs : List A) → length (map f xs) ≡ length xs
length_map f [] = refl
length_map f (x ∷ xs) = omega (arith, length_map f xs)

pub length_changed_at : {A : Type 0} (xs : List A) (n : ℕ) (f : A → A) → length (changed_at xs n f) ≡ length xs
length_changed_at [] n f = refl
length_changed_at (x ∷ xs) zero f = refl
length_changed_at (x ∷ xs) (suc n) f = omega (arith, length_changed_at xs n f)

-- no list that has a member is empty
pub none_before : {A : Type 0} (pre post : List A) (x : A) → [] ≡ pre ++ x ∷ post → ⊥
none_before [] post x is = cc
none_before (y ∷ ys) post x is = cc

-- a component that a change leaves alone is the same at each place
pub map-changed_at : {A B : Type 0} (f : A → B) (xs : List A) (n : ℕ) (g : A → A) → ((x : A) → f (g x) ≡ f x) → map f (changed_at xs n g) ≡ map f xs
map-changed_at f [] n g k = refl
map-changed_at f (x ∷ xs) zero g k = ap (λ y. y ∷ map f xs) (k x)
map-changed_at f (x ∷ xs) (suc n) g k = ap (λ ys. f x ∷ ys) (map-changed_at f xs n g k)

pub map-set_same : {A B : Type 0} (f : A → B) (xs : List A) (n : ℕ) (x y : A) → slice_get xs n ≡ Some x → f y ≡ f x → map f (set xs n y) ≡ map f xs
map-set_same f [] n x y at e = refl
map-set_same f (z ∷ zs) zero x y at e = let same : z ≡ x = cc in rw same (ap (λ v. v ∷ map f zs) e)
map-set_same f (z ∷ zs) (suc n) x y at e = ap (λ ys. f z ∷ ys) (map-set_same f zs n x y at e)

-- the element that was set, or one that was there
pub at_set : {A : Type 0} (xs : List A) (n m : ℕ) (x y : A) → slice_get (set xs n x) m ≡ Some y → ((m ≡ n) × (y ≡ x)) ⊎ ((m ≢ n) × (slice_get xs m ≡ Some y))
at_set [] n m x y at = cc
at_set (z ∷ zs) zero zero x y at = inl (refl, cc)
at_set (z ∷ zs) zero (suc m) x y at = inr ((λ e. absurd (omega arith)), at)
at_set (z ∷ zs) (suc n) zero x y at = inr ((λ e. absurd (omega arith)), at)
at_set (z ∷ zs) (suc n) (suc m) x y at = later_case (at_set zs n m x y at)
  where
    later_case : ((m ≡ n) × (y ≡ x)) ⊎ ((m ≢ n) × (slice_get zs m ≡ Some y)) → ((suc m ≡ suc n) × (y ≡ x)) ⊎ ((suc m ≢ suc n) × (slice_get zs m ≡ Some y))
    later_case (inl p) = inl (ap (λ k. suc k) p.0, p.1)
    later_case (inr p) = inr ((λ e. p.0 (omega arith)), p.1)

pub get-set_same : {A : Type 0} (xs : List A) (n : ℕ) (x y : A) → slice_get xs n ≡ Some x → slice_get (set xs n y) n ≡ Some y
get-set_same [] n x y at = cc
get-set_same (z ∷ zs) zero x y at = refl
get-set_same (z ∷ zs) (suc n) x y at = get-set_same zs n x y at

-- the element as it was, and as it is now
pub at_changed : {A : Type 0} (xs : List A) (n m : ℕ) (f : A → A) (y : A) → slice_get (changed_at xs n f) m ≡ Some y →
    ((m ≡ n) × ((x : A) × ((slice_get xs m ≡ Some x) × (y ≡ f x)))) ⊎ ((m ≢ n) × (slice_get xs m ≡ Some y))
at_changed [] n m f y at = cc
at_changed (z ∷ zs) zero zero f y at = inl (refl, (z, (refl, cc)))
at_changed (z ∷ zs) zero (suc m) f y at = inr ((λ e. absurd (omega arith)), at)
at_changed (z ∷ zs) (suc n) zero f y at = inr ((λ e. absurd (omega arith)), at)
at_changed {A = A} (z ∷ zs) (suc n) (suc m) f y at = later_case (at_changed zs n m f y at)
  where
    later_case : ((m ≡ n) × ((x : A) × ((slice_get zs m ≡ Some x) × (y ≡ f x)))) ⊎ ((m ≢ n) × (slice_get zs m ≡ Some y)) →
        ((suc m ≡ suc n) × ((x : A) × ((slice_get zs m ≡ Some x) × (y ≡ f x)))) ⊎ ((suc m ≢ suc n) × (slice_get zs m ≡ Some y))
    later_case (inl p) = inl (ap (λ k. suc k) p.0, p.1)
    later_case (inr p) = inr ((λ e. p.0 (omega arith)), p.1)

pub there_before : {A : Type 0} (xs : List A) (i : ℕ) (x : A) → slice_get xs (suc i) ≡ Some x → (y : A) × (slice_get xs i ≡ Some y)
there_before [] i x at = cc
there_before (y ∷ ys) zero x at = (y, refl)
there_before (y ∷ ys) (suc i) x at = there_before ys i x at

pub prefix_at : {A : Type 0} (xs rest : List A) (i : ℕ) (x : A) → i < length xs → slice_get (xs ++ rest) i ≡ Some x → slice_get xs i ≡ Some x
prefix_at [] rest i x lt at = absurd (omega (arith, lt))
prefix_at (y ∷ ys) rest zero x lt at = at
prefix_at (y ∷ ys) rest (suc i) x lt at = prefix_at ys rest i x (omega (arith, lt)) at

pub set_other : {A : Type 0} (xs : List A) (n k : ℕ) (y : A) → k ≢ n → slice_get (set xs n y) k ≡ slice_get xs k
set_other [] n k y ne = refl
set_other (x ∷ xs) zero zero y ne = absurd (ne refl)
set_other (x ∷ xs) zero (suc k) y ne = refl
set_other (x ∷ xs) (suc n) zero y ne = refl
set_other (x ∷ xs) (suc n) (suc k) y ne = set_other xs n k y (λ e. ne (ap (λ z. suc z) e))

pub numbers_few : {N : Type 0} (test : N → Bool) (n : ℕ) (xs : List N) → length (numbers_from test n xs) ≤ length xs
numbers_few test n [] = omega arith
numbers_few test n (x ∷ xs) = grind (arith, common_steps, numbers_few test (n + 1) xs)
