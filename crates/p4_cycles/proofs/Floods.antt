-- Marks are kept, and a search goes on.
use Rattle.std.proofs.Common.{◌≡◌, ℕ, zero, suc, ◌+◌, ◌-◌, ◌<◌, List, [], ◌∷◌, ◌++◌, Bool, true, false, Some, None, ◌||◌, nat_eq, refl, ap, ◌∙◌, arith}
use Rattle.std.specs.Prelude.{slice_get}
use Rattle.p4_cycles.specs.Graphs.{Graph, targets, is_among, joined, onward, reached}

-- one more number
pub among_push : (z y : ℕ) (xs : List ℕ) → is_among z (xs ++ y ∷ []) ≡ (is_among z xs || nat_eq y z)
among_push z y [] = by (nat_eq y z)
  where
    by : (b : Bool) → (b || false) ≡ b
    by true = refl
    by false = refl
among_push z y (x ∷ xs) = ap (λ b. nat_eq x z || b) (among_push z y xs) ∙ by (nat_eq x z) (is_among z xs) (nat_eq y z)
  where
    by : (a b c : Bool) → (a || (b || c)) ≡ ((a || b) || c)
    by true b c = refl
    by false b c = refl

-- a search goes on while numbers are left
pub reached_more : (g : Graph) (n i x : ℕ) (xs : List ℕ) → i < n → slice_get xs i ≡ Some x → reached (n - i) g i xs ≡ reached (n - (i + 1)) g (i + 1) (joined xs (targets g x))
reached_more g n i x xs less h =
    let e : n - i ≡ suc (n - (i + 1)) = omega (arith, less) in
    ap (λ k. reached k g i xs) e ∙ ap (onward (reached (n - (i + 1)) g (i + 1)) g xs) h

-- and ends where none is left
pub reached_end : (g : Graph) (k i : ℕ) (xs : List ℕ) → slice_get xs i ≡ None → reached k g i xs ≡ xs
reached_end g zero i xs h = refl
reached_end g (suc k) i xs h = ap (onward (reached k g (i + 1)) g xs) h
