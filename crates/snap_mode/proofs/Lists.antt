-- Lists that are emptied from the front.
use Rattle.std.proofs.Common.{◌≡◌, ℕ, zero, suc, ◌+◌, ◌<◌, List, [], ◌∷◌, ◌++◌, length, refl, sym, ◌∙◌, ap, arith, set, drop}
use Rattle.std.specs.Prelude.{replicate}
use Rattle.std.proofs.Math.Numerals.{add-one}

emptied_suc : {A : Type 0} (xs : List A) (i : ℕ) (v : A) → i < length xs → set (replicate i v ++ drop i xs) i v ≡ replicate (suc i) v ++ drop (suc i) xs
emptied_suc [] i v low = absurd (omega (arith, low))
emptied_suc (x ∷ xs) zero v low = refl
emptied_suc (x ∷ xs) (suc i) v low = ap (λ ys. v ∷ ys) (emptied_suc xs i v (omega (arith, low)))

-- one more place of a list is emptied
pub emptied_next : {A : Type 0} (xs : List A) (i : ℕ) (v : A) → i < length xs → set (replicate i v ++ drop i xs) i v ≡ replicate (i + 1) v ++ drop (i + 1) xs
emptied_next xs i v low = emptied_suc xs i v low ∙ ap (λ j. replicate j v ++ drop j xs) (sym (add-one i))
