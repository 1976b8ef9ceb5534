-- One more member, in the loops over lists.
use Rattle.std.proofs.Common.{◌≡◌, ℕ, ◌+◌, ◌<◌, [], ◌∷◌, ◌++◌, List, sym, ap, ◌∙◌, take, length, get_or, add-one}
use Rattle.std.proofs.Math.Seq.{take-suc}

pub next_item : {X : Type 0} (xs : List X) (i : ℕ) (x y : X) → i < length xs → x ≡ y → y ≡ get_or xs i y → take (i + 1) xs ≡ take i xs ++ x ∷ []
next_item xs i x y l same at = ap (λ n. take n xs) (add-one i) ∙ take-suc xs i y l ∙ ap (λ z. take i xs ++ z ∷ []) (sym at ∙ sym same)
