-- The lines of the rows of a table, one row more.
use Rattle.std.proofs.Common.{◌≡◌, ◌∙◌, ◌+◌, ℕ, List, [], ◌∷◌, ◌++◌, Option, Some, None, ap, sym, slice_get, take, add-one, append-nil}
use Rattle.std.specs.Prelude.{flat_map}
use Rattle.std.proofs.lemmas.Grind.{flat_map-append}
use Rattle.proto_safety.proofs.Basics.Lists.{take_all_there, take_one_more}

-- what is written of a row that may be there
abbrev pub of_row : {X Y : Type 0} → (X → List Y) → Option X → List Y
of_row f None = []
of_row f (Some x) = f x

pub row_more : {X Y : Type 0} (f : X → List Y) (xs : List X) (i : ℕ) (o : Option X) → slice_get xs i ≡ o → flat_map f (take (i + 1) xs) ≡ flat_map f (take i xs) ++ of_row f o
row_more f xs i None at = ap (λ n. flat_map f (take n xs)) (add-one i) ∙ ap (flat_map f) (take_all_there i xs at) ∙ sym (append-nil _)
row_more f xs i (Some x) at =
    ap (λ n. flat_map f (take n xs)) (add-one i)
    ∙ ap (flat_map f) (take_one_more i xs x at)
    ∙ flat_map-append f (take i xs) (x ∷ [])
    ∙ ap (λ ys. flat_map f (take i xs) ++ ys) (append-nil (f x))
