-- What is made of the members of a list, one more member on.
use Rattle.std.proofs.Common.{◌≡◌, ℕ, ◌+◌, slice_get, [], ◌∷◌, ◌++◌, List, Some, None, ap, ◌∙◌, take, add-one, append-nil}
use Rattle.std.specs.Prelude.{flat_map}
use Rattle.std.proofs.lemmas.Grind.{flat_map-append}
use Rattle.proto_safety.proofs.Basics.Lists.{take_all_there, take_one_more}

pub each_more : {X Y : Type 0} (f : X → List Y) (xs : List X) (i : ℕ) (x : X) → slice_get xs i ≡ Some x → flat_map f (take (i + 1) xs) ≡ flat_map f (take i xs) ++ f x
each_more f xs i x h =
    ap (λ n. flat_map f (take n xs)) (add-one i)
    ∙ ap (flat_map f) (take_one_more i xs x h)
    ∙ flat_map-append f (take i xs) (x ∷ [])
    ∙ ap (λ ys. flat_map f (take i xs) ++ ys) (append-nil (f x))

pub each_stays : {X Y : Type 0} (f : X → List Y) (xs : List X) (i : ℕ) → slice_get xs i ≡ None → flat_map f (take (i + 1) xs) ≡ flat_map f (take i xs)
each_stays f xs i h = ap (λ n. flat_map f (take n xs)) (add-one i) ∙ ap (flat_map f) (take_all_there i xs h)
