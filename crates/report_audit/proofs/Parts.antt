-- What holds of each two elements of a list, by its parts.
use Rattle.std.proofs.Common.{◌≡◌, ◌≢◌, ℕ, List, [], ◌∷◌, ◌++◌, ap}
use Rattle.proto_model.specs.Feeds.{Each, Pairwise}
use Rattle.proto_safety.proofs.Basics.Eachs.{each_all, each_front, each_in}
use Rattle.proto_safety.proofs.Basics.Members.{decomposed, in_middle}

-- no number comes twice
abbrev pub Apart : List ℕ → Type 0
Apart ms = Pairwise (λ (a b : ℕ). a ≢ b) ms

-- what stands before an element
pub each_before : {A : Type 0} (R : A → A → Type 0) (xs : List A) (x : A) (ys : List A) → Pairwise R (xs ++ x ∷ ys) → Each (λ y. R y x) xs
each_before R [] x ys h = tt
each_before R (z ∷ zs) x ys h = (each_in (R z) (zs ++ x ∷ ys) x h.0 (in_middle zs ys x), each_before R zs x ys h.1)

pub pairs_front : {A : Type 0} (R : A → A → Type 0) (xs ys : List A) → Pairwise R (xs ++ ys) → Pairwise R xs
pairs_front R [] ys h = tt
pairs_front R (x ∷ xs) ys h = (each_front (R x) xs ys h.0, pairs_front R xs ys h.1)

pub pairs_behind : {A : Type 0} (R : A → A → Type 0) (xs ys : List A) → Pairwise R (xs ++ ys) → Pairwise R ys
pairs_behind R [] ys h = h
pairs_behind R (x ∷ xs) ys h = pairs_behind R xs ys h.1

-- pairs are known where it is known which elements may stand before each
pub pairs_by : {A : Type 0} (R : A → A → Type 0) (xs : List A) → ((before : List A) (x : A) (behind : List A) → xs ≡ before ++ x ∷ behind → Each (λ y. R y x) before) → Pairwise R xs
pairs_by R [] h = tt
pairs_by R (y ∷ ys) h = (
  each_all (R y) ys (λ x i. let d = decomposed ys x i in (h (y ∷ d.0) x d.1 (ap (λ l. y ∷ l) d.2)).0),
  pairs_by R ys (λ before x behind e. (h (y ∷ before) x behind (ap (λ l. y ∷ l) e)).1),
)
