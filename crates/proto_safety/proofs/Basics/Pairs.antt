-- What holds of each two elements of a list, in their order.
use Rattle.proto_model.specs.Feeds.{Each, Pairwise}
use Rattle.proto_safety.proofs.Basics.Eachs.{each_all, each_append, each_filter, each_in, each_mapped, each_unmapped}
use Rattle.proto_safety.proofs.Basics.Members.{in_flat_parts}
use Rattle.proto_safety.specs.Books.{In}
use Rattle.std.proofs.Common.{Bool, List, [], false, filter, inl, inr, map, refl, subst, sym, true, ◌++◌, ◌∷◌}
use Rattle.std.proofs.lemmas.List.Concat.{flat_map-cons}
use Rattle.std.specs.Prelude.{flat_map, if◌then◌else◌}

-- one more that differs from all
pub pairwise_push : {A : Type 0} (R : A → A → Type 0) (xs : List A) (y : A) → Pairwise R xs → Each (λ x. R x y) xs → Pairwise R (xs ++ y ∷ [])
pairwise_push R [] y h e = (tt, tt)
pairwise_push R (x ∷ xs) y h e = (each_append (R x) xs (y ∷ []) h.0 (e.0, tt), pairwise_push R xs y h.1 e.1)

pub pairwise_in : {A : Type 0} (R : A → A → Type 0) (xs : List A) → ((a b : A) → In xs a → In xs b → R a b) → Pairwise R xs
pairwise_in R [] h = tt
pairwise_in R (x ∷ xs) h = (each_all (R x) xs (λ y i. h x y (inl refl) (inr i)), pairwise_in R xs (λ a b i j. h a b (inr i) (inr j)))

pub pairwise_with : {A : Type 0} (S R : A → A → Type 0) (xs : List A) → Pairwise S xs → ((a b : A) → In xs a → In xs b → S a b → R a b) → Pairwise R xs
pairwise_with S R [] h k = tt
pairwise_with S R (x ∷ xs) h k = (each_all (R x) xs (λ y i. k x y (inl refl) (inr i) (each_in (S x) xs y h.0 i)), pairwise_with S R xs h.1 (λ a b i j s. k a b (inr i) (inr j) s))

pub pairwise_all : {A B : Type 0} (Q : B → A → A → Type 0) (xs : List A) → ((r : B) → Pairwise (Q r) xs) → Pairwise (λ a b. (r : B) → Q r a b) xs
pairwise_all Q [] h = tt
pairwise_all Q (x ∷ xs) h = (each_all (λ b. (r : _) → Q r x b) xs (λ y i r. each_in (Q r x) xs y (h r).0 i), pairwise_all Q xs (λ r. (h r).1))

pub pairwise_mapped : {A B : Type 0} (R : B → B → Type 0) (f : A → B) (xs : List A) → Pairwise (λ a b. R (f a) (f b)) xs → Pairwise R (map f xs)
pairwise_mapped R f [] h = tt
pairwise_mapped R f (x ∷ xs) h = (each_mapped (R (f x)) f xs h.0, pairwise_mapped R f xs h.1)

pub pairwise_unmapped : {A B : Type 0} (R : B → B → Type 0) (f : A → B) (xs : List A) → Pairwise R (map f xs) → Pairwise (λ a b. R (f a) (f b)) xs
pairwise_unmapped R f [] h = tt
pairwise_unmapped R f (x ∷ xs) h = (each_unmapped (R (f x)) f xs h.0, pairwise_unmapped R f xs h.1)

pub pairwise_filter : {A : Type 0} (R : A → A → Type 0) (p : A → Bool) (xs : List A) → Pairwise R xs → Pairwise R (filter p xs)
pairwise_filter R p [] h = tt
pairwise_filter R p (x ∷ xs) h = keep_case (p x) (each_filter (R x) p xs h.0) (pairwise_filter R p xs h.1)
  where
    keep_case : (b : Bool) → Each (R x) (filter p xs) → Pairwise R (filter p xs) → Pairwise R (if b then x ∷ filter p xs else filter p xs)
    keep_case true e rest = (e, rest)
    keep_case false e rest = rest

pub pairwise_append : {A : Type 0} (R : A → A → Type 0) (xs ys : List A) → Pairwise R xs → Pairwise R ys → ((x y : A) → In xs x → In ys y → R x y) → Pairwise R (xs ++ ys)
pairwise_append R [] ys h k c = k
pairwise_append R (x ∷ xs) ys h k c =
    (each_append (R x) xs ys h.0 (each_all (R x) ys (λ y i. c x y (inl refl) i)), pairwise_append R xs ys h.1 k (λ a b i j. c a b (inr i) j))

pub pairwise_flat : {A B : Type 0} (S : A → A → Type 0) (R : B → B → Type 0) (f : A → List B) (xs : List A) → Pairwise S xs → ((x : A) → In xs x → Pairwise R (f x)) → ((x y : A) (a b : B) → S x y → In (f x) a → In (f y) b → R a b) → Pairwise R (flat_map f xs)
pairwise_flat S R f [] h k c = tt
pairwise_flat S R f (x ∷ xs) h k c =
    subst (λ l. Pairwise R l) (sym (flat_map-cons f x xs))
    (pairwise_append R (f x) (flat_map f xs) (k x (inl refl)) (pairwise_flat S R f xs h.1 (λ y i. k y (inr i)) c)
    (λ a b i j. let p = in_flat_parts f xs b j in c x p.0 a b (each_in (S x) xs p.0 h.0 p.1.0) i p.1.1))
