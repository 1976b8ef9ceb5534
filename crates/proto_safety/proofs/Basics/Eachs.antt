-- What holds of each element of a list.
use Rattle.proto_model.specs.Feeds.{Each}
use Rattle.proto_model.specs.WorldStep.{changed_at}
use Rattle.proto_safety.specs.Books.{In}
use Rattle.std.proofs.Common.{Bool, List, Some, [], ap, cond, drop, false, filter, inl, inr, map, refl, set, slice_get, subst, suc, take, true, zero, ℕ, ◌++◌, ◌∷◌, ◌≡◌}

pub each_in : {A : Type 0} (P : A → Type 0) (xs : List A) (x : A) → Each P xs → In xs x → P x
each_in P [] x h i = absurd i
each_in P (y ∷ ys) x h (inl e) = subst P e h.0
each_in P (y ∷ ys) x h (inr i) = each_in P ys x h.1 i

pub each_append : {A : Type 0} (P : A → Type 0) (xs ys : List A) → Each P xs → Each P ys → Each P (xs ++ ys)
each_append P [] ys h k = k
each_append P (x ∷ xs) ys h k = (h.0, each_append P xs ys h.1 k)

-- what holds of all that stand in a list holds of each element
pub each_all : {A : Type 0} (P : A → Type 0) (xs : List A) → ((x : A) → In xs x → P x) → Each P xs
each_all P [] h = tt
each_all P (x ∷ xs) h = (h x (inl refl), each_all P xs (λ y i. h y (inr i)))

pub each_mapped : {A B : Type 0} (P : B → Type 0) (f : A → B) (xs : List A) → Each (λ x. P (f x)) xs → Each P (map f xs)
each_mapped P f [] h = tt
each_mapped P f (x ∷ xs) h = (h.0, each_mapped P f xs h.1)

pub each_unmapped : {A B : Type 0} (P : B → Type 0) (f : A → B) (xs : List A) → Each P (map f xs) → Each (λ x. P (f x)) xs
each_unmapped P f [] h = tt
each_unmapped P f (x ∷ xs) h = (h.0, each_unmapped P f xs h.1)

-- what holds of each element holds of the one at a place
pub each_at : {A : Type 0} (P : A → Type 0) (xs : List A) (n : ℕ) (x : A) → Each P xs → slice_get xs n ≡ Some x → P x
each_at P [] n x h at = cc
each_at P (y ∷ ys) zero x h at = let e : y ≡ x = cc in rw e at h.0
each_at P (y ∷ ys) (suc n) x h at = each_at P ys n x h.1 at

pub each_set : {A : Type 0} (P : A → Type 0) (xs : List A) (n : ℕ) (x : A) → Each P xs → P x → Each P (set xs n x)
each_set P [] n x h p = tt
each_set P (y ∷ ys) zero x h p = (p, h.1)
each_set P (y ∷ ys) (suc n) x h p = (h.0, each_set P ys n x h.1 p)

pub each_changed : {A : Type 0} (P : A → Type 0) (xs : List A) (n : ℕ) (f : A → A) → ((x : A) → P x → P (f x)) → Each P xs → Each P (changed_at xs n f)
each_changed P [] n f k h = tt
each_changed P (y ∷ ys) zero f k h = (k y h.0, h.1)
each_changed P (y ∷ ys) (suc n) f k h = (h.0, each_changed P ys n f k h.1)

pub each_map : {A B : Type 0} (P : B → Type 0) (f : A → B) (xs : List A) → ((x : A) → P (f x)) → Each P (map f xs)
each_map P f [] k = tt
each_map P f (x ∷ xs) k = (k x, each_map P f xs k)

pub each_weaker : {A : Type 0} (P Q : A → Type 0) (xs : List A) → ((x : A) → P x → Q x) → Each P xs → Each Q xs
each_weaker P Q [] k h = tt
each_weaker P Q (x ∷ xs) k h = (k x h.0, each_weaker P Q xs k h.1)

pub each_filter : {A : Type 0} (P : A → Type 0) (p : A → Bool) (xs : List A) → Each P xs → Each P (filter p xs)
each_filter P p [] h = tt
each_filter P p (x ∷ xs) h = keep_case P (p x) x (filter p xs) h.0 (each_filter P p xs h.1)
  where
    keep_case : {A : Type 0} (P : A → Type 0) (b : Bool) (x : A) (xs : List A) → P x → Each P xs → Each P (cond b (x ∷ xs) xs)
    keep_case P true x xs h k = (h, k)
    keep_case P false x xs h k = k

-- a test chooses between two lists
pub each_if : {A : Type 0} (P : A → Type 0) (b : Bool) (xs ys : List A) → Each P xs → Each P ys → Each P (cond b xs ys)
each_if P true xs ys h k = h
each_if P false xs ys h k = k

pub each_take : {A : Type 0} (P : A → Type 0) (n : ℕ) (xs : List A) → Each P xs → Each P (take n xs)
each_take P zero xs h = tt
each_take P (suc n) [] h = tt
each_take P (suc n) (x ∷ xs) h = (h.0, each_take P n xs h.1)

pub each_becomes : {A : Type 0} (P Q : A → Type 0) (xs : List A) (n : ℕ) (f : A → A) → ((x : A) → P x → Q x) → ((x : A) → P x → Q (f x)) → Each P xs → Each Q (changed_at xs n f)
each_becomes P Q [] n f k l h = tt
each_becomes P Q (x ∷ xs) zero f k l h = (l x h.0, each_weaker P Q xs k h.1)
each_becomes P Q (x ∷ xs) (suc n) f k l h = (k x h.0, each_becomes P Q xs n f k l h.1)

pub each_both : {A : Type 0} (P Q : A → Type 0) (xs : List A) → Each P xs → Each Q xs → Each (λ x. P x × Q x) xs
each_both P Q [] h k = tt
each_both P Q (x ∷ xs) h k = ((h.0, k.0), each_both P Q xs h.1 k.1)

pub filter_all : {A : Type 0} (p : A → Bool) (xs : List A) → Each (λ x. p x ≡ true) xs → filter p xs ≡ xs
filter_all p [] h = refl
filter_all p (x ∷ xs) h = rw h.0 (ap (λ l. x ∷ l) (filter_all p xs h.1))

pub each_drop : {A : Type 0} (P : A → Type 0) (k : ℕ) (xs : List A) → Each P xs → Each P (drop k xs)
each_drop P zero xs h = h
each_drop P (suc k) [] h = tt
each_drop P (suc k) (x ∷ xs) h = each_drop P k xs h.1

pub each_front : {A : Type 0} (P : A → Type 0) (xs ys : List A) → Each P (xs ++ ys) → Each P xs
each_front P [] ys h = tt
each_front P (x ∷ xs) ys h = (h.0, each_front P xs ys h.1)

pub each_made : {A B : Type 0} (P : B → Type 0) (f : A → B) (xs : List A) → ((x : A) → In xs x → P (f x)) → Each P (map f xs)
each_made P f [] k = tt
each_made P f (x ∷ xs) k = (k x (inl refl), each_made P f xs (λ y i. k y (inr i)))
