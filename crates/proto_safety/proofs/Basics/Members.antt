-- Facts about the members of lists.
use Rattle.proto_safety.specs.Books.{In}
use Rattle.std.proofs.Common.{Bool, List, Some, [], ap, arith, false, filter, inl, inr, length, map, refl, slice_get, subst, suc, sym, true, zero, ℕ, ◌++◌, ◌<◌, ◌∙◌, ◌∷◌, ◌≡◌, ◌≤◌, ◌⊎◌}
use Rattle.std.proofs.lemmas.Bool.{both_ways}
use Rattle.std.proofs.lemmas.List.Concat.{flat_map-cons}
use Rattle.std.specs.List.{IsAmong, slice_index_or}
use Rattle.std.specs.Prelude.{flat_map, if◌then◌else◌}

pub in_middle : {A : Type 0} (xs ys : List A) (e : A) → In (xs ++ e ∷ ys) e
in_middle [] ys e = inl refl
in_middle (x ∷ xs) ys e = inr (in_middle xs ys e)

pub in_append : {A : Type 0} (xs ys : List A) (x : A) → In (xs ++ ys) x → In xs x ⊎ In ys x
in_append [] ys x i = inr i
in_append (z ∷ xs) ys x (inl e) = inl (inl e)
in_append (z ∷ xs) ys x (inr i) = append_case (in_append xs ys x i)
  where
    append_case : In xs x ⊎ In ys x → In (z ∷ xs) x ⊎ In ys x
    append_case (inl j) = inl (inr j)
    append_case (inr j) = inr j

pub in_flat_parts : {A B : Type 0} (f : A → List B) (xs : List A) (y : B) → In (flat_map f xs) y → (x : A) × (In xs x × In (f x) y)
in_flat_parts f [] y i = absurd i
in_flat_parts {A = A} f (x ∷ xs) y i = part_case (in_append (f x) (flat_map f xs) y (subst (λ l. In l y) (flat_map-cons f x xs) i)) (in_flat_parts f xs y)
  where
    part_case : In (f x) y ⊎ In (flat_map f xs) y → (In (flat_map f xs) y → (z : A) × (In xs z × In (f z) y)) → (z : A) × (In (x ∷ xs) z × In (f z) y)
    part_case (inl j) rest = (x, (inl refl, j))
    part_case (inr j) rest = let r = rest j in (r.0, (inr r.1.0, r.1.1))

pub at_behind : {A : Type 0} (xs ys : List A) (i : ℕ) (x : A) → slice_get (xs ++ ys) i ≡ Some x → length xs ≤ i → In ys x
at_behind [] [] i x at le = cc
at_behind [] (y ∷ ys) zero x at le = inl cc
at_behind [] (y ∷ ys) (suc i) x at le = inr (at_behind [] ys i x at (omega arith))
at_behind (z ∷ zs) ys zero x at le = absurd (omega arith)
at_behind (z ∷ zs) ys (suc i) x at le = at_behind zs ys i x at (omega arith)

pub in_filter : {A : Type 0} (p : A → Bool) (xs : List A) (x : A) → In (filter p xs) x → In xs x × (p x ≡ true)
in_filter p [] x i = absurd i
in_filter {A = A} p (y ∷ ys) x i = filter_case (p y) refl (in_filter p ys x) i
  where
    filter_case : (b : Bool) → p y ≡ b → (In (filter p ys) x → In ys x × (p x ≡ true)) → In (if b then y ∷ filter p ys else filter p ys) x → In (y ∷ ys) x × (p x ≡ true)
    filter_case true is rest (inl e) = (inl e, subst (λ (z : A). p z ≡ true) e is)
    filter_case true is rest (inr j) = let r = rest j in (inr r.0, r.1)
    filter_case false is rest j = let r = rest j in (inr r.0, r.1)

pub to_filter : {A : Type 0} (p : A → Bool) (xs : List A) (x : A) → In xs x → p x ≡ true → In (filter p xs) x
to_filter p [] x i t = absurd i
to_filter {A = A} p (y ∷ ys) x (inl e) t = filter_case (p y) refl
  where
    filter_case : (b : Bool) → p y ≡ b → In (if b then y ∷ filter p ys else filter p ys) x
    filter_case true is = inl e
    filter_case false is = absurd (both_ways (p y) is (subst (λ (z : A). p z ≡ true) (sym e) t))
to_filter p (y ∷ ys) x (inr i) t = filter_case (p y) (to_filter p ys x i t)
  where
    filter_case : (b : Bool) → In (filter p ys) x → In (if b then y ∷ filter p ys else filter p ys) x
    filter_case true j = inr j
    filter_case false j = j

pub to_append : {A : Type 0} (xs ys : List A) (x : A) → In xs x ⊎ In ys x → In (xs ++ ys) x
to_append [] ys x (inl i) = absurd i
to_append [] ys x (inr i) = i
to_append (z ∷ xs) ys x (inl (inl e)) = inl e
to_append (z ∷ xs) ys x (inl (inr i)) = inr (to_append xs ys x (inl i))
to_append (z ∷ xs) ys x (inr i) = inr (to_append xs ys x (inr i))

pub in_map : {A B : Type 0} (f : A → B) (xs : List A) (y : B) → In (map f xs) y → (x : A) × (In xs x × (f x ≡ y))
in_map f [] y i = absurd i
in_map f (x ∷ xs) y (inl e) = (x, (inl refl, e))
in_map f (x ∷ xs) y (inr i) = let r = in_map f xs y i in (r.0, (inr r.1.0, r.1.1))

pub to_map : {A B : Type 0} (f : A → B) (xs : List A) (x : A) → In xs x → In (map f xs) (f x)
to_map f [] x i = absurd i
to_map f (y ∷ ys) x (inl e) = inl (ap f e)
to_map f (y ∷ ys) x (inr i) = inr (to_map f ys x i)

-- membership behind a front
pub in_front : {A : Type 0} (xs ys : List A) (x : A) → In xs x → In (xs ++ ys) x
in_front [] ys x i = absurd i
in_front (y ∷ xs) ys x (inl e) = inl e
in_front (y ∷ xs) ys x (inr i) = inr (in_front xs ys x i)

pub in_last : {A : Type 0} (xs : List A) (x : A) → In (xs ++ x ∷ []) x
in_last [] x = inl refl
in_last (y ∷ xs) x = inr (in_last xs x)

pub flat_map_nil : {A B : Type 0} (f : A → List B) (xs : List A) → ((x : A) → In xs x → f x ≡ []) → flat_map f xs ≡ []
flat_map_nil f [] h = refl
flat_map_nil f (x ∷ xs) h = flat_map-cons f x xs ∙ rw (h x (inl refl)) (flat_map_nil f xs (λ y i. h y (inr i)))

pub in_mapped : {A B : Type 0} (f : A → B) (xs : List A) (y : B) → In (map f xs) y → (x : A) × (In xs x × (y ≡ f x))
in_mapped f [] y i = absurd i
in_mapped f (x ∷ xs) y (inl e) = (x, (inl refl, sym e))
in_mapped f (x ∷ xs) y (inr i) = let r = in_mapped f xs y i in (r.0, (inr r.1.0, r.1.1))

pub nobody : {A : Type 0} (xs : List A) → ((x : A) → In xs x → ⊥) → xs ≡ []
nobody [] h = refl
nobody (x ∷ xs) h = absurd (h x (inl refl))

-- a member by its place stands in the list
pub among_in : {A : Type 0} (vs : List A) (v : A) → IsAmong vs v → In vs v
among_in vs v a = at_place vs v a.0 a.1.0 a.1.1
  where
    at_place : {A : Type 0} (vs : List A) (v : A) (i : ℕ) → i < length vs → v ≡ slice_index_or vs i v → In vs v
    at_place [] v i lt e = absurd (omega arith)
    at_place (x ∷ xs) v zero lt e = inl (sym e)
    at_place (x ∷ xs) v (suc i) lt e = inr (at_place xs v i (omega arith) e)

-- a member stands somewhere
pub record Somewhere {A : Type 0} (xs : List A) (x : A) : Type 0 where
  pub before : List A
  pub behind : List A
  pub is : xs ≡ before ++ x ∷ behind

pub somewhere : {A : Type 0} (xs : List A) (x : A) → In xs x → Somewhere xs x
somewhere [] x i = absurd i
somewhere (y ∷ ys) x (inl e) = record { before = []; behind = ys; is = ap (λ z. z ∷ ys) e }
somewhere (y ∷ ys) x (inr i) = let s = somewhere ys x i in record { before = y ∷ s.before; behind = s.behind; is = ap (λ zs. y ∷ zs) s.is }

pub in_flat : {A B : Type 0} (f : A → List B) (xs : List A) (x : A) (y : B) → In xs x → In (f x) y → In (flat_map f xs) y
in_flat f [] x y i j = absurd i
in_flat f (z ∷ zs) x y (inl e) j = subst (λ l. In l y) (sym (flat_map-cons f z zs)) (to_append (f z) (flat_map f zs) y (inl (subst (λ v. In (f v) y) (sym e) j)))
in_flat f (z ∷ zs) x y (inr i) j = subst (λ l. In l y) (sym (flat_map-cons f z zs)) (to_append (f z) (flat_map f zs) y (inr (in_flat f zs x y i j)))

pub flat_map_same : {A B : Type 0} (f g : A → List B) (xs : List A) → ((x : A) → In xs x → f x ≡ g x) → flat_map f xs ≡ flat_map g xs
flat_map_same f g [] h = refl
flat_map_same f g (x ∷ xs) h =
    flat_map-cons f x xs ∙ (ap (λ l. l ++ flat_map f xs) (h x (inl refl)) ∙ (ap (λ l. g x ++ l) (flat_map_same f g xs (λ y i. h y (inr i))) ∙ sym (flat_map-cons g x xs)))

pub filter_no : {A : Type 0} (p : A → Bool) (xs : List A) → ((x : A) → In xs x → p x ≡ false) → filter p xs ≡ []
filter_no p [] h = refl
filter_no p (x ∷ xs) h = rw (h x (inl refl)) (filter_no p xs (λ y i. h y (inr i)))

pub filter_like : {A : Type 0} (p q : A → Bool) (xs : List A) → ((x : A) → In xs x → p x ≡ q x) → filter p xs ≡ filter q xs
filter_like p q [] h = refl
filter_like {A = A} p q (x ∷ xs) h = rw (h x (inl refl)) (ap (λ l. if q x then x ∷ l else l) (filter_like p q xs (λ y i. h y (inr i))))

pub decomposed : {A : Type 0} (xs : List A) (x : A) → In xs x → (pre : List A) × (post : List A) × (xs ≡ pre ++ x ∷ post)
decomposed [] x i = absurd i
decomposed (y ∷ ys) x (inl e) = ([], ys, rw e refl)
decomposed (y ∷ ys) x (inr i) = let r = decomposed ys x i in (y ∷ r.0, r.1, ap (λ l. y ∷ l) r.2)

pub in_among : {A : Type 0} (vs : List A) (v : A) → In vs v → IsAmong vs v
in_among [] v i = absurd i
in_among (x ∷ xs) v (inl e) = (0, (omega arith, sym e))
in_among (x ∷ xs) v (inr i) = let p = in_among xs v i in (suc p.0, (omega (arith, p.1.0), p.1.1))

-- an element at a place stands in the list
pub in_frames : {A : Type 0} (xs : List A) (i : ℕ) (x : A) → slice_get xs i ≡ Some x → In xs x
in_frames [] i x at = cc
in_frames (y ∷ ys) zero x at = inl cc
in_frames (y ∷ ys) (suc i) x at = inr (in_frames ys i x at)
