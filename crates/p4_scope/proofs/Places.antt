-- Names at places: what a list has at a name, by the map that says where names stand.
use Rattle.std.proofs.Common.{◌≡◌, ◌⊎◌, inl, inr, ℕ, zero, suc, List, [], ◌∷◌, ◌++◌, length, Bool, true, false, cond, Option, Some, None, refl, sym, ap, ◌∙◌, arith}
use Rattle.std.proofs.lemmas.Grind.{common_steps}
use Rattle.std.specs.Prelude.{slice_get, bytes_eq}
use Rattle.std.specs.Map.{lookup}
use Rattle.std.specs.Ordering.{is_eq, nat_cmp, match_ordering}
use Rattle.std.specs.declared.cmp.Ordering.{Ordering}
use Rattle.std.specs.declared.cmp.Ordering.TheVariants as order
use Rattle.std.specs.Cmp.Lexicographic.{slice_cmp}
use Rattle.std.specs.BTreeMap.{insert_entry}
use Rattle.std.proofs.lemmas.Map.Entries.{place_from_lookup}
use Rattle.std.proofs.lemmas.Map.Text.{is_eq-slice_cmp}
use Rattle.std.proofs.lemmas.Slice.Eq.{bytes_eq-Decides}
use Rattle.p4_scope.specs.Index.{IsIndex, at_entry, at_place}

true_false : true ≡ false → ⊥
true_false h = grind (arith, common_steps)

equal : (x y : List ℕ) → slice_cmp nat_cmp x y ≡ order.Equal → x ≡ y
equal x y h = (bytes_eq-Decides x y).0 (sym (is_eq-slice_cmp x y) ∙ ap is_eq h)

module _ {V : Type 0} where
  -- a name that isn't found stands nowhere
  misses : (x : List ℕ) (es : List (List ℕ × V)) → lookup (bytes_eq x) es ≡ None → (i : ℕ) (k : List ℕ × V) → slice_get es i ≡ Some k → bytes_eq x k.0 ≡ false
  misses x [] n i k h = grind (arith, common_steps)
  misses x (e ∷ es) n zero k h = grind (arith, common_steps)
  misses x (e ∷ es) n (suc i) k h = misses x es (by (bytes_eq x e.0) n) i k h
    where
      by : (b : Bool) → cond b (Some e.1) (lookup (bytes_eq x) es) ≡ None → lookup (bytes_eq x) es ≡ None
      by true h = grind (arith, common_steps)
      by false h = h

  pub looked : (es : List (List ℕ × V)) (place : List ℕ → Option ℕ) → IsIndex es place → (x : List ℕ) → lookup (bytes_eq x) es ≡ at_place x es (place x)
  looked es place h x = by (lookup (bytes_eq x) es) refl
    where
      last : lookup (bytes_eq x) es ≡ None → (i : ℕ) (o : Option (List ℕ × V)) → slice_get es i ≡ o → None ≡ at_entry x o
      last n i None s = refl
      last n i (Some k) s = sym (ap (λ b. cond b (Some k.1) None) (misses x es n i k s))

      other : lookup (bytes_eq x) es ≡ None → (q : Option ℕ) → None ≡ at_place x es q
      other n None = refl
      other n (Some i) = last n i (slice_get es i) refl

      by : (o : Option V) → lookup (bytes_eq x) es ≡ o → o ≡ at_place x es (place x)
      by None e = other e (place x)
      by (Some v) e =
          let p = place_from_lookup (bytes_eq x) es v e in
          let same : x ≡ p.1 = (bytes_eq-Decides x p.1).0 p.3 in
          let there : place x ≡ Some p.0 = ap place same ∙ h p.0 (p.1, v) p.2 in
          sym (ap (at_place x es) there ∙ (ap (at_entry x) p.2 ∙ ap (λ b. cond b (Some v) None) p.3))

  -- what stands in a list with one more
  pushed_at : (es : List (List ℕ × V)) (y : List ℕ × V) (i : ℕ) (e : List ℕ × V) → slice_get (es ++ y ∷ []) i ≡ Some e → (slice_get es i ≡ Some e) ⊎ ((i ≡ length es) × (y ≡ e))
  pushed_at [] y zero e h = inr (refl, grind (arith, common_steps))
  pushed_at [] y (suc i) e h = grind (arith, common_steps)
  pushed_at (x ∷ es) y zero e h = inl h
  pushed_at (x ∷ es) y (suc i) e h = by (pushed_at es y i e h)
    where
      by : (slice_get es i ≡ Some e) ⊎ ((i ≡ length es) × (y ≡ e)) → (slice_get es i ≡ Some e) ⊎ ((suc i ≡ suc (length es)) × (y ≡ e))
      by (inl s) = inl s
      by (inr s) = inr (ap suc s.0, s.1)

  pub pushed : (es : List (List ℕ × V)) (place new : List ℕ → Option ℕ) (x : List ℕ) (v : V) → IsIndex es place → lookup (bytes_eq x) es ≡ None
      → ((y : List ℕ) → new y ≡ cond (bytes_eq y x) (Some (length es)) (place y)) → IsIndex (es ++ (x, v) ∷ []) new
  pushed es place new x v h absent step i e s = by (pushed_at es (x, v) i e s)
    where
      old : slice_get es i ≡ Some e → (b : Bool) → bytes_eq e.0 x ≡ b → cond b (Some (length es)) (place e.0) ≡ Some i
      old s false t = h i e s
      old s true t = absurd (true_false (sym (ap (bytes_eq x) ((bytes_eq-Decides e.0 x).0 t) ∙ (bytes_eq-Decides x x).1 refl) ∙ misses x es absent i e s))

      by : (slice_get es i ≡ Some e) ⊎ ((i ≡ length es) × ((x, v) ≡ e)) → new e.0 ≡ Some i
      by (inl s) = step e.0 ∙ old s (bytes_eq e.0 x) refl
      by (inr s) = ap (λ (k : List ℕ × V). new k.0) (sym s.1) ∙ (step x ∙ (ap (λ b. cond b (Some (length es)) (place x)) ((bytes_eq-Decides x x).1 refl) ∙ ap Some (sym s.0)))

module _ {K : Type 0} (f : K → List ℕ) where
  abbrev compare : K → K → Ordering
  compare a b = slice_cmp nat_cmp (f a) (f b)

  abbrev test : List ℕ → K → Bool
  test x k = is_eq (slice_cmp nat_cmp x (f k))

module _ {X : Type 0} where
  swapped : (a b : Bool) (o p q : Option X) → (a ≡ true → b ≡ true → ⊥) → cond a o (cond b p q) ≡ cond b p (cond a o q)
  swapped true true o p q h = absurd (h refl refl)
  swapped true false o p q h = refl
  swapped false true o p q h = refl
  swapped false false o p q h = refl

  hidden : (a b : Bool) (p o q : Option X) → a ≡ b → cond a p q ≡ cond b p (cond a o q)
  hidden true true p o q h = refl
  hidden true false p o q h = absurd (true_false h)
  hidden false true p o q h = absurd (true_false (sym h))
  hidden false false p o q h = refl

module _ {K X : Type 0} (f : K → List ℕ) where
  pub inserted : (es : List (K × X)) (k : K) (v : X) (x : List ℕ) → lookup (test f x) (insert_entry (compare f) es k v) ≡ cond (test f x k) (Some v) (lookup (test f x) es)
  inserted [] k v x = refl
  inserted (e ∷ es) k v x = by (inserted es k v x) (compare f k e.0) refl
    where
      by : (lookup (test f x) (insert_entry (compare f) es k v) ≡ cond (test f x k) (Some v) (lookup (test f x) es)) → (o : Ordering) → compare f k e.0 ≡ o → lookup (test f x) (match_ordering o ((k, v) ∷ e ∷ es) ((e.0, v) ∷ es) (e ∷ insert_entry (compare f) es k v)) ≡ cond (test f x k) (Some v) (cond (test f x e.0) (Some e.1) (lookup (test f x) es))
      by again order.Less h = refl
      by again order.Equal h = hidden (test f x e.0) (test f x k) (Some v) (Some e.1) (lookup (test f x) es) (ap (λ t. is_eq (slice_cmp nat_cmp x t)) (sym (equal (f k) (f e.0) h)))
      by again order.Greater h = ap (λ o. cond (test f x e.0) (Some e.1) o) again
          ∙ swapped (test f x e.0) (test f x k) (Some e.1) (Some v) (lookup (test f x) es) (λ a b. apart a b)
        where
          apart : test f x e.0 ≡ true → test f x k ≡ true → ⊥
          apart a b =
              let one : x ≡ f e.0 = (bytes_eq-Decides x (f e.0)).0 (sym (is_eq-slice_cmp x (f e.0)) ∙ a) in
              let two : x ≡ f k = (bytes_eq-Decides x (f k)).0 (sym (is_eq-slice_cmp x (f k)) ∙ b) in
              let eq : compare f k e.0 ≡ slice_cmp nat_cmp x x = ap (λ t. slice_cmp nat_cmp t (f e.0)) (sym two) ∙ ap (slice_cmp nat_cmp x) (sym one) in
              true_false (sym (ap is_eq eq ∙ (is_eq-slice_cmp x x ∙ (bytes_eq-Decides x x).1 refl)) ∙ ap is_eq h)
