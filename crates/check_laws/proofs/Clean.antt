-- What has no fault has none in its parts, and what is found in a list stays found when the list grows at its end.
use Rattle.std.proofs.Common.{◌≡◌, ℕ, zero, suc, Bool, true, false, List, [], ◌∷◌, ◌++◌, length, cond, Some, None, refl, sym, ap, ◌∙◌, if◌then◌else◌}
use Rattle.std.specs.Prelude.{slice_get, bytes_eq}
use Rattle.std.specs.Map.{lookup}
use Rattle.std.proofs.lemmas.Option.{none-some}
use Rattle.std.proofs.lemmas.Bool.{false≢true}
use Rattle.std.proofs.lemmas.Slice.Eq.{bytes_eq-Decides}
use Rattle.rp_base.specs.declared.refused.Why.{Why}
use Rattle.p4_scope.specs.Faults.{Fault, is_first, first_of, fault, fault_if}

some_none : {A : Type 0} (x : A) → Some x ≡ None → ⊥
some_none x h = none-some x (sym h)

-- two faults of which the first is none are none
pub clean_both : (f g : Fault) → first_of f g ≡ None → (f ≡ None) × (g ≡ None)
clean_both None g h = (refl, h)
clean_both (Some f) None h = absurd (some_none f h)
clean_both (Some f) (Some g) h = by (is_first f g) h
  where
    by : (b : Bool) → (if b then Some f else Some g) ≡ None → (Some f ≡ None) × (Some g ≡ None)
    by true h = absurd (some_none f h)
    by false h = absurd (some_none g h)

-- where there is no fault nothing is bad
pub clean_if : (bad : Bool) (w : Why) (at : ℕ) → fault_if bad w at ≡ None → bad ≡ false
clean_if false w at h = refl
clean_if true w at h = absurd (some_none _ h)

-- a fault isn't none
pub not_clean : (w : Why) (at : ℕ) → fault w at ≡ None → ⊥
not_clean w at h = some_none _ h

-- ---- lists

module _ {X : Type 0} where
  pub get_front : (xs ys : List X) (i : ℕ) (x : X) → slice_get xs i ≡ Some x → slice_get (xs ++ ys) i ≡ Some x
  get_front [] ys i x h = absurd (none-some x h)
  get_front (y ∷ xs) ys zero x h = h
  get_front (y ∷ xs) ys (suc i) x h = get_front xs ys i x h

  pub get_last : (xs : List X) (x : X) → slice_get (xs ++ x ∷ []) (length xs) ≡ Some x
  get_last [] x = refl
  get_last (y ∷ xs) x = get_last xs x

module _ {X : Type 0} (test : List ℕ → Bool) where
  pub found_front : (xs ys : List (List ℕ × X)) (v : X) → lookup test xs ≡ Some v → lookup test (xs ++ ys) ≡ Some v
  found_front [] ys v h = absurd (none-some v h)
  found_front (x ∷ xs) ys v h = by (test x.0) h (found_front xs ys v)
    where
      by : (b : Bool) → cond b (Some x.1) (lookup test xs) ≡ Some v → (lookup test xs ≡ Some v → lookup test (xs ++ ys) ≡ Some v) → cond b (Some x.1) (lookup test (xs ++ ys)) ≡ Some v
      by true h rest = h
      by false h rest = rest h

  pub found_last : (xs : List (List ℕ × X)) (n : List ℕ) (v : X) → lookup test xs ≡ None → lookup test (xs ++ (n, v) ∷ []) ≡ cond (test n) (Some v) None
  found_last [] n v h = refl
  found_last (x ∷ xs) n v h = by (test x.0) h (found_last xs n v)
    where
      by : (b : Bool) → cond b (Some x.1) (lookup test xs) ≡ None → (lookup test xs ≡ None → lookup test (xs ++ (n, v) ∷ []) ≡ cond (test n) (Some v) None)
          → cond b (Some x.1) (lookup test (xs ++ (n, v) ∷ [])) ≡ cond (test n) (Some v) None
      by true h rest = absurd (some_none _ h)
      by false h rest = rest h

pub same_text : (x y : List ℕ) → bytes_eq x y ≡ true → x ≡ y
same_text x y h = (bytes_eq-Decides x y).0 h

pub text_same : (x : List ℕ) → bytes_eq x x ≡ true
text_same x = (bytes_eq-Decides x x).1 refl

-- a test of texts fails both ways
pub other_text : (x y : List ℕ) → bytes_eq x y ≡ false → bytes_eq y x ≡ false
other_text x y h = by (bytes_eq y x) refl
  where
    by : (b : Bool) → bytes_eq y x ≡ b → b ≡ false
    by false e = refl
    by true e = absurd (false≢true (sym h ∙ (ap (λ z. bytes_eq z y) (sym (same_text y x e)) ∙ text_same y)))
