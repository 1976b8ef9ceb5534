-- What an ordered map by bytes has at any bytes, once some were set.
use Rattle.std.proofs.Common.{◌≡◌, ℕ, List, Bool, true, false, cond, Some, refl, sym, ap, ◌∙◌}
use Rattle.std.specs.Str.{bytes_eq}
use Rattle.std.specs.Ordering.{eq_by_cmp, is_eq, nat_cmp}
use Rattle.std.specs.declared.cmp.Ordering.{Ordering}
use Rattle.std.specs.Cmp.Lexicographic.{slice_cmp}
use Rattle.std.specs.BTreeMap.{is_at}
use Rattle.std.specs.Map.{AreApart, IsKeyTest, KeepsOthers, lookup}
use Rattle.std.proofs.lemmas.Map.Text.{is_eq-slice_cmp}
use Rattle.std.proofs.lemmas.Slice.Eq.{bytes_eq-Decides}

module _ {K : Type 0} (f : K → List ℕ) where
  abbrev order : K → K → Ordering
  order a b = slice_cmp nat_cmp (f a) (f b)

  -- whether a key has these bytes
  abbrev is_of : List ℕ → K → Bool
  is_of x k = is_eq (slice_cmp nat_cmp x (f k))

  -- then they are the key's
  same : (x : List ℕ) (k : K) → is_of x k ≡ true → x ≡ f k
  same x k e = (bytes_eq-Decides x (f k)).0 (sym (is_eq-slice_cmp x (f k)) ∙ e)

module _ {K X : Type 0} (f : K → List ℕ) where
  others : (k : K) (old new : List (K × X)) → KeepsOthers (eq_by_cmp (order f)) (is_at (order f k)) old new → (other : K → Bool) → IsKeyTest (eq_by_cmp (order f)) other → AreApart (is_at (order f k)) other → lookup other new ≡ lookup other old
  unfolding KeepsOthers
  others k old new h = h

  pub set_at : (old new : List (K × X)) (k : K) (v : X) → lookup (is_at (order f k)) new ≡ Some v → KeepsOthers (eq_by_cmp (order f)) (is_at (order f k)) old new → (x : List ℕ) → lookup (is_of f x) new ≡ cond (bytes_eq x (f k)) (Some v) (lookup (is_of f x) old)
  set_at old new k v here keeps x = by (bytes_eq x (f k)) refl
    where
      by : (b : Bool) → bytes_eq x (f k) ≡ b → lookup (is_of f x) new ≡ cond b (Some v) (lookup (is_of f x) old)
      by true e = ap (λ y. lookup (is_of f y) new) ((bytes_eq-Decides x (f k)).0 e) ∙ here
      by false e =
          others k old new keeps (is_of f x) (λ a b t. ap (λ y. is_of f y b) (same f x a t))
          (λ a t. ap (λ y. is_eq (slice_cmp nat_cmp x y)) (sym (same f (f k) a t)) ∙ (is_eq-slice_cmp x (f k) ∙ e))
