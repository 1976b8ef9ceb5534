-- Names in a set.
use Rattle.std.proofs.Common.{◌≡◌, ℕ, List, [], ◌∷◌, map, refl, ap, ◌∙◌, ◌||◌}
use Rattle.std.specs.List.{list_any}
use Rattle.std.specs.Str.{bytes_eq}
use Rattle.std.specs.Ordering.{is_eq, nat_cmp}
use Rattle.std.specs.declared.cmp.Ordering.{Ordering}
use Rattle.std.specs.declared.cmp.Ordering.TheVariants as order
use Rattle.std.specs.Ordering.{match_ordering}
use Rattle.std.specs.Cmp.Lexicographic.{slice_cmp}
use Rattle.std.specs.BTreeSet.{insert_key}
use Rattle.std.proofs.lemmas.Map.Text.{is_eq-slice_cmp}
use Rattle.p4_grammar.specs.Values.{has, named}

module _ {K : Type 0} (f : K → List ℕ) where
  pub has_map : (x : List ℕ) (ks : List K) → list_any (λ k. is_eq (slice_cmp nat_cmp x (f k))) ks ≡ has (map f ks) x
  has_map x [] = refl
  has_map x (k ∷ ks) = ap (λ b. b || list_any (λ k. is_eq (slice_cmp nat_cmp x (f k))) ks) (is_eq-slice_cmp x (f k)) ∙ ap (λ b. bytes_eq x (f k) || b) (has_map x ks)

  pub named_map : (ks : List K) (k : K) → map f (insert_key (λ a b. slice_cmp nat_cmp (f a) (f b)) ks k) ≡ named (map f ks) (f k)
  named_map [] k = refl
  named_map (x ∷ ks) k = by (named_map ks k) (slice_cmp nat_cmp (f k) (f x))
    where
      by : (map f (insert_key (λ a b. slice_cmp nat_cmp (f a) (f b)) ks k) ≡ named (map f ks) (f k)) → (o : Ordering) → map f (match_ordering o (k ∷ x ∷ ks) (x ∷ ks) (x ∷ insert_key (λ a b. slice_cmp nat_cmp (f a) (f b)) ks k)) ≡ match_ordering o (f k ∷ f x ∷ map f ks) (f x ∷ map f ks) (f x ∷ named (map f ks) (f k))
      by again order.Less = refl
      by again order.Equal = refl
      by again order.Greater = ap (λ (t : List (List ℕ)). f x ∷ t) again
