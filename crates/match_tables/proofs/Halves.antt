-- A sorted list is searched by halves.
use Rattle.std.proofs.Common.{◌≡◌, ℕ, suc, ◌+◌, ◌*◌, ◌^◌, ◌≤◌, cond, List, [], ◌∷◌, ◌++◌, Option, Some, None, refl, sym, ap, ◌∙◌, arith}
use Rattle.std.specs.List.{AllByRecursion}
use Rattle.std.specs.Cmp.Lexicographic.{slice_cmp}
use Rattle.std.proofs.lemmas.Cmp.{nat_list_cmp_total}
use Rattle.match_tables.specs.Placing.{Rising}
use Rattle.match_tables.specs.Standing.{is_same}
use Rattle.std.specs.Ordering.{is_eq, nat_cmp, ordering_reverse}
use Rattle.std.specs.declared.cmp.Ordering.{Ordering}
use Rattle.std.specs.declared.cmp.Ordering.TheVariants.{Less, Equal, Greater}
use Rattle.std.specs.Cmp.{IsTotalOrder}
use Rattle.std.specs.Map.{lookup, keys_of}
use Rattle.std.specs.Prelude.{take, drop}
use Rattle.std.proofs.lemmas.List.{take-append-drop}
use Rattle.std.proofs.Math.Nat.{pow-suc, mul_assoc, mul-le-mul_left}

abbrev R : List ℕ → List ℕ → Ordering
R = slice_cmp nat_cmp

o : IsTotalOrder R
o = nat_list_cmp_total

below_all : (x k : List ℕ) (ks : List (List ℕ)) → R x k ≡ Less → AllByRecursion (λ (y : List ℕ). R k y ≡ Less) ks → AllByRecursion (λ (y : List ℕ). R x y ≡ Less) ks
below_all x k [] l h = tt
below_all x k (y ∷ ys) l h = (o.trans x k y l h.0, below_all x k ys l h.1)

module _ {X : Type 0} where
  none_below : (x : List ℕ) (es : List (List ℕ × X)) → AllByRecursion (λ (y : List ℕ). R x y ≡ Less) (keys_of es) → lookup (is_same x) es ≡ None
  none_below x [] h = refl
  none_below x (e ∷ es) h = ap (λ (c : Ordering). cond (is_eq c) (Some e.1) (lookup (is_same x) es)) h.0 ∙ none_below x es h.1

  -- what is below the middle stands in front of it
  pub in_front : (x : List ℕ) (front : List (List ℕ × X)) (e : List ℕ × X) (after : List (List ℕ × X)) → Rising (keys_of (front ++ e ∷ after)) → R x e.0 ≡ Less → lookup (is_same x) (front ++ e ∷ after) ≡ lookup (is_same x) front
  in_front x [] e after s l = none_below x (e ∷ after) (l, below_all x e.0 (keys_of after) l s.0)
  in_front x (f ∷ front) e after s l = ap (λ (r : Option X). cond (is_same x f.0) (Some f.1) r) (in_front x front e after s.1 l)

  at_middle : (k : List ℕ) (front : List (List ℕ × X)) (e : List ℕ × X) (after : List (List ℕ × X)) → AllByRecursion (λ (y : List ℕ). R k y ≡ Less) (keys_of (front ++ e ∷ after)) → R k e.0 ≡ Less
  at_middle k [] e after h = h.0
  at_middle k (f ∷ front) e after h = at_middle k front e after h.1

  -- what is above the middle stands behind it
  pub in_back : (x : List ℕ) (front : List (List ℕ × X)) (e : List ℕ × X) (after : List (List ℕ × X)) → Rising (keys_of (front ++ e ∷ after)) → R x e.0 ≡ Greater → lookup (is_same x) (front ++ e ∷ after) ≡ lookup (is_same x) after
  in_back x [] e after s g = ap (λ (c : Ordering). cond (is_eq c) (Some e.1) (lookup (is_same x) after)) g
  in_back x (f ∷ front) e after s g =
      let low : R f.0 e.0 ≡ Less = at_middle f.0 front e after s.0 in
      let up : R e.0 x ≡ Less = o.antisymm e.0 x ∙ ap ordering_reverse g in
      let far : R x f.0 ≡ Greater = o.antisymm x f.0 ∙ ap ordering_reverse (o.trans f.0 e.0 x low up) in
      ap (λ (c : Ordering). cond (is_eq c) (Some f.1) (lookup (is_same x) (front ++ e ∷ after))) far ∙ in_back x front e after s.1 g

  -- the middle itself
  pub in_middle : (x : List ℕ) (front : List (List ℕ × X)) (e : List ℕ × X) (after : List (List ℕ × X)) → Rising (keys_of (front ++ e ∷ after)) → R x e.0 ≡ Equal → lookup (is_same x) (front ++ e ∷ after) ≡ Some e.1
  in_middle x [] e after s q = ap (λ (c : Ordering). cond (is_eq c) (Some e.1) (lookup (is_same x) after)) q
  in_middle x (f ∷ front) e after s q =
      let low : R f.0 e.0 ≡ Less = at_middle f.0 front e after s.0 in
      let far : R x f.0 ≡ Greater = o.congr x e.0 f.0 q ∙ o.antisymm e.0 f.0 ∙ ap ordering_reverse low in
      ap (λ (c : Ordering). cond (is_eq c) (Some f.1) (lookup (is_same x) (front ++ e ∷ after))) far ∙ in_middle x front e after s.1 q

  front_all : (P : List ℕ → Type 0) (front rest : List (List ℕ × X)) → AllByRecursion P (keys_of (front ++ rest)) → AllByRecursion P (keys_of front)
  front_all P [] rest h = tt
  front_all P (f ∷ front) rest h = (h.0, front_all P front rest h.1)

  pub front_sorted : (front rest : List (List ℕ × X)) → Rising (keys_of (front ++ rest)) → Rising (keys_of front)
  front_sorted [] rest s = tt
  front_sorted (f ∷ front) rest s = (front_all (λ (y : List ℕ). R f.0 y ≡ Less) front rest s.0, front_sorted front rest s.1)

  pub back_sorted : (front rest : List (List ℕ × X)) → Rising (keys_of (front ++ rest)) → Rising (keys_of rest)
  back_sorted [] rest s = s
  back_sorted (f ∷ front) rest s = back_sorted front rest s.1

-- half as many are left after one step more
pub spent_more : (a b n m size : ℕ) → b ≡ suc a → 2 ^ a * n ≤ size → 2 * m ≤ n → 2 ^ b * m ≤ size
spent_more a b n m size is s l =
    let one : 2 ^ b * m ≡ 2 ^ a * (2 * m) = ap (λ (k : ℕ). 2 ^ k * m) is ∙ ap (λ (p : ℕ). p * m) (pow-suc 2 a) ∙ mul_assoc (2 ^ a) 2 m in
    let up : 2 ^ a * (2 * m) ≤ 2 ^ a * n = mul-le-mul_left (2 ^ a) l in
    omega (arith, one, up, s)

pub cost_more : (a b n size : ℕ) → b ≡ suc a → 2 ^ a * n ≤ size → 1 ≤ n → 2 ^ b ≤ 2 * size + 1
cost_more a b n size is s l =
    let one : 2 ^ b ≡ 2 ^ a * 2 = ap (λ (k : ℕ). 2 ^ k) is ∙ pow-suc 2 a in
    let up : 2 ^ a * 1 ≤ 2 ^ a * n = mul-le-mul_left (2 ^ a) l in
    omega (arith, one, up, s)

pub parts_are : {A : Type 0} (rest front back after : List A) (e : A) (h : ℕ) → front ≡ take h rest → back ≡ drop h rest → back ≡ e ∷ after → rest ≡ front ++ e ∷ after
parts_are {A = A} rest front back after e h f b s = sym (take-append-drop h rest) ∙ (λ i. sym f i ++ sym b i) ∙ ap (λ (xs : List A). front ++ xs) s
