-- What an ordered map and an ordered set have after an insertion, their keys being lists of numbers.
use Rattle.std.proofs.Common.{◌≡◌, ℕ, zero, suc, Bool, true, false, cond, List, [], ◌∷◌, map, length, Option, Some, refl, sym, ap, ◌∙◌, ◌||◌}
use Rattle.std.specs.Prelude.{slice_get, drop}
use Rattle.std.specs.List.{AllByRecursion, list_any}
use Rattle.std.specs.List.Sorted.{IsStrictlySortedBy}
use Rattle.std.specs.Ordering.{is_eq, nat_cmp, match_ordering}
use Rattle.std.specs.declared.cmp.Ordering.{Ordering}
use Rattle.std.specs.declared.cmp.Ordering.TheVariants.{Less, Equal, Greater}
use Rattle.std.specs.Cmp.Lexicographic.{slice_cmp}
use Rattle.std.specs.Map.{lookup, keys_of}
use Rattle.std.specs.BTreeMap.{insert_entry}
use Rattle.std.specs.BTreeSet.{insert_key}
use Rattle.std.proofs.lemmas.Map.Lookups.{exact_bytes}
use Rattle.std.proofs.lemmas.Map.Keys.{sorted_head, sorted_tail}
use Rattle.match_tables.specs.Placing.{Rising}
use Rattle.match_tables.specs.Standing.{is_same}
use Rattle.std.proofs.lemmas.Bool.{false≢true}
use Rattle.match_tables.proofs.Winners.{gone, some_is}
use Rattle.match_tables.proofs.Found.{same_refl}

module _ {K : Type 0} (f : K → List ℕ) where
  abbrev by_list : K → K → Ordering
  by_list a b = slice_cmp nat_cmp (f a) (f b)

  module _ {X : Type 0} where
    -- a key that is put in is found, and the others as before
    pub inserted : (es : List (K × X)) (k : K) (v : X) (x : List ℕ) → lookup (λ (a : K). is_same x (f a)) (insert_entry by_list es k v) ≡ cond (is_same x (f k)) (Some v) (lookup (λ (a : K). is_same x (f a)) es)
    inserted [] k v x = refl
    inserted (e ∷ es) k v x = by (inserted es k v x) (by_list k e.0) refl
      where
        swapped : (a b : Bool) (v w : X) (o : Option X) → (a ≡ true → b ≡ true → ⊥) → cond a (Some v) (cond b (Some w) o) ≡ cond b (Some w) (cond a (Some v) o)
        swapped true true v w o h = absurd (h refl refl)
        swapped true false v w o h = refl
        swapped false true v w o h = refl
        swapped false false v w o h = refl

        twice : (a b : Bool) (v w : X) (o : Option X) → a ≡ b → cond a (Some v) o ≡ cond b (Some v) (cond a (Some w) o)
        twice true true v w o h = refl
        twice true false v w o h = absurd (false≢true (sym h))
        twice false true v w o h = absurd (false≢true h)
        twice false false v w o h = refl

        is_eq_equal : (o : Ordering) → is_eq o ≡ true → o ≡ Equal
        is_eq_equal Less e = absurd (false≢true e)
        is_eq_equal Equal e = refl
        is_eq_equal Greater e = absurd (false≢true e)

        not_equal : Greater ≡ Equal → ⊥
        not_equal g = absurd (false≢true (ap is_eq g))

        apart : by_list k e.0 ≡ Greater → is_same x (f e.0) ≡ true → is_same x (f k) ≡ true → ⊥
        apart g a b =
            let one : x ≡ f e.0 = exact_bytes x (f e.0) (is_eq_equal (slice_cmp nat_cmp x (f e.0)) a) in
            let two : x ≡ f k = exact_bytes x (f k) (is_eq_equal (slice_cmp nat_cmp x (f k)) b) in
            let same : by_list k e.0 ≡ slice_cmp nat_cmp x x = λ i. slice_cmp nat_cmp (sym two i) (sym one i) in
            let self : slice_cmp nat_cmp x x ≡ Equal = is_eq_equal (slice_cmp nat_cmp x x) (same_refl x) in
            not_equal (sym g ∙ same ∙ self)

        by : lookup (λ (a : K). is_same x (f a)) (insert_entry by_list es k v) ≡ cond (is_same x (f k)) (Some v) (lookup (λ (a : K). is_same x (f a)) es) → (o : Ordering) → by_list k e.0 ≡ o
            → lookup (λ (a : K). is_same x (f a)) (match_ordering o ((k, v) ∷ e ∷ es) ((e.0, v) ∷ es) (e ∷ insert_entry by_list es k v)) ≡ cond (is_same x (f k)) (Some v) (lookup (λ (a : K). is_same x (f a)) (e ∷ es))
        by more Less g = refl
        by more Equal g =
            let same : is_same x (f e.0) ≡ is_same x (f k) = ap (is_same x) (sym (exact_bytes (f k) (f e.0) g)) in
            twice (is_same x (f e.0)) (is_same x (f k)) v e.1 (lookup (λ (a : K). is_same x (f a)) es) same
        by more Greater g = ap (λ (r : Option X). cond (is_same x (f e.0)) (Some e.1) r) more ∙ swapped (is_same x (f e.0)) (is_same x (f k)) e.1 v (lookup (λ (a : K). is_same x (f a)) es) (apart g)

    -- the same entries under lists
    pub lookup_map : (es : List (K × X)) (x : List ℕ) → lookup (is_same x) (map (λ (e : K × X). (f e.0, e.1)) es) ≡ lookup (λ (a : K). is_same x (f a)) es
    lookup_map [] x = refl
    lookup_map (e ∷ es) x = ap (λ (r : Option X). cond (is_same x (f e.0)) (Some e.1) r) (lookup_map es x)

    pub keys_map : (es : List (K × X)) → keys_of (map (λ (e : K × X). (f e.0, e.1)) es) ≡ map f (keys_of es)
    keys_map [] = refl
    keys_map (e ∷ es) = ap (λ (ks : List (List ℕ)). f e.0 ∷ ks) (keys_map es)

    pub length_map : (es : List (K × X)) → length {A = List ℕ × X} (map (λ (e : K × X). (f e.0, e.1)) es) ≡ length es
    length_map [] = refl
    length_map (e ∷ es) = ap suc (length_map es)

  rising_head : (k : K) (ks : List K) → AllByRecursion (λ (y : K). by_list k y ≡ Less) ks → AllByRecursion (λ (y : List ℕ). slice_cmp nat_cmp (f k) y ≡ Less) (map f ks)
  rising_head k [] h = tt
  rising_head k (y ∷ ys) h = (h.0, rising_head k ys h.1)

  -- ordered keys rise
  pub rising_map : (ks : List K) → IsStrictlySortedBy by_list ks → Rising (map f ks)
  rising_map [] h = tt
  rising_map (k ∷ ks) h = (rising_head k ks (sorted_head by_list k ks h), rising_map ks (sorted_tail by_list k ks h))

  pub any_map : (p : List ℕ → Bool) (ks : List K) → list_any p (map f ks) ≡ list_any (λ (k : K). p (f k)) ks
  any_map p [] = refl
  any_map p (k ∷ ks) = ap (λ (b : Bool). p (f k) || b) (any_map p ks)

  pub all_map : (P : List ℕ → Type 0) (ks : List K) → AllByRecursion (λ (k : K). P (f k)) ks → AllByRecursion P (map f ks)
  all_map P [] h = tt
  all_map P (k ∷ ks) h = (h.0, all_map P ks h.1)

  or_right : (a b : Bool) → b ≡ true → (a || b) ≡ true
  or_right true b e = refl
  or_right false b e = e

  -- a key that is put in is there
  pub has_new : (ks : List K) (k : K) (x : List ℕ) → is_same x (f k) ≡ true → list_any (λ (a : K). is_same x (f a)) (insert_key by_list ks k) ≡ true
  has_new [] k x e = ap (λ (b : Bool). b || false) e
  has_new (y ∷ ys) k x e = by (has_new ys k x e) (by_list k y) refl
    where
      by : list_any (λ (a : K). is_same x (f a)) (insert_key by_list ys k) ≡ true → (o : Ordering) → by_list k y ≡ o → list_any (λ (a : K). is_same x (f a)) (match_ordering o (k ∷ y ∷ ys) (y ∷ ys) (y ∷ insert_key by_list ys k)) ≡ true
      by more Less g = ap (λ (b : Bool). b || list_any (λ (a : K). is_same x (f a)) (y ∷ ys)) e
      by more Equal g = ap (λ (b : Bool). b || list_any (λ (a : K). is_same x (f a)) ys) (ap (is_same x) (sym (exact_bytes (f k) (f y) g)) ∙ e)
      by more Greater g = or_right (is_same x (f y)) (list_any (λ (a : K). is_same x (f a)) (insert_key by_list ys k)) more

  -- the keys of before are there
  pub has_old : (ks : List K) (k : K) (x : List ℕ) → list_any (λ (a : K). is_same x (f a)) ks ≡ true → list_any (λ (a : K). is_same x (f a)) (insert_key by_list ks k) ≡ true
  has_old [] k x e = absurd (false≢true e)
  has_old (y ∷ ys) k x e = by (λ g. has_old ys k x g) (by_list k y) (is_same x (f y)) refl e
    where
      by : (list_any (λ (a : K). is_same x (f a)) ys ≡ true → list_any (λ (a : K). is_same x (f a)) (insert_key by_list ys k) ≡ true) → (o : Ordering) (b : Bool) → is_same x (f y) ≡ b → (b || list_any (λ (a : K). is_same x (f a)) ys) ≡ true → list_any (λ (a : K). is_same x (f a)) (match_ordering o (k ∷ y ∷ ys) (y ∷ ys) (y ∷ insert_key by_list ys k)) ≡ true
      by more Less b s g = or_right (is_same x (f k)) (list_any (λ (a : K). is_same x (f a)) (y ∷ ys)) (ap (λ (c : Bool). c || list_any (λ (a : K). is_same x (f a)) ys) s ∙ g)
      by more Equal b s g = ap (λ (c : Bool). c || list_any (λ (a : K). is_same x (f a)) ys) s ∙ g
      by more Greater true s g = ap (λ (c : Bool). c || list_any (λ (a : K). is_same x (f a)) (insert_key by_list ys k)) s
      by more Greater false s g = or_right (is_same x (f y)) (list_any (λ (a : K). is_same x (f a)) (insert_key by_list ys k)) (more g)

  -- what holds of the keys and of the new one
  pub all_inserted : (P : K → Type 0) (ks : List K) (k : K) → AllByRecursion P ks → P k → AllByRecursion P (insert_key by_list ks k)
  all_inserted P [] k h p = (p, tt)
  all_inserted P (y ∷ ys) k h p = by (all_inserted P ys k h.1 p) (by_list k y)
    where
      by : AllByRecursion P (insert_key by_list ys k) → (o : Ordering) → AllByRecursion P (match_ordering o (k ∷ y ∷ ys) (y ∷ ys) (y ∷ insert_key by_list ys k))
      by more Less = (p, h)
      by more Equal = h
      by more Greater = (h.0, more)

-- the rest of a list from one of its members on
pub drop_from : {A : Type 0} (xs : List A) (i : ℕ) (x : A) → slice_get xs i ≡ Some x → drop i xs ≡ x ∷ drop (suc i) xs
drop_from {A = A} [] i x e = gone e
drop_from {A = A} (y ∷ ys) zero x e = ap (λ (z : A). z ∷ ys) (some_is y x e)
drop_from {A = A} (y ∷ ys) (suc i) x e = drop_from ys i x e
