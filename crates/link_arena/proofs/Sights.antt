-- What is seen of an arena after a change of its links and values.
use Rattle.std.proofs.Common.{◌≡◌, ◌≢◌, ◌⊎◌, ℕ, zero, suc, ◌+◌, ◌<◌, ◌≤◌, Bool, true, false, List, [], ◌∷◌, ◌++◌, length, Option, Some, None, IsSome, refl, sym, ap, ◌∙◌, inl, inr, subst, arith, map, filter, set, get_or, rules, eq-eqb, length-append, append_assoc, append-nil}
use Rattle.std.specs.Prelude.{◌==◌, not, if◌then◌else◌, option_map, sum_by}
use Rattle.std.proofs.lemmas.Bool.{cases_eq, eqb-false, ne_eqb}
use Rattle.std.proofs.lemmas.List.{map-set}
use Rattle.std.proofs.lemmas.List.Sums.{sum_by-set, sum_by-cons}
use Rattle.slab.specs.Slab.{Slab, get}
use Rattle.link_arena.specs.declared.node.Which.{Which}
use Rattle.link_arena.specs.declared.node.Link.{Link}
use Rattle.link_arena.specs.declared.node.Node.{Node}
use Rattle.link_arena.specs.declared.ends.Ends.{Ends}
use Rattle.link_arena.specs.Lists.{find, find_in, without, moved, revalued, id_behind, first_id, next_in, or_else, appended}
use Rattle.link_arena.specs.Links.{In, Apart, first_of, list_at, off, paired, pairs, value_at}
use Rattle.link_arena.proofs.Rows.{off_away, off_split, Split, split_in, in_right, in_left, apart_both}

-- only one node
abbrev pub keep : ℕ → List ℕ → List ℕ
keep x xs = filter (λ y. y == x) xs

pub keep_away : (x : ℕ) (xs : List ℕ) → (In xs x → ⊥) → keep x xs ≡ []
keep_away x [] away = refl
keep_away x (y ∷ ys) away = let differs : (y == x) ≡ false = ne_eqb y x (λ e. away (inl e)) in rw (differs, keep_away x ys (λ i. away (inr i))) refl

pub keep_in : (x : ℕ) (xs : List ℕ) → Apart xs → In xs x → keep x xs ≡ x ∷ []
keep_in x [] h i = absurd i
keep_in x (y ∷ ys) h (inl e) = let same : (y == x) ≡ true = eq-eqb y x e in rw (same, keep_away x ys (λ i. h.0 (subst (In ys) (sym e) i)), e) refl
keep_in x (y ∷ ys) h (inr i) = let differs : (y == x) ≡ false = ne_eqb y x (λ e. h.0 (subst (In ys) (sym e) i)) in rw (differs, keep_in x ys h.1 i) refl

-- a node that is moved comes last on its list, and the other lists don't have it
pub moved_set : (x l : ℕ) (lists : List (List ℕ)) → ((m : ℕ) → m ≢ l → In (list_at lists m) x → ⊥) → Apart (list_at lists l) → In (list_at lists l) x → set (map (off x) lists) l (off x (list_at lists l) ++ x ∷ []) ≡ map (λ xs. off x xs ++ keep x xs) lists
moved_set x l [] away h i = refl
moved_set x zero (xs ∷ rest) away h i = rw (keep_in x xs h i, elsewhere rest (λ m. away (suc m) (λ e. omega (arith, e)))) refl
  where
    elsewhere : (ls : List (List ℕ)) → ((m : ℕ) → In (list_at ls m) x → ⊥) → map (λ xs. off x xs ++ keep x xs) ls ≡ map (off x) ls
    elsewhere [] none = refl
    elsewhere (ys ∷ ls) none = rw (keep_away x ys (none 0), append-nil (off x ys), elsewhere ls (λ m. none (suc m))) refl
moved_set x (suc l) (xs ∷ rest) away h i =
    rw (keep_away x xs (away 0 (λ e. omega (arith, e))), append-nil (off x xs), moved_set x l rest (λ m ne. away (suc m) (λ e. ne (omega (arith, e)))) h i) refl

module _ {T : Type 0} where
  -- ---- one list

  pub pairs_append : (s : Slab (Node T)) (xs ys : List ℕ) → pairs s (xs ++ ys) ≡ pairs s xs ++ pairs s ys
  pairs_append s [] ys = refl
  pairs_append s (x ∷ xs) ys = rw (pairs_append s xs ys) (value_case (value_at s x))
    where
      value_case : (o : Option T) → paired x o (pairs s xs ++ pairs s ys) ≡ paired x o (pairs s xs) ++ pairs s ys
      value_case None = refl
      value_case (Some v) = refl

  pub pairs_same : (s t : Slab (Node T)) (xs : List ℕ) → ((x : ℕ) → In xs x → value_at t x ≡ value_at s x) → pairs t xs ≡ pairs s xs
  pairs_same s t [] same = refl
  pairs_same s t (x ∷ xs) same = rw (same x (inl refl), pairs_same s t xs (λ y i. same y (inr i))) refl

  pub pairs_off : (s : Slab (Node T)) (x : ℕ) (xs : List ℕ) → pairs s (off x xs) ≡ without x (pairs s xs)
  pairs_off s x [] = refl
  pairs_off s x (y ∷ ys) = test_case (y == x) refl (value_at s y) refl (pairs_off s x ys)
    where
      test_case : (b : Bool) → (y == x) ≡ b → (o : Option T) → value_at s y ≡ o → pairs s (off x ys) ≡ without x (pairs s ys) → pairs s (if not b then y ∷ off x ys else off x ys) ≡ without x (paired y o (pairs s ys))
      test_case true is None v rest = rest
      test_case true is (Some a) v rest = rw is rest
      test_case false is None v rest = rw v rest
      test_case false is (Some a) v rest = rw (v, is) (ap (λ ps. (y, a) ∷ ps) rest)

  pub pairs_keep : (s : Slab (Node T)) (x : ℕ) (xs : List ℕ) → pairs s (keep x xs) ≡ filter (λ (p : ℕ × T). p.0 == x) (pairs s xs)
  pairs_keep s x [] = refl
  pairs_keep s x (y ∷ ys) = test_case (y == x) refl (value_at s y) refl (pairs_keep s x ys)
    where
      test_case : (b : Bool) → (y == x) ≡ b → (o : Option T) → value_at s y ≡ o → pairs s (keep x ys) ≡ filter (λ (p : ℕ × T). p.0 == x) (pairs s ys) → pairs s (if b then y ∷ keep x ys else keep x ys) ≡ filter (λ (p : ℕ × T). p.0 == x) (paired y o (pairs s ys))
      test_case true is None v rest = rw v rest
      test_case true is (Some a) v rest = rw (v, is) (ap (λ ps. (y, a) ∷ ps) rest)
      test_case false is None v rest = rest
      test_case false is (Some a) v rest = rw is rest

  pub pairs_moved : (s : Slab (Node T)) (x : ℕ) (xs : List ℕ) → pairs s (off x xs ++ keep x xs) ≡ moved x (pairs s xs)
  pairs_moved s x xs = pairs_append s (off x xs) (keep x xs) ∙ (ap (λ ps. ps ++ pairs s (keep x xs)) (pairs_off s x xs) ∙ ap (λ ps. without x (pairs s xs) ++ ps) (pairs_keep s x xs))

  -- the value of one node changes
  pub pairs_revalued : (s t : Slab (Node T)) (x : ℕ) (v : T) (xs : List ℕ) → IsSome (value_at s x) → value_at t x ≡ Some v → ((y : ℕ) → y ≢ x → value_at t y ≡ value_at s y) → pairs t xs ≡ revalued x v (pairs s xs)
  pairs_revalued s t x v [] was is same = refl
  pairs_revalued s t x v (y ∷ ys) was is same = elim (cases_eq y x) [
    | inl at ↦ own at (value_at s y) refl (pairs_revalued s t x v ys was is same)
    | inr differs ↦ others differs (value_at s y) refl (pairs_revalued s t x v ys was is same)
  ]
    where
      nothing : (o : Option T) → o ≡ None → IsSome o → ⊥
      nothing None e h = grind (arith)
      nothing (Some a) e h = cc

      own : y ≡ x → (o : Option T) → value_at s y ≡ o → pairs t ys ≡ revalued x v (pairs s ys) → paired y (value_at t y) (pairs t ys) ≡ revalued x v (paired y (value_at s y) (pairs s ys))
      own at None e rest = absurd (nothing (value_at s x) (ap (value_at s) (sym at) ∙ e) was)
      own at (Some a) e rest =
          let now : value_at t y ≡ Some v = ap (value_at t) at ∙ is in
          let test : (y == x) ≡ true = eq-eqb y x at in
          rw (now, e, test, rest, at) refl

      others : y ≢ x → (o : Option T) → value_at s y ≡ o → pairs t ys ≡ revalued x v (pairs s ys) → paired y (value_at t y) (pairs t ys) ≡ revalued x v (paired y (value_at s y) (pairs s ys))
      others ne None e rest = let now : value_at t y ≡ None = same y ne ∙ e in rw (now, e) rest
      others ne (Some a) e rest =
          let now : value_at t y ≡ Some a = same y ne ∙ e in
          let test : (y == x) ≡ false = ne_eqb y x ne in
          rw (now, e, test, rest) refl

  -- each node of a list has a value
  abbrev pub Valued : Slab (Node T) → List ℕ → Type 0
  Valued s xs = (x : ℕ) → In xs x → (v : T) × (value_at s x ≡ Some v)

  pub pairs_length : (s : Slab (Node T)) (xs : List ℕ) → Valued s xs → length (pairs s xs) ≡ length xs
  pairs_length s [] h = refl
  pairs_length s (x ∷ xs) h = let v = h x (inl refl) in let rest : length (pairs s xs) ≡ length xs = pairs_length s xs (λ y i. h y (inr i)) in rw v.1 (ap suc rest)

  pub pairs_first : (s : Slab (Node T)) (xs : List ℕ) → Valued s xs → first_id (pairs s xs) ≡ first_of xs None
  pairs_first s [] h = refl
  pairs_first s (x ∷ xs) h = let v = h x (inl refl) in rw v.1 refl

  pub find_pairs : (s : Slab (Node T)) (x : ℕ) (v : T) (xs : List ℕ) → value_at s x ≡ Some v → In xs x → find x (pairs s xs) ≡ Some v
  find_pairs s x v [] is i = absurd i
  find_pairs s x v (y ∷ ys) is (inl e) =
      let now : value_at s y ≡ Some v = ap (value_at s) e ∙ is in let test : (y == x) ≡ true = eq-eqb y x e in rw (now, test) refl
  find_pairs s x v (y ∷ ys) is (inr i) = elim (cases_eq y x) [
    | inl same ↦ let now : value_at s y ≡ Some v = ap (value_at s) same ∙ is in let test : (y == x) ≡ true = eq-eqb y x same in rw (now, test) refl
    | inr differs ↦ value_case (value_at s y) (ne_eqb y x differs) (find_pairs s x v ys is i)
  ]
    where
      value_case : (o : Option T) → (y == x) ≡ false → find x (pairs s ys) ≡ Some v → find x (paired y o (pairs s ys)) ≡ Some v
      value_case None test rest = rest
      value_case (Some a) test rest = rw test rest

  pub find_away : (s : Slab (Node T)) (x : ℕ) (xs : List ℕ) → (In xs x → ⊥) → find x (pairs s xs) ≡ None
  find_away s x [] away = refl
  find_away s x (y ∷ ys) away = value_case (value_at s y) (ne_eqb y x (λ e. away (inl e))) (find_away s x ys (λ i. away (inr i)))
    where
      value_case : (o : Option T) → (y == x) ≡ false → find x (pairs s ys) ≡ None → find x (paired y o (pairs s ys)) ≡ None
      value_case None test rest = rest
      value_case (Some a) test rest = rw test rest

  pub find_none : (s : Slab (Node T)) (x : ℕ) (xs : List ℕ) → value_at s x ≡ None → find x (pairs s xs) ≡ None
  find_none s x [] is = refl
  find_none s x (y ∷ ys) is = elim (cases_eq y x) [
    | inl same ↦ let now : value_at s y ≡ None = ap (value_at s) same ∙ is in rw now (find_none s x ys is)
    | inr differs ↦ value_case (value_at s y) (ne_eqb y x differs) (find_none s x ys is)
  ]
    where
      value_case : (o : Option T) → (y == x) ≡ false → find x (pairs s ys) ≡ None → find x (paired y o (pairs s ys)) ≡ None
      value_case None test rest = rest
      value_case (Some a) test rest = rw test rest

  pub behind_away : (s : Slab (Node T)) (x : ℕ) (xs : List ℕ) → (In xs x → ⊥) → id_behind x (pairs s xs) ≡ None
  behind_away s x [] away = refl
  behind_away s x (y ∷ ys) away = value_case (value_at s y) (ne_eqb y x (λ e. away (inl e))) (behind_away s x ys (λ i. away (inr i)))
    where
      value_case : (o : Option T) → (y == x) ≡ false → id_behind x (pairs s ys) ≡ None → id_behind x (paired y o (pairs s ys)) ≡ None
      value_case None test rest = rest
      value_case (Some a) test rest = rw test rest

  pub behind_split : (s : Slab (Node T)) (x : ℕ) (xs ys : List ℕ) → Apart (xs ++ x ∷ ys) → Valued s (x ∷ ys) → id_behind x (pairs s (xs ++ x ∷ ys)) ≡ first_of ys None
  behind_split s x [] ys h valued =
      let v = valued x (inl refl) in
      let test : (x == x) ≡ true = eq-eqb x x refl in rw (v.1, test) (pairs_first s ys (λ y i. valued y (inr i)))
  behind_split s x (y ∷ xs) ys h valued =
      value_case (value_at s y) (ne_eqb y x (λ e. h.0 (in_right xs (x ∷ ys) y (inl (sym e))))) (behind_split s x xs ys h.1 valued)
    where
      value_case : (o : Option T) → (y == x) ≡ false → id_behind x (pairs s (xs ++ x ∷ ys)) ≡ first_of ys None → id_behind x (paired y o (pairs s (xs ++ x ∷ ys))) ≡ first_of ys None
      value_case None test rest = rest
      value_case (Some a) test rest = rw test rest

  -- ---- all lists

  pub all_same : (s t : Slab (Node T)) (lists : List (List ℕ)) → ((l x : ℕ) → In (list_at lists l) x → value_at t x ≡ value_at s x) → map (pairs t) lists ≡ map (pairs s) lists
  all_same s t [] same = refl
  all_same s t (xs ∷ rest) same = rw (pairs_same s t xs (same 0), all_same s t rest (λ l. same (suc l))) refl

  pub all_off : (s : Slab (Node T)) (x : ℕ) (lists : List (List ℕ)) → map (pairs s) (map (off x) lists) ≡ map (without x) (map (pairs s) lists)
  all_off s x [] = refl
  all_off s x (xs ∷ rest) = rw (pairs_off s x xs, all_off s x rest) refl

  pub all_moved : (s : Slab (Node T)) (x : ℕ) (lists : List (List ℕ)) → map (pairs s) (map (λ xs. off x xs ++ keep x xs) lists) ≡ map (moved x) (map (pairs s) lists)
  all_moved s x [] = refl
  all_moved s x (xs ∷ rest) = rw (pairs_moved s x xs, all_moved s x rest) refl

  pub all_revalued : (s t : Slab (Node T)) (x : ℕ) (v : T) (lists : List (List ℕ)) → IsSome (value_at s x) → value_at t x ≡ Some v → ((y : ℕ) → y ≢ x → value_at t y ≡ value_at s y) → map (pairs t) lists ≡ map (revalued x v) (map (pairs s) lists)
  all_revalued s t x v [] was is same = refl
  all_revalued s t x v (xs ∷ rest) was is same = rw (pairs_revalued s t x v xs was is same, all_revalued s t x v rest was is same) refl

  -- the pairs of one list
  pub pairs_at : (s : Slab (Node T)) (lists : List (List ℕ)) (l : ℕ) → get_or (map (pairs s) lists) l [] ≡ pairs s (list_at lists l)
  pairs_at s [] l = refl
  pairs_at s (xs ∷ rest) zero = refl
  pairs_at s (xs ∷ rest) (suc l) = pairs_at s rest l

  pub all_appended : (s : Slab (Node T)) (lists : List (List ℕ)) (l x : ℕ) (v : T) → value_at s x ≡ Some v → map (pairs s) (set lists l (list_at lists l ++ x ∷ [])) ≡ appended (map (pairs s) lists) l (x, v)
  all_appended s lists l x v is =
      map-set (pairs s) lists l (list_at lists l ++ x ∷ [])
      ∙ ap (λ ps. set (map (pairs s) lists) l ps)
      (pairs_append s (list_at lists l) (x ∷ []) ∙ (ap (λ o. pairs s (list_at lists l) ++ paired x o []) is ∙ ap (λ ps. ps ++ (x, v) ∷ []) (sym (pairs_at s lists l))))

  pub found : (s : Slab (Node T)) (x : ℕ) (v : T) (lists : List (List ℕ)) (l : ℕ) → value_at s x ≡ Some v → ((m : ℕ) → m ≢ l → In (list_at lists m) x → ⊥) → In (list_at lists l) x → find_in x (map (pairs s) lists) ≡ Some v
  found s x v [] l is away i = absurd (i)
  found s x v (xs ∷ rest) zero is away i = rw (find_pairs s x v xs is i) refl
  found s x v (xs ∷ rest) (suc l) is away i =
      rw (find_away s x xs (away 0 (λ e. omega (arith, e)))) (found s x v rest l is (λ m ne. away (suc m) (λ e. ne (omega (arith, e)))) i)

  pub not_found : (s : Slab (Node T)) (x : ℕ) (lists : List (List ℕ)) → value_at s x ≡ None → find_in x (map (pairs s) lists) ≡ None
  not_found s x [] is = refl
  not_found s x (xs ∷ rest) is = rw (find_none s x xs is) (not_found s x rest is)

  none_behind : (s : Slab (Node T)) (x : ℕ) (lists : List (List ℕ)) → ((m : ℕ) → In (list_at lists m) x → ⊥) → next_in x (map (pairs s) lists) ≡ None
  none_behind s x [] away = refl
  none_behind s x (xs ∷ rest) away = rw (behind_away s x xs (away 0)) (none_behind s x rest (λ m. away (suc m)))

  pub behind_at : (s : Slab (Node T)) (x : ℕ) (front back : List ℕ) (lists : List (List ℕ)) (l : ℕ) → list_at lists l ≡ front ++ x ∷ back → Apart (front ++ x ∷ back) → Valued s (x ∷ back) → ((m : ℕ) → m ≢ l → In (list_at lists m) x → ⊥) → next_in x (map (pairs s) lists) ≡ first_of back None
  behind_at s x front back [] l is h valued away = absurd (nothing front is)
    where
      nothing : (zs : List ℕ) → [] ≡ zs ++ x ∷ back → ⊥
      nothing [] e = cc
      nothing (z ∷ zs) e = cc
  behind_at s x front back (xs ∷ rest) zero is h valued away =
      rw (is, behind_split s x front back h valued, none_behind s x rest (λ m. away (suc m) (λ e. omega (arith, e)))) (end_case (first_of back None))
    where
      end_case : (o : Option ℕ) → or_else o None ≡ o
      end_case None = refl
      end_case (Some y) = refl
  behind_at s x front back (xs ∷ rest) (suc l) is h valued away =
      rw (behind_away s x xs (away 0 (λ e. omega (arith, e)))) (behind_at s x front back rest l is h valued (λ m ne. away (suc m) (λ e. ne (omega (arith, e)))))

  -- how many nodes
  pub all_lengths : (s : Slab (Node T)) (lists : List (List ℕ)) → ((l : ℕ) → Valued s (list_at lists l)) → sum_by length (map (pairs s) lists) ≡ sum_by length lists
  all_lengths s [] valued = refl
  all_lengths s (xs ∷ rest) valued =
      omega (arith, sum_by-cons length (pairs s xs) (map (pairs s) rest), sum_by-cons length xs rest, pairs_length s xs (valued 0), all_lengths s rest (λ l. valued (suc l)))
