-- All lists of a kind: what links and ends say of them after a node is taken off or put last.
use Rattle.std.proofs.Common.{◌≡◌, ◌≢◌, ◌⊎◌, ℕ, zero, suc, ◌+◌, ◌<◌, ◌≤◌, Bool, true, false, List, [], ◌∷◌, ◌++◌, length, Option, Some, None, refl, sym, ap, ◌∙◌, inl, inr, subst, arith, filter, map, set, get_or, length-set}
use Rattle.std.specs.Prelude.{◌==◌, not, option_map}
use Rattle.std.proofs.lemmas.Bool.{cases_eq}
use Rattle.std.proofs.lemmas.List.{map-set, get_or-set_same, get_or-set_other, get_or_past}
use Rattle.link_arena.specs.declared.node.Link.{Link}
use Rattle.link_arena.specs.declared.ends.Ends.{Ends}
use Rattle.link_arena.specs.Links.{Links, Row, In, Apart, Tied, Home, first_of, last_of, list_at, lists_in, walk, off, ends_of, put_next, put_prev, put_place, shorter, longer}
use Rattle.link_arena.proofs.Rows.{changed, changed_at, changed_off, in_left, in_right, in_cases, last_of_in, first_of_in, apart_last, apart_off, off_away, off_split, not_off, stays_in, Split, split_in, Linked, row_same, row_link, row_split, row_bridged, row_longer, walk_row, ends_shorter, ends_longer}

-- the lists that links and ends make are those that they are tied to
lists_again : (f : Links) (lists : List (List ℕ)) → ((l : ℕ) → (m : ℕ) × Row f m None (list_at lists l) None) → lists_in f (map ends_of lists) ≡ lists
lists_again f [] rows = refl
lists_again f (xs ∷ rest) rows = rw (walk_row f (rows 0).0 None xs (rows 0).1, lists_again f rest (λ l. rows (suc l))) refl

pub tied_lists : (f : Links) (ends : List Ends) (lists : List (List ℕ)) → Tied f ends lists → lists_in f ends ≡ lists
tied_lists f ends lists h = ap (lists_in f) h.limits ∙ lists_again f lists (λ l. (l, h.rows l))

pub tied_same : (g f : Links) (ends : List Ends) (lists : List (List ℕ)) → ((x : ℕ) → g x ≡ f x) → Tied f ends lists → Tied g ends lists
tied_same g f ends lists same h =
    record { limits = h.limits; rows = λ l. row_same g f l None (list_at lists l) None (λ x i. same x) (h.rows l); apart = h.apart }

-- a node stands on one list
pub one_list : (f : Links) (ends : List Ends) (lists : List (List ℕ)) (x l m : ℕ) → Tied f ends lists → In (list_at lists l) x → In (list_at lists m) x → l ≡ m
one_list f ends lists x l m h i j =
    let a = row_link f l None (list_at lists l) None x (h.rows l) i in
    let b = row_link f m None (list_at lists m) None x (h.rows m) j in
    let same : a.link ≡ b.link = some_same a.link b.link (sym a.is ∙ b.is) in
    sym a.list ∙ (ap (λ (k : Link). k.list) same ∙ b.list)
  where
    some_same : (k n : Link) → Some k ≡ Some n → k ≡ n
    some_same k n e = cc

-- a list with members is there
pub in_range : (lists : List (List ℕ)) (l x : ℕ) → In (list_at lists l) x → l < length lists
in_range [] l x i = absurd (subst (λ xs. In xs x) (get_or_past [] l [] (omega arith)) i)
in_range (xs ∷ rest) zero x i = omega arith
in_range (xs ∷ rest) (suc l) x i = omega (arith, in_range rest l x i)

-- ---- a node is taken off

pub list_at_off : (x : ℕ) (lists : List (List ℕ)) (l : ℕ) → list_at (map (off x) lists) l ≡ off x (list_at lists l)
list_at_off x [] l = refl
list_at_off x (xs ∷ rest) zero = refl
list_at_off x (xs ∷ rest) (suc l) = list_at_off x rest l

all_away : (x : ℕ) (lists : List (List ℕ)) → ((l : ℕ) → In (list_at lists l) x → ⊥) → map (off x) lists ≡ lists
all_away x [] away = refl
all_away x (xs ∷ rest) away = rw (off_away x xs (away 0), all_away x rest (λ l. away (suc l))) refl

pub off_set : (x l : ℕ) (lists : List (List ℕ)) → ((m : ℕ) → m ≢ l → In (list_at lists m) x → ⊥) → map (off x) lists ≡ set lists l (off x (list_at lists l))
off_set x l [] away = refl
off_set x zero (xs ∷ rest) away = rw (all_away x rest (λ m. away (suc m) (λ e. omega (arith, e)))) refl
off_set x (suc l) (xs ∷ rest) away =
    rw (off_away x xs (away 0 (λ e. omega (arith, e))), off_set x l rest (λ m ne. away (suc m) (λ e. ne (omega (arith, e))))) refl

-- a node's place on its list
pub record Spot (lists : List (List ℕ)) (x : ℕ) (k : Link) : Type 0 where
  pub front : List ℕ
  pub back : List ℕ
  pub is : list_at lists k.list ≡ front ++ x ∷ back
  pub link : k ≡ record { list = k.list; prev = last_of None front; next = first_of back None }

pub spot : (f : Links) (ends : List Ends) (lists : List (List ℕ)) (x : ℕ) (k : Link) → Tied f ends lists → f x ≡ Some k → In (list_at lists k.list) x → Spot lists x k
spot f ends lists x k h is i = record { front = at.front; back = at.back; is = at.is; link = same }
  where
    at : Split (list_at lists k.list) x
    at = split_in (list_at lists k.list) x i

    parts : Row f k.list None at.front (first_of (x ∷ at.back) None) × Row f k.list (last_of None at.front) (x ∷ at.back) None
    parts = row_split f k.list None at.front (x ∷ at.back) None (subst (λ xs. Row f k.list None xs None) at.is (h.rows k.list))

    same : k ≡ record { list = k.list; prev = last_of None at.front; next = first_of at.back None }
    same = some_same k (record { list = k.list; prev = last_of None at.front; next = first_of at.back None }) (sym is ∙ parts.1.0)
      where
        some_same : (k n : Link) → Some k ≡ Some n → k ≡ n
        some_same k n e = cc

-- a change that keeps the list's number
pub changed_list : (f : Links) (e : Link → Link) (o : Option ℕ) (y : ℕ) (k : Link) → ((n : Link) → (e n).list ≡ n.list) → changed f e o y ≡ Some k → Linked f k.list y
changed_list f e None y k keeps is = record { link = k; is = is; list = refl }
changed_list f e (Some x) y k keeps is = elim (cases_eq y x) [
  | inl same ↦ at_case (f x) refl (sym (changed_at f e x) ∙ (ap (changed f e (Some x)) (sym same) ∙ is)) same
  | inr differs ↦ record { link = k; is = sym (changed_off f e (Some x) y (λ e2. differs (only e2))) ∙ is; list = refl }
]
  where
    only : Some x ≡ Some y → y ≡ x
    only e = cc

    at_case : (o : Option Link) → f x ≡ o → option_map e o ≡ Some k → y ≡ x → Linked f k.list y
    at_case None was e2 same = cc
    at_case (Some n) was e2 same =
        let now : e n ≡ k = cc in
        record { link = n; is = ap f same ∙ was; list = sym (keeps n) ∙ ap (λ (j : Link). j.list) now }

module _ (f : Links) (ends : List Ends) (lists : List (List ℕ)) (x : ℕ) (k : Link) (h : Tied f ends lists) (is : f x ≡ Some k) (i : In (list_at lists k.list) x) where
  abbrev pub bridged : Links
  bridged = changed (changed f (put_next k.next) k.prev) (put_prev k.prev) k.next

  at : Spot lists x k
  at = spot f ends lists x k h is i

  next_is : k.next ≡ first_of at.back None
  next_is = ap (λ (n : Link). n.next) at.link

  prev_is : k.prev ≡ last_of None at.front
  prev_is = ap (λ (n : Link). n.prev) at.link

  apart : Apart (at.front ++ x ∷ at.back)
  apart = subst Apart at.is (h.apart k.list)

  shorter_list : off x (list_at lists k.list) ≡ at.front ++ at.back
  shorter_list = ap (off x) at.is ∙ off_split x at.front at.back apart

  -- the neighbours stand on the same list
  pub prev_in : (p : ℕ) → k.prev ≡ Some p → In (list_at lists k.list) p
  prev_in p e = subst (λ xs. In xs p) (sym at.is) (in_left at.front (x ∷ at.back) p (last_of_in at.front p (sym prev_is ∙ e)))

  pub next_in : (n : ℕ) → k.next ≡ Some n → In (list_at lists k.list) n
  next_in n e = subst (λ xs. In xs n) (sym at.is) (in_right at.front (x ∷ at.back) n (inr (first_of_in at.back n (sym next_is ∙ e))))

  pub own_list : k.list < length lists
  own_list = in_range lists k.list x i

  own_row : Row bridged k.list None (off x (list_at lists k.list)) None
  own_row =
      subst (λ xs. Row bridged k.list None xs None) (sym shorter_list)
      (subst (λ (p : Option ℕ). Row (changed (changed f (put_next k.next) p) (put_prev p) k.next) k.list None (at.front ++ at.back) None) (sym prev_is)
      (subst (λ (n : Option ℕ). Row (changed (changed f (put_next n) (last_of None at.front)) (put_prev (last_of None at.front)) n) k.list None (at.front ++ at.back) None) (sym next_is)
      (row_bridged f k.list at.front x at.back apart (subst (λ xs. Row f k.list None xs None) at.is (h.rows k.list)))))

  -- nodes of other lists keep their links
  others : (l : ℕ) → l ≢ k.list → (y : ℕ) → In (list_at lists l) y → bridged y ≡ f y
  others l ne y j =
      changed_off (changed f (put_next k.next) k.prev) (put_prev k.prev) k.next y (λ e. ne (one_list f ends lists y l k.list h j (next_in y e)))
      ∙ changed_off f (put_next k.next) k.prev y (λ e. ne (one_list f ends lists y l k.list h j (prev_in y e)))

  rows : (l : ℕ) → Row bridged l None (off x (list_at lists l)) None
  rows l = elim (cases_eq l k.list) [
    | inl same ↦ rw same own_row
    | inr differs ↦
        subst (λ xs. Row bridged l None xs None) (sym (off_away x (list_at lists l) (λ j. differs (one_list f ends lists x l k.list h j i))))
        (row_same bridged f l None (list_at lists l) None (others l differs) (h.rows l))
  ]

  abbrev pub ends_after : List Ends
  ends_after = set ends k.list (shorter (ends_of (list_at lists k.list)) k)

  own_ends : shorter (ends_of (list_at lists k.list)) k ≡ ends_of (off x (list_at lists k.list))
  own_ends =
      ap (λ (n : Link). shorter (ends_of (list_at lists k.list)) n) at.link
      ∙ (ap (λ xs. shorter (ends_of xs) (record { list = k.list; prev = last_of None at.front; next = first_of at.back None })) at.is
      ∙ (ends_shorter k.list at.front x at.back ∙ ap ends_of (sym shorter_list)))

  limits : ends_after ≡ map ends_of (map (off x) lists)
  limits =
      ap (λ e. set ends k.list e) own_ends
      ∙ (ap (λ es. set es k.list (ends_of (off x (list_at lists k.list)))) h.limits
      ∙ (sym (map-set ends_of lists k.list (off x (list_at lists k.list)))
      ∙ ap (map ends_of) (sym (off_set x k.list lists (λ m ne j. ne (one_list f ends lists x m k.list h j i))))))

  pub taken_tied : Tied bridged ends_after (map (off x) lists)
  taken_tied =
      record {
        limits = limits;
        rows = λ l. subst (λ xs. Row bridged l None xs None) (sym (list_at_off x lists l)) (rows l);
        apart = λ l. subst Apart (sym (list_at_off x lists l)) (apart_off x (list_at lists l) (h.apart l));
      }

  pub taken_home : Home f lists → (y : ℕ) (n : Link) → y ≢ x → bridged y ≡ Some n → In (list_at (map (off x) lists) n.list) y
  taken_home home y n ne e =
      let one = changed_list (changed f (put_next k.next) k.prev) (put_prev k.prev) k.next y n (λ m. refl) e in
      let two = changed_list f (put_next k.next) k.prev y one.link (λ m. refl) one.is in
      subst (λ xs. In xs y) (sym (list_at_off x lists n.list))
      (stays_in x (list_at lists n.list) y (subst (λ l. In (list_at lists l) y) (two.list ∙ one.list) (home y two.link two.is)) ne)

  pub taken_away : (l : ℕ) → In (list_at (map (off x) lists) l) x → ⊥
  taken_away l j = not_off x (list_at lists l) (subst (λ xs. In xs x) (list_at_off x lists l) j)

-- ---- a node is put last

module _ (f : Links) (ends : List Ends) (lists : List (List ℕ)) (l x : ℕ) (k : Link) (h : Tied f ends lists) (is : f x ≡ Some k) (away : (m : ℕ) → In (list_at lists m) x → ⊥) (within : l < length lists) where
  abbrev pub joined : Links
  joined = changed (changed f (put_next (Some x)) (last_of None (list_at lists l))) (put_place l (last_of None (list_at lists l))) (Some x)

  abbrev pub lists_after : List (List ℕ)
  lists_after = set lists l (list_at lists l ++ x ∷ [])

  same_at : list_at lists_after l ≡ list_at lists l ++ x ∷ []
  same_at = get_or-set_same lists l (list_at lists l ++ x ∷ []) [] within

  other_at : (m : ℕ) → m ≢ l → list_at lists_after m ≡ list_at lists m
  other_at m ne = get_or-set_other lists l m (list_at lists l ++ x ∷ []) [] ne

  put_others : (m : ℕ) → m ≢ l → (y : ℕ) → In (list_at lists m) y → joined y ≡ f y
  put_others m ne y j =
      changed_off (changed f (put_next (Some x)) (last_of None (list_at lists l))) (put_place l (last_of None (list_at lists l))) (Some x) y (λ e. away m (subst (In (list_at lists m)) (only e) j))
      ∙ changed_off f (put_next (Some x)) (last_of None (list_at lists l)) y (λ e. ne (one_list f ends lists y m l h j (last_of_in (list_at lists l) y e)))
    where
      only : Some x ≡ Some y → y ≡ x
      only e = cc

  put_rows : (m : ℕ) → Row joined m None (list_at lists_after m) None
  put_rows m = elim (cases_eq m l) [
    | inl same ↦ rw (same, same_at) (row_longer f l (list_at lists l) x k (h.apart l) (away l) is (h.rows l))
    | inr differs ↦
        subst (λ xs. Row joined m None xs None) (sym (other_at m differs))
        (row_same joined f m None (list_at lists m) None (put_others m differs) (h.rows m))
  ]

  aparts : (m : ℕ) → Apart (list_at lists_after m)
  aparts m = elim (cases_eq m l) [
    | inl same ↦ rw (same, same_at) (apart_last (list_at lists l) x (h.apart l) (away l))
    | inr differs ↦ subst Apart (sym (other_at m differs)) (h.apart m)
  ]

  abbrev pub ends_after_put : List Ends
  ends_after_put = set ends l (longer (ends_of (list_at lists l)) x)

  pub put_tied : Tied joined ends_after_put lists_after
  put_tied =
      record {
        limits =
            ap (λ e. set ends l e) (ends_longer (list_at lists l) x)
            ∙ (ap (λ es. set es l (ends_of (list_at lists l ++ x ∷ []))) h.limits ∙ sym (map-set ends_of lists l (list_at lists l ++ x ∷ [])));
        rows = put_rows;
        apart = aparts;
      }

  pub put_home : ((y : ℕ) (n : Link) → y ≢ x → f y ≡ Some n → In (list_at lists n.list) y) → Home joined lists_after
  put_home home y n e = elim (cases_eq y x) [
    | inl same ↦ own same (sym (ap joined same) ∙ e)
    | inr differs ↦ other differs
  ]
    where
      f1 : Links
      f1 = changed f (put_next (Some x)) (last_of None (list_at lists l))

      here : joined x ≡ Some (record { list = l; prev = last_of None (list_at lists l); next = None })
      here =
          changed_at f1 (put_place l (last_of None (list_at lists l))) x
          ∙ ap (option_map (put_place l (last_of None (list_at lists l)))) (changed_off f (put_next (Some x)) (last_of None (list_at lists l)) x (λ e. away l (last_of_in (list_at lists l) x e)) ∙ is)

      own : y ≡ x → joined x ≡ Some n → In (list_at lists_after n.list) y
      own same at =
          let place : Some (record { list = l; prev = last_of None (list_at lists l); next = None }) ≡ Some n = sym here ∙ at in
          let number : l ≡ n.list = ap list_of place in
          subst (λ m. In (list_at lists_after m) y) number (subst (λ xs. In xs y) (sym same_at) (in_right (list_at lists l) (x ∷ []) y (inl (sym same))))
        where
          list_of : Option Link → ℕ
          list_of None = 0
          list_of (Some j) = j.list

      grown : (m : ℕ) → In (list_at lists m) y → In (list_at lists_after m) y
      grown m j = elim (cases_eq m l) [
        | inl same ↦ subst (λ (q : ℕ). In (list_at lists_after q) y) (sym same) (subst (λ xs. In xs y) (sym same_at) (in_left (list_at lists l) (x ∷ []) y (subst (λ (q : ℕ). In (list_at lists q) y) same j)))
        | inr differs ↦ subst (λ xs. In xs y) (sym (other_at m differs)) j
      ]

      other : y ≢ x → In (list_at lists_after n.list) y
      other ne =
          let was : f1 y ≡ Some n = sym (changed_off f1 (put_place l (last_of None (list_at lists l))) (Some x) y (λ e. ne (only e))) ∙ e in
          let first = changed_list f (put_next (Some x)) (last_of None (list_at lists l)) y n (λ m. refl) was in
          grown n.list (subst (λ m. In (list_at lists m) y) first.list (home y first.link ne first.is))
        where
          only : Some x ≡ Some y → y ≡ x
          only e = cc
