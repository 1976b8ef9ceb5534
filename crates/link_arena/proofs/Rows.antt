-- One list: its row of links after a node is taken off or put last.
use Rattle.std.proofs.Common.{◌≡◌, ◌≢◌, ◌⊎◌, ℕ, zero, suc, ◌+◌, ◌-◌, Bool, true, false, List, [], ◌∷◌, ◌++◌, length, Option, Some, None, refl, sym, ap, ◌∙◌, inl, inr, subst, arith, filter, eqb-true, eq-eqb, append-nil, length-append}
use Rattle.std.specs.Prelude.{◌==◌, not, if◌then◌else◌, option_map}
use Rattle.std.proofs.lemmas.Bool.{false≢true, eqb-false, ne_eqb}
use Rattle.link_arena.specs.declared.node.Link.{Link}
use Rattle.link_arena.specs.declared.ends.Ends.{Ends}
use Rattle.link_arena.specs.Links.{Links, Row, In, Apart, first_of, last_of, walk, walked, behind, off, ends_of, put_next, put_prev, put_place, shorter, longer}

-- links of which one is changed
abbrev pub changed : Links → (Link → Link) → Option ℕ → Links
changed f e None y = f y
changed f e (Some x) y = if y == x then option_map e (f y) else f y

pub changed_at : (f : Links) (e : Link → Link) (x : ℕ) → changed f e (Some x) x ≡ option_map e (f x)
changed_at f e x = rw (eq-eqb x x refl) refl

pub changed_off : (f : Links) (e : Link → Link) (o : Option ℕ) (y : ℕ) → (o ≡ Some y → ⊥) → changed f e o y ≡ f y
changed_off f e None y ne = refl
changed_off f e (Some x) y ne = rw (ne_eqb y x (λ same. ne (ap Some (sym same)))) refl

-- ---- members

pub in_left : (xs ys : List ℕ) (a : ℕ) → In xs a → In (xs ++ ys) a
in_left [] ys a i = absurd i
in_left (x ∷ xs) ys a (inl e) = inl e
in_left (x ∷ xs) ys a (inr i) = inr (in_left xs ys a i)

pub in_right : (xs ys : List ℕ) (a : ℕ) → In ys a → In (xs ++ ys) a
in_right [] ys a i = i
in_right (x ∷ xs) ys a i = inr (in_right xs ys a i)

pub in_cases : (xs ys : List ℕ) (a : ℕ) → In (xs ++ ys) a → In xs a ⊎ In ys a
in_cases [] ys a i = inr i
in_cases (x ∷ xs) ys a (inl e) = inl (inl e)
in_cases (x ∷ xs) ys a (inr i) = elim (in_cases xs ys a i) [
  | inl j ↦ inl (inr j)
  | inr j ↦ inr j
]

pub last_in : (x : ℕ) (xs : List ℕ) (a : ℕ) → last_of (Some x) xs ≡ Some a → In (x ∷ xs) a
last_in x [] a e = inl (cc)
last_in x (y ∷ ys) a e = inr (last_in y ys a e)

pub last_of_in : (xs : List ℕ) (a : ℕ) → last_of None xs ≡ Some a → In xs a
last_of_in [] a e = cc
last_of_in (x ∷ xs) a e = last_in x xs a e

pub first_of_in : (xs : List ℕ) (a : ℕ) → first_of xs None ≡ Some a → In xs a
first_of_in [] a e = cc
first_of_in (x ∷ xs) a e = inl (cc)

pub apart_left : (xs ys : List ℕ) → Apart (xs ++ ys) → Apart xs
apart_left [] ys h = tt
apart_left (x ∷ xs) ys h = (λ i. h.0 (in_left xs ys x i), apart_left xs ys h.1)

pub apart_right : (xs ys : List ℕ) → Apart (xs ++ ys) → Apart ys
apart_right [] ys h = h
apart_right (x ∷ xs) ys h = apart_right xs ys h.1

pub apart_both : (xs ys : List ℕ) (a : ℕ) → Apart (xs ++ ys) → In xs a → In ys a → ⊥
apart_both [] ys a h i j = absurd i
apart_both (x ∷ xs) ys a h (inl e) j = h.0 (in_right xs ys x (subst (In ys) (sym e) j))
apart_both (x ∷ xs) ys a h (inr i) j = apart_both xs ys a h.1 i j

pub apart_last : (xs : List ℕ) (a : ℕ) → Apart xs → (In xs a → ⊥) → Apart (xs ++ a ∷ [])
apart_last [] a h away = (λ i. absurd i, tt)
apart_last (x ∷ xs) a h away = (head, apart_last xs a h.1 (λ i. away (inr i)))
  where
    head : In (xs ++ a ∷ []) x → ⊥
    head i = elim (in_cases xs (a ∷ []) x i) [
      | inl j ↦ h.0 j
      | inr j ↦ same j
    ]
      where
        same : In (a ∷ []) x → ⊥
        same (inl e) = away (inl (sym e))
        same (inr j) = absurd j

-- where a member stands
pub record Split (xs : List ℕ) (x : ℕ) : Type 0 where
  pub front : List ℕ
  pub back : List ℕ
  pub is : xs ≡ front ++ x ∷ back

pub split_in : (xs : List ℕ) (x : ℕ) → In xs x → Split xs x
split_in [] x i = absurd i
split_in (y ∷ ys) x (inl e) = record { front = []; back = ys; is = ap (λ z. z ∷ ys) e }
split_in (y ∷ ys) x (inr i) =
    let rest = split_in ys x i in record { front = y ∷ rest.front; back = rest.back; is = ap (λ zs. y ∷ zs) rest.is }

-- ---- all but one

pub off_away : (x : ℕ) (xs : List ℕ) → (In xs x → ⊥) → off x xs ≡ xs
off_away x [] away = refl
off_away x (y ∷ ys) away =
    let differs : (y == x) ≡ false = ne_eqb y x (λ e. away (inl e)) in rw (differs, off_away x ys (λ i. away (inr i))) refl

pub off_split : (x : ℕ) (xs ys : List ℕ) → Apart (xs ++ x ∷ ys) → off x (xs ++ x ∷ ys) ≡ xs ++ ys
off_split x [] ys h = let same : (x == x) ≡ true = eq-eqb x x refl in rw (same, off_away x ys h.0) refl
off_split x (y ∷ xs) ys h =
    let differs : (y == x) ≡ false = ne_eqb y x (λ e. h.0 (in_right xs (x ∷ ys) y (inl (sym e)))) in
    rw (differs, off_split x xs ys h.1) refl

pub in_off : (x : ℕ) (xs : List ℕ) (a : ℕ) → In (off x xs) a → In xs a
in_off x [] a i = absurd i
in_off x (y ∷ ys) a i = off_case (y == x) (in_off x ys a) i
  where
    off_case : (t : Bool) → (In (off x ys) a → In ys a) → In (if not t then y ∷ off x ys else off x ys) a → In (y ∷ ys) a
    off_case true rest i = inr (rest i)
    off_case false rest (inl e) = inl e
    off_case false rest (inr i) = inr (rest i)

pub not_off : (x : ℕ) (xs : List ℕ) → In (off x xs) x → ⊥
not_off x [] i = absurd i
not_off x (y ∷ ys) i = off_case (y == x) refl (not_off x ys) i
  where
    off_case : (t : Bool) → (y == x) ≡ t → (In (off x ys) x → ⊥) → In (if not t then y ∷ off x ys else off x ys) x → ⊥
    off_case true is rest i = rest i
    off_case false is rest (inl e) = eqb-false y x is e
    off_case false is rest (inr i) = rest i

pub stays_in : (x : ℕ) (xs : List ℕ) (a : ℕ) → In xs a → a ≢ x → In (off x xs) a
stays_in x [] a i ne = absurd i
stays_in x (y ∷ ys) a (inl e) ne = let differs : (y == x) ≡ false = ne_eqb y x (λ same. ne (sym e ∙ same)) in rw differs (inl e)
stays_in x (y ∷ ys) a (inr i) ne = off_case (y == x) (stays_in x ys a i ne)
  where
    off_case : (t : Bool) → In (off x ys) a → In (if not t then y ∷ off x ys else off x ys) a
    off_case true i = i
    off_case false i = inr i

pub apart_off : (x : ℕ) (xs : List ℕ) → Apart xs → Apart (off x xs)
apart_off x [] h = tt
apart_off x (y ∷ ys) h = off_case (y == x) (apart_off x ys h.1)
  where
    off_case : (t : Bool) → Apart (off x ys) → Apart (if not t then y ∷ off x ys else off x ys)
    off_case true rest = rest
    off_case false rest = (λ i. h.0 (in_off x ys y i), rest)

-- ---- rows

pub row_same : (g f : Links) (l : ℕ) (p : Option ℕ) (xs : List ℕ) (n : Option ℕ) → ((x : ℕ) → In xs x → g x ≡ f x) → Row f l p xs n → Row g l p xs n
row_same g f l p [] n h r = tt
row_same g f l p (x ∷ xs) n h r = (h x (inl refl) ∙ r.0, row_same g f l (Some x) xs n (λ y i. h y (inr i)) r.1)

-- the link of a node in a row
pub record Linked (f : Links) (l x : ℕ) : Type 0 where
  pub link : Link
  pub is : f x ≡ Some link
  pub list : link.list ≡ l

pub row_link : (f : Links) (l : ℕ) (p : Option ℕ) (xs : List ℕ) (n : Option ℕ) (a : ℕ) → Row f l p xs n → In xs a → Linked f l a
row_link f l p [] n a r i = absurd i
row_link f l p (x ∷ xs) n a r (inl e) =
    record { link = record { list = l; prev = p; next = first_of xs n }; is = ap f (sym e) ∙ r.0; list = refl }
row_link f l p (x ∷ xs) n a r (inr i) = row_link f l (Some x) xs n a r.1 i

first_append : (xs ys : List ℕ) (n : Option ℕ) → first_of (xs ++ ys) n ≡ first_of xs (first_of ys n)
first_append [] ys n = refl
first_append (x ∷ xs) ys n = refl

pub last_append : (p : Option ℕ) (xs ys : List ℕ) → last_of p (xs ++ ys) ≡ last_of (last_of p xs) ys
last_append p [] ys = refl
last_append p (x ∷ xs) ys = last_append (Some x) xs ys

pub row_split : (f : Links) (l : ℕ) (p : Option ℕ) (xs ys : List ℕ) (n : Option ℕ) → Row f l p (xs ++ ys) n → Row f l p xs (first_of ys n) × Row f l (last_of p xs) ys n
row_split f l p [] ys n r = (tt, r)
row_split f l p (x ∷ xs) ys n r =
    let rest = row_split f l (Some x) xs ys n r.1 in
    ((r.0 ∙ ap (λ (o : Option ℕ). Some (record { list = l; prev = p; next = o })) (first_append xs ys n), rest.0), rest.1)

pub row_join : (f : Links) (l : ℕ) (p : Option ℕ) (xs ys : List ℕ) (n : Option ℕ) → Row f l p xs (first_of ys n) → Row f l (last_of p xs) ys n → Row f l p (xs ++ ys) n
row_join f l p [] ys n r s = s
row_join f l p (x ∷ xs) ys n r s =
    (r.0 ∙ ap (λ (o : Option ℕ). Some (record { list = l; prev = p; next = o })) (sym (first_append xs ys n)), row_join f l (Some x) xs ys n r.1 s)

-- the last node of a row is linked to another one behind it
retail : (f : Links) (l : ℕ) (p : Option ℕ) (x : ℕ) (xs : List ℕ) (n m : Option ℕ) → Apart (x ∷ xs) → Row f l p (x ∷ xs) n → Row (changed f (put_next m) (last_of (Some x) xs)) l p (x ∷ xs) m
retail f l p x [] n m h r = (changed_at f (put_next m) x ∙ ap (option_map (put_next m)) r.0, tt)
retail f l p x (y ∷ ys) n m h r = (
  changed_off f (put_next m) (last_of (Some y) ys) x (λ e. h.0 (last_in y ys x e)) ∙ r.0,
  retail f l (Some x) y ys n m h.1 r.1,
)

pub row_retail : (f : Links) (l : ℕ) (xs : List ℕ) (n m : Option ℕ) → Apart xs → Row f l None xs n → Row (changed f (put_next m) (last_of None xs)) l None xs m
row_retail f l [] n m h r = tt
row_retail f l (x ∷ xs) n m h r = retail f l None x xs n m h r

-- the first node of a row is linked to another one before it
pub row_rehead : (f : Links) (l : ℕ) (p q : Option ℕ) (xs : List ℕ) (n : Option ℕ) → Apart xs → Row f l p xs n → Row (changed f (put_prev q) (first_of xs None)) l q xs n
row_rehead f l p q [] n h r = tt
row_rehead f l p q (x ∷ xs) n h r = (
  changed_at f (put_prev q) x ∙ ap (option_map (put_prev q)) r.0,
  row_same (changed f (put_prev q) (Some x)) f l (Some x) xs n (λ y i. changed_off f (put_prev q) (Some x) y (λ e. h.0 (subst (In xs) (only (sym e)) i))) r.1,
)
  where
    only : {y : ℕ} → Some y ≡ Some x → y ≡ x
    only {y} e = cc

-- a row without one of its nodes
pub row_bridged : (f : Links) (l : ℕ) (xs : List ℕ) (x : ℕ) (ys : List ℕ) → Apart (xs ++ x ∷ ys) → Row f l None (xs ++ x ∷ ys) None → Row (changed (changed f (put_next (first_of ys None)) (last_of None xs)) (put_prev (last_of None xs)) (first_of ys None)) l None (xs ++ ys) None
row_bridged f l xs x ys h r = row_join g l None xs ys None front back
  where
    f1 : Links
    f1 = changed f (put_next (first_of ys None)) (last_of None xs)

    g : Links
    g = changed f1 (put_prev (last_of None xs)) (first_of ys None)

    parts : Row f l None xs (Some x) × Row f l (last_of None xs) (x ∷ ys) None
    parts = row_split f l None xs (x ∷ ys) None r

    front : Row g l None xs (first_of ys None)
    front =
        row_same g f1 l None xs (first_of ys None)
        (λ y i. changed_off f1 (put_prev (last_of None xs)) (first_of ys None) y (λ e. apart_both xs (x ∷ ys) y h i (inr (first_of_in ys y e))))
        (row_retail f l xs (Some x) (first_of ys None) (apart_left xs (x ∷ ys) h) parts.0)

    back : Row g l (last_of None xs) ys None
    back =
        row_rehead f1 l (Some x) (last_of None xs) ys None (apart_right xs (x ∷ ys) h).1
        (row_same f1 f l (Some x) ys None
        (λ y i. changed_off f (put_next (first_of ys None)) (last_of None xs) y (λ e. apart_both xs (x ∷ ys) y h (last_of_in xs y e) (inr i)))
        parts.1.1)

-- a row with one more node
pub row_longer : (f : Links) (l : ℕ) (xs : List ℕ) (x : ℕ) (k : Link) → Apart xs → (In xs x → ⊥) → f x ≡ Some k → Row f l None xs None → Row (changed (changed f (put_next (Some x)) (last_of None xs)) (put_place l (last_of None xs)) (Some x)) l None (xs ++ x ∷ []) None
row_longer f l xs x k h away is r = row_join g l None xs (x ∷ []) None front (here, tt)
  where
    f1 : Links
    f1 = changed f (put_next (Some x)) (last_of None xs)

    g : Links
    g = changed f1 (put_place l (last_of None xs)) (Some x)

    front : Row g l None xs (Some x)
    front =
        row_same g f1 l None xs (Some x)
        (λ y i. changed_off f1 (put_place l (last_of None xs)) (Some x) y (λ e. away (subst (In xs) (only e) i)))
        (row_retail f l xs None (Some x) h r)
      where
        only : {y : ℕ} → Some x ≡ Some y → y ≡ x
        only {y} e = cc

    here : g x ≡ Some (record { list = l; prev = last_of None xs; next = None })
    here =
        changed_at f1 (put_place l (last_of None xs)) x
        ∙ ap (option_map (put_place l (last_of None xs))) (changed_off f (put_next (Some x)) (last_of None xs) x (λ e. away (last_of_in xs x e)) ∙ is)

-- ---- ends

last_some : (x : ℕ) (xs : List ℕ) → (y : ℕ) × (last_of (Some x) xs ≡ Some y)
last_some x [] = (x, refl)
last_some x (y ∷ ys) = last_some y ys

pub walk_row : (f : Links) (l : ℕ) (p : Option ℕ) (xs : List ℕ) → Row f l p xs None → walk f (length xs) (first_of xs None) ≡ xs
walk_row f l p [] r = refl
walk_row f l p (x ∷ xs) r = rw (r.0, walk_row f l (Some x) xs r.1) refl

ends_same : (a b : Ends) → a.front ≡ b.front → a.back ≡ b.back → a.count ≡ b.count → a ≡ b
ends_same a b front back count = λ i. record { front = front i; back = back i; count = count i }

pub ends_shorter : (l : ℕ) (xs : List ℕ) (x : ℕ) (ys : List ℕ) → shorter (ends_of (xs ++ x ∷ ys)) (record { list = l; prev = last_of None xs; next = first_of ys None }) ≡ ends_of (xs ++ ys)
ends_shorter l xs x ys = ends_same (shorter (ends_of (xs ++ x ∷ ys)) k) (ends_of (xs ++ ys)) (front xs) (back ys) (omega (arith, length-append xs (x ∷ ys), length-append xs ys))
  where
    k : Link
    k = record { list = l; prev = last_of None xs; next = first_of ys None }

    front : (zs : List ℕ) → (shorter (ends_of (zs ++ x ∷ ys)) (record { list = l; prev = last_of None zs; next = first_of ys None })).front ≡ first_of (zs ++ ys) None
    front [] = refl
    front (z ∷ zs) = let last = last_some z zs in rw last.1 refl

    back : (zs : List ℕ) → (shorter (ends_of (xs ++ x ∷ zs)) (record { list = l; prev = last_of None xs; next = first_of zs None })).back ≡ last_of None (xs ++ zs)
    back [] = ap (last_of None) (sym (append-nil xs))
    back (z ∷ zs) = last_append None xs (x ∷ z ∷ zs) ∙ sym (last_append None xs (z ∷ zs))

pub ends_longer : (xs : List ℕ) (x : ℕ) → longer (ends_of xs) x ≡ ends_of (xs ++ x ∷ [])
ends_longer xs x = ends_same (longer (ends_of xs) x) (ends_of (xs ++ x ∷ [])) (front xs) (sym (last_append None xs (x ∷ []))) (omega (arith, length-append xs (x ∷ [])))
  where
    front : (ys : List ℕ) → (longer (ends_of ys) x).front ≡ first_of (ys ++ x ∷ []) None
    front [] = refl
    front (y ∷ ys) = refl
