-- A list of items whose numbers rise, split by a number.
use Rattle.std.proofs.Common.{◌≡◌, ◌≢◌, ℕ, ◌+◌, ◌≤◌, ◌<◌, List, [], ◌∷◌, ◌++◌, arith, refl, sym, ◌∙◌, ap, subst, append-nil, true, false, Bool, inl, inr, filter, eq-eqb, eqb-true}
use Rattle.std.specs.Prelude.{◌==◌, not, if◌then◌else◌, nat_le, nat_lt}
use Rattle.std.proofs.lemmas.Bool.{both_ways, leb-true, leb-false, le-leb, lt-ltb, ltb-true}
use Rattle.std.proofs.lemmas.List.Elements.{filter-append}
use Rattle.proto_model.specs.Feeds.{Each, Pairwise}
use Rattle.proto_model.specs.World.{Journaled}
use Rattle.proto_safety.specs.Books.{In}
use Rattle.proto_safety.proofs.Basics.Eachs.{each_in}
use Rattle.proto_safety.proofs.Basics.Members.{filter_like, filter_no}

-- up to a number, below it, and at it
abbrev pub up_to : ℕ → List Journaled → List Journaled
up_to m js = filter (λ (j : Journaled). nat_le j.item.number m) js

abbrev pub below : ℕ → List Journaled → List Journaled
below k js = filter (λ (j : Journaled). nat_lt j.item.number k) js

abbrev pub at_number : ℕ → List Journaled → List Journaled
at_number k js = filter (λ (j : Journaled). j.item.number == k) js

abbrev pub past : ℕ → List Journaled → List Journaled
past m js = filter (λ (j : Journaled). not (nat_le j.item.number m)) js

abbrev pub NumbersRise : List Journaled → Type 0
NumbersRise js = Pairwise (λ (a b : Journaled). a.item.number ≤ b.item.number) js

pub le_not : (a m : ℕ) → m < a → nat_le a m ≡ false
le_not a m lt = le_case (nat_le a m) refl
  where
    le_case : (b : Bool) → nat_le a m ≡ b → b ≡ false
    le_case true is = let le : a ≤ m = leb-true a m is in absurd (omega arith)
    le_case false is = refl

pub lt_not : (a k : ℕ) → k ≤ a → nat_lt a k ≡ false
lt_not a k le = lt_case (nat_lt a k) refl
  where
    lt_case : (b : Bool) → nat_lt a k ≡ b → b ≡ false
    lt_case true is = let lt : a < k = ltb-true a k is in absurd (omega arith)
    lt_case false is = refl

pub eq_not : (a k : ℕ) → a ≢ k → (a == k) ≡ false
eq_not a k ne = eq_case (a == k) refl
  where
    eq_case : (b : Bool) → (a == k) ≡ b → b ≡ false
    eq_case true is = absurd (ne (eqb-true a k is))
    eq_case false is = refl

-- below the next number is up to this one
pub below_next : (m : ℕ) (js : List Journaled) → below (m + 1) js ≡ up_to m js
below_next m js = filter_like (λ (j : Journaled). nat_lt j.item.number (m + 1)) (λ (j : Journaled). nat_le j.item.number m) js (λ j i. same j.item.number (nat_le j.item.number m) refl)
  where
    same : (a : ℕ) (b : Bool) → nat_le a m ≡ b → nat_lt a (m + 1) ≡ b
    same a true is = lt-ltb a (m + 1) (omega (arith, leb-true a m is))
    same a false is = lt_not a (m + 1) (omega (arith, leb-false a m is))

-- all above
none_up_to : (m : ℕ) (js : List Journaled) → Each (λ (j : Journaled). m < j.item.number) js → up_to m js ≡ []
none_up_to m js h = filter_no (λ (j : Journaled). nat_le j.item.number m) js (λ j i. le_not j.item.number m (each_in (λ (j : Journaled). m < j.item.number) js j h i))

higher : (m : ℕ) (x : Journaled) (js : List Journaled) → m < x.item.number → Each (λ (j : Journaled). x.item.number ≤ j.item.number) js → Each (λ (j : Journaled). m < j.item.number) js
higher m x [] lt h = tt
higher m x (j ∷ js) lt h = (omega (arith, h.0), higher m x js lt h.1)

pub split_at_number : (m : ℕ) (js : List Journaled) → NumbersRise js → up_to m js ++ past m js ≡ js
split_at_number m [] h = refl
split_at_number m (x ∷ xs) h = split_case (nat_le x.item.number m) refl (split_at_number m xs h.1)
  where
    split_case : (b : Bool) → nat_le x.item.number m ≡ b → up_to m xs ++ past m xs ≡ xs → (if b then x ∷ up_to m xs else up_to m xs) ++ (if not b then x ∷ past m xs else past m xs) ≡ x ∷ xs
    split_case true is rest = ap (λ l. x ∷ l) rest
    split_case false is rest =
        let lt : m < x.item.number = leb-false x.item.number m is in
        let none : up_to m xs ≡ [] = none_up_to m xs (higher m x xs lt h.0) in
        let tail : past m xs ≡ xs = ap (λ l. l ++ past m xs) (sym none) ∙ rest in
        rw (none, tail) refl

pub up_to_next : (m : ℕ) (js : List Journaled) → NumbersRise js → up_to (m + 1) js ≡ up_to m js ++ at_number (m + 1) js
up_to_next m [] h = refl
up_to_next m (x ∷ xs) h = next_case (nat_le x.item.number m) refl (up_to_next m xs h.1)
  where
    next_case : (b : Bool) → nat_le x.item.number m ≡ b → up_to (m + 1) xs ≡ up_to m xs ++ at_number (m + 1) xs →
        up_to (m + 1) (x ∷ xs) ≡ (if b then x ∷ up_to m xs else up_to m xs) ++ at_number (m + 1) (x ∷ xs)
    next_case true is rest =
        let le : x.item.number ≤ m = leb-true x.item.number m is in
        let p : nat_le x.item.number (m + 1) ≡ true = le-leb x.item.number (m + 1) (omega arith) in
        let q : (x.item.number == m + 1) ≡ false = eq_not x.item.number (m + 1) (λ e. absurd (omega arith)) in
        rw (p, q) (ap (λ l. x ∷ l) rest)
    next_case false is rest =
        let lt : m < x.item.number = leb-false x.item.number m is in
        let none : up_to m xs ≡ [] = none_up_to m xs (higher m x xs lt h.0) in
        rw none
        (filter_like (λ (j : Journaled). nat_le j.item.number (m + 1)) (λ (j : Journaled). j.item.number == m + 1) (x ∷ xs)
        (λ j i. same j.item.number (above j i lt) (j.item.number == m + 1) refl))
      where
        above : (j : Journaled) → In (x ∷ xs) j → m < x.item.number → m < j.item.number
        above j (inl e) lt = subst (λ (y : Journaled). m < y.item.number) e lt
        above j (inr i) lt = each_in (λ (j : Journaled). m < j.item.number) xs j (higher m x xs lt h.0) i

        same : (a : ℕ) → m < a → (b : Bool) → (a == m + 1) ≡ b → nat_le a (m + 1) ≡ b
        same a lt true is = le-leb a (m + 1) (omega (arith, eqb-true a (m + 1) is))
        same a lt false is = le_not a (m + 1) (let ne : (a ≡ m + 1 → ⊥) = λ e. both_ways _ is (eq-eqb a (m + 1) e) in omega arith)

-- one more item
pub number_of_all : (m : ℕ) (js : List Journaled) → Each (λ (j : Journaled). j.item.number ≤ m) js → up_to m js ≡ js
number_of_all m [] h = refl
number_of_all m (j ∷ js) h = rw (le-leb j.item.number m h.0) (ap (λ l. j ∷ l) (number_of_all m js h.1))

pub none_at : (k : ℕ) (js : List Journaled) → Each (λ (j : Journaled). j.item.number < k) js → at_number k js ≡ []
none_at k [] h = refl
none_at k (j ∷ js) h = rw (eq_not j.item.number k (λ e. absurd (omega (arith, h.0)))) (none_at k js h.1)

pub all_below : (k : ℕ) (js : List Journaled) → Each (λ (j : Journaled). j.item.number < k) js → below k js ≡ js
all_below k [] h = refl
all_below k (j ∷ js) h = rw (lt-ltb j.item.number k h.0) (ap (λ l. j ∷ l) (all_below k js h.1))

pub up_to-push : (m : ℕ) (js : List Journaled) (j : Journaled) → m < j.item.number → up_to m (js ++ j ∷ []) ≡ up_to m js
up_to-push m js j lt = filter-append (λ (j : Journaled). nat_le j.item.number m) js (j ∷ []) ∙ rw (le_not j.item.number m lt) (append-nil (up_to m js))

pub below-push : (k : ℕ) (js : List Journaled) (j : Journaled) → k ≤ j.item.number → below k (js ++ j ∷ []) ≡ below k js
below-push k js j le = filter-append (λ (j : Journaled). nat_lt j.item.number k) js (j ∷ []) ∙ rw (lt_not j.item.number k le) (append-nil (below k js))

pub at-push_other : (k : ℕ) (js : List Journaled) (j : Journaled) → j.item.number ≢ k → at_number k (js ++ j ∷ []) ≡ at_number k js
at-push_other k js j ne = filter-append (λ (j : Journaled). j.item.number == k) js (j ∷ []) ∙ rw (eq_not j.item.number k ne) (append-nil (at_number k js))

pub at-push_same : (k : ℕ) (js : List Journaled) (j : Journaled) → j.item.number ≡ k → at_number k (js ++ j ∷ []) ≡ at_number k js ++ j ∷ []
at-push_same k js j e = filter-append (λ (j : Journaled). j.item.number == k) js (j ∷ []) ∙ rw (eq-eqb j.item.number k e) refl
