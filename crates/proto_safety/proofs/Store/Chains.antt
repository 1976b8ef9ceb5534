-- Chains whose members rise: heads, tails and successors.
use Rattle.std.proofs.Common.{◌≡◌, ℕ, ◌+◌, ◌≤◌, ◌<◌, List, [], ◌∷◌, Some, arith, refl, inl, inr, true, false, Bool, zero, suc, filter, eqb-true, eq-eqb, ◌≢◌}
use Rattle.std.specs.Prelude.{◌||◌, ◌==◌, if◌then◌else◌, not}
use Rattle.std.specs.List.{list_any, range_with_len}
use Rattle.std.proofs.lemmas.Bool.{false≢true, eqb-false}
use Rattle.proto_model.specs.Feeds.{Each}
use Rattle.proto_safety.specs.Books.{In, Rising}
use Rattle.proto_model.specs.ReplicaState.{is_head_of, is_tail_of, successor_of}
use Rattle.proto_safety.proofs.Basics.Eachs.{each_in}

-- nobody stands before the head
pub before_head : (chain : List ℕ) (n a : ℕ) → Rising chain → is_head_of chain n ≡ true → In chain a → a < n → ⊥
before_head [] n a r head i below = absurd i
before_head (x ∷ xs) n a r head (inl e) below = let is : x ≡ n = eqb-true x n head in absurd (omega arith)
before_head (x ∷ xs) n a r head (inr i) below =
    let is : x ≡ n = eqb-true x n head in
    let above : x < a = each_in (λ b. x < b) xs a r.0 i in absurd (omega arith)

-- the tail is a member
pub tail_in : (chain : List ℕ) (n : ℕ) → is_tail_of chain n ≡ true → In chain n
tail_in [] n tail = absurd (false≢true tail)
tail_in (x ∷ []) n tail = inl (eqb-true x n tail)
tail_in (x ∷ y ∷ ys) n tail = inr (tail_in (y ∷ ys) n tail)

-- nobody stands behind the tail
pub behind_tail : (chain : List ℕ) (n a : ℕ) → Rising chain → is_tail_of chain n ≡ true → In chain a → a ≤ n
behind_tail [] n a r tail i = absurd i
behind_tail (x ∷ []) n a r tail (inl e) = let is : x ≡ n = eqb-true x n tail in omega arith
behind_tail (x ∷ []) n a r tail (inr i) = absurd i
behind_tail (x ∷ y ∷ ys) n a r tail (inl e) =
    let above : x < n = each_in (λ b. x < b) (y ∷ ys) n r.0 (tail_in (y ∷ ys) n tail) in omega arith
behind_tail (x ∷ y ∷ ys) n a r tail (inr i) = behind_tail (y ∷ ys) n a r.1 tail i

-- who has a successor is a member
pub has_successor : (chain : List ℕ) (n b : ℕ) → successor_of chain n ≡ Some b → In chain n
has_successor [] n b e = cc
has_successor (x ∷ []) n b e = cc
has_successor (x ∷ y ∷ ys) n b e = has_case (x == n) refl (has_successor (y ∷ ys) n b) e
  where
    has_case : (t : Bool) → (x == n) ≡ t → (successor_of (y ∷ ys) n ≡ Some b → In (y ∷ ys) n) → (if t then Some y else successor_of (y ∷ ys) n) ≡ Some b → In (x ∷ y ∷ ys) n
    has_case true is rest e = inl (eqb-true x n is)
    has_case false is rest e = inr (rest e)

-- a successor has a greater number
pub above_successor : (chain : List ℕ) (n b : ℕ) → Rising chain → successor_of chain n ≡ Some b → n < b
above_successor [] n b r e = cc
above_successor (x ∷ []) n b r e = cc
above_successor (x ∷ y ∷ ys) n b r e = above_case (x == n) refl (above_successor (y ∷ ys) n b r.1) e
  where
    above_case : (t : Bool) → (x == n) ≡ t → (successor_of (y ∷ ys) n ≡ Some b → n < b) → (if t then Some y else successor_of (y ∷ ys) n) ≡ Some b → n < b
    above_case true is rest e = let same : x ≡ n = eqb-true x n is in let next : y ≡ b = cc in omega (arith, r.0.0)
    above_case false is rest e = rest e

-- between a member and its successor stands nobody
pub before_successor : (chain : List ℕ) (n b a : ℕ) → Rising chain → successor_of chain n ≡ Some b → In chain a → a < b → a ≤ n
before_successor [] n b a r next i below = absurd i
before_successor (x ∷ []) n b a r next i below = cc
before_successor (x ∷ y ∷ ys) n b a r next i below = successor_case (x == n) refl (λ e at. before_successor (y ∷ ys) n b a r.1 e at below) next i
  where
    successor_case : (t : Bool) → (x == n) ≡ t → (successor_of (y ∷ ys) n ≡ Some b → In (y ∷ ys) a → a ≤ n) → (if t then Some y else successor_of (y ∷ ys) n) ≡ Some b → In (x ∷ y ∷ ys) a → a ≤ n
    successor_case true is rest e (inl at) = let same : x ≡ n = eqb-true x n is in omega arith
    successor_case true is rest e (inr (inl at)) = let next_is : y ≡ b = cc in absurd (omega arith)
    successor_case true is rest e (inr (inr at)) =
        let next_is : y ≡ b = cc in
        let above : y < a = each_in (λ c. y < c) ys a r.1.0 at in absurd (omega arith)
    successor_case false is rest e (inr at) = rest e at
    successor_case false is rest e (inl at) = let above : x < n = each_in (λ c. x < c) (y ∷ ys) n r.0 (has_successor (y ∷ ys) n b e) in omega arith

-- ---- without one member

abbrev pub without : List ℕ → ℕ → List ℕ
without chain n = filter (λ m. not (m == n)) chain

pub in_without : (chain : List ℕ) (n a : ℕ) → In (without chain n) a → In chain a
in_without [] n a i = absurd i
in_without (x ∷ xs) n a i = without_case (x == n) (in_without xs n a) i
  where
    without_case : (t : Bool) → (In (without xs n) a → In xs a) → In (if not t then x ∷ without xs n else without xs n) a → In (x ∷ xs) a
    without_case true rest i = inr (rest i)
    without_case false rest (inl e) = inl e
    without_case false rest (inr i) = inr (rest i)

pub stays_in : (chain : List ℕ) (n a : ℕ) → In chain a → (a == n) ≡ false → In (without chain n) a
stays_in [] n a i ne = absurd i
stays_in (x ∷ xs) n a (inl e) ne = let same : (x == n) ≡ false = rw e ne in rw same (inl e)
stays_in (x ∷ xs) n a (inr i) ne = stays_case (x == n) (stays_in xs n a i ne)
  where
    stays_case : (t : Bool) → In (without xs n) a → In (if not t then x ∷ without xs n else without xs n) a
    stays_case true i = i
    stays_case false i = inr i

each_without : (P : ℕ → Type 0) (chain : List ℕ) (n : ℕ) → Each P chain → Each P (without chain n)
each_without P [] n h = tt
each_without P (x ∷ xs) n h = without_each (x == n) (each_without P xs n h.1)
  where
    without_each : (t : Bool) → Each P (without xs n) → Each P (if not t then x ∷ without xs n else without xs n)
    without_each true rest = rest
    without_each false rest = (h.0, rest)

pub rising_without : (chain : List ℕ) (n : ℕ) → Rising chain → Rising (without chain n)
rising_without [] n r = tt
rising_without (x ∷ xs) n r = rising_case (x == n) (rising_without xs n r.1)
  where
    rising_case : (t : Bool) → Rising (without xs n) → Rising (if not t then x ∷ without xs n else without xs n)
    rising_case true rest = rest
    rising_case false rest = (each_without (λ b. x < b) xs n r.0, rest)

pub in_any : (chain : List ℕ) (n : ℕ) → In chain n → list_any (λ m. m == n) chain ≡ true
in_any [] n i = absurd i
in_any (x ∷ xs) n (inl e) = let same : (x == n) ≡ true = eq-eqb x n e in rw same refl
in_any (x ∷ xs) n (inr i) = any_case (x == n) (in_any xs n i)
  where
    any_case : (t : Bool) → list_any (λ m. m == n) xs ≡ true → (t || list_any (λ m. m == n) xs) ≡ true
    any_case true h = refl
    any_case false h = h

-- ---- all numbers below n

each_from : (n from low : ℕ) → low < from → Each (λ b. low < b) (range_with_len from n)
each_from zero from low l = tt
each_from (suc n) from low l = (l, each_from n (from + 1) low (omega arith))

pub rising_from : (n from : ℕ) → Rising (range_with_len from n)
rising_from zero from = tt
rising_from (suc n) from = (each_from n (from + 1) from (omega arith), rising_from n (from + 1))

pub in_from : (n from a : ℕ) → from ≤ a → a < from + n → In (range_with_len from n) a
in_from zero from a l u = absurd (omega arith)
in_from (suc n) from a l u = from_case (from == a) refl (λ l. in_from n (from + 1) a l (omega arith))
  where
    from_case : (t : Bool) → (from == a) ≡ t → (from + 1 ≤ a → In (range_with_len (from + 1) n) a) → In (range_with_len from (suc n)) a
    from_case true is rest = inl (eqb-true from a is)
    from_case false is rest = let ne : from ≢ a = eqb-false from a is in inr (rest (omega arith))
