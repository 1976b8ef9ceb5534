-- A cell written into a delta: where it goes, and that the cells still rise.
use Rattle.std.proofs.Common.{◌≡◌, ℕ, zero, suc, ◌+◌, ◌≤◌, ◌<◌, List, [], ◌∷◌, ◌++◌, length, get_or, set, take, drop, Some, None, true, leb, not, All, arith, refl, ap, ◌∙◌, sym, subst, inl, inr, drop-cons, add-one}
use Rattle.std.specs.List.{position, position_or_len, insert}
use Rattle.std.proofs.lemmas.Grind.{common_steps}
use Rattle.std.proofs.lemmas.Bool.{not-true, ltb-true, lt-ltb, leb-true, leb-false, and_parts, and_from, cases_order}
use Rattle.std.proofs.lemmas.List.{take-append-drop, take-set, drop-set, length-set}
use Rattle.std.proofs.lemmas.List.Sums.{prefix_len_passes}
use Rattle.std.proofs.lemmas.List.Elements.{All-nil, All-cons, All-head, All-tail}
use Rattle.std.proofs.lemmas.List.Quantifiers.{position-Some}
use Rattle.rp_app.specs.Application.{Delta, with_cell, written, rising, cells_named, IsDelta}

-- ---- one step

lower : (d : ℕ × ℕ) (ds : Delta) (cell v : ℕ) → d.0 < cell → with_cell (d ∷ ds) cell v ≡ d ∷ with_cell ds cell v
lower d ds cell v h = grind (arith, common_steps)

same : (d : ℕ × ℕ) (ds : Delta) (cell v : ℕ) → d.0 ≡ cell → with_cell (d ∷ ds) cell v ≡ (cell, v) ∷ ds
same d ds cell v h = grind (arith, common_steps)

higher : (d : ℕ × ℕ) (ds : Delta) (cell v : ℕ) → cell < d.0 → with_cell (d ∷ ds) cell v ≡ (cell, v) ∷ d ∷ ds
higher d ds cell v h = grind (arith, common_steps)

-- ---- by place

past : (ds : Delta) (cell v i : ℕ) (d : ℕ × ℕ) → i ≤ length ds → ((k : ℕ) → k < i → (get_or ds k d).0 < cell) → with_cell ds cell v ≡ take i ds ++ with_cell (drop i ds) cell v
past ds cell v zero z le h = refl
past [] cell v (suc i) z le h = absurd (omega arith)
past (d ∷ ds) cell v (suc i) z le h =
    let first : d.0 < cell = h 0 (omega arith) in
    rw (lower d ds cell v first) (ap (λ (l : Delta). d ∷ l) (past ds cell v i z (omega arith) (λ k lt. h (suc k) (omega arith))))

pub with_cell-last : (ds : Delta) (cell v : ℕ) → position (λ d. leb cell d.0) ds ≡ None → with_cell ds cell v ≡ ds ++ (cell, v) ∷ []
with_cell-last ds cell v e =
    let n = position_or_len (λ (d : ℕ × ℕ). leb cell d.0) ds in
    let full : length ds ≤ n = grind arith in
    let e = past ds cell v (length ds) (0, 0) (omega arith) (λ k lt. leb-false cell _ (not-true _ (prefix_len_passes (λ d. not (leb cell d.0)) ds k (0, 0) (omega arith)))) in
    grind (arith, common_steps, e)

at_place : (ds : Delta) (i : ℕ) (d : ℕ × ℕ) → i < length ds → get_or ds i d ≡ d → drop i ds ≡ d ∷ drop (i + 1) ds
at_place ds i d lt is = rw add-one (drop-cons ds i d lt ∙ ap (λ (x : ℕ × ℕ). x ∷ drop (suc i) ds) is)

first_is : (ds : Delta) (cell v i : ℕ) (d : ℕ × ℕ) → position (λ d. leb cell d.0) ds ≡ Some i → get_or ds i d ≡ d → with_cell ds cell v ≡ take i ds ++ with_cell (d ∷ drop (i + 1) ds) cell v
first_is ds cell v i d e is =
    let found = position-Some (λ (d : ℕ × ℕ). leb cell d.0) ds i d e in
    past ds cell v i d (omega (arith, found.0)) (λ k lt. leb-false cell _ (found.2 k lt))
    ∙ ap (λ (l : Delta). take i ds ++ with_cell l cell v) (at_place ds i d found.0 is)

pub with_cell-again : (ds : Delta) (cell v i : ℕ) (d : ℕ × ℕ) → position (λ d. leb cell d.0) ds ≡ Some i → get_or ds i d ≡ d → d.0 ≡ cell → with_cell ds cell v ≡ set ds i (cell, v)
with_cell-again ds cell v i d e is at =
    let found = position-Some (λ (d : ℕ × ℕ). leb cell d.0) ds i d e in
    let one = first_is ds cell v i d e is ∙ ap (λ (l : Delta). take i ds ++ l) (same d (drop (i + 1) ds) cell v at) in
    let two = take-append-drop i (set ds i (cell, v)) in
    let three : take i (set ds i (cell, v)) ++ drop i (set ds i (cell, v)) ≡ take i ds ++ (cell, v) ∷ drop (i + 1) ds = rw (take-set ds i (cell, v), drop-set ds i (cell, v) found.0) refl in
    one ∙ sym three ∙ two

pub with_cell-between : (ds : Delta) (cell v i : ℕ) (d : ℕ × ℕ) → position (λ d. leb cell d.0) ds ≡ Some i → get_or ds i d ≡ d → (d.0 ≡ cell → ⊥) → with_cell ds cell v ≡ insert ds i (cell, v)
with_cell-between ds cell v i d e is other =
    let found = position-Some (λ (d : ℕ × ℕ). leb cell d.0) ds i d e in
    let up : cell ≤ d.0 = leb-true cell d.0 (ap (λ (x : ℕ × ℕ). leb cell x.0) (sym is) ∙ found.1) in
    first_is ds cell v i d e is ∙ ap (λ (l : Delta). take i ds ++ l) (higher d (drop (i + 1) ds) cell v (omega arith))
    ∙ ap (λ (l : Delta). take i ds ++ (cell, v) ∷ l) (sym (at_place ds i d found.0 is))

-- ---- the cells still rise

rising_from : (x : ℕ) (ds : Delta) (cell v : ℕ) → rising (x ∷ cells_named ds) ≡ true → x < cell → rising (x ∷ cells_named (with_cell ds cell v)) ≡ true
rising_from x [] cell v h lt = and_from _ _ (lt-ltb x cell lt) refl
rising_from x (d ∷ ds) cell v h lt =
    let hs = and_parts _ _ h in
    elim (cases_order d.0 cell) as (λ _. rising (x ∷ cells_named (with_cell (d ∷ ds) cell v)) ≡ true) [
      | inl e ↦ rw (same d ds cell v e) (subst (λ (y : ℕ). rising (x ∷ y ∷ cells_named ds) ≡ true) e h)
      | inr o ↦ elim o as (λ _. rising (x ∷ cells_named (with_cell (d ∷ ds) cell v)) ≡ true) [
        | inl low ↦ rw (lower d ds cell v low) (and_from _ _ hs.0 (rising_from d.0 ds cell v hs.1 low))
        | inr high ↦ rw (higher d ds cell v high) (and_from _ _ (lt-ltb x cell lt) (and_from _ _ (lt-ltb cell d.0 high) hs.1))
      ]
    ]

rising_with : (ds : Delta) (cell v : ℕ) → rising (cells_named ds) ≡ true → rising (cells_named (with_cell ds cell v)) ≡ true
rising_with [] cell v h = refl
rising_with (d ∷ ds) cell v h =
    elim (cases_order d.0 cell) as (λ _. rising (cells_named (with_cell (d ∷ ds) cell v)) ≡ true) [
      | inl e ↦ rw (same d ds cell v e) (subst (λ (y : ℕ). rising (y ∷ cells_named ds) ≡ true) e h)
      | inr o ↦ elim o as (λ _. rising (cells_named (with_cell (d ∷ ds) cell v)) ≡ true) [
        | inl low ↦ rw (lower d ds cell v low) (rising_from d.0 ds cell v h low)
        | inr high ↦ rw (higher d ds cell v high) (and_from _ _ (lt-ltb cell d.0 high) h)
      ]
    ]

within_with : (n : ℕ) (ds : Delta) (cell v : ℕ) → All (λ c. c < n) (cells_named ds) → cell < n → All (λ c. c < n) (cells_named (with_cell ds cell v))
within_with n [] cell v h lt = All-cons (λ c. c < n) cell [] lt (All-nil (λ c. c < n))
within_with n (d ∷ ds) cell v h lt =
    let rest = All-tail (λ (c : ℕ). c < n) d.0 (cells_named ds) h in
    elim (cases_order d.0 cell) as (λ _. All (λ c. c < n) (cells_named (with_cell (d ∷ ds) cell v))) [
      | inl e ↦ rw (same d ds cell v e) (All-cons (λ c. c < n) cell (cells_named ds) lt rest)
      | inr o ↦ elim o as (λ _. All (λ c. c < n) (cells_named (with_cell (d ∷ ds) cell v))) [
        | inl low ↦ rw (lower d ds cell v low) (All-cons (λ c. c < n) d.0 (cells_named (with_cell ds cell v)) (All-head (λ c. c < n) d.0 (cells_named ds) h) (within_with n ds cell v rest lt))
        | inr high ↦ rw (higher d ds cell v high) (All-cons (λ c. c < n) cell (cells_named (d ∷ ds)) lt h)
      ]
    ]

-- rising numbers below n, from x on, are at most n - x
pub short_from : (n x : ℕ) (xs : List ℕ) → rising (x ∷ xs) ≡ true → All (λ c. c < n) (x ∷ xs) → x + length (x ∷ xs) ≤ n
short_from n x [] h below = let lt : x < n = All-head (λ c. c < n) x [] below in omega arith
short_from n x (y ∷ ys) h below =
    let hs = and_parts _ _ h in
    let lt : x < y = ltb-true x y hs.0 in
    let more : y + length (y ∷ ys) ≤ n = short_from n y ys hs.1 (All-tail (λ c. c < n) x (y ∷ ys) below) in
    omega arith

pub short_is : (n : ℕ) (xs : List ℕ) → rising xs ≡ true → All (λ c. c < n) xs → length xs ≤ n
short_is n [] h below = omega arith
short_is n (x ∷ xs) h below = omega (arith, short_from n x xs h below)

pub named_length : (ds : Delta) → length (cells_named ds) ≡ length ds
named_length ds = grind (arith, common_steps)

pub with_cell-IsDelta : (ds : Delta) (cell v : ℕ) → IsDelta ds → cell < 256 → IsDelta (with_cell ds cell v)
with_cell-IsDelta ds cell v h lt =
    let rises = rising_with ds cell v h.rises in
    let within = within_with 256 ds cell v h.within lt in
    record { rises = rises; within = within; short = omega (arith, short_is 256 (cells_named (with_cell ds cell v)) rises within, named_length (with_cell ds cell v)) }

-- a delta changes no length
pub length-written : (cells : List ℕ) (delta : Delta) → length (written cells delta) ≡ length cells
length-written cells [] = refl
length-written cells (d ∷ ds) = length-written (set cells d.0 d.1) ds ∙ length-set cells d.0 d.1

-- a delta that names cells below n writes cells below n
pub each_below : (n : ℕ) (delta : Delta) → All (λ c. c < n) (cells_named delta) → All (λ (d : ℕ × ℕ). d.0 < n) delta
each_below n [] h = All-nil (λ (d : ℕ × ℕ). d.0 < n)
each_below n (d ∷ ds) h =
    All-cons (λ (d : ℕ × ℕ). d.0 < n) d ds (All-head (λ (c : ℕ). c < n) d.0 (cells_named ds) h) (each_below n ds (All-tail (λ (c : ℕ). c < n) d.0 (cells_named ds) h))
