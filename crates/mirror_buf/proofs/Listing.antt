-- Lists of named copies: their members, what is found in them, and their order.
use Rattle.std.proofs.Common.{◌≡◌, ◌≢◌, ℕ, suc, ◌+◌, Bool, true, false, List, [], ◌∷◌, ◌++◌, length, Option, Some, None, refl, sym, ap, ◌∙◌, inl, inr, subst, arith, map, filter, eq-eqb}
use Rattle.std.specs.Prelude.{◌==◌, not, if◌then◌else◌, All}
use Rattle.std.proofs.lemmas.Bool.{cases_eq, ne_eqb}
use Rattle.link_arena.specs.Lists.{find, without, or_else}
use Rattle.mirror_buf.specs.declared.kept.Kept.{Kept}
use Rattle.mirror_buf.specs.Copies.{Named}
use Rattle.mirror_buf.specs.Places.{Each, Ordered, Apart}

-- ---- each member

pub each_of_all : (P : Named → Type 0) (cs : List Named) → All P cs → Each P cs
each_of_all P [] h = tt
each_of_all P (c ∷ cs) h = (h 0 c (omega arith), each_of_all P cs (λ i d lt. h (suc i) d (omega (arith, lt))))

pub each_weaker : (P Q : Named → Type 0) (cs : List Named) → ((c : Named) → P c → Q c) → Each P cs → Each Q cs
each_weaker P Q [] f h = tt
each_weaker P Q (c ∷ cs) f h = (f c h.0, each_weaker P Q cs f h.1)

pub each_filter : (P : Named → Type 0) (p : Named → Bool) (cs : List Named) → Each P cs → Each P (filter p cs)
each_filter P p [] h = tt
each_filter P p (c ∷ cs) h = test_case (p c) (each_filter P p cs h.1)
  where
    test_case : (b : Bool) → Each P (filter p cs) → Each P (if b then c ∷ filter p cs else filter p cs)
    test_case true rest = (h.0, rest)
    test_case false rest = rest

pub each_last : (P : Named → Type 0) (cs : List Named) (c : Named) → Each P cs → P c → Each P (cs ++ c ∷ [])
each_last P [] c h last = (last, tt)
each_last P (d ∷ cs) c h last = (h.0, each_last P cs c h.1 last)

pub each_map : (P : Named → Type 0) (f : Named → Named) (cs : List Named) → Each (λ c. P (f c)) cs → Each P (map f cs)
each_map P f [] h = tt
each_map P f (c ∷ cs) h = (h.0, each_map P f cs h.1)

-- ---- order

pub ordered_filter : (R : Named → Named → Type 0) (p : Named → Bool) (cs : List Named) → Ordered R cs → Ordered R (filter p cs)
ordered_filter R p [] h = tt
ordered_filter R p (c ∷ cs) h = test_case (p c) (ordered_filter R p cs h.1)
  where
    test_case : (b : Bool) → Ordered R (filter p cs) → Ordered R (if b then c ∷ filter p cs else filter p cs)
    test_case true rest = (each_filter (R c) p cs h.0, rest)
    test_case false rest = rest

pub ordered_last : (R : Named → Named → Type 0) (cs : List Named) (d : Named) → Ordered R cs → Each (λ c. R c d) cs → Ordered R (cs ++ d ∷ [])
ordered_last R [] d h last = (tt, tt)
ordered_last R (c ∷ cs) d h last = (each_last (R c) cs d h.0 last.0, ordered_last R cs d h.1 last.1)

pub ordered_map : (R : Named → Named → Type 0) (f : Named → Named) (cs : List Named) → ((c d : Named) → R c d → R (f c) (f d)) → Ordered R cs → Ordered R (map f cs)
ordered_map R f [] keeps h = tt
ordered_map R f (c ∷ cs) keeps h =
    (each_map (R (f c)) f cs (each_weaker (R c) (λ d. R (f c) (f d)) cs (keeps c) h.0), ordered_map R f cs keeps h.1)

-- ---- what is found

pub or_none : (o : Option Kept) → or_else o None ≡ o
or_none None = refl
or_none (Some k) = refl

pub find_append : (id : ℕ) (xs ys : List Named) → find id (xs ++ ys) ≡ or_else (find id xs) (find id ys)
find_append id [] ys = refl
find_append id (c ∷ xs) ys = test_case (c.0 == id) (find_append id xs ys)
  where
    test_case : (b : Bool) → find id (xs ++ ys) ≡ or_else (find id xs) (find id ys) → (if b then Some c.1 else find id (xs ++ ys)) ≡ or_else (if b then Some c.1 else find id xs) (find id ys)
    test_case true rest = refl
    test_case false rest = rest

pub not_there : (id : ℕ) (cs : List Named) → find id cs ≡ None → Each (λ c. c.0 ≢ id) cs
not_there id [] h = tt
not_there id (c ∷ cs) h = elim (cases_eq c.0 id) [
  | inl same ↦ absurd (there (eq-eqb c.0 id same) h)
  | inr differs ↦ (differs, not_there id cs (rest (ne_eqb c.0 id differs) h))
]
  where
    there : (c.0 == id) ≡ true → (if c.0 == id then Some c.1 else find id cs) ≡ None → ⊥
    there is e = let now : (if true then Some c.1 else find id cs) ≡ None = subst (λ b. (if b then Some c.1 else find id cs) ≡ None) is e in cc

    rest : (c.0 == id) ≡ false → (if c.0 == id then Some c.1 else find id cs) ≡ None → find id cs ≡ None
    rest is e = subst (λ b. (if b then Some c.1 else find id cs) ≡ None) is e

pub found_none : (id : ℕ) (cs : List Named) → Each (λ c. c.0 ≢ id) cs → find id cs ≡ None
found_none id [] h = refl
found_none id (c ∷ cs) h = let test : (c.0 == id) ≡ false = ne_eqb c.0 id h.0 in rw test (found_none id cs h.1)

-- the first one doesn't come again
pub once : (c : Named) (cs : List Named) → Each (Apart c) cs → find c.0 cs ≡ None
once c cs h = found_none c.0 cs (each_weaker (Apart c) (λ d. d.0 ≢ c.0) cs (λ d ne e. ne (sym e)) h)

pub found_each : (P : Named → Type 0) (id : ℕ) (k : Kept) (cs : List Named) → Each P cs → find id cs ≡ Some k → P (id, k)
found_each P id k [] h is = cc
found_each P id k (c ∷ cs) h is = elim (cases_eq c.0 id) [
  | inl same ↦ here same (subst (λ b. (if b then Some c.1 else find id cs) ≡ Some k) (eq-eqb c.0 id same) is)
  | inr differs ↦ found_each P id k cs h.1 (subst (λ b. (if b then Some c.1 else find id cs) ≡ Some k) (ne_eqb c.0 id differs) is)
]
  where
    here : c.0 ≡ id → Some c.1 ≡ Some k → P (id, k)
    here same e = let value : c.1 ≡ k = cc in let both : c ≡ (id, k) = λ i. (same i, value i) in subst P both h.0

pub each_found : (P : Named → Type 0) (cs : List Named) → Ordered Apart cs → ((id : ℕ) (k : Kept) → find id cs ≡ Some k → P (id, k)) → Each P cs
each_found P [] apart h = tt
each_found P (c ∷ cs) apart h = (first, each_found P cs apart.1 later)
  where
    first : P c
    first = let test : (c.0 == c.0) ≡ true = eq-eqb c.0 c.0 refl in h c.0 c.1 (rw test refl)

    later : (id : ℕ) (k : Kept) → find id cs ≡ Some k → P (id, k)
    later id k is = elim (cases_eq c.0 id) [
      | inl same ↦ absurd (none_some (sym (once c cs apart.0) ∙ (ap (λ x. find x cs) same ∙ is)))
      | inr differs ↦ h id k (let test : (c.0 == id) ≡ false = ne_eqb c.0 id differs in rw test is)
    ]
      where
        none_some : None ≡ Some k → ⊥
        none_some e = cc

-- ---- one name taken off

pub without_none : (id : ℕ) (cs : List Named) → Each (λ c. c.0 ≢ id) cs → without id cs ≡ cs
without_none id [] h = refl
without_none id (c ∷ cs) h = let test : (c.0 == id) ≡ false = ne_eqb c.0 id h.0 in rw (test, without_none id cs h.1) refl

pub gone : (id : ℕ) (cs : List Named) → Each (λ c. c.0 ≢ id) (without id cs)
gone id [] = tt
gone id (c ∷ cs) = elim (cases_eq c.0 id) [
  | inl same ↦ let test : (c.0 == id) ≡ true = eq-eqb c.0 id same in subst (λ b. Each (λ d. d.0 ≢ id) (if not b then c ∷ without id cs else without id cs)) (sym test) (gone id cs)
  | inr differs ↦ let test : (c.0 == id) ≡ false = ne_eqb c.0 id differs in subst (λ b. Each (λ d. d.0 ≢ id) (if not b then c ∷ without id cs else without id cs)) (sym test) (differs, gone id cs)
]

pub find_gone : (id : ℕ) (cs : List Named) → find id (without id cs) ≡ None
find_gone id cs = found_none id (without id cs) (gone id cs)

pub find_others : (id x : ℕ) (cs : List Named) → x ≢ id → find x (without id cs) ≡ find x cs
find_others id x [] ne = refl
find_others id x (c ∷ cs) ne = elim (cases_eq c.0 id) [
  | inl same ↦
      let test : (c.0 == id) ≡ true = eq-eqb c.0 id same in
      let other : (c.0 == x) ≡ false = ne_eqb c.0 x (λ e. ne (sym e ∙ same)) in
      rw (test, other) (find_others id x cs ne)
  | inr differs ↦
      let test : (c.0 == id) ≡ false = ne_eqb c.0 id differs in
      rw test (test_case (c.0 == x) (find_others id x cs ne))
]
  where
    test_case : (b : Bool) → find x (without id cs) ≡ find x cs → (if b then Some c.1 else find x (without id cs)) ≡ (if b then Some c.1 else find x cs)
    test_case true rest = refl
    test_case false rest = rest

pub shorter : (id : ℕ) (k : Kept) (cs : List Named) → Ordered Apart cs → find id cs ≡ Some k → length cs ≡ length (without id cs) + 1
shorter id k [] h is = cc
shorter id k (c ∷ cs) h is = elim (cases_eq c.0 id) [
  | inl same ↦
      let test : (c.0 == id) ≡ true = eq-eqb c.0 id same in
      let rest : without id cs ≡ cs = without_none id cs (subst (λ x. Each (λ d. d.0 ≢ x) cs) same (each_weaker (Apart c) (λ d. d.0 ≢ c.0) cs (λ d ne e. ne (sym e)) h.0)) in
      rw (test, rest) (omega arith)
  | inr differs ↦
      let test : (c.0 == id) ≡ false = ne_eqb c.0 id differs in
      let rest : length cs ≡ length (without id cs) + 1 = shorter id k cs h.1 (subst (λ b. (if b then Some c.1 else find id cs) ≡ Some k) test is) in
      rw test (omega (arith, rest))
]

-- lists in which the same is found are of one length
pub same_length : (xs ys : List Named) → Ordered Apart xs → Ordered Apart ys → ((id : ℕ) → find id xs ≡ find id ys) → length xs ≡ length ys
same_length [] [] h g same = refl
same_length [] (c ∷ ys) h g same = absurd (none_some (same c.0 ∙ first))
  where
    first : find c.0 (c ∷ ys) ≡ Some c.1
    first = let test : (c.0 == c.0) ≡ true = eq-eqb c.0 c.0 refl in rw test refl

    none_some : None ≡ Some c.1 → ⊥
    none_some e = cc
same_length (c ∷ xs) ys h g same =
    let less : length xs ≡ length (without c.0 ys) = same_length xs (without c.0 ys) h.1 (ordered_filter Apart (λ d. not (d.0 == c.0)) ys g) rest in
    omega (arith, less, shorter c.0 c.1 ys g found)
  where
    found : find c.0 ys ≡ Some c.1
    found = let test : (c.0 == c.0) ≡ true = eq-eqb c.0 c.0 refl in sym (same c.0) ∙ rw test refl

    rest : (id : ℕ) → find id xs ≡ find id (without c.0 ys)
    rest id = elim (cases_eq c.0 id) [
      | inl e ↦ subst (λ x. find x xs ≡ find x (without c.0 ys)) e (once c xs h.0 ∙ sym (find_gone c.0 ys))
      | inr ne ↦
          let test : (c.0 == id) ≡ false = ne_eqb c.0 id ne in
          let here : find id xs ≡ find id ys = sym (rw test refl) ∙ same id in
          here ∙ sym (find_others c.0 id ys (λ e. ne (sym e)))
    ]

-- ---- tests

pub filter_none : (p : Named → Bool) (cs : List Named) → Each (λ c. p c ≡ false) cs → filter p cs ≡ []
filter_none p [] h = refl
filter_none p (c ∷ cs) h = let test : p c ≡ false = h.0 in rw test (filter_none p cs h.1)

pub filter_all : (p : Named → Bool) (cs : List Named) → Each (λ c. p c ≡ true) cs → filter p cs ≡ cs
filter_all p [] h = refl
filter_all p (c ∷ cs) h = let test : p c ≡ true = h.0 in rw (test, filter_all p cs h.1) refl

-- a copy that the test doesn't pass may be taken off before
pub filter_skip : (p : Named → Bool) (id : ℕ) (cs : List Named) → Each (λ c. c.0 ≡ id → p c ≡ false) cs → filter p (without id cs) ≡ filter p cs
filter_skip p id [] h = refl
filter_skip p id (c ∷ cs) h = elim (cases_eq c.0 id) [
  | inl same ↦
      let test : (c.0 == id) ≡ true = eq-eqb c.0 id same in
      let fails : p c ≡ false = h.0 same in
      rw (test, fails) (filter_skip p id cs h.1)
  | inr differs ↦
      let test : (c.0 == id) ≡ false = ne_eqb c.0 id differs in
      rw test (ap (λ ds. if p c then c ∷ ds else ds) (filter_skip p id cs h.1))
]

-- two tests in either order
pub filter_both : (p q : Named → Bool) (cs : List Named) → filter p (filter q cs) ≡ filter q (filter p cs)
filter_both p q [] = refl
filter_both p q (c ∷ cs) = both (p c) refl (q c) refl (filter_both p q cs)
  where
    both : (a : Bool) → p c ≡ a → (b : Bool) → q c ≡ b → filter p (filter q cs) ≡ filter q (filter p cs) → filter p (if b then c ∷ filter q cs else filter q cs) ≡ filter q (if a then c ∷ filter p cs else filter p cs)
    both true is true at rest = rw (is, at, rest) refl
    both true is false at rest = rw at rest
    both false is true at rest = rw is rest
    both false is false at rest = rest

-- what is found among those that pass
abbrev pub if_pass : (Named → Bool) → ℕ → Option Kept → Option Kept
if_pass p id None = None
if_pass p id (Some k) = if p (id, k) then Some k else None

pub find_filter : (p : Named → Bool) (id : ℕ) (cs : List Named) → Ordered Apart cs → find id (filter p cs) ≡ if_pass p id (find id cs)
find_filter p id [] h = refl
find_filter p id (c ∷ cs) h = elim (cases_eq c.0 id) [
  | inl same ↦
      let test : (c.0 == id) ≡ true = eq-eqb c.0 id same in
      let away : find id cs ≡ None = subst (λ x. find x cs ≡ None) same (once c cs h.0) in
      rw test (here same (p c) refl (find_filter p id cs h.1 ∙ ap (if_pass p id) away))
  | inr differs ↦
      let test : (c.0 == id) ≡ false = ne_eqb c.0 id differs in
      rw test (there test (p c) (find_filter p id cs h.1))
]
  where
    here : c.0 ≡ id → (b : Bool) → p c ≡ b → find id (filter p cs) ≡ None → find id (if b then c ∷ filter p cs else filter p cs) ≡ (if p (id, c.1) then Some c.1 else None)
    here same b is rest =
        let test : (c.0 == id) ≡ true = eq-eqb c.0 id same in
        let passes : p (id, c.1) ≡ b = ap (λ x. p (x, c.1)) (sym same) ∙ is in
        rw passes (case_of b test rest)
      where
        case_of : (b : Bool) → (c.0 == id) ≡ true → find id (filter p cs) ≡ None → find id (if b then c ∷ filter p cs else filter p cs) ≡ (if b then Some c.1 else None)
        case_of true test none = rw test refl
        case_of false test none = none

    there : (c.0 == id) ≡ false → (b : Bool) → find id (filter p cs) ≡ if_pass p id (find id cs) → find id (if b then c ∷ filter p cs else filter p cs) ≡ if_pass p id (find id cs)
    there test true rest = rw test rest
    there test false rest = rest
