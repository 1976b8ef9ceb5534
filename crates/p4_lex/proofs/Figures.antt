-- Digits behind those that were read.
use Rattle.std.proofs.Common.{◌≡◌, ℕ, ◌+◌, ◌*◌, ◌^◌, ◌≤◌, ◌<◌, List, [], ◌∷◌, length, drop, get_or, suc, drop-cons, Bool, true, false, Option, Some, None, nat_eq, refl, sym, ap, ◌∙◌, arith}
use Rattle.std.specs.Prelude.{option_and_then, if◌then◌else◌}
use Rattle.std.proofs.lemmas.Bool.Decides.{nat_tests}
use Rattle.p4_lex.specs.Numbers.{digit, figures, fitting}

fitting-large : (value : ℕ) → 2 ^ 128 ≤ value → fitting (Some value) ≡ None
fitting-large value large = grind (arith, nat_tests)

choose : (t b : Bool) (x y : Option ℕ) → fitting x ≡ None → fitting y ≡ None → fitting (if t then (if b then x else None) else y) ≡ None
choose true true x y p q = p
choose true false x y p q = refl
choose false b x y p q = q

each : (f : ℕ → Option ℕ) (o : Option ℕ) → ((d : ℕ) → fitting (f d) ≡ None) → fitting (option_and_then f o) ≡ None
each f None h = refl
each f (Some d) h = h d

grows : (value base d : ℕ) → 1 ≤ base → value ≤ value * base + d
grows value base d some = grind arith

-- a number that is too large already stays too large
pub figures-too_large : (base : ℕ) (behind : Bool) (value : ℕ) (cs : List ℕ) → 1 ≤ base → 2 ^ 128 ≤ value → fitting (figures base behind value cs) ≡ None
figures-too_large base true value [] some large = fitting-large value large
figures-too_large base false value [] some large = refl
figures-too_large base behind value (c ∷ cs) some large =
    choose (nat_eq c 95) behind _ _ (figures-too_large base false value cs some large)
    (each (λ d. figures base true (value * base + d) cs) (digit base c)
    (λ d. let more : value ≤ value * base + d = grows value base d some in figures-too_large base true (value * base + d) cs some (omega arith)))

large-of : (x : ℕ) → fitting (Some x) ≡ None → 2 ^ 128 ≤ x
large-of x none = grind (arith, nat_tests)

one_digit : (base : ℕ) (behind : Bool) (value c : ℕ) (cs : List ℕ) (d : ℕ) → (c ≡ 95 → ⊥) → digit base c ≡ Some d → figures base behind value (c ∷ cs) ≡ figures base true (value * base + d) cs
one_digit base behind value c cs d other is = let no : nat_eq c 95 ≡ false = grind (arith, nat_tests) in rw (no, is) refl

-- where one more digit makes the number too large, it is too large in the end
pub figures-stop : (base : ℕ) (behind : Bool) (value : ℕ) (xs : List ℕ) (i d : ℕ) (total : Option ℕ) → 1 ≤ base → i < length xs → (get_or xs i 0 ≡ 95 → ⊥) → digit base (get_or xs i 0) ≡ Some d → fitting (Some (value * base + d)) ≡ None → figures base behind value (drop i xs) ≡ total → fitting total ≡ None
figures-stop base behind value xs i d total some within other is stop whole =
    let front : drop i xs ≡ get_or xs i 0 ∷ drop (suc i) xs = drop-cons xs i 0 within in
    let one : figures base behind value (drop i xs) ≡ figures base true (value * base + d) (drop (suc i) xs) = ap (figures base behind value) front ∙ one_digit base behind value (get_or xs i 0) (drop (suc i) xs) d other is in
    ap fitting (sym whole ∙ one) ∙ figures-too_large base true (value * base + d) (drop (suc i) xs) some (large-of (value * base + d) stop)
