-- A decimal number is read as its value.
use Rattle.std.proofs.Common.{◌≡◌, ℕ, suc, ◌+◌, ◌-◌, ◌*◌, ◌/◌, ◌%◌, ◌^◌, ◌<◌, ◌≤◌, List, [], ◌∷◌, ◌++◌, length, length-append, Bool, true, false, Option, Some, None, nat_eq, nat_lt, nat_le, refl, sym, ap, ◌∙◌, append_assoc, arith}
use Rattle.std.specs.Prelude.{if◌then◌else◌, decimal, position, not}
use Rattle.std.specs.List.{prefix_len, list_all}
use Rattle.std.specs.Char.{is_ascii_digit}
use Rattle.std.proofs.Math.Seq.{take-append_seam, drop-append-add}
use Rattle.std.proofs.lemmas.Bool.{and_parts, and_from}
use Rattle.std.proofs.lemmas.List.{append-nil}
use Rattle.std.proofs.lemmas.List.Folds.{list_all-append}
use Rattle.std.proofs.lemmas.Bool.Decides.{nat_tests}
use Rattle.std.proofs.lemmas.Fmt.{decimal_by_steps_wide}
use Rattle.p4_lex.specs.Numbers.{digit, figures, fitting, in_base, base_of, plain, width, number_at, number}
use Rattle.p4_print.specs.Text.{number_text}
use Rattle.p4_reread.specs.Lexemes.{IsNumber}

-- lists whose members pass a test

pub all-weaker : (p q : ℕ → Bool) → ((c : ℕ) → p c ≡ true → q c ≡ true) → (xs : List ℕ) → list_all p xs ≡ true → list_all q xs ≡ true
all-weaker p q each [] h = refl
all-weaker p q each (x ∷ xs) h = let both = and_parts (p x) (list_all p xs) h in and_from (q x) (list_all q xs) (each x both.0) (all-weaker p q each xs both.1)

-- so many members pass, where the next one doesn't
pub all-stops : (p : ℕ → Bool) (xs : List ℕ) (b : ℕ) (ys : List ℕ) → list_all p xs ≡ true → p b ≡ false → prefix_len p (xs ++ b ∷ ys) ≡ length xs
all-stops p [] b ys h stop = rw stop refl
all-stops p (x ∷ xs) b ys h stop =
    let both = and_parts (p x) (list_all p xs) h in
    let first : p x ≡ true = both.0 in
    let rest : prefix_len p (xs ++ b ∷ ys) ≡ length xs = all-stops p xs b ys both.1 stop in
    let size : 1 + length xs ≡ suc (length xs) = omega arith in
    rw (first, rest, size) refl

all-passes : (p : ℕ → Bool) (xs : List ℕ) → list_all p xs ≡ true → prefix_len p xs ≡ length xs
all-passes p [] h = refl
all-passes p (x ∷ xs) h =
    let both = and_parts (p x) (list_all p xs) h in
    let first : p x ≡ true = both.0 in
    let rest : prefix_len p xs ≡ length xs = all-passes p xs both.1 in
    let size : 1 + length xs ≡ suc (length xs) = omega arith in
    rw (first, rest, size) refl

-- digits

digit-is : (d : ℕ) → d < 10 → digit 10 (48 + d) ≡ Some d
digit-is d h =
    let low : nat_le 48 (48 + d) ≡ true = grind (arith, nat_tests) in
    let high : nat_le (48 + d) 57 ≡ true = grind (arith, nat_tests) in
    let back : 48 + d - 48 ≡ d = omega arith in
    let small : nat_lt d 10 ≡ true = grind (arith, nat_tests) in
    rw (low, high, back, small) refl

figure : (behind : Bool) (value d : ℕ) (ys : List ℕ) → d < 10 → figures 10 behind value ((48 + d) ∷ ys) ≡ figures 10 true (value * 10 + d) ys
figure behind value d ys h =
    let other : nat_eq (48 + d) 95 ≡ false = grind (arith, nat_tests) in
    rw (other, digit-is d h) refl

-- these digits write this number
pub record Writes (n : ℕ) (ds : List ℕ) : Type 0 where
  pub digits : list_all is_ascii_digit ds ≡ true
  pub some : 1 ≤ length ds
  pub value : (ys : List ℕ) → figures 10 false 0 (ds ++ ys) ≡ figures 10 true n ys

is-digit : (d : ℕ) → d < 10 → is_ascii_digit (48 + d) ≡ true
is-digit d h =
    let low : nat_le 48 (48 + d) ≡ true = grind (arith, nat_tests) in
    let high : nat_le (48 + d) 57 ≡ true = grind (arith, nat_tests) in
    rw (low, high) refl

one : (n : ℕ) → n < 10 → Writes n ((48 + n) ∷ [])
one n h = record {
  digits = and_from (is_ascii_digit (48 + n)) true (is-digit n h) refl;
  some = omega arith;
  value = λ ys. let zero_first : 0 * 10 + n ≡ n = omega arith in figure false 0 n ys h ∙ ap (λ m. figures 10 true m ys) zero_first;
}

more : (n : ℕ) (ds : List ℕ) → 10 ≤ n → Writes (n / 10) ds → Writes n (ds ++ ((48 + n % 10) ∷ []))
more n ds h w =
    let small : n % 10 < 10 = omega arith in
    let whole : n / 10 * 10 + n % 10 ≡ n = omega arith in
    record {
      digits = list_all-append is_ascii_digit ds ((48 + n % 10) ∷ []) ∙ and_from _ _ w.digits (and_from (is_ascii_digit (48 + n % 10)) true (is-digit (n % 10) small) refl);
      some = omega (arith, length-append ds ((48 + n % 10) ∷ []), w.some);
      value = λ ys.
          ap (figures 10 false 0) (append_assoc ds ((48 + n % 10) ∷ []) ys) ∙ w.value ((48 + n % 10) ∷ ys) ∙ figure true (n / 10) (n % 10) ys small
          ∙ ap (λ m. figures 10 true m ys) whole;
    }

pub decimal-writes : (n : ℕ) → n < 2 ^ 128 → Writes n (decimal n)
decimal-writes n h = decimal_by_steps_wide Writes one more n (omega arith)

-- numbers

no_base : (d : ℕ) → is_ascii_digit d ≡ true → base_of d ≡ None
no_base d h =
    let x : nat_eq d 120 ≡ false = grind (arith, nat_tests) in
    let big_x : nat_eq d 88 ≡ false = grind (arith, nat_tests) in
    let b : nat_eq d 98 ≡ false = grind (arith, nat_tests) in
    let big_b : nat_eq d 66 ≡ false = grind (arith, nat_tests) in
    let o : nat_eq d 111 ≡ false = grind (arith, nat_tests) in
    let big_o : nat_eq d 79 ≡ false = grind (arith, nat_tests) in
    rw (x, big_x, b, big_b, o, big_o) refl

chosen : (b : Bool) (base : Option ℕ) (ds whole : List ℕ) → base ≡ None → in_base (if b then base else None) ds whole ≡ fitting (figures 10 false 0 whole)
chosen true base ds whole h = rw h refl
chosen false base ds whole h = refl

plain-digits : (ds : List ℕ) → list_all is_ascii_digit ds ≡ true → 1 ≤ length ds → plain ds ≡ fitting (figures 10 false 0 ds)
unfolding plain
plain-digits [] h some = absurd (omega arith)
plain-digits (c ∷ []) h some = refl
plain-digits (c ∷ d ∷ ds) h some =
    let rest = and_parts (is_ascii_digit c) (list_all is_ascii_digit (d ∷ ds)) h in
    let second = and_parts (is_ascii_digit d) (list_all is_ascii_digit ds) rest.1 in
    chosen (nat_eq c 48) (base_of d) ds (c ∷ d ∷ ds) (no_base d second.0)

fits : (n : ℕ) → n < 2 ^ 128 → fitting (Some n) ≡ Some n
fits n h = let small : nat_lt n (2 ^ 128) ≡ true = grind (arith, nat_tests) in rw small refl

writes-figures : (n : ℕ) (ds : List ℕ) → Writes n ds → figures 10 false 0 ds ≡ Some n
writes-figures n ds w = ap (figures 10 false 0) (sym (append-nil ds)) ∙ w.value []

plain-again : (n : ℕ) → n < 2 ^ 128 → plain (decimal n) ≡ Some n
plain-again n h =
    let w : Writes n (decimal n) = decimal-writes n h in
    plain-digits (decimal n) w.digits w.some ∙ ap fitting (writes-figures n (decimal n) w) ∙ fits n h

width-again : (n : ℕ) → 1 ≤ n → n ≤ 128 → width (decimal n) ≡ Some n
unfolding width
width-again n some most =
    let small : n < 2 ^ 128 = omega arith in
    let is : figures 10 false 0 (decimal n) ≡ Some n = writes-figures n (decimal n) (decimal-writes n small) in
    let low : nat_le 1 n ≡ true = grind (arith, nat_tests) in
    let high : nat_le n 128 ≡ true = grind (arith, nat_tests) in
    rw (is, fits n small, low, high) refl

-- the mark of a width

no_mark : (c : ℕ) → is_ascii_digit c ≡ true → not (nat_eq c 119) ≡ true
no_mark c h = let other : nat_eq c 119 ≡ false = grind (arith, nat_tests) in rw other refl

abbrev no_w : ℕ → Bool
no_w c = not (nat_eq c 119)

unmarked : (ds : List ℕ) → list_all is_ascii_digit ds ≡ true → position (λ c. nat_eq c 119) ds ≡ None
unmarked ds h =
    let all : prefix_len no_w ds ≡ length ds = all-passes no_w ds (all-weaker is_ascii_digit no_w no_mark ds h) in
    let end : nat_lt (length ds) (length ds) ≡ false = grind (arith, nat_tests) in
    rw (all, end) refl

marked : (ds es : List ℕ) → list_all is_ascii_digit ds ≡ true → position (λ c. nat_eq c 119) (ds ++ 119 ∷ es) ≡ Some (length ds)
marked ds es h =
    let at : prefix_len no_w (ds ++ 119 ∷ es) ≡ length ds = all-stops no_w ds 119 es (all-weaker is_ascii_digit no_w no_mark ds h) refl in
    let within : nat_lt (length ds) (length (ds ++ 119 ∷ es)) ≡ true = grind (arith, nat_tests, length-append) in
    rw (at, within) refl

with_mark : (w v : ℕ) (i : Option ℕ) → IsNumber v (Some w) → i ≡ Some (length (decimal w)) → number_at i (decimal w ++ 119 ∷ decimal v) ≡ Some (v, Some w)
with_mark w v i h is =
    rw (is, take-append_seam (decimal w) (119 ∷ decimal v), drop-append-add (decimal w) (119 ∷ decimal v) 1, width-again w h.1 h.2, plain-again v h.0) refl

pub number-again : (value : ℕ) (width : Option ℕ) → IsNumber value width → number (number_text value width) ≡ Some (value, width)
number-again value None h =
    let w : Writes value (decimal value) = decimal-writes value h in
    rw (unmarked (decimal value) w.digits, plain-again value h) refl
number-again value (Some w) h =
    with_mark w value (position (λ c. nat_eq c 119) (decimal w ++ 119 ∷ decimal value)) h (marked (decimal w) (decimal value) (decimal-writes w (omega (arith, h.2))).digits)
