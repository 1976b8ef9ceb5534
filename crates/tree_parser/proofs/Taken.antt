-- Bits that are taken in two parts: the lowest 128 of a number, and those above them.
use Rattle.std.specs.Prelude.{⊤}
use Rattle.std.proofs.Common.{◌≡◌, ℕ, suc, ◌+◌, ◌-◌, ◌*◌, ◌%◌, ◌^◌, ◌<◌, ◌≤◌, min, Bool, true, false, nat_lt, nat_le, if◌then◌else◌, List, [], ◌∷◌, length, fold, take, drop, Option, Some, None, refl, sym, ap, ◌∙◌, subst, inl, inr, arith}
use Rattle.std.proofs.Math.Nat.{add-mul, mul_assoc, pow-succ', mul-add-mod_self_right}
use Rattle.std.proofs.Math.Seq.{take-add}
use Rattle.std.proofs.lemmas.Bool.{ltb-false, leb-true, leb-false, le-leb, cases_Bool}
use Rattle.std.proofs.lemmas.List.{length-drop, length-take-le, drop-drop}
use Rattle.std.proofs.lemmas.List.Sums.{fold-append}
use Rattle.rp_bits.specs.Bits.{number_of}
use Rattle.app_meaning.specs.Values.{cut, width_of}
use Rattle.tree_parser.specs.Parsed.{next_bits, field}

abbrev IsThere : Option ℕ → Type 0
IsThere None = ⊥
IsThere (Some n) = ⊤

abbrev or_0 : Option ℕ → ℕ
or_0 None = 0
or_0 (Some n) = n

-- the number of the next bits, which there are
record Taken (w : ℕ) (bits left : List ℕ) (n : ℕ) : Type 0 where
  there : w ≤ length bits
  number : n ≡ number_of (take w bits)
  behind : left ≡ drop w bits

taken_at : (t : Bool) (w : ℕ) (bits left : List ℕ) (n : ℕ) → nat_lt (length bits) w ≡ t → ◌≡◌ {A = Option ℕ × List ℕ} (Some n, left) (if t then (None, bits) else (Some (number_of (take w bits)), drop w bits)) → Taken w bits left n
taken_at true w bits left n e is = absurd (subst IsThere (ap (λ (x : Option ℕ × List ℕ). x.0) is) tt)
taken_at false w bits left n e is = record {
  there = ltb-false (length bits) w e;
  number = ap (λ (x : Option ℕ × List ℕ). or_0 x.0) is;
  behind = ap (λ (x : Option ℕ × List ℕ). x.1) is;
}

taken_is : (w : ℕ) (bits left : List ℕ) (a : Option ℕ) (n : ℕ) → a ≡ Some n → (a, left) ≡ next_bits w bits → Taken w bits left n
taken_is w bits left a n some is = taken_at (nat_lt (length bits) w) w bits left n refl (subst (λ (x : Option ℕ). (x, left) ≡ next_bits w bits) some is)

abbrev shift_in : ℕ → ℕ → ℕ
shift_in n bit = n * 2 + bit

fold_front : (ys : List ℕ) (a : ℕ) → fold shift_in a ys ≡ a * 2 ^ length ys + fold shift_in 0 ys
fold_front [] a = omega arith
fold_front (y ∷ ys) a =
    let here : fold shift_in (a * 2 + y) ys ≡ (a * 2 + y) * 2 ^ length ys + fold shift_in 0 ys = fold_front ys (a * 2 + y) in
    let alone : fold shift_in (0 * 2 + y) ys ≡ (0 * 2 + y) * 2 ^ length ys + fold shift_in 0 ys = fold_front ys (0 * 2 + y) in
    let first : 0 * 2 + y ≡ y = omega arith in
    let only : (0 * 2 + y) * 2 ^ length ys ≡ y * 2 ^ length ys = ap (λ (x : ℕ). x * 2 ^ length ys) first in
    let parts : (a * 2 + y) * 2 ^ length ys ≡ a * 2 * 2 ^ length ys + y * 2 ^ length ys = add-mul (a * 2) y (2 ^ length ys) in
    let up : a * 2 * 2 ^ length ys ≡ a * 2 ^ suc (length ys) = mul_assoc a 2 (2 ^ length ys) ∙ ap (λ (x : ℕ). a * x) (sym (pow-succ' 2 (length ys))) in
    let all : (a * 2 + y) * 2 ^ length ys + fold shift_in 0 ys ≡ a * 2 ^ suc (length ys) + ((0 * 2 + y) * 2 ^ length ys + fold shift_in 0 ys) = omega (arith, only, parts, up) in
    here ∙ all ∙ ap (λ (x : ℕ). a * 2 ^ suc (length ys) + x) (sym alone)

lowest : (a : ℕ) (bits : List ℕ) → a + 128 ≤ length bits → number_of (take (a + 128) bits) % 2 ^ 128 ≡ number_of (take 128 (drop a bits)) % 2 ^ 128
lowest a bits le =
    let long : length (take 128 (drop a bits)) ≡ 128 = length-take-le 128 (drop a bits) (omega (arith, length-drop a bits, le)) in
    let parts : number_of (take (a + 128) bits) ≡ number_of (take a bits) * 2 ^ 128 + number_of (take 128 (drop a bits)) =
    ap (λ (xs : List ℕ). fold shift_in 0 xs) (take-add a 128 bits)
    ∙ fold-append shift_in 0 (take a bits) (take 128 (drop a bits))
    ∙ fold_front (take 128 (drop a bits)) (number_of (take a bits))
    ∙ ap (λ (k : ℕ). number_of (take a bits) * 2 ^ k + number_of (take 128 (drop a bits))) long in
    ap (λ (x : ℕ). x % 2 ^ 128) parts ∙ mul-add-mod_self_right (number_of (take a bits)) (2 ^ 128) (number_of (take 128 (drop a bits)))

narrow : (w n : ℕ) (bits : List ℕ) → w ≤ 128 → n ≡ number_of (take (min w 128) (drop (w - 128) bits)) → cut w n ≡ cut w (number_of (take w bits))
narrow w n bits le is =
    let none : w - 128 ≡ 0 = omega (arith, le) in
    let all : min w 128 ≡ w = omega (arith, le) in
    ap (cut w) (is ∙ ap (λ (k : ℕ). number_of (take k (drop (w - 128) bits))) all ∙ ap (λ (k : ℕ). number_of (take w (drop k bits))) none)

wide : (w n : ℕ) (bits : List ℕ) → w ≤ length bits → 128 < w → n ≡ number_of (take (min w 128) (drop (w - 128) bits)) → cut w n ≡ cut w (number_of (take w bits))
wide w n bits there more is =
    let low : min w 128 ≡ 128 = omega (arith, more) in
    let top : width_of w ≡ 128 = omega (arith, more) in
    let sum : (w - 128) + 128 ≡ w = omega (arith, more) in
    let core : n % 2 ^ 128 ≡ number_of (take w bits) % 2 ^ 128 =
    ap (λ (x : ℕ). x % 2 ^ 128) (is ∙ ap (λ (k : ℕ). number_of (take k (drop (w - 128) bits))) low)
    ∙ sym (lowest (w - 128) bits (omega (arith, there, more)))
    ∙ ap (λ (k : ℕ). number_of (take k bits) % 2 ^ 128) sum in
    let number : n % 2 ^ width_of w ≡ number_of (take w bits) % 2 ^ width_of w = subst (λ (k : ℕ). n % 2 ^ k ≡ number_of (take w bits) % 2 ^ k) (sym top) core in
    λ i. record { width = w; number = number i }

same : (w n : ℕ) (bits : List ℕ) → w ≤ length bits → n ≡ number_of (take (min w 128) (drop (w - 128) bits)) → cut w n ≡ cut w (number_of (take w bits))
same w n bits there is = elim (cases_Bool (nat_le w 128)) as (λ _. cut w n ≡ cut w (number_of (take w bits))) [
  | inl e ↦ narrow w n bits (leb-true w 128 e) is
  | inr e ↦ wide w n bits there (leb-false w 128 e) is
]

joined : (w : ℕ) (bits mid left : List ℕ) (m n : ℕ) → Taken (w - 128) bits mid m → Taken (min w 128) mid left n → Some (cut w n, left) ≡ field w bits
joined w bits mid left m n first second =
    let rest : length mid ≡ length bits - (w - 128) = ap (λ (xs : List ℕ). length xs) first.behind ∙ length-drop (w - 128) bits in
    let there : w ≤ length bits = omega (arith, first.there, second.there, rest) in
    let sum : (w - 128) + min w 128 ≡ w = omega arith in
    let behind : left ≡ drop w bits = second.behind ∙ ap (λ (xs : List ℕ). drop (min w 128) xs) first.behind ∙ drop-drop (min w 128) (w - 128) bits ∙ ap (λ (k : ℕ). drop k bits) sum in
    let number : cut w n ≡ cut w (number_of (take w bits)) = same w n bits there (second.number ∙ ap (λ (xs : List ℕ). number_of (take (min w 128) xs)) first.behind) in
    let whole : field w bits ≡ Some (cut w (number_of (take w bits)), drop w bits) = rw (le-leb w (length bits) there) refl in
    (λ i. Some (number i, behind i)) ∙ sym whole

-- a value whose bits were taken in two parts
pub field_taken : (w : ℕ) (bits mid left : List ℕ) (a b : Option ℕ) (m n : ℕ) → a ≡ Some m → (a, mid) ≡ next_bits (w - 128) bits → b ≡ Some n → (b, left) ≡ next_bits (min w 128) mid → Some (cut w n, left) ≡ field w bits
field_taken w bits mid left a b m n some is more then_is = joined w bits mid left m n (taken_is (w - 128) bits mid a m some is) (taken_is (min w 128) mid left b n more then_is)
