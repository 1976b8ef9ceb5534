-- The bits of numbers of any width, and of the fields of headers.
use Rattle.std.proofs.Common.{◌≡◌, ℕ, zero, suc, ◌+◌, ◌-◌, ◌/◌, ◌%◌, ◌^◌, ◌<◌, ◌≤◌, min, List, [], ◌∷◌, ◌++◌, length, refl, sym, ap, ◌∙◌, subst, arith, add-one, inl, inr, false}
use Rattle.std.proofs.Math.Nat.{div-div-eq-div-mul, div-eq_of_lt}
use Rattle.std.proofs.lemmas.Nat.{pow-add, field_of}
use Rattle.std.proofs.Math.Pow.{mod-mod-pow}
use Rattle.std.proofs.lemmas.Bool.{cases_order}
use Rattle.std.proofs.lemmas.List.{get_or_past}
use Rattle.rp_bits.specs.Bits.{digits}
use Rattle.app_data.specs.declared.value.Value.{Value}
use Rattle.app_meaning.specs.Values.{cut, width_of, holds}
use Rattle.app_meaning.specs.Slots.{value_in}
use Rattle.app_meaning.specs.Packets.{field_bits}

bit_low : (n k w : ℕ) → w < k → n % 2 ^ k / 2 ^ w % 2 ≡ n / 2 ^ w % 2
bit_low n k w lt =
    let sum : (k - w) + w ≡ k = omega (arith, lt) in
    let more : (k - w - 1) + 1 ≡ k - w = omega (arith, lt) in
    let field : n % 2 ^ k / 2 ^ w ≡ n / 2 ^ w % 2 ^ (k - w) = subst (λ (m : ℕ). n % 2 ^ m / 2 ^ w ≡ n / 2 ^ w % 2 ^ (k - w)) sum (field_of n (k - w) w) in
    let lowest : n / 2 ^ w % 2 ^ (k - w) % 2 ≡ n / 2 ^ w % 2 = subst (λ (m : ℕ). n / 2 ^ w % 2 ^ m % 2 ≡ n / 2 ^ w % 2) more (mod-mod-pow (n / 2 ^ w) (k - w - 1) 1) in
    ap (λ (x : ℕ). x % 2) field ∙ lowest

low_digits : (w k n : ℕ) → w ≤ k → digits w (n % 2 ^ k) ≡ digits w n
low_digits zero k n le = refl
low_digits (suc w) k n le = let bit : n % 2 ^ k / 2 ^ w % 2 ≡ n / 2 ^ w % 2 = bit_low n k w (omega (arith, le)) in λ i. bit i ∷ low_digits w k n (omega (arith, le)) i

pub digits_cut : (w n : ℕ) → w ≤ 128 → digits w (n % 2 ^ width_of w) ≡ digits w n
digits_cut w n le = let e : width_of w ≡ w = omega (arith, le) in rw (e) (low_digits w w n (omega arith))

split : (a b n : ℕ) → digits (a + b) n ≡ digits a (n / 2 ^ b) ++ digits b n
split zero b n = let e : zero + b ≡ b = omega arith in rw (e) refl
split (suc a) b n =
    let e : suc a + b ≡ suc (a + b) = omega arith in
    let f : b + a ≡ a + b = omega arith in
    let bit : n / 2 ^ (a + b) % 2 ≡ n / 2 ^ b / 2 ^ a % 2 = sym (ap (λ (x : ℕ). x % 2) (div-div-eq-div-mul n (2 ^ b) (2 ^ a) ∙ ap (λ (x : ℕ). n / x) (sym (pow-add 2 b a)) ∙ ap (λ (k : ℕ). n / 2 ^ k) f)) in
    subst (λ (k : ℕ). digits k n ≡ digits (suc a) (n / 2 ^ b) ++ digits b n) (sym e) (λ i. bit i ∷ split a b n i)

narrow : (w n : ℕ) → w ≤ 128 → digits (w - 128) 0 ++ digits (min w 128) n ≡ digits w n
narrow w n le = let none : w - 128 ≡ 0 = omega (arith, le) in let all : min w 128 ≡ w = omega (arith, le) in rw (none, all) refl

wide : (w n : ℕ) → n < 2 ^ 128 → 128 < w → digits (w - 128) 0 ++ digits (min w 128) n ≡ digits w n
wide w n lt more =
    let low : min w 128 ≡ 128 = omega (arith, more) in
    let sum : (w - 128) + 128 ≡ w = omega (arith, more) in
    let nothing : n / 2 ^ 128 ≡ 0 = div-eq_of_lt lt in
    ap (λ (k : ℕ). digits (w - 128) 0 ++ digits k n) low
    ∙ ap (λ (x : ℕ). digits (w - 128) x ++ digits 128 n) (sym nothing)
    ∙ sym (split (w - 128) 128 n) ∙ ap (λ (k : ℕ). digits k n) sum

pub digits_wide : (w n : ℕ) → n < 2 ^ 128 → digits (w - 128) 0 ++ digits (min w 128) n ≡ digits w n
digits_wide w n lt = elim (cases_order w 128) as (λ _. digits (w - 128) 0 ++ digits (min w 128) n ≡ digits w n) [
  | inl e ↦ narrow w n (omega (arith, e))
  | inr o ↦ elim o as (λ _. digits (w - 128) 0 ++ digits (min w 128) n ≡ digits w n) [
    | inl low ↦ narrow w n (omega (arith, low))
    | inr high ↦ wide w n lt high
  ]
]

pub fields_past : (k i : ℕ) (values : List Value) → length values ≤ i → field_bits k i values ≡ []
fields_past zero i values past = refl
fields_past (suc k) i values past =
    let none : value_in values i ≡ cut 0 0 = get_or_past values i (cut 0 0) past in
    rw (none) (fields_past k (suc i) values (omega (arith, past)))

pub fields_more : (k i : ℕ) (values : List Value) → 0 < k → digits (value_in values i).width (value_in values i).number ++ field_bits (k - 1) (i + 1) values ≡ field_bits k i values
fields_more zero i values some = absurd (omega (arith, some))
fields_more (suc k) i values some = let less : suc k - 1 ≡ k = omega arith in rw (less, add-one) refl

-- past the end no header is valid
pub none_behind : (values : List Value) (h : ℕ) → length values ≤ h → holds (value_in values h) ≡ false
none_behind values h past = rw (get_or_past values h (cut 0 0) past) refl
