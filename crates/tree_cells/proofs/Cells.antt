-- Lists past their ends, and numbers of 64 bits.
use Rattle.std.proofs.Common.{◌≡◌, ℕ, zero, suc, ◌+◌, ◌-◌, ◌/◌, ◌<◌, ◌≤◌, ◌%◌, ◌^◌, List, ◌∷◌, length, set, drop, refl, sym, ap, ◌∙◌, arith, ◌⊎◌, ◌↔◌, inl, inr, Option, Some, None, IsNone, IfSome, min, max}
use Rattle.std.specs.Int.{byte_at, bytes_high_first, to_be_bytes, w128}
use Rattle.app_meaning.specs.Statements.{big_endian, key_bytes}
use Rattle.std.proofs.lemmas.List.{set_past}
use Rattle.app_data.specs.declared.value.Value.{Value}
use Rattle.std.proofs.Math.Nat.{mod-eq_of_lt}
use Rattle.std.proofs.Math.Pow.{pow_mono}

pub set_beyond : (cells : List ℕ) (i n : ℕ) → length cells ≤ i → set cells i n ≡ cells
set_beyond = set_past

pub low_is : (n width : ℕ) → n < 2 ^ 64 → 64 ≤ width → n ≡ n % 2 ^ width
low_is n width fits wide = let up : 2 ^ 64 ≤ 2 ^ width = pow_mono {i = 64} {j = width} wide in sym (mod-eq_of_lt (omega (arith, fits, up)))

-- ---- keys

byte_is : (k n : ℕ) → byte_at k n ≡ n / 256 ^ k % 256
byte_is zero n = let one : n / 1 ≡ n = omega arith in ap (λ (x : ℕ). x % 256) (sym one)
byte_is (suc k) n = refl

bytes_are : (k n : ℕ) → bytes_high_first k n ≡ big_endian k n
bytes_are zero n = refl
bytes_are (suc k) n = λ i. byte_is k n i ∷ bytes_are k n i

last_bytes : (j k n : ℕ) → drop j (bytes_high_first (j + k) n) ≡ bytes_high_first k n
last_bytes zero k n = let e : zero + k ≡ k = omega arith in ap (λ (m : ℕ). bytes_high_first m n) e
last_bytes (suc j) k n = let e : suc j + k ≡ suc (j + k) = omega arith in rw (e) (last_bytes j k n)

pub key_is : (k n : ℕ) → k ≤ 16 → drop (16 - k) (bytes_high_first 16 n) ≡ big_endian k n
key_is k n few =
    let e : (16 - k) + k ≡ 16 = omega (arith, few) in
    ap (λ (m : ℕ). drop (16 - k) (bytes_high_first m n)) (sym e) ∙ last_bytes (16 - k) k n ∙ bytes_are k n

pub length-big_endian : (k n : ℕ) → length (big_endian k n) ≡ k
length-big_endian zero n = refl
length-big_endian (suc k) n = ap (λ (m : ℕ). suc m) (length-big_endian k n)

-- what a key is made of has 1 to 16 bytes, so there is one
pub key_found : (v : Value) (len : ℕ) (bytes last : List ℕ) (r : Option (List ℕ)) → len ≡ min (max ((v.width + 7) / 8) 1) 16 → bytes ≡ to_be_bytes w128 v.number → last ≡ drop (16 - len) bytes
    → (IsNone r ↔ ((length last ≡ 0) ⊎ (16 < length last))) → IfSome r (λ key. key ≡ last) → r ≡ Some (key_bytes v)
key_found v len bytes last r l b d none value = made r none value where
  size : len ≡ min 16 (max 1 ((v.width + 7) / 8))
  size = omega (arith, l)

  is : last ≡ big_endian len v.number
  is = d ∙ ap (drop (16 - len)) b ∙ key_is len v.number (omega (arith, l))

  long : length last ≡ len
  long = ap (λ (xs : List ℕ). length xs) is ∙ length-big_endian len v.number

  made : (r : Option (List ℕ)) → (IsNone r ↔ ((length last ≡ 0) ⊎ (16 < length last))) → IfSome r (λ key. key ≡ last) → r ≡ Some (key_bytes v)
  made None n e = elim (n.0 refl) as (λ _. None ≡ Some (key_bytes v)) [
    | inl h ↦ absurd (omega (arith, h, long, l))
    | inr h ↦ absurd (omega (arith, h, long, l))
  ]
  made (Some k) n e = ap (λ (xs : List ℕ). Some xs) (e ∙ is ∙ ap (λ (m : ℕ). big_endian m v.number) size)
