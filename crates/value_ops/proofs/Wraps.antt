-- What wraps at 128 bits is cut to fewer in the same way.
use Rattle.std.proofs.Common.{◌≡◌, ℕ, ◌+◌, ◌-◌, ◌*◌, ◌/◌, ◌%◌, ◌^◌, ◌<◌, ◌≤◌, sym, ap, ◌∙◌, subst, arith}
use Rattle.std.proofs.Math.Nat.{mod-add-mod, mod-eq_of_lt, add_comm, mod-add-div', mul-mod_left, mul_assoc}
use Rattle.std.proofs.Math.Pow.{mod-mod-pow}
use Rattle.std.proofs.lemmas.Nat.{pow-add, pow_below}
use Rattle.app_data.specs.declared.value.Value.{Value}
use Rattle.app_meaning.specs.Values.{cut, width_of, with_slice}

pub mod_wraps : (w n : ℕ) → n % 2 ^ 128 % 2 ^ width_of w ≡ n % 2 ^ width_of w
mod_wraps w n =
    let sum : (128 - width_of w) + width_of w ≡ 128 = omega arith in
    subst (λ (k : ℕ). n % 2 ^ k % 2 ^ width_of w ≡ n % 2 ^ width_of w) sum (mod-mod-pow n (128 - width_of w) (width_of w))

pub cut_wraps : (w n : ℕ) → cut w (n % 2 ^ 128) ≡ cut w n
cut_wraps w n = ap (λ (x : ℕ). record { width = w; number = x }) (mod_wraps w n)

add_mod : (x y m : ℕ) → (x + y % m) % m ≡ (x + y) % m
add_mod x y m = ap (λ (n : ℕ). n % m) (add_comm x (y % m)) ∙ mod-add-mod y m x ∙ ap (λ (n : ℕ). n % m) (add_comm y x)

-- a sum whose first part wraps
pub cut_front : (w x y : ℕ) → cut w ((x % 2 ^ 128 + y) % 2 ^ 128) ≡ cut w (x + y)
cut_front w x y = ap (cut w) (mod-add-mod x (2 ^ 128) y) ∙ cut_wraps w (x + y)

-- a sum of three whose middle part wraps
pub cut_three : (w x y z : ℕ) → cut w (((x + y % 2 ^ 128) % 2 ^ 128 + z) % 2 ^ 128) ≡ cut w (x + y + z)
cut_three w x y z = ap (λ (n : ℕ). cut w ((n + z) % 2 ^ 128)) (add_mod x y (2 ^ 128)) ∙ cut_front w (x + y) z

-- a shift by 128 or more leaves nothing
pub shifted_out : (n by : ℕ) → 128 ≤ by → n * 2 ^ by % 2 ^ 128 ≡ 0
shifted_out n by le =
    let sum : (by - 128) + 128 ≡ by = omega (arith, le) in
    let parts : n * 2 ^ by ≡ n * 2 ^ (by - 128) * 2 ^ 128 =
    ap (λ (k : ℕ). n * 2 ^ k) (sym sum) ∙ ap (λ (x : ℕ). n * x) (pow-add 2 (by - 128) 128) ∙ sym (mul_assoc n (2 ^ (by - 128)) (2 ^ 128)) in
    ap (λ (x : ℕ). x % 2 ^ 128) parts ∙ mul-mod_left (n * 2 ^ (by - 128)) (2 ^ 128)

-- the bits from a place on
pub above_is : (n k : ℕ) → n - n % 2 ^ k ≡ n / 2 ^ k * 2 ^ k
above_is n k = omega (arith, mod-add-div' n (2 ^ k))

one_shifted : (low : ℕ) → low < 128 → 1 * 2 ^ low % 2 ^ 128 ≡ 2 ^ low
one_shifted low l = let below : 2 ^ low < 2 ^ 128 = pow_below low 128 l in omega (arith, mod-eq_of_lt below)

slice_of : (old : Value) (high low n : ℕ) → high < 128 → low < 128
    → cut old.width ((((old.number - old.number % 2 ^ width_of (high + 1)) + n % 2 ^ width_of (high + 1 - low) * 2 ^ low % 2 ^ 128) % 2 ^ 128 + old.number % 2 ^ low) % 2 ^ 128) ≡ with_slice old high low n
slice_of old high low n h l =
    let top : width_of (high + 1) ≡ high + 1 = omega (arith, h) in
    let size : width_of (high + 1 - low) ≡ high + 1 - low = omega (arith, h) in
    rw (top, size) (
    cut_three old.width (old.number - old.number % 2 ^ (high + 1)) (n % 2 ^ (high + 1 - low) * 2 ^ low) (old.number % 2 ^ low)
    ∙ ap (λ (x : ℕ). cut old.width (x + n % 2 ^ (high + 1 - low) * 2 ^ low + old.number % 2 ^ low)) (above_is old.number (high + 1))
    )

pub slice_is : (old : Value) (high low n size : ℕ) (top field : Value) → high < 128 → low < 128 → size ≡ high + 1 - low → top ≡ cut (high + 1) old.number → field ≡ cut size n
    → cut old.width ((((old.number - top.number) + field.number * 2 ^ low % 2 ^ 128) % 2 ^ 128 + old.number % (1 * 2 ^ low % 2 ^ 128)) % 2 ^ 128) ≡ with_slice old high low n
slice_is old high low n size top field h l s t f = rw (t, f, s, one_shifted low l) (slice_of old high low n h l)
