-- A number that is cut to 128 bits and then to fewer.
use Rattle.std.proofs.Common.{◌≡◌, ℕ, ◌+◌, ◌-◌, ◌^◌, ◌%◌, ◌≤◌, Bool, true, false, Some, None, refl, ap, ◌∙◌, arith, subst}
use Rattle.std.proofs.lemmas.Grind.{common_steps}
use Rattle.std.specs.Prelude.{if◌then◌else◌}
use Rattle.std.proofs.Math.Pow.{mod-mod-pow}
use Rattle.std.proofs.Math.Nat.{mod-add-mod}
use Rattle.p4_scope.specs.declared.kind.Value.TheVariants as value
use Rattle.p4_scope.specs.Types.{is_width}
use Rattle.p4_typing.specs.Values.{some_bits}

cut_mod : (w x : ℕ) → w ≤ 128 → x % 2 ^ 128 % 2 ^ w ≡ x % 2 ^ w
cut_mod w x h =
    let e : (128 - w) + w ≡ 128 = omega (arith, h) in
    subst (λ (n : ℕ). x % 2 ^ n % 2 ^ w ≡ x % 2 ^ w) e (mod-mod-pow x (128 - w) w)

pub cut_same : (w x : ℕ) → some_bits w (x % 2 ^ 128) ≡ some_bits w x
cut_same w x = by (is_width w) refl
  where
    by : (b : Bool) → is_width w ≡ b → (if b then Some (value.Bits (x % 2 ^ 128 % 2 ^ w) w) else None) ≡ (if b then Some (value.Bits (x % 2 ^ w) w) else None)
    by false h = refl
    by true h = ap (λ (n : ℕ). Some (value.Bits n w)) (cut_mod w x (grind (arith, common_steps)))

pub cut_sum : (w x b : ℕ) → some_bits w ((x % 2 ^ 128 + b) % 2 ^ 128) ≡ some_bits w (x + b)
cut_sum w x b = ap (some_bits w) (mod-add-mod x (2 ^ 128) b) ∙ cut_same w (x + b)
