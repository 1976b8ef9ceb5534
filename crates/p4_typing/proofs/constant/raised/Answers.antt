use Rattle.std.proofs.Common.{◌≡◌, ℕ, ◌*◌, ◌^◌, ◌%◌, arith, sym, ap, ◌∙◌}
use Rattle.std.proofs.Math.Nat.{mul-mod_left}
use Rattle.p4_typing.proofs.constant.raised.Goals as goal

pub returns-else-w-lt128 : goal.returns-else-w-lt128
returns-else-w-lt128 c =
    let w : c.args.w ≡ 128 = omega (arith, c.requires) in
    sym (ap (λ (n : ℕ). (c.args.a * 2 ^ n) % 2 ^ 128) w ∙ mul-mod_left c.args.a (2 ^ 128))
