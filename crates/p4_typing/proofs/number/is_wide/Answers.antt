use Rattle.std.proofs.Common.{◌<◌, ◌≤◌, ◌^◌, arith}
use Rattle.std.proofs.lemmas.Grind.{common_steps}
use Rattle.std.proofs.Math.Nat.{pow-le-pow_right}
use Rattle.p4_typing.proofs.number.is_wide.Goals as goal

pub returns-else-w-lt128 : goal.returns-else-w-lt128
returns-else-w-lt128 c =
    let wide : 128 ≤ c.args.w = grind (arith, common_steps) in
    let more : 2 ^ 128 ≤ 2 ^ c.args.w = pow-le-pow_right (omega arith) wide in
    let small : c.args.n < 2 ^ 128 = omega (arith, c.ranges.n.fits) in
    grind (arith, common_steps)
