use Rattle.std.proofs.Common.{◌-◌, ◌^◌, arith}
use Rattle.std.proofs.lemmas.Grind.{common_steps}
use Rattle.p4_typing.proofs.Cuts.{cut_same}
use Rattle.p4_typing.proofs.constant.unary_value.Goals as goal

pub returns-in-Negate-Some-Bits : goal.returns-in-Negate-Some-Bits
returns-in-Negate-Some-Bits c =
    let same = cut_same c.in-Negate-Some-Bits.width (2 ^ 128 - c.in-Negate-Some-Bits.number) in
    grind (arith, common_steps)
