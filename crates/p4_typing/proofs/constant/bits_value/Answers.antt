use Rattle.std.proofs.Common.{◌+◌, ◌-◌, ◌^◌, arith}
use Rattle.std.proofs.lemmas.Grind.{common_steps}
use Rattle.p4_typing.proofs.Cuts.{cut_same}
use Rattle.p4_typing.proofs.constant.bits_value.Goals as goal

pub returns-in-Plus : goal.returns-in-Plus
returns-in-Plus c =
    let same = cut_same c.args.w (c.args.a + c.args.b) in
    grind (arith, common_steps)

pub returns-in-Minus : goal.returns-in-Minus
returns-in-Minus c =
    let same = cut_same c.args.w (c.args.a + (2 ^ 128 - c.args.b)) in
    grind (arith, common_steps)
