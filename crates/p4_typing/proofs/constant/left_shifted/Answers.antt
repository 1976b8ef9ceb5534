use Rattle.std.proofs.Common.{◌≡◌, ◌*◌, ◌^◌, ◌%◌, arith, ◌∙◌, true}
use Rattle.std.specs.Prelude.{nat_lt}
use Rattle.std.proofs.lemmas.Grind.{common_steps}
use Rattle.p4_typing.specs.Values.{some_bits}
use Rattle.p4_typing.proofs.Cuts.{cut_same}
use Rattle.p4_typing.proofs.constant.left_shifted.Goals as goal

pub returns-then-v-le128 : goal.returns-then-v-le128
returns-then-v-le128 c =
    let same = cut_same c.args.v (c.args.a * 2 ^ c.args.b) in
    let less : nat_lt c.args.b c.args.v ≡ true = grind (arith, common_steps) in
    let is : c.some_bits.result ≡ some_bits c.args.v (c.args.a * 2 ^ c.args.b % 2 ^ 128) = grind (arith, common_steps) in
    rw less (is ∙ same)
