use Rattle.std.proofs.Common.{◌≡◌, ℕ, ◌+◌, ◌*◌, ◌^◌, ◌%◌, arith, ◌∙◌}
use Rattle.std.proofs.lemmas.Grind.{common_steps}
use Rattle.p4_typing.specs.Values.{some_bits}
use Rattle.p4_typing.proofs.Cuts.{cut_sum}
use Rattle.p4_typing.proofs.constant.joined.Goals as goal

pub returns : goal.returns
returns c =
    let w : ℕ = c.args.v + c.args.w in
    let is : c.some_bits.result ≡ some_bits w ((c.args.a * 2 ^ c.args.w % 2 ^ 128 + c.args.b) % 2 ^ 128) = grind (arith, common_steps) in
    is ∙ cut_sum w (c.args.a * 2 ^ c.args.w) c.args.b
