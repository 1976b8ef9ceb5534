use Rattle.std.proofs.Common.{◌≡◌, ◌∷◌, [], true, Ok, arith}
use Rattle.std.proofs.lemmas.Grind.{common_steps}
use Rattle.p4_grammar.specs.Forms.{hand}
use Rattle.p4_grammar.specs.Tokens.{in_hand, words_at}
use Rattle.p4_lex.specs.declared.token.Sign.TheVariants as sign
use Rattle.p4_grammar.specs.Reading.{typed_at}
use Rattle.p4_part.proofs.Loops.{many_more}
use Rattle.p4_program.proofs.control.typed_rest_of.Goals as goal

pub loop-left-preserved : goal.loop-left-preserved
loop-left-preserved c =
    let next : hand (in_hand sign.Comma) c.loop-left.rest.now ≡ true = grind (arith, common_steps) in
    let read : words_at (sign.Comma ∷ []) typed_at c.loop-left.rest.now ≡ Ok (c.in_ok-param.param, c.in_ok-param.after.now) = c.in_ok-param.ensures in
    let whole = many_more (in_hand sign.Comma) (words_at (sign.Comma ∷ []) typed_at) c.loop-left.params c.loop-left.left c.loop-left.rest.now c.in_ok-param.after.now c.in_ok-param.param _ c.loop-left-test.true next read c.loop-left.invariant in
    grind (arith, common_steps, whole)
