use Rattle.std.proofs.Common.{◌≡◌, ◌∷◌, [], true, Ok, arith}
use Rattle.std.proofs.lemmas.Grind.{common_steps}
use Rattle.p4_grammar.specs.Forms.{taken_at, hand}
use Rattle.p4_grammar.specs.Tokens.{name, in_hand, words_at}
use Rattle.p4_lex.specs.declared.token.Sign.TheVariants as sign
use Rattle.p4_part.proofs.Loops.{many_more}
use Rattle.p4_part.proofs.name.names_of.Goals as goal

pub loop-left-preserved : goal.loop-left-preserved
loop-left-preserved c =
    let next : hand (in_hand sign.Dot) c.loop-left.rest.now ≡ true = grind (arith, common_steps) in
    let read : words_at (sign.Dot ∷ []) (taken_at name) c.loop-left.rest.now ≡ Ok (c.in_ok-name.name, c.in_ok-name.after.now) = c.in_ok-name.ensures in
    let whole = many_more (in_hand sign.Dot) (words_at (sign.Dot ∷ []) (taken_at name)) c.loop-left.names c.loop-left.left c.loop-left.rest.now c.in_ok-name.after.now c.in_ok-name.name _ c.loop-left-test.true next read c.loop-left.invariant in
    grind (arith, common_steps, whole)
