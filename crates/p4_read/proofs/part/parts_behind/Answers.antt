use Rattle.std.proofs.Common.{◌≡◌, ◌∷◌, [], true, Ok, arith}
use Rattle.std.proofs.lemmas.Grind.{common_steps}
use Rattle.p4_lex.specs.declared.token.Sign.TheVariants as sign
use Rattle.p4_grammar.specs.Forms.{hand, many_at}
use Rattle.p4_grammar.specs.Tokens.{in_hand, words_at}
use Rattle.p4_part.proofs.Loops.{many_more}
use Rattle.p4_read.proofs.part.parts_behind.Goals as goal

pub loop-left-preserved : goal.loop-left-preserved
loop-left-preserved g c =
    let next : hand (in_hand sign.Comma) c.loop-left.rest.now ≡ true = grind (arith, common_steps) in
    let read : words_at (sign.Comma ∷ []) (g.T.Part.reader c.args.fuel c.args.env.now) c.loop-left.rest.now ≡ Ok (c.in_ok-part.part, c.in_ok-part.after.now) = c.in_ok-part.ensures in
    let whole = many_more (in_hand sign.Comma) (words_at (sign.Comma ∷ []) (g.T.Part.reader c.args.fuel c.args.env.now)) c.loop-left.parts c.loop-left.left c.loop-left.rest.now c.in_ok-part.after.now c.in_ok-part.part (many_at c.args.fuel (in_hand sign.Comma) (words_at (sign.Comma ∷ []) (g.T.Part.reader c.args.fuel c.args.env.now)) c.args.tokens.now) c.loop-left-test.true next read c.loop-left.invariant in
    grind (arith, common_steps, whole)
