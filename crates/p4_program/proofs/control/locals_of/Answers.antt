use Rattle.std.proofs.Common.{◌≡◌, true, Ok, arith}
use Rattle.std.proofs.lemmas.Grind.{common_steps}
use Rattle.p4_lex.specs.declared.token.Sign.TheVariants as sign
use Rattle.p4_grammar.specs.Forms.{hand, many_at}
use Rattle.p4_grammar.specs.Tokens.{but}
use Rattle.p4_grammar.specs.Reading.{local_at}
use Rattle.p4_part.proofs.Loops.{many_more}
use Rattle.p4_program.proofs.control.locals_of.Goals as goal

pub loop-left-preserved : goal.loop-left-preserved
loop-left-preserved c =
    let next : hand (but sign.Apply) c.loop-left.rest.now ≡ true = grind (arith, common_steps) in
    let read : local_at c.args.fuel c.args.env.now c.loop-left.rest.now ≡ Ok (c.in_ok-local.local, c.in_ok-local.after.now) = c.in_ok-local.ensures in
    let whole = many_more (but sign.Apply) (local_at c.args.fuel c.args.env.now) c.loop-left.locals c.loop-left.left c.loop-left.rest.now c.in_ok-local.after.now c.in_ok-local.local (many_at c.args.fuel (but sign.Apply) (local_at c.args.fuel c.args.env.now) c.args.tokens.now) c.loop-left-test.true next read c.loop-left.invariant in
    grind (arith, common_steps, whole)
