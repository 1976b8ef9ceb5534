use Rattle.std.proofs.Common.{◌≡◌, true, false, Ok, arith}
use Rattle.std.proofs.lemmas.Grind.{common_steps}
use Rattle.p4_lex.specs.declared.token.Sign.TheVariants as sign
use Rattle.std.proofs.lemmas.Result.{err_from_is_err_and}
use Rattle.p4_grammar.specs.Forms.{hand}
use Rattle.p4_grammar.specs.Tokens.{but}
use Rattle.p4_grammar.specs.ReadingStatements.{stmt_at}
use Rattle.p4_part.proofs.Loops.{kept_more}
use Rattle.p4_program.proofs.Kept.{kept_none, kept_closed, kept_unclosed, kept_stops}
use Rattle.p4_program.proofs.block.+statements.Goals as goal

pub block_rest_of-loop-left-init : goal.block_rest_of-loop-left-init
block_rest_of-loop-left-init t c = kept_none (stmt_at c.args.fuel c.args.env.now) c.args.at c.new-stmts.result c.args.fuel c.args.tokens.now c.new-stmts.ensures

pub block_rest_of-returns-in_err-after : goal.block_rest_of-returns-in_err-after
block_rest_of-returns-in_err-after t c =
    let last : hand (but sign.CloseBrace) c.loop-left.rest.now ≡ false = grind (arith, common_steps) in
    let p = err_from_is_err_and c.from_residual.result c.from_residual.ensures.1 in
    rw (p.1, p.2) (kept_unclosed (but sign.CloseBrace) (stmt_at c.args.fuel c.args.env.now) c.args.at c.loop-left.stmts c.loop-left.left c.loop-left.rest.now _ _ c.loop-left-test.true last c.in_err-after.ensures c.loop-left.invariant)

pub block_rest_of-returns-then-not-is_other_next : goal.block_rest_of-returns-then-not-is_other_next
block_rest_of-returns-then-not-is_other_next t c =
    let last : hand (but sign.CloseBrace) c.loop-left.rest.now ≡ false = grind (arith, common_steps) in
    kept_closed (but sign.CloseBrace) (stmt_at c.args.fuel c.args.env.now) c.args.at c.loop-left.stmts c.loop-left.left c.loop-left.rest.now c.in_ok-after.after.now _ _ c.loop-left-test.true last c.in_ok-after.ensures c.loop-left.invariant

pub block_rest_of-returns-in_err-piece : goal.block_rest_of-returns-in_err-piece
block_rest_of-returns-in_err-piece t c =
    let next : hand (but sign.CloseBrace) c.loop-left.rest.now ≡ true = grind (arith, common_steps) in
    let p = err_from_is_err_and c.from_residual-in_err-piece.result c.from_residual-in_err-piece.ensures.1 in
    rw (p.1, p.2) (kept_stops (but sign.CloseBrace) (stmt_at c.args.fuel c.args.env.now) c.args.at c.loop-left.stmts c.loop-left.left c.loop-left.rest.now _ _ c.loop-left-test.true next c.in_err-piece.ensures c.loop-left.invariant)

pub block_rest_of-loop-left-preserved : goal.block_rest_of-loop-left-preserved
block_rest_of-loop-left-preserved t c =
    let next : hand (but sign.CloseBrace) c.loop-left.rest.now ≡ true = grind (arith, common_steps) in
    let read : stmt_at c.args.fuel c.args.env.now c.loop-left.rest.now ≡ Ok (c.in_ok-piece.piece, c.in_ok-piece.after.now) = c.in_ok-piece.ensures in
    let whole = kept_more (but sign.CloseBrace) (stmt_at c.args.fuel c.args.env.now) c.args.at c.loop-left.stmts c.loop-left.left c.loop-left.rest.now c.in_ok-piece.after.now c.in_ok-piece.piece _ c.loop-left-test.true next read c.loop-left.invariant in
    grind (arith, common_steps, whole)
