use Rattle.std.proofs.Common.{◌≡◌, take}
use Rattle.std.specs.Prelude.{codes}
use Rattle.std.proofs.lemmas.List.{take_all}
use Rattle.p4_ast.specs.declared.statement.P4Block.{out-P4Block}
use Rattle.p4_print.specs.Text.{text}
use Rattle.p4_print.specs.Statements.{stmt_tokens, block_tokens, if_tokens}
use Rattle.p4_print.proofs.Steps.{last, grown, texts}
use Rattle.p4_print.proofs.Trees.{block-is, if-is}
use Rattle.p4_print.proofs.statement.+statements.Goals as goal

pub write_block-returns : goal.write_block-returns
write_block-returns t c =
    let xs = c.as_slice-s-items.result.now in
    let same : xs ≡ (out-P4Block c.args.b.now).stmts = c.as_slice-s-items.ensures in
    let whole : take c.loop-s.s-index xs ≡ xs = take_all _ _ c.loop-s-test.false in
    last c.append-2.result c.args.out.now c.loop-s.out (codes "}\n") (text (block_tokens c.args.b.now)) _ c.append-2.ensures.ok
    (rw (c.loop-s.invariant, whole, same, block-is c.args.b.now) (simp texts))

pub write_block-loop-s-preserved : goal.write_block-loop-s-preserved
write_block-loop-s-preserved t c = grown stmt_tokens c.as_slice-s-items.result.now c.loop-s.s-index c.s-item.result _ _ _ c.loop-s-test.true c.s-item.is c.loop-s.invariant c.in_ok-write_stmt.ensures

pub write_if-returns-in-None : goal.write_if-returns-in-None
write_if-returns-in-None t c =
    rw (c.in_ok-write_block.ensures, c.in_ok-append-2.ensures.ok, c.in_ok-write.ensures, c.in_ok-append.ensures.ok, if-is c.args.i.now, c.in-None.is) (simp texts)

pub write_if-returns-in_ok-append-in-Some : goal.write_if-returns-in_ok-append-in-Some
write_if-returns-in_ok-append-in-Some t c =
    last c.write_block-in-Some.result c.args.out.now c.append-in-Some.new.self (text (block_tokens c.in-Some.b)) (text (if_tokens c.args.i.now)) _ c.write_block-in-Some.ensures
    (rw (c.in_ok-append-in-Some.ensures.ok, c.in_ok-write_block.ensures, c.in_ok-append-2.ensures.ok, c.in_ok-write.ensures, c.in_ok-append.ensures.ok, if-is c.args.i.now, c.in-Some.is) (simp texts))
