use Rattle.std.proofs.Common.{◌≡◌, ◌-◌, ◌∙◌, ap, sym, true, Ok, arith}
use Rattle.std.proofs.lemmas.Grind.{common_steps}
use Rattle.p4_ast.specs.declared.expression.P4BinaryOp.TheVariants as binary_op
use Rattle.p4_grammar.specs.declared.mark.Spelled.{Spelled}
use Rattle.p4_grammar.specs.Forms.{hand, taken_at, is_given, chain_at}
use Rattle.p4_grammar.specs.Values.{this, sum_op, binary}
use Rattle.p4_grammar.specs.ReadingExpressions.{unary_at, compare_at, and_at}
use Rattle.p4_part.proofs.Loops.{chain_more}
use Rattle.p4_read.proofs.expression.+expressions.Goals as goal

pub ands_of-loop-left-preserved : goal.ands_of-loop-left-preserved
ands_of-loop-left-preserved t c =
    let next : hand (λ a. is_given (this binary_op.And a)) c.loop-left.rest.now ≡ true = grind (arith, common_steps) in
    let op : taken_at (this binary_op.And) c.loop-left.rest.now ≡ Ok (c.in_ok-op.op, c.in_ok-op.after.now) = c.in_ok-op.ensures in
    let right : compare_at c.args.fuel (unary_at c.args.fuel c.args.env.now) c.in_ok-op.after.now ≡ Ok (c.in_ok-right.right, c.in_ok-right.after.now) = c.in_ok-right.ensures in
    let made : c.in_ok-value.value ≡ binary c.in_ok-op.op c.loop-left.value c.in_ok-right.right = sym c.in_ok-value.ensures in
    let whole = chain_more (λ z. this binary_op.And) binary (compare_at c.args.fuel (unary_at c.args.fuel c.args.env.now)) c.loop-left.left c.loop-left.value c.in_ok-right.right c.in_ok-op.op c.loop-left.rest.now c.in_ok-op.after.now c.in_ok-right.after.now _ c.loop-left-test.true next op right c.loop-left.invariant in
    ap (λ (v : Spelled). chain_at (c.loop-left.left - 1) (λ z. this binary_op.And) binary (compare_at c.args.fuel (unary_at c.args.fuel c.args.env.now)) v c.in_ok-right.after.now) made ∙ whole

pub more_of-loop-left-preserved : goal.more_of-loop-left-preserved
more_of-loop-left-preserved t c =
    let next : hand (λ a. is_given (this c.args.op a)) c.loop-left.rest.now ≡ true = grind (arith, common_steps) in
    let op : taken_at (this c.args.op) c.loop-left.rest.now ≡ Ok (c.in_ok-op.op, c.in_ok-op.after.now) = c.in_ok-op.ensures in
    let right : unary_at c.args.fuel c.args.env.now c.in_ok-op.after.now ≡ Ok (c.in_ok-right.right, c.in_ok-right.after.now) = c.in_ok-right.ensures in
    let made : c.in_ok-value.value ≡ binary c.in_ok-op.op c.loop-left.value c.in_ok-right.right = sym c.in_ok-value.ensures in
    let whole = chain_more (λ z. this c.args.op) binary (unary_at c.args.fuel c.args.env.now) c.loop-left.left c.loop-left.value c.in_ok-right.right c.in_ok-op.op c.loop-left.rest.now c.in_ok-op.after.now c.in_ok-right.after.now _ c.loop-left-test.true next op right c.loop-left.invariant in
    ap (λ (v : Spelled). chain_at (c.loop-left.left - 1) (λ z. this c.args.op) binary (unary_at c.args.fuel c.args.env.now) v c.in_ok-right.after.now) made ∙ whole

pub ors_of-loop-left-preserved : goal.ors_of-loop-left-preserved
ors_of-loop-left-preserved t c =
    let next : hand (λ a. is_given (this binary_op.Or a)) c.loop-left.rest.now ≡ true = grind (arith, common_steps) in
    let op : taken_at (this binary_op.Or) c.loop-left.rest.now ≡ Ok (c.in_ok-op.op, c.in_ok-op.after.now) = c.in_ok-op.ensures in
    let right : and_at c.args.fuel (unary_at c.args.fuel c.args.env.now) c.in_ok-op.after.now ≡ Ok (c.in_ok-right.right, c.in_ok-right.after.now) = c.in_ok-right.ensures in
    let made : c.in_ok-value.value ≡ binary c.in_ok-op.op c.loop-left.value c.in_ok-right.right = sym c.in_ok-value.ensures in
    let whole = chain_more (λ z. this binary_op.Or) binary (and_at c.args.fuel (unary_at c.args.fuel c.args.env.now)) c.loop-left.left c.loop-left.value c.in_ok-right.right c.in_ok-op.op c.loop-left.rest.now c.in_ok-op.after.now c.in_ok-right.after.now _ c.loop-left-test.true next op right c.loop-left.invariant in
    ap (λ (v : Spelled). chain_at (c.loop-left.left - 1) (λ z. this binary_op.Or) binary (and_at c.args.fuel (unary_at c.args.fuel c.args.env.now)) v c.in_ok-right.after.now) made ∙ whole

pub sum_rest_of-loop-left-preserved : goal.sum_rest_of-loop-left-preserved
sum_rest_of-loop-left-preserved t c =
    let next : hand (λ a. is_given (sum_op c.loop-left.value a)) c.loop-left.rest.now ≡ true = grind (arith, common_steps) in
    let op : taken_at (sum_op c.loop-left.value) c.loop-left.rest.now ≡ Ok (c.in_ok-op.op, c.in_ok-op.after.now) = c.in_ok-op.ensures in
    let right : unary_at c.args.fuel c.args.env.now c.in_ok-op.after.now ≡ Ok (c.in_ok-right.right, c.in_ok-right.after.now) = c.in_ok-right.ensures in
    let made : c.in_ok-value.value ≡ binary c.in_ok-op.op c.loop-left.value c.in_ok-right.right = sym c.in_ok-value.ensures in
    let whole = chain_more sum_op binary (unary_at c.args.fuel c.args.env.now) c.loop-left.left c.loop-left.value c.in_ok-right.right c.in_ok-op.op c.loop-left.rest.now c.in_ok-op.after.now c.in_ok-right.after.now _ c.loop-left-test.true next op right c.loop-left.invariant in
    ap (λ (v : Spelled). chain_at (c.loop-left.left - 1) sum_op binary (unary_at c.args.fuel c.args.env.now) v c.in_ok-right.after.now) made ∙ whole
