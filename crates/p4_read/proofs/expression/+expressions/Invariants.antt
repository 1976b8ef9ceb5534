use Rattle.std.proofs.Common.{◌≡◌, ◌+◌, ◌*◌}
use Rattle.p4_grammar.specs.Forms.{chain_at}
use Rattle.p4_grammar.specs.Values.{this, binary, sum_op}
use Rattle.p4_grammar.specs.ReadingExpressions.{unary_at, compare_at, and_at}
use Rattle.p4_ast.specs.declared.expression.P4BinaryOp.TheVariants as binary_op
use Rattle.p4_read.proofs.expression.+expressions.Given as goal

abbrev pub decreases-unary_of : goal.decreases-unary_of
decreases-unary_of l = 17 * l.fuel + 0

abbrev pub decreases-sum_rest_of : goal.decreases-sum_rest_of
decreases-sum_rest_of l = 17 * l.fuel + 1

abbrev pub decreases-sum_of : goal.decreases-sum_of
decreases-sum_of l = 17 * l.fuel + 2

abbrev pub decreases-more_of : goal.decreases-more_of
decreases-more_of l = 17 * l.fuel + 1

abbrev pub decreases-same_op_of : goal.decreases-same_op_of
decreases-same_op_of l = 17 * l.fuel + 2

abbrev pub decreases-compared_of : goal.decreases-compared_of
decreases-compared_of l = 17 * l.fuel + 3

abbrev pub decreases-compare_rest_of : goal.decreases-compare_rest_of
decreases-compare_rest_of l = 17 * l.fuel + 4

abbrev pub decreases-compare_of : goal.decreases-compare_of
decreases-compare_of l = 17 * l.fuel + 5

abbrev pub decreases-ands_of : goal.decreases-ands_of
decreases-ands_of l = 17 * l.fuel + 6

abbrev pub decreases-and_rest_of : goal.decreases-and_rest_of
decreases-and_rest_of l = 17 * l.fuel + 7

abbrev pub decreases-and_of : goal.decreases-and_of
decreases-and_of l = 17 * l.fuel + 8

abbrev pub decreases-ors_of : goal.decreases-ors_of
decreases-ors_of l = 17 * l.fuel + 9

abbrev pub decreases-or_rest_of : goal.decreases-or_rest_of
decreases-or_rest_of l = 17 * l.fuel + 10

abbrev pub decreases-expr_rest_of : goal.decreases-expr_rest_of
decreases-expr_rest_of l = 17 * l.fuel + 11

abbrev pub decreases-expr_of : goal.decreases-expr_of
decreases-expr_of l = 17 * l.fuel + 12

abbrev pub decreases-second_of : goal.decreases-second_of
decreases-second_of l = 17 * l.fuel + 13

abbrev pub decreases-choice_of : goal.decreases-choice_of
decreases-choice_of l = 17 * l.fuel + 14

abbrev pub decreases-parens_of : goal.decreases-parens_of
decreases-parens_of l = 17 * l.fuel + 13

abbrev pub decreases-cast_of : goal.decreases-cast_of
decreases-cast_of l = 17 * l.fuel + 13

abbrev pub decreases-closed_of : goal.decreases-closed_of
decreases-closed_of l = 17 * l.fuel + 14

abbrev pub decreases-open_of : goal.decreases-open_of
decreases-open_of l = 17 * l.fuel + 15

abbrev pub decreases-operand_of : goal.decreases-operand_of
decreases-operand_of l = 17 * l.fuel + 16

abbrev pub invariant-sum_rest_of-loop-left : goal.invariant-sum_rest_of-loop-left
invariant-sum_rest_of-loop-left l = chain_at l.left sum_op binary (unary_at l.fuel l.env) l.value l.rest ≡ chain_at l.fn.fuel sum_op binary (unary_at l.fn.fuel l.fn.env) l.fn.first l.fn.tokens

abbrev pub decreases-sum_rest_of-loop-left : goal.decreases-sum_rest_of-loop-left
decreases-sum_rest_of-loop-left l = l.left

abbrev pub invariant-more_of-loop-left : goal.invariant-more_of-loop-left
invariant-more_of-loop-left l = chain_at l.left (λ z. this l.op) binary (unary_at l.fuel l.env) l.value l.rest ≡ chain_at l.fn.fuel (λ z. this l.fn.op) binary (unary_at l.fn.fuel l.fn.env) l.fn.first l.fn.tokens

abbrev pub decreases-more_of-loop-left : goal.decreases-more_of-loop-left
decreases-more_of-loop-left l = l.left

abbrev pub invariant-ands_of-loop-left : goal.invariant-ands_of-loop-left
invariant-ands_of-loop-left l = chain_at l.left (λ z. this binary_op.And) binary (compare_at l.fuel (unary_at l.fuel l.env)) l.value l.rest ≡ chain_at l.fn.fuel (λ z. this binary_op.And) binary (compare_at l.fn.fuel (unary_at l.fn.fuel l.fn.env)) l.fn.first l.fn.tokens

abbrev pub decreases-ands_of-loop-left : goal.decreases-ands_of-loop-left
decreases-ands_of-loop-left l = l.left

abbrev pub invariant-ors_of-loop-left : goal.invariant-ors_of-loop-left
invariant-ors_of-loop-left l = chain_at l.left (λ z. this binary_op.Or) binary (and_at l.fuel (unary_at l.fuel l.env)) l.value l.rest ≡ chain_at l.fn.fuel (λ z. this binary_op.Or) binary (and_at l.fn.fuel (unary_at l.fn.fuel l.fn.env)) l.fn.first l.fn.tokens

abbrev pub decreases-ors_of-loop-left : goal.decreases-ors_of-loop-left
decreases-ors_of-loop-left l = l.left
