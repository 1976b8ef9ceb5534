use Rattle.std.proofs.Common.{◌≡◌, ◌+◌, ◌*◌}
use Rattle.p4_lex.specs.declared.token.Sign.TheVariants as sign
use Rattle.p4_grammar.specs.Forms.{many_at}
use Rattle.p4_grammar.specs.Tokens.{but}
use Rattle.p4_grammar.specs.ReadingStatements.{stmt_at}
use Rattle.p4_program.specs.Blocks.{block_rest_at}
use Rattle.p4_part.proofs.Loops.{closed_with}
use Rattle.p4_program.proofs.block.+statements.Given as goal

abbrev pub decreases-stmt_of : goal.decreases-stmt_of
decreases-stmt_of l = 8 * l.fuel

abbrev pub decreases-block_rest_of : goal.decreases-block_rest_of
decreases-block_rest_of l = 8 * l.fuel + 1

abbrev pub decreases-block_in_of : goal.decreases-block_in_of
decreases-block_in_of l = 8 * l.fuel + 2

abbrev pub decreases-behind_else_of : goal.decreases-behind_else_of
decreases-behind_else_of l = 8 * l.fuel + 1

abbrev pub decreases-else_of : goal.decreases-else_of
decreases-else_of l = 8 * l.fuel + 2

abbrev pub decreases-if_of : goal.decreases-if_of
decreases-if_of l = 8 * l.fuel + 3

abbrev pub decreases-stmt_in_of : goal.decreases-stmt_in_of
decreases-stmt_in_of l = 8 * l.fuel + 7

abbrev pub invariant-block_rest_of-loop-left : goal.invariant-block_rest_of-loop-left
invariant-block_rest_of-loop-left l = closed_with l.at l.stmts (many_at l.left (but sign.CloseBrace) (stmt_at l.fuel l.env) l.rest) ≡ block_rest_at l.fn.fuel (stmt_at l.fn.fuel l.fn.env) l.fn.at l.fn.tokens

abbrev pub decreases-block_rest_of-loop-left : goal.decreases-block_rest_of-loop-left
decreases-block_rest_of-loop-left l = l.left
