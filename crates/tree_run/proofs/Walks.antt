-- The equations of runs.
use Rattle.std.proofs.Common.{◌≡◌, map}
use Rattle.p4_ast.specs.declared.statement.P4Block.{P4Block, out-P4Block}
use Rattle.p4_ast.specs.declared.statement.P4If.{P4If, out-P4If}
use Rattle.p4_ast.proofs.Folds.{fold_block, fold_if}
use Rattle.std.specs.Prelude.{option_map}
use Rattle.app_meaning.specs.Statements.{Meaning, in_turn, branch, test, stmt_step, block_step, if_step, run_stmt, run_block, run_if}
pub use Rattle.app_meaning.proofs.Equations.{runs}

pub block_is : (b : P4Block) → run_block b ≡ in_turn (map run_stmt (out-P4Block b).stmts)
block_is b = fold_block Meaning Meaning Meaning stmt_step block_step if_step b

pub if_is : (i : P4If) → run_if i ≡ (λ ctx run. branch (run_block (out-P4If i).then) (option_map run_block (out-P4If i).else_) ctx (test (out-P4If i).cond ctx run))
if_is i = fold_if Meaning Meaning Meaning stmt_step block_step if_step i
