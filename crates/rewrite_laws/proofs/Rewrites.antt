-- What a statement becomes, one equation for each variant.
use Rattle.std.proofs.Common.{◌≡◌, ℕ, List, map, Option, Some, None, option_map}
use Rattle.p4_ast.specs.declared.control.P4Var.{P4Var}
use Rattle.p4_ast.specs.declared.statement.P4Assign.{P4Assign}
use Rattle.p4_ast.specs.declared.statement.P4Read.{P4Read}
use Rattle.p4_ast.specs.declared.statement.P4Write.{P4Write}
use Rattle.p4_ast.specs.declared.statement.P4Keystmt.{P4Keystmt}
use Rattle.p4_ast.specs.declared.statement.P4Valid.{P4Valid}
use Rattle.p4_ast.specs.declared.statement.P4Apply.{P4Apply}
use Rattle.p4_ast.specs.declared.statement.P4Callstmt.{P4Callstmt}
use Rattle.p4_ast.specs.declared.statement.P4Cond.{P4Cond}
use Rattle.p4_ast.specs.declared.statement.P4Stmt.{P4Stmt}
use Rattle.p4_ast.specs.declared.statement.P4Stmt.TheVariants as stmt
use Rattle.p4_ast.specs.declared.statement.P4Stmt.TheOpen as layer
use Rattle.p4_ast.specs.declared.statement.P4Stmt.TheOpen.{P4Stmt-F, P4Block-F, P4If-F}
use Rattle.p4_ast.specs.declared.statement.P4Block.{P4Block, roll-P4Block, fold-roll-P4Block}
use Rattle.p4_ast.specs.declared.statement.P4If.{P4If, roll-P4If, fold-roll-P4If}
use Rattle.p4_ast.proofs.Folds.{fold_stmt-Block, fold_stmt-Var, fold_stmt-Assign, fold_stmt-Read, fold_stmt-Write, fold_stmt-Keystmt, fold_stmt-Valid, fold_stmt-Apply, fold_stmt-Callstmt, fold_stmt-If}
use Rattle.p4_check.specs.Rewriting.{Source, Piece, stmt_rewrite, block_rewrite, if_rewrite, joined, rewrite_stmt, rewrite_block, rewrite_if}

pub rewrite-Block : (src : Source) (x : P4Block) → rewrite_stmt src (stmt.Block x) ≡ stmt_rewrite src (layer.Block (rewrite_block src x))
rewrite-Block src x = fold_stmt-Block Piece P4Block P4If (stmt_rewrite src) block_rewrite if_rewrite x

pub rewrite-Var : (src : Source) (x : P4Var) → rewrite_stmt src (stmt.Var x) ≡ stmt_rewrite src (layer.Var x)
rewrite-Var src x = fold_stmt-Var Piece P4Block P4If (stmt_rewrite src) block_rewrite if_rewrite x

pub rewrite-Assign : (src : Source) (x : P4Assign) → rewrite_stmt src (stmt.Assign x) ≡ stmt_rewrite src (layer.Assign x)
rewrite-Assign src x = fold_stmt-Assign Piece P4Block P4If (stmt_rewrite src) block_rewrite if_rewrite x

pub rewrite-Read : (src : Source) (x : P4Read) → rewrite_stmt src (stmt.Read x) ≡ stmt_rewrite src (layer.Read x)
rewrite-Read src x = fold_stmt-Read Piece P4Block P4If (stmt_rewrite src) block_rewrite if_rewrite x

pub rewrite-Write : (src : Source) (x : P4Write) → rewrite_stmt src (stmt.Write x) ≡ stmt_rewrite src (layer.Write x)
rewrite-Write src x = fold_stmt-Write Piece P4Block P4If (stmt_rewrite src) block_rewrite if_rewrite x

pub rewrite-Keystmt : (src : Source) (x : P4Keystmt) → rewrite_stmt src (stmt.Keystmt x) ≡ stmt_rewrite src (layer.Keystmt x)
rewrite-Keystmt src x = fold_stmt-Keystmt Piece P4Block P4If (stmt_rewrite src) block_rewrite if_rewrite x

pub rewrite-Valid : (src : Source) (x : P4Valid) → rewrite_stmt src (stmt.Valid x) ≡ stmt_rewrite src (layer.Valid x)
rewrite-Valid src x = fold_stmt-Valid Piece P4Block P4If (stmt_rewrite src) block_rewrite if_rewrite x

pub rewrite-Apply : (src : Source) (x : P4Apply) → rewrite_stmt src (stmt.Apply x) ≡ stmt_rewrite src (layer.Apply x)
rewrite-Apply src x = fold_stmt-Apply Piece P4Block P4If (stmt_rewrite src) block_rewrite if_rewrite x

pub rewrite-Callstmt : (src : Source) (x : P4Callstmt) → rewrite_stmt src (stmt.Callstmt x) ≡ stmt_rewrite src (layer.Callstmt x)
rewrite-Callstmt src x = fold_stmt-Callstmt Piece P4Block P4If (stmt_rewrite src) block_rewrite if_rewrite x

pub rewrite-If : (src : Source) (x : P4If) → rewrite_stmt src (stmt.If x) ≡ stmt_rewrite src (layer.If (rewrite_if src x))
rewrite-If src x = fold_stmt-If Piece P4Block P4If (stmt_rewrite src) block_rewrite if_rewrite x

pub rewrite-block : (src : Source) (at : ℕ) (ss : List P4Stmt) → rewrite_block src (roll-P4Block (record { at = at; stmts = ss })) ≡ roll-P4Block (record { at = at; stmts = joined (map (rewrite_stmt src) ss) })
rewrite-block src at ss = fold-roll-P4Block Piece P4Block P4If (stmt_rewrite src) block_rewrite if_rewrite (record { at = at; stmts = ss })

pub rewrite-if : (src : Source) (at : ℕ) (c : P4Cond) (b : P4Block) (o : Option P4Block) → rewrite_if src (roll-P4If (record { at = at; cond = c; then = b; else_ = o })) ≡ roll-P4If (record { at = at; cond = c; then = rewrite_block src b; else_ = option_map (rewrite_block src) o })
rewrite-if src at c b None = fold-roll-P4If Piece P4Block P4If (stmt_rewrite src) block_rewrite if_rewrite (record { at = at; cond = c; then = b; else_ = None })
rewrite-if src at c b (Some x) = fold-roll-P4If Piece P4Block P4If (stmt_rewrite src) block_rewrite if_rewrite (record { at = at; cond = c; then = b; else_ = Some x })
