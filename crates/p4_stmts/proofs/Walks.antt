-- The definitions on statements, one equation a variant.
use Rattle.std.proofs.Common.{◌≡◌, Bool, map, ap}
use Rattle.std.specs.Prelude.{option_map}
use Rattle.p4_ast.specs.declared.control.P4Var.{P4Var}
use Rattle.p4_ast.specs.declared.statement.P4Assign.{P4Assign}
use Rattle.p4_ast.specs.declared.statement.P4Keystmt.{P4Keystmt}
use Rattle.p4_ast.specs.declared.statement.P4Read.{P4Read}
use Rattle.p4_ast.specs.declared.statement.P4Write.{P4Write}
use Rattle.p4_ast.specs.declared.statement.P4Valid.{P4Valid}
use Rattle.p4_ast.specs.declared.statement.P4Apply.{P4Apply}
use Rattle.p4_ast.specs.declared.statement.P4Callstmt.{P4Callstmt}
use Rattle.p4_ast.specs.declared.statement.P4Stmt.TheVariants as stmt
use Rattle.p4_ast.specs.declared.statement.P4Block.{P4Block, out-P4Block}
use Rattle.p4_ast.specs.declared.statement.P4If.{P4If, out-P4If}
use Rattle.p4_ast.proofs.Folds.{fold_stmt-Block, fold_stmt-Var, fold_stmt-Assign, fold_stmt-Keystmt, fold_stmt-Read, fold_stmt-Write, fold_stmt-Valid, fold_stmt-Apply, fold_stmt-Callstmt, fold_stmt-If, fold_block, fold_if}
use Rattle.p4_scope.specs.Scopes.{Scope}
use Rattle.p4_scope.specs.FlowKeys.{in_block}
use Rattle.p4_typing.specs.Calls.{assign}
use Rattle.p4_stmts.specs.Statements.{WalkStmt, WalkBlock, WalkIf, stmt_step, block_step, if_step, statement, block, if_, wrapped, within, noted, var, read, write, keystmt, callstmt, valid, application}

pub statement-Block : (b : P4Block) (last : Bool) (s : Scope) → statement (stmt.Block b) last s ≡ wrapped stmt.Block (within (in_block s.site) (block b) s)
statement-Block b last s = ap (λ f. f last s) (fold_stmt-Block WalkStmt WalkBlock WalkIf stmt_step block_step if_step b)

pub statement-Var : (v : P4Var) (last : Bool) (s : Scope) → statement (stmt.Var v) last s ≡ wrapped stmt.Var (var v s)
statement-Var v last s = ap (λ f. f last s) (fold_stmt-Var WalkStmt WalkBlock WalkIf stmt_step block_step if_step v)

pub statement-Assign : (a : P4Assign) (last : Bool) (s : Scope) → statement (stmt.Assign a) last s ≡ wrapped stmt.Assign (noted (assign a s) s)
statement-Assign a last s = ap (λ f. f last s) (fold_stmt-Assign WalkStmt WalkBlock WalkIf stmt_step block_step if_step a)

pub statement-Keystmt : (k : P4Keystmt) (last : Bool) (s : Scope) → statement (stmt.Keystmt k) last s ≡ wrapped stmt.Keystmt (keystmt k s)
statement-Keystmt k last s = ap (λ f. f last s) (fold_stmt-Keystmt WalkStmt WalkBlock WalkIf stmt_step block_step if_step k)

pub statement-Read : (r : P4Read) (last : Bool) (s : Scope) → statement (stmt.Read r) last s ≡ wrapped stmt.Read (read r s)
statement-Read r last s = ap (λ f. f last s) (fold_stmt-Read WalkStmt WalkBlock WalkIf stmt_step block_step if_step r)

pub statement-Write : (w : P4Write) (last : Bool) (s : Scope) → statement (stmt.Write w) last s ≡ wrapped stmt.Write (write w s)
statement-Write w last s = ap (λ f. f last s) (fold_stmt-Write WalkStmt WalkBlock WalkIf stmt_step block_step if_step w)

pub statement-Valid : (v : P4Valid) (last : Bool) (s : Scope) → statement (stmt.Valid v) last s ≡ wrapped stmt.Valid (valid v s)
statement-Valid v last s = ap (λ f. f last s) (fold_stmt-Valid WalkStmt WalkBlock WalkIf stmt_step block_step if_step v)

pub statement-Apply : (a : P4Apply) (last : Bool) (s : Scope) → statement (stmt.Apply a) last s ≡ wrapped stmt.Apply (application a s)
statement-Apply a last s = ap (λ f. f last s) (fold_stmt-Apply WalkStmt WalkBlock WalkIf stmt_step block_step if_step a)

pub statement-Callstmt : (c : P4Callstmt) (last : Bool) (s : Scope) → statement (stmt.Callstmt c) last s ≡ wrapped stmt.Callstmt (callstmt c s)
statement-Callstmt c last s = ap (λ f. f last s) (fold_stmt-Callstmt WalkStmt WalkBlock WalkIf stmt_step block_step if_step c)

pub statement-If : (i : P4If) (last : Bool) (s : Scope) → statement (stmt.If i) last s ≡ wrapped stmt.If (if_ i last s)
statement-If i last s = ap (λ f. f last s) (fold_stmt-If WalkStmt WalkBlock WalkIf stmt_step block_step if_step i)

pub block-is : (b : P4Block) (s : Scope) → block b s ≡ block_step (record { at = (out-P4Block b).at; stmts = map statement (out-P4Block b).stmts }) s
block-is b s = ap (λ f. f s) (fold_block WalkStmt WalkBlock WalkIf stmt_step block_step if_step b)

pub if-is : (i : P4If) (last : Bool) (s : Scope) → if_ i last s ≡ if_step (record { at = (out-P4If i).at; cond = (out-P4If i).cond; then = block (out-P4If i).then; else_ = option_map block (out-P4If i).else_ }) last s
if-is i last s = ap (λ f. f last s) (fold_if WalkStmt WalkBlock WalkIf stmt_step block_step if_step i)
