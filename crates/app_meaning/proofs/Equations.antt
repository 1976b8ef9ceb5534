-- The value of an expression and the run of a statement, one equation for each variant.
use Rattle.std.proofs.Common.{◌≡◌, ℕ, true, false, List, map, Option, Some, None, if◌then◌else◌}
use Rattle.std.specs.Prelude.{option_map}
use Rattle.p4_ast.specs.declared.name.P4Number.{P4Number}
use Rattle.p4_ast.specs.declared.name.P4Path.{P4Path}
use Rattle.p4_ast.specs.declared.name.P4Slice.{P4Slice}
use Rattle.p4_ast.specs.declared.declaration.P4Type.{P4Type}
use Rattle.p4_ast.specs.declared.control.P4Var.{P4Var}
use Rattle.p4_ast.specs.declared.expression.P4BinaryOp.{P4BinaryOp}
use Rattle.p4_ast.specs.declared.expression.P4UnaryOp.{P4UnaryOp}
use Rattle.p4_ast.specs.declared.expression.P4Expr.{P4Expr}
use Rattle.p4_ast.specs.declared.expression.P4Expr.TheVariants as expr
use Rattle.p4_ast.specs.declared.statement.P4Assign.{P4Assign}
use Rattle.p4_ast.specs.declared.statement.P4Read.{P4Read}
use Rattle.p4_ast.specs.declared.statement.P4Write.{P4Write}
use Rattle.p4_ast.specs.declared.statement.P4Keystmt.{P4Keystmt}
use Rattle.p4_ast.specs.declared.statement.P4Valid.{P4Valid}
use Rattle.p4_ast.specs.declared.statement.P4Apply.{P4Apply}
use Rattle.p4_ast.specs.declared.statement.P4Callstmt.{P4Callstmt}
use Rattle.p4_ast.specs.declared.statement.P4Cond.{P4Cond}
use Rattle.p4_ast.specs.declared.statement.P4Stmt.{P4Stmt}
use Rattle.p4_ast.specs.declared.statement.P4Stmt.TheVariants as stmt
use Rattle.p4_ast.specs.declared.statement.P4Block.{P4Block, roll-P4Block, fold-roll-P4Block}
use Rattle.p4_ast.specs.declared.statement.P4If.{P4If, roll-P4If, fold-roll-P4If}
use Rattle.p4_ast.proofs.Folds.{fold_expr-Choice, fold_expr-Binary, fold_expr-Unary, fold_expr-Cast, fold_expr-Slice, fold_expr-Number, fold_expr-True, fold_expr-False, fold_expr-Path, fold_expr-IsValid, fold_stmt-Block, fold_stmt-Var, fold_stmt-Assign, fold_stmt-Read, fold_stmt-Write, fold_stmt-Keystmt, fold_stmt-Valid, fold_stmt-Apply, fold_stmt-Callstmt, fold_stmt-If}
use Rattle.app_data.specs.declared.value.Value.{Value}
use Rattle.app_meaning.specs.Values.{cut, truth, holds, binary_value, unary_value, slice_value}
use Rattle.app_meaning.specs.Slots.{Scope, text, names, type_width, path_value, slot_of}
use Rattle.app_meaning.specs.Expressions.{literal, high_bit, low_bit, eval_step, eval}
use Rattle.app_meaning.specs.Assigning.{assign, validate}
use Rattle.app_meaning.specs.Statements.{Meaning, with_values, with_key, declare, run_read, run_write, key_bytes, values_of, test, in_turn, branch, stmt_step, block_step, if_step, run_stmt, run_block, run_if}

abbrev Evals : Type 0
Evals = Scope → List Value → Value

pub eval-Choice : (at : ℕ) (t x y : P4Expr) → eval (expr.Choice at t x y) ≡ (λ sc values. if holds (eval t sc values) then eval x sc values else eval y sc values)
eval-Choice at t x y = fold_expr-Choice Evals eval_step at t x y

pub eval-Binary : (at : ℕ) (op : P4BinaryOp) (x y : P4Expr) → eval (expr.Binary at op x y) ≡ (λ sc values. binary_value op (eval x sc values) (eval y sc values))
eval-Binary at op x y = fold_expr-Binary Evals eval_step at op x y

pub eval-Unary : (at : ℕ) (op : P4UnaryOp) (x : P4Expr) → eval (expr.Unary at op x) ≡ (λ sc values. unary_value op (eval x sc values))
eval-Unary at op x = fold_expr-Unary Evals eval_step at op x

pub eval-Cast : (at : ℕ) (t : P4Type) (x : P4Expr) → eval (expr.Cast at t x) ≡ (λ sc values. cut (type_width sc.types t) (eval x sc values).number)
eval-Cast at t x = fold_expr-Cast Evals eval_step at t x

pub eval-Slice : (at : ℕ) (x : P4Expr) (s : P4Slice) → eval (expr.Slice at x s) ≡ (λ sc values. slice_value (eval x sc values) (high_bit s) (low_bit s))
eval-Slice at x s = fold_expr-Slice Evals eval_step at x s

pub eval-Number : (at : ℕ) (n : P4Number) → eval (expr.Number at n) ≡ (λ sc values. literal n)
eval-Number at n = fold_expr-Number Evals eval_step at n

pub eval-True : (at : ℕ) → eval (expr.True at) ≡ (λ sc values. truth true)
eval-True at = fold_expr-True Evals eval_step at

pub eval-False : (at : ℕ) → eval (expr.False at) ≡ (λ sc values. truth false)
eval-False at = fold_expr-False Evals eval_step at

pub eval-Path : (at : ℕ) (p : P4Path) → eval (expr.Path at p) ≡ (λ sc values. path_value sc values (names p))
eval-Path at p = fold_expr-Path Evals eval_step at p

pub eval-IsValid : (at : ℕ) (p : P4Path) → eval (expr.IsValid at p) ≡ (λ sc values. path_value sc values (names p))
eval-IsValid at p = fold_expr-IsValid Evals eval_step at p

-- ---- statements

pub run-Block : (b : P4Block) → run_stmt (stmt.Block b) ≡ run_block b
run-Block b = fold_stmt-Block Meaning Meaning Meaning stmt_step block_step if_step b

pub run-Var : (v : P4Var) → run_stmt (stmt.Var v) ≡ (λ ctx run. with_values run (declare ctx.scope v run.values))
run-Var v = fold_stmt-Var Meaning Meaning Meaning stmt_step block_step if_step v

pub run-Assign : (a : P4Assign) → run_stmt (stmt.Assign a) ≡ (λ ctx run. with_values run (assign ctx.scope a.left (eval a.expr ctx.scope run.values).number run.values))
run-Assign a = fold_stmt-Assign Meaning Meaning Meaning stmt_step block_step if_step a

pub run-Read : (r : P4Read) → run_stmt (stmt.Read r) ≡ (λ ctx run. run_read ctx.scope r run)
run-Read r = fold_stmt-Read Meaning Meaning Meaning stmt_step block_step if_step r

pub run-Write : (w : P4Write) → run_stmt (stmt.Write w) ≡ (λ ctx run. run_write ctx.scope w run)
run-Write w = fold_stmt-Write Meaning Meaning Meaning stmt_step block_step if_step w

pub run-Keystmt : (k : P4Keystmt) → run_stmt (stmt.Keystmt k) ≡ (λ ctx run. with_key run (key_bytes (eval k.expr ctx.scope run.values)))
run-Keystmt k = fold_stmt-Keystmt Meaning Meaning Meaning stmt_step block_step if_step k

pub run-Valid : (v : P4Valid) → run_stmt (stmt.Valid v) ≡ (λ ctx run. with_values run (validate ctx.scope v.validity (slot_of ctx.scope (names v.path)) run.values))
run-Valid v = fold_stmt-Valid Meaning Meaning Meaning stmt_step block_step if_step v

pub run-Apply : (a : P4Apply) → run_stmt (stmt.Apply a) ≡ (λ ctx run. (ctx.apply (text a.name) run).0)
run-Apply a = fold_stmt-Apply Meaning Meaning Meaning stmt_step block_step if_step a

pub run-Callstmt : (c : P4Callstmt) → run_stmt (stmt.Callstmt c) ≡ (λ ctx run. ctx.call (text c.name) (values_of c.args ctx.scope run.values) run)
run-Callstmt c = fold_stmt-Callstmt Meaning Meaning Meaning stmt_step block_step if_step c

pub run-If : (i : P4If) → run_stmt (stmt.If i) ≡ run_if i
run-If i = fold_stmt-If Meaning Meaning Meaning stmt_step block_step if_step i

pub run-block : (at : ℕ) (ss : List P4Stmt) → run_block (roll-P4Block (record { at = at; stmts = ss })) ≡ in_turn (map run_stmt ss)
run-block at ss = fold-roll-P4Block Meaning Meaning Meaning stmt_step block_step if_step (record { at = at; stmts = ss })

pub run-if : (at : ℕ) (c : P4Cond) (b : P4Block) (o : Option P4Block) → run_if (roll-P4If (record { at = at; cond = c; then = b; else_ = o })) ≡ (λ ctx run. branch (run_block b) (option_map run_block o) ctx (test c ctx run))
run-if at c b None = fold-roll-P4If Meaning Meaning Meaning stmt_step block_step if_step (record { at = at; cond = c; then = b; else_ = None })
run-if at c b (Some x) = fold-roll-P4If Meaning Meaning Meaning stmt_step block_step if_step (record { at = at; cond = c; then = b; else_ = Some x })

pub ruleset evals = (eval-Choice, eval-Binary, eval-Unary, eval-Cast, eval-Slice, eval-Number, eval-True, eval-False, eval-Path, eval-IsValid)

pub ruleset runs = (run-Block, run-Var, run-Assign, run-Read, run-Write, run-Keystmt, run-Valid, run-Apply, run-Callstmt, run-If)
