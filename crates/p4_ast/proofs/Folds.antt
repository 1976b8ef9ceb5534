-- The equations of folds over expressions and statements, one for each variant.
use Rattle.std.proofs.Common.{◌≡◌, ℕ, map, Option, Some, None, refl, sym, ap, ◌∙◌}
use Rattle.std.specs.Prelude.{option_map}
use Rattle.p4_ast.specs.declared.name.P4Number.{P4Number}
use Rattle.p4_ast.specs.declared.name.P4Path.{P4Path}
use Rattle.p4_ast.specs.declared.name.P4Slice.{P4Slice}
use Rattle.p4_ast.specs.declared.declaration.P4Type.{P4Type}
use Rattle.p4_ast.specs.declared.control.P4Var.{P4Var}
use Rattle.p4_ast.specs.declared.expression.P4BinaryOp.{P4BinaryOp}
use Rattle.p4_ast.specs.declared.expression.P4UnaryOp.{P4UnaryOp}
use Rattle.p4_ast.specs.declared.expression.P4Expr.{P4Expr, fold-P4Expr, fold-roll-P4Expr}
use Rattle.p4_ast.specs.declared.expression.P4Expr.TheOpen as open_expr
use Rattle.p4_ast.specs.declared.expression.P4Expr.TheOpen.{P4Expr-F}
use Rattle.p4_ast.specs.declared.expression.P4Expr.TheVariants as expr
use Rattle.p4_ast.specs.declared.statement.P4Assign.{P4Assign}
use Rattle.p4_ast.specs.declared.statement.P4Read.{P4Read}
use Rattle.p4_ast.specs.declared.statement.P4Write.{P4Write}
use Rattle.p4_ast.specs.declared.statement.P4Keystmt.{P4Keystmt}
use Rattle.p4_ast.specs.declared.statement.P4Valid.{P4Valid}
use Rattle.p4_ast.specs.declared.statement.P4Apply.{P4Apply}
use Rattle.p4_ast.specs.declared.statement.P4Callstmt.{P4Callstmt}
use Rattle.p4_ast.specs.declared.statement.P4Stmt.{P4Stmt, fold-P4Stmt, fold-roll-P4Stmt}
use Rattle.p4_ast.specs.declared.statement.P4Stmt.TheOpen as open_stmt
use Rattle.p4_ast.specs.declared.statement.P4Stmt.TheOpen.{P4Stmt-F, P4Block-F, P4If-F}
use Rattle.p4_ast.specs.declared.statement.P4Stmt.TheVariants as stmt
use Rattle.p4_ast.specs.declared.statement.P4Block.{P4Block, out-P4Block, fold-P4Block, fold_out-P4Block}
use Rattle.p4_ast.specs.declared.statement.P4If.{P4If, out-P4If, fold-P4If, fold_out-P4If, map-P4If}
use Rattle.p4_ast.specs.declared.statement.P4Cond.{P4Cond}

module _ (A : Type 0) (step : P4Expr-F A → A) where
  pub fold_expr-Choice : (at : ℕ) (test : P4Expr) (first : P4Expr) (second : P4Expr) → fold-P4Expr A step (expr.Choice at test first second) ≡ step (open_expr.Choice at (fold-P4Expr A step test) (fold-P4Expr A step first) (fold-P4Expr A step second))
  fold_expr-Choice at test first second = ap (fold-P4Expr A step) (sym (expr.rolls-Choice at test first second)) ∙ fold-roll-P4Expr A step (open_expr.Choice at test first second)

  pub fold_expr-Binary : (at : ℕ) (op : P4BinaryOp) (left : P4Expr) (right : P4Expr) → fold-P4Expr A step (expr.Binary at op left right) ≡ step (open_expr.Binary at op (fold-P4Expr A step left) (fold-P4Expr A step right))
  fold_expr-Binary at op left right = ap (fold-P4Expr A step) (sym (expr.rolls-Binary at op left right)) ∙ fold-roll-P4Expr A step (open_expr.Binary at op left right)

  pub fold_expr-Unary : (at : ℕ) (op : P4UnaryOp) (operand : P4Expr) → fold-P4Expr A step (expr.Unary at op operand) ≡ step (open_expr.Unary at op (fold-P4Expr A step operand))
  fold_expr-Unary at op operand = ap (fold-P4Expr A step) (sym (expr.rolls-Unary at op operand)) ∙ fold-roll-P4Expr A step (open_expr.Unary at op operand)

  pub fold_expr-Cast : (at : ℕ) (t : P4Type) (operand : P4Expr) → fold-P4Expr A step (expr.Cast at t operand) ≡ step (open_expr.Cast at t (fold-P4Expr A step operand))
  fold_expr-Cast at t operand = ap (fold-P4Expr A step) (sym (expr.rolls-Cast at t operand)) ∙ fold-roll-P4Expr A step (open_expr.Cast at t operand)

  pub fold_expr-Slice : (at : ℕ) (operand : P4Expr) (s : P4Slice) → fold-P4Expr A step (expr.Slice at operand s) ≡ step (open_expr.Slice at (fold-P4Expr A step operand) s)
  fold_expr-Slice at operand s = ap (fold-P4Expr A step) (sym (expr.rolls-Slice at operand s)) ∙ fold-roll-P4Expr A step (open_expr.Slice at operand s)

  pub fold_expr-Number : (at : ℕ) (n : P4Number) → fold-P4Expr A step (expr.Number at n) ≡ step (open_expr.Number at n)
  fold_expr-Number at n = ap (fold-P4Expr A step) (sym (expr.rolls-Number at n)) ∙ fold-roll-P4Expr A step (open_expr.Number at n)

  pub fold_expr-True : (at : ℕ) → fold-P4Expr A step (expr.True at) ≡ step (open_expr.True at)
  fold_expr-True at = ap (fold-P4Expr A step) (sym (expr.rolls-True at)) ∙ fold-roll-P4Expr A step (open_expr.True at)

  pub fold_expr-False : (at : ℕ) → fold-P4Expr A step (expr.False at) ≡ step (open_expr.False at)
  fold_expr-False at = ap (fold-P4Expr A step) (sym (expr.rolls-False at)) ∙ fold-roll-P4Expr A step (open_expr.False at)

  pub fold_expr-Path : (at : ℕ) (p : P4Path) → fold-P4Expr A step (expr.Path at p) ≡ step (open_expr.Path at p)
  fold_expr-Path at p = ap (fold-P4Expr A step) (sym (expr.rolls-Path at p)) ∙ fold-roll-P4Expr A step (open_expr.Path at p)

  pub fold_expr-IsValid : (at : ℕ) (p : P4Path) → fold-P4Expr A step (expr.IsValid at p) ≡ step (open_expr.IsValid at p)
  fold_expr-IsValid at p = ap (fold-P4Expr A step) (sym (expr.rolls-IsValid at p)) ∙ fold-roll-P4Expr A step (open_expr.IsValid at p)

module _ (A B C : Type 0) (s : P4Stmt-F A B C → A) (b : P4Block-F A B C → B) (c : P4If-F A B C → C) where
  pub fold_stmt-Block : (x : P4Block) → fold-P4Stmt A B C s b c (stmt.Block x) ≡ s (open_stmt.Block (fold-P4Block A B C s b c x))
  fold_stmt-Block x = ap (fold-P4Stmt A B C s b c) (sym (stmt.rolls-Block x)) ∙ fold-roll-P4Stmt A B C s b c (open_stmt.Block x)

  pub fold_stmt-Var : (x : P4Var) → fold-P4Stmt A B C s b c (stmt.Var x) ≡ s (open_stmt.Var x)
  fold_stmt-Var x = ap (fold-P4Stmt A B C s b c) (sym (stmt.rolls-Var x)) ∙ fold-roll-P4Stmt A B C s b c (open_stmt.Var x)

  pub fold_stmt-Assign : (x : P4Assign) → fold-P4Stmt A B C s b c (stmt.Assign x) ≡ s (open_stmt.Assign x)
  fold_stmt-Assign x = ap (fold-P4Stmt A B C s b c) (sym (stmt.rolls-Assign x)) ∙ fold-roll-P4Stmt A B C s b c (open_stmt.Assign x)

  pub fold_stmt-Read : (x : P4Read) → fold-P4Stmt A B C s b c (stmt.Read x) ≡ s (open_stmt.Read x)
  fold_stmt-Read x = ap (fold-P4Stmt A B C s b c) (sym (stmt.rolls-Read x)) ∙ fold-roll-P4Stmt A B C s b c (open_stmt.Read x)

  pub fold_stmt-Write : (x : P4Write) → fold-P4Stmt A B C s b c (stmt.Write x) ≡ s (open_stmt.Write x)
  fold_stmt-Write x = ap (fold-P4Stmt A B C s b c) (sym (stmt.rolls-Write x)) ∙ fold-roll-P4Stmt A B C s b c (open_stmt.Write x)

  pub fold_stmt-Keystmt : (x : P4Keystmt) → fold-P4Stmt A B C s b c (stmt.Keystmt x) ≡ s (open_stmt.Keystmt x)
  fold_stmt-Keystmt x = ap (fold-P4Stmt A B C s b c) (sym (stmt.rolls-Keystmt x)) ∙ fold-roll-P4Stmt A B C s b c (open_stmt.Keystmt x)

  pub fold_stmt-Valid : (x : P4Valid) → fold-P4Stmt A B C s b c (stmt.Valid x) ≡ s (open_stmt.Valid x)
  fold_stmt-Valid x = ap (fold-P4Stmt A B C s b c) (sym (stmt.rolls-Valid x)) ∙ fold-roll-P4Stmt A B C s b c (open_stmt.Valid x)

  pub fold_stmt-Apply : (x : P4Apply) → fold-P4Stmt A B C s b c (stmt.Apply x) ≡ s (open_stmt.Apply x)
  fold_stmt-Apply x = ap (fold-P4Stmt A B C s b c) (sym (stmt.rolls-Apply x)) ∙ fold-roll-P4Stmt A B C s b c (open_stmt.Apply x)

  pub fold_stmt-Callstmt : (x : P4Callstmt) → fold-P4Stmt A B C s b c (stmt.Callstmt x) ≡ s (open_stmt.Callstmt x)
  fold_stmt-Callstmt x = ap (fold-P4Stmt A B C s b c) (sym (stmt.rolls-Callstmt x)) ∙ fold-roll-P4Stmt A B C s b c (open_stmt.Callstmt x)

  pub fold_stmt-If : (x : P4If) → fold-P4Stmt A B C s b c (stmt.If x) ≡ s (open_stmt.If (fold-P4If A B C s b c x))
  fold_stmt-If x = ap (fold-P4Stmt A B C s b c) (sym (stmt.rolls-If x)) ∙ fold-roll-P4Stmt A B C s b c (open_stmt.If x)

  pub fold_block : (x : P4Block) → fold-P4Block A B C s b c x ≡ b (record { at = (out-P4Block x).at; stmts = map (fold-P4Stmt A B C s b c) (out-P4Block x).stmts })
  fold_block x = fold_out-P4Block A B C s b c x

  mapped : (f : P4Stmt → A) (g : P4Block → B) (h : P4If → C) (at : ℕ) (cond : P4Cond) (then : P4Block) (o : Option P4Block) → (map-P4If P4Stmt P4Block P4If A B C f g h (record { at = at; cond = cond; then = then; else_ = o })).else_ ≡ option_map g o
  mapped f g h at cond then None = refl
  mapped f g h at cond then (Some x) = refl

  pub fold_if : (x : P4If) → fold-P4If A B C s b c x ≡ c (record { at = (out-P4If x).at; cond = (out-P4If x).cond; then = fold-P4Block A B C s b c (out-P4If x).then; else_ = option_map (fold-P4Block A B C s b c) (out-P4If x).else_ })
  fold_if x = fold_out-P4If A B C s b c x ∙ ap (λ o. c (record { at = (out-P4If x).at; cond = (out-P4If x).cond; then = fold-P4Block A B C s b c (out-P4If x).then; else_ = o })) (mapped (fold-P4Stmt A B C s b c) (fold-P4Block A B C s b c) (fold-P4If A B C s b c) (out-P4If x).at (out-P4If x).cond (out-P4If x).then (out-P4If x).else_)
