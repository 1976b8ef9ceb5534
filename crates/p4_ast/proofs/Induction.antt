-- Induction on expressions and on statements, one case a variant.
use Rattle.std.proofs.Common.{ℕ, List, [], ◌∷◌, map, Option, Some, None, sym, subst}
use Rattle.std.specs.List.{AllByRecursion}
use Rattle.p4_ast.specs.declared.name.P4Number.{P4Number}
use Rattle.p4_ast.specs.declared.name.P4Path.{P4Path}
use Rattle.p4_ast.specs.declared.name.P4Slice.{P4Slice}
use Rattle.p4_ast.specs.declared.declaration.P4Type.{P4Type}
use Rattle.p4_ast.specs.declared.control.P4Var.{P4Var}
use Rattle.p4_ast.specs.declared.expression.P4BinaryOp.{P4BinaryOp}
use Rattle.p4_ast.specs.declared.expression.P4UnaryOp.{P4UnaryOp}
use Rattle.p4_ast.specs.declared.expression.P4Expr.{P4Expr, roll-P4Expr, map-P4Expr, ind-P4Expr}
use Rattle.p4_ast.specs.declared.expression.P4Expr.TheOpen as open_expr
use Rattle.p4_ast.specs.declared.expression.P4Expr.TheOpen.{P4Expr-F}
use Rattle.p4_ast.specs.declared.expression.P4Expr.TheVariants as expr
use Rattle.p4_ast.specs.declared.statement.P4Assign.{P4Assign}
use Rattle.p4_ast.specs.declared.statement.P4Read.{P4Read}
use Rattle.p4_ast.specs.declared.statement.P4Write.{P4Write}
use Rattle.p4_ast.specs.declared.statement.P4Keystmt.{P4Keystmt}
use Rattle.p4_ast.specs.declared.statement.P4Valid.{P4Valid}
use Rattle.p4_ast.specs.declared.statement.P4Apply.{P4Apply}
use Rattle.p4_ast.specs.declared.statement.P4Callstmt.{P4Callstmt}
use Rattle.p4_ast.specs.declared.statement.P4Cond.{P4Cond}
use Rattle.p4_ast.specs.declared.statement.P4Stmt.{P4Stmt, roll-P4Stmt, map-P4Stmt, ind-P4Stmt}
use Rattle.p4_ast.specs.declared.statement.P4Stmt.TheOpen as open_stmt
use Rattle.p4_ast.specs.declared.statement.P4Stmt.TheOpen.{P4Stmt-F, P4Block-F, P4If-F}
use Rattle.p4_ast.specs.declared.statement.P4Stmt.TheVariants as stmt
use Rattle.p4_ast.specs.declared.statement.P4Block.{P4Block, roll-P4Block, map-P4Block, ind-P4Block}
use Rattle.p4_ast.specs.declared.statement.P4If.{P4If, roll-P4If, map-P4If}

-- what each variant of an expression must show
pub record ExprCases (P : P4Expr → Type 0) : Type 0 where
  pub choice : (at : ℕ) (test first second : P4Expr) → P test → P first → P second → P (expr.Choice at test first second)
  pub binary : (at : ℕ) (op : P4BinaryOp) (left right : P4Expr) → P left → P right → P (expr.Binary at op left right)
  pub unary : (at : ℕ) (op : P4UnaryOp) (operand : P4Expr) → P operand → P (expr.Unary at op operand)
  pub cast : (at : ℕ) (t : P4Type) (operand : P4Expr) → P operand → P (expr.Cast at t operand)
  pub slice : (at : ℕ) (operand : P4Expr) (s : P4Slice) → P operand → P (expr.Slice at operand s)
  pub number : (at : ℕ) (n : P4Number) → P (expr.Number at n)
  pub truth : (at : ℕ) → P (expr.True at)
  pub falsehood : (at : ℕ) → P (expr.False at)
  pub path : (at : ℕ) (p : P4Path) → P (expr.Path at p)
  pub is_valid : (at : ℕ) (p : P4Path) → P (expr.IsValid at p)

module _ (P : P4Expr → Type 0) (c : ExprCases P) where
  expr_cases : (y : P4Expr-F ((e : P4Expr) × P e)) → P (roll-P4Expr (map-P4Expr ((e : P4Expr) × P e) P4Expr (λ s. s.0) y))
  expr_cases (open_expr.Choice at s t u) = subst P (sym (expr.rolls-Choice at s.0 t.0 u.0)) (c.choice at s.0 t.0 u.0 s.1 t.1 u.1)
  expr_cases (open_expr.Binary at op s t) = subst P (sym (expr.rolls-Binary at op s.0 t.0)) (c.binary at op s.0 t.0 s.1 t.1)
  expr_cases (open_expr.Unary at op s) = subst P (sym (expr.rolls-Unary at op s.0)) (c.unary at op s.0 s.1)
  expr_cases (open_expr.Cast at t s) = subst P (sym (expr.rolls-Cast at t s.0)) (c.cast at t s.0 s.1)
  expr_cases (open_expr.Slice at s sl) = subst P (sym (expr.rolls-Slice at s.0 sl)) (c.slice at s.0 sl s.1)
  expr_cases (open_expr.Number at n) = subst P (sym (expr.rolls-Number at n)) (c.number at n)
  expr_cases (open_expr.True at) = subst P (sym (expr.rolls-True at)) (c.truth at)
  expr_cases (open_expr.False at) = subst P (sym (expr.rolls-False at)) (c.falsehood at)
  expr_cases (open_expr.Path at p) = subst P (sym (expr.rolls-Path at p)) (c.path at p)
  expr_cases (open_expr.IsValid at p) = subst P (sym (expr.rolls-IsValid at p)) (c.is_valid at p)

  pub expr-ind : (e : P4Expr) → P e
  expr-ind = ind-P4Expr P (λ x y same. subst (λ (z : P4Expr-F P4Expr). P (roll-P4Expr z)) same (expr_cases y))

-- of a block that may be left out
abbrev pub OfElse : (P4Block → Type 0) → Option P4Block → Type 0
OfElse B None = Unit {0}
OfElse B (Some b) = B b

-- what each variant of a statement, a block and an `if` must show
pub record StmtCases (P : P4Stmt → Type 0) (B : P4Block → Type 0) (C : P4If → Type 0) : Type 0 where
  pub block : (b : P4Block) → B b → P (stmt.Block b)
  pub var : (v : P4Var) → P (stmt.Var v)
  pub assign : (a : P4Assign) → P (stmt.Assign a)
  pub read : (r : P4Read) → P (stmt.Read r)
  pub write : (w : P4Write) → P (stmt.Write w)
  pub keystmt : (k : P4Keystmt) → P (stmt.Keystmt k)
  pub valid : (v : P4Valid) → P (stmt.Valid v)
  pub apply : (a : P4Apply) → P (stmt.Apply a)
  pub callstmt : (x : P4Callstmt) → P (stmt.Callstmt x)
  pub branches : (i : P4If) → C i → P (stmt.If i)
  pub stmts : (at : ℕ) (ss : List P4Stmt) → AllByRecursion P ss → B (roll-P4Block (record { at = at; stmts = ss }))
  pub parts : (at : ℕ) (cond : P4Cond) (then : P4Block) (o : Option P4Block) → B then → OfElse B o → C (roll-P4If (record { at = at; cond = cond; then = then; else_ = o }))

module _ (P : P4Stmt → Type 0) (B : P4Block → Type 0) (C : P4If → Type 0) (c : StmtCases P B C) where
  abbrev S : Type 0
  S = (s : P4Stmt) × P s

  abbrev T : Type 0
  T = (b : P4Block) × B b

  abbrev U : Type 0
  U = (i : P4If) × C i

  each : (ss : List S) → AllByRecursion P (map (λ s. s.0) ss)
  each [] = tt
  each (s ∷ ss) = (s.1, each ss)

  stmt_cases : (y : P4Stmt-F S T U) → P (roll-P4Stmt (map-P4Stmt S T U P4Stmt P4Block P4If (λ s. s.0) (λ s. s.0) (λ s. s.0) y))
  stmt_cases (open_stmt.Block b) = subst P (sym (stmt.rolls-Block b.0)) (c.block b.0 b.1)
  stmt_cases (open_stmt.Var v) = subst P (sym (stmt.rolls-Var v)) (c.var v)
  stmt_cases (open_stmt.Assign a) = subst P (sym (stmt.rolls-Assign a)) (c.assign a)
  stmt_cases (open_stmt.Read r) = subst P (sym (stmt.rolls-Read r)) (c.read r)
  stmt_cases (open_stmt.Write w) = subst P (sym (stmt.rolls-Write w)) (c.write w)
  stmt_cases (open_stmt.Keystmt k) = subst P (sym (stmt.rolls-Keystmt k)) (c.keystmt k)
  stmt_cases (open_stmt.Valid v) = subst P (sym (stmt.rolls-Valid v)) (c.valid v)
  stmt_cases (open_stmt.Apply a) = subst P (sym (stmt.rolls-Apply a)) (c.apply a)
  stmt_cases (open_stmt.Callstmt x) = subst P (sym (stmt.rolls-Callstmt x)) (c.callstmt x)
  stmt_cases (open_stmt.If i) = subst P (sym (stmt.rolls-If i.0)) (c.branches i.0 i.1)

  block_cases : (y : P4Block-F S T U) → B (roll-P4Block (map-P4Block S T U P4Stmt P4Block P4If (λ s. s.0) (λ s. s.0) (λ s. s.0) y))
  block_cases y = c.stmts y.at (map (λ s. s.0) y.stmts) (each y.stmts)

  else_case : (at : ℕ) (cond : P4Cond) (then : T) (o : Option T) → C (roll-P4If (map-P4If S T U P4Stmt P4Block P4If (λ s. s.0) (λ s. s.0) (λ s. s.0) (record { at = at; cond = cond; then = then; else_ = o })))
  else_case at cond then None = c.parts at cond then.0 None then.1 tt
  else_case at cond then (Some b) = c.parts at cond then.0 (Some b.0) then.1 b.1

  if_cases : (y : P4If-F S T U) → C (roll-P4If (map-P4If S T U P4Stmt P4Block P4If (λ s. s.0) (λ s. s.0) (λ s. s.0) y))
  if_cases y = else_case y.at y.cond y.then y.else_

  pub stmt-ind : (s : P4Stmt) → P s
  stmt-ind = ind-P4Stmt P B C
      (λ x y same. subst (λ (z : P4Stmt-F P4Stmt P4Block P4If). P (roll-P4Stmt z)) same (stmt_cases y))
      (λ x y same. subst (λ (z : P4Block-F P4Stmt P4Block P4If). B (roll-P4Block z)) same (block_cases y))
      (λ x y same. subst (λ (z : P4If-F P4Stmt P4Block P4If). C (roll-P4If z)) same (if_cases y))

  pub block-ind : (b : P4Block) → B b
  block-ind = ind-P4Block P B C
      (λ x y same. subst (λ (z : P4Stmt-F P4Stmt P4Block P4If). P (roll-P4Stmt z)) same (stmt_cases y))
      (λ x y same. subst (λ (z : P4Block-F P4Stmt P4Block P4If). B (roll-P4Block z)) same (block_cases y))
      (λ x y same. subst (λ (z : P4If-F P4Stmt P4Block P4If). C (roll-P4If z)) same (if_cases y))
