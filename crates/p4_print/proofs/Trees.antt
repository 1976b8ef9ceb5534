-- The tokens of one level of an expression, a block and an `if`.
use Rattle.std.proofs.Common.{◌≡◌, ℕ, List, [], ◌∷◌, ◌++◌, map, Bool, true, refl, ap, ◌∙◌}
use Rattle.std.specs.Prelude.{option_map, codes}
use Rattle.p4_lex.specs.declared.token.Sign.TheVariants as sign
use Rattle.p4_lex.specs.declared.token.Lexeme.{Lexeme}
use Rattle.p4_lex.specs.declared.token.Lexeme.TheVariants as lexeme
use Rattle.p4_ast.specs.declared.name.P4Number.{P4Number}
use Rattle.p4_ast.specs.declared.name.P4Path.{P4Path}
use Rattle.p4_ast.specs.declared.name.P4Slice.{P4Slice}
use Rattle.p4_ast.specs.declared.declaration.P4Type.{P4Type}
use Rattle.p4_ast.specs.declared.expression.P4BinaryOp.{P4BinaryOp}
use Rattle.p4_ast.specs.declared.expression.P4UnaryOp.{P4UnaryOp}
use Rattle.p4_ast.specs.declared.expression.P4Expr.{P4Expr}
use Rattle.p4_ast.specs.declared.expression.P4Expr.TheVariants as expr
use Rattle.p4_ast.specs.declared.statement.P4Stmt.{P4Stmt}
use Rattle.p4_ast.specs.declared.statement.P4Block.{P4Block, out-P4Block}
use Rattle.p4_ast.specs.declared.statement.P4If.{P4If, out-P4If}
use Rattle.p4_ast.proofs.Folds.{fold_expr-Choice, fold_expr-Binary, fold_expr-Unary, fold_expr-Cast, fold_expr-Slice, fold_expr-Number, fold_expr-True, fold_expr-False, fold_expr-IsValid, fold_block, fold_if}
use Rattle.p4_print.specs.Shared.{the, number, all, type_tokens, path_tokens, slice_tokens}
use Rattle.p4_print.specs.Expressions.{binary_sign, unary_sign, wrapped, expr_step, expr_as}
use Rattle.p4_print.specs.Statements.{concat, stmt_step, block_step, if_step, cond_tokens, else_tokens, stmt_tokens, block_tokens, if_tokens}

abbrev Printed : Type 0
Printed = Bool → List Lexeme

pub as-Choice : (at : ℕ) (a b c : P4Expr) (operand : Bool) → expr_as (expr.Choice at a b c) operand ≡ wrapped operand (expr_as a true ++ (the sign.Ask ∷ (expr_as b true ++ (the sign.Colon ∷ expr_as c true))))
as-Choice at a b c operand = ap (λ (f : Printed). f operand) (fold_expr-Choice Printed expr_step at a b c)

pub as-Binary : (at : ℕ) (op : P4BinaryOp) (a b : P4Expr) (operand : Bool) → expr_as (expr.Binary at op a b) operand ≡ wrapped operand (expr_as a true ++ (the (binary_sign op) ∷ expr_as b true))
as-Binary at op a b operand = ap (λ (f : Printed). f operand) (fold_expr-Binary Printed expr_step at op a b)

pub as-Unary : (at : ℕ) (op : P4UnaryOp) (a : P4Expr) (operand : Bool) → expr_as (expr.Unary at op a) operand ≡ wrapped operand (the (unary_sign op) ∷ expr_as a true)
as-Unary at op a operand = ap (λ (f : Printed). f operand) (fold_expr-Unary Printed expr_step at op a)

pub as-Cast : (at : ℕ) (t : P4Type) (a : P4Expr) (operand : Bool) → expr_as (expr.Cast at t a) operand ≡ wrapped operand (the sign.Open ∷ (type_tokens t ++ (the sign.Close ∷ expr_as a true)))
as-Cast at t a operand = ap (λ (f : Printed). f operand) (fold_expr-Cast Printed expr_step at t a)

pub as-Slice : (at : ℕ) (a : P4Expr) (s : P4Slice) (operand : Bool) → expr_as (expr.Slice at a s) operand ≡ wrapped operand (expr_as a true ++ slice_tokens s)
as-Slice at a s operand = ap (λ (f : Printed). f operand) (fold_expr-Slice Printed expr_step at a s)

pub as-Number : (at : ℕ) (n : P4Number) (operand : Bool) → expr_as (expr.Number at n) operand ≡ number n ∷ []
as-Number at n operand = ap (λ (f : Printed). f operand) (fold_expr-Number Printed expr_step at n)

pub as-True : (at : ℕ) (operand : Bool) → expr_as (expr.True at) operand ≡ the sign.True ∷ []
as-True at operand = ap (λ (f : Printed). f operand) (fold_expr-True Printed expr_step at)

pub as-False : (at : ℕ) (operand : Bool) → expr_as (expr.False at) operand ≡ the sign.False ∷ []
as-False at operand = ap (λ (f : Printed). f operand) (fold_expr-False Printed expr_step at)

pub as-IsValid : (at : ℕ) (p : P4Path) (operand : Bool) → expr_as (expr.IsValid at p) operand ≡ path_tokens p ++ (the sign.Dot ∷ lexeme.Name (codes "isValid") ∷ the sign.Open ∷ the sign.Close ∷ [])
as-IsValid at p operand = ap (λ (f : Printed). f operand) (fold_expr-IsValid Printed expr_step at p)

concat-map : (ss : List P4Stmt) → concat (map stmt_tokens ss) ≡ all stmt_tokens ss
concat-map [] = refl
concat-map (s ∷ ss) = ap (λ ts. stmt_tokens s ++ ts) (concat-map ss)

pub block-is : (b : P4Block) → block_tokens b ≡ the sign.OpenBrace ∷ (all stmt_tokens (out-P4Block b).stmts ++ (the sign.CloseBrace ∷ []))
block-is b = fold_block (List Lexeme) (List Lexeme) (List Lexeme) stmt_step block_step if_step b ∙ ap (λ ts. the sign.OpenBrace ∷ (ts ++ (the sign.CloseBrace ∷ []))) (concat-map (out-P4Block b).stmts)

pub if-is : (i : P4If) → if_tokens i ≡ the sign.If ∷ the sign.Open ∷ (cond_tokens (out-P4If i).cond ++ (the sign.Close ∷ (block_tokens (out-P4If i).then ++ else_tokens (option_map block_tokens (out-P4If i).else_))))
if-is i = fold_if (List Lexeme) (List Lexeme) (List Lexeme) stmt_step block_step if_step i
