-- The tokens of statements.
use Rattle.std.specs.Prelude.{ℕ, List, [], ◌∷◌, Option, Some, None, Bool, codes}
use Rattle.p4_lex.specs.declared.token.Sign.{Sign}
use Rattle.p4_lex.specs.declared.token.Sign.TheVariants as sign
use Rattle.p4_lex.specs.declared.token.Lexeme.{Lexeme}
use Rattle.p4_lex.specs.declared.token.Lexeme.TheVariants as lexeme
use Rattle.p4_ast.specs.declared.name.P4Name.{P4Name}
use Rattle.p4_ast.specs.declared.declaration.P4Type.{P4Type}
use Rattle.p4_ast.specs.declared.expression.P4Expr.{P4Expr}
use Rattle.p4_ast.specs.declared.control.P4Var.{P4Var}
use Rattle.p4_ast.specs.declared.statement.P4Assign.{P4Assign}
use Rattle.p4_ast.specs.declared.statement.P4Read.{P4Read}
use Rattle.p4_ast.specs.declared.statement.P4Write.{P4Write}
use Rattle.p4_ast.specs.declared.statement.P4Keystmt.{P4Keystmt}
use Rattle.p4_ast.specs.declared.statement.P4Valid.{P4Valid}
use Rattle.p4_ast.specs.declared.statement.P4Validity.{P4Validity}
use Rattle.p4_ast.specs.declared.statement.P4Validity.TheVariants as validity
use Rattle.p4_ast.specs.declared.statement.P4Apply.{P4Apply}
use Rattle.p4_ast.specs.declared.statement.P4Callstmt.{P4Callstmt}
use Rattle.p4_ast.specs.declared.statement.P4Cond.{P4Cond}
use Rattle.p4_ast.specs.declared.statement.P4Cond.TheVariants as cond
use Rattle.p4_ast.specs.declared.statement.P4Outcome.{P4Outcome}
use Rattle.p4_ast.specs.declared.statement.P4Outcome.TheVariants as outcome
use Rattle.p4_ast.specs.declared.statement.P4Stmt.{P4Stmt, fold-P4Stmt}
use Rattle.p4_ast.specs.declared.statement.P4Stmt.TheOpen as layer
use Rattle.p4_ast.specs.declared.statement.P4Stmt.TheOpen.{P4Stmt-F, P4Block-F, P4If-F}
use Rattle.p4_ast.specs.declared.statement.P4Block.{P4Block, fold-P4Block}
use Rattle.p4_ast.specs.declared.statement.P4If.{P4If, fold-P4If}
use Rattle.p4_print.specs.Shared.{◌+>◌, the, named, maybe, type_tokens, path_tokens, left_tokens}
use Rattle.p4_print.specs.Expressions.{expr_tokens, args_tokens, where_so}

-- a value behind a sign
abbrev pub behind_sign : Sign → P4Expr → List Lexeme
behind_sign s e = the s ∷ expr_tokens e

unfoldable pub var_tokens : P4Var → List Lexeme
var_tokens v = type_tokens v.type_ +> named v.name ∷ maybe (behind_sign sign.Assign) v.expr +> the sign.Semicolon ∷ []

unfoldable pub assign_tokens : P4Assign → List Lexeme
assign_tokens a = left_tokens a.left +> the sign.Assign ∷ expr_tokens a.expr +> the sign.Semicolon ∷ []

-- a type in parentheses
abbrev pub cast_tokens : P4Type → List Lexeme
cast_tokens t = the sign.Open ∷ type_tokens t +> the sign.Close ∷ []

unfoldable pub read_tokens : P4Read → List Lexeme
read_tokens r =
    left_tokens r.left +> the sign.Assign ∷ maybe cast_tokens r.type_ +> named r.name ∷ the sign.Dot ∷ lexeme.Name (codes "read") ∷ the sign.Open
    ∷ maybe expr_tokens r.expr +> the sign.Close ∷ the sign.Semicolon ∷ []

unfoldable pub write_tokens : P4Write → List Lexeme
write_tokens w =
    named w.name ∷ the sign.Dot ∷ lexeme.Name (codes "write") ∷ the sign.Open ∷ expr_tokens w.expr +> maybe (behind_sign sign.Comma) w.second
    +> the sign.Close ∷ the sign.Semicolon ∷ []

unfoldable pub keystmt_tokens : P4Keystmt → List Lexeme
keystmt_tokens k = the sign.FlowKey ∷ the sign.Open ∷ expr_tokens k.expr +> the sign.Close ∷ the sign.Semicolon ∷ []

abbrev pub validity_name : P4Validity → List ℕ
validity_name validity.SetValid = codes "setValid"
validity_name validity.SetInvalid = codes "setInvalid"

unfoldable pub valid_tokens : P4Valid → List Lexeme
valid_tokens v =
    path_tokens v.path +> the sign.Dot ∷ lexeme.Name (validity_name v.validity) ∷ the sign.Open ∷ the sign.Close ∷ the sign.Semicolon ∷ []

unfoldable pub apply_tokens : P4Apply → List Lexeme
apply_tokens a = named a.name ∷ the sign.Dot ∷ the sign.Apply ∷ the sign.Open ∷ the sign.Close ∷ the sign.Semicolon ∷ []

unfoldable pub callstmt_tokens : P4Callstmt → List Lexeme
callstmt_tokens c = named c.name ∷ args_tokens c.args +> the sign.Semicolon ∷ []

abbrev pub outcome_name : P4Outcome → List ℕ
outcome_name outcome.Hit = codes "hit"
outcome_name outcome.Miss = codes "miss"

-- the application of a table, and the outcome that is asked for
unfoldable pub applied_tokens : Bool → P4Name → P4Outcome → List Lexeme
applied_tokens negated name outcome =
    where_so negated sign.Not +> named name ∷ the sign.Dot ∷ the sign.Apply ∷ the sign.Open ∷ the sign.Close ∷ the sign.Dot
    ∷ lexeme.Name (outcome_name outcome) ∷ []

unfoldable pub cond_tokens : P4Cond → List Lexeme
cond_tokens (cond.Expr e) = expr_tokens e
cond_tokens (cond.Apply at negated name outcome) = applied_tokens negated name outcome

-- the tokens of one level, where those of its parts are given
abbrev pub stmt_step : P4Stmt-F (List Lexeme) (List Lexeme) (List Lexeme) → List Lexeme
stmt_step (layer.Block b) = b
stmt_step (layer.Var v) = var_tokens v
stmt_step (layer.Assign a) = assign_tokens a
stmt_step (layer.Read r) = read_tokens r
stmt_step (layer.Write w) = write_tokens w
stmt_step (layer.Keystmt k) = keystmt_tokens k
stmt_step (layer.Valid v) = valid_tokens v
stmt_step (layer.Apply a) = apply_tokens a
stmt_step (layer.Callstmt c) = callstmt_tokens c
stmt_step (layer.If i) = i

abbrev pub concat : List (List Lexeme) → List Lexeme
concat [] = []
concat (ts ∷ rest) = ts +> concat rest

abbrev pub block_step : P4Block-F (List Lexeme) (List Lexeme) (List Lexeme) → List Lexeme
block_step b = the sign.OpenBrace ∷ concat b.stmts +> the sign.CloseBrace ∷ []

abbrev pub else_tokens : Option (List Lexeme) → List Lexeme
else_tokens None = []
else_tokens (Some block) = the sign.Else ∷ block

abbrev pub if_step : P4If-F (List Lexeme) (List Lexeme) (List Lexeme) → List Lexeme
if_step i = the sign.If ∷ the sign.Open ∷ cond_tokens i.cond +> the sign.Close ∷ i.then +> else_tokens i.else_

abbrev pub stmt_tokens : P4Stmt → List Lexeme
stmt_tokens = fold-P4Stmt (List Lexeme) (List Lexeme) (List Lexeme) stmt_step block_step if_step

abbrev pub block_tokens : P4Block → List Lexeme
block_tokens = fold-P4Block (List Lexeme) (List Lexeme) (List Lexeme) stmt_step block_step if_step

abbrev pub if_tokens : P4If → List Lexeme
if_tokens = fold-P4If (List Lexeme) (List Lexeme) (List Lexeme) stmt_step block_step if_step
