-- The grammar of statements.
use Rattle.std.specs.Prelude.{ℕ, zero, suc, Bool, true, false, [], ◌∷◌, Option, Some, None, codes}
use Rattle.p4_lex.specs.declared.token.Sign.TheVariants as sign
use Rattle.p4_ast.specs.declared.name.P4Slice.{P4Slice}
use Rattle.p4_ast.specs.declared.name.P4Left.{P4Left}
use Rattle.p4_ast.specs.declared.declaration.P4Type.{P4Type}
use Rattle.p4_ast.specs.declared.expression.P4Expr.{P4Expr}
use Rattle.p4_ast.specs.declared.control.P4Var.{P4Var}
use Rattle.p4_ast.specs.declared.statement.P4Block.{P4Block}
use Rattle.p4_ast.specs.declared.statement.P4Cond.{P4Cond}
use Rattle.p4_ast.specs.declared.statement.P4Cond.TheVariants as condition
use Rattle.p4_ast.specs.declared.statement.P4Outcome.{P4Outcome}
use Rattle.p4_ast.specs.declared.statement.P4Outcome.TheVariants as outcome
use Rattle.p4_ast.specs.declared.statement.P4Validity.TheVariants as validity
use Rattle.p4_grammar.specs.declared.mark.Piece.{Piece}
use Rattle.p4_grammar.specs.declared.mark.Piece.TheVariants as piece
use Rattle.p4_grammar.specs.Forms.{Lang, none, only, bind, either, taken, many, Spells}
use Rattle.p4_grammar.specs.Tokens.{is, name, the_name, words}
use Rattle.p4_grammar.specs.Values.{Env, type_place}
use Rattle.p4_grammar.specs.Trees.{kept_all, block_of, is_open, if_piece, if_else_piece, left_of, assign_piece, read_piece, write_piece, valid_piece, apply_piece, call_piece, key_piece, var_piece}
use Rattle.p4_grammar.specs.GrammarExpressions.{type_, path, slice, called_path, cast_front, expr, expression, args}

-- "hit" | "miss"
unfoldable pub outcome_ : Lang P4Outcome
outcome_ = either (bind (taken (the_name (codes "hit"))) λ at. only outcome.Hit) (bind (taken (the_name (codes "miss"))) λ at. only outcome.Miss)

-- name "." "apply" "(" ")" "." ( "hit" | "miss" )
unfoldable pub table_cond : Lang P4Cond
table_cond = bind (taken name) λ x. words (sign.Dot ∷ sign.Apply ∷ sign.Open ∷ sign.Close ∷ sign.Dot ∷ []) (bind outcome_ λ o. only (condition.Apply x.at false x o))

-- "!" name "." "apply" "(" ")" "." ( "hit" | "miss" )
unfoldable pub not_table_cond : Lang P4Cond
not_table_cond = bind (taken (is sign.Not)) λ at. bind (taken name) λ x. words (sign.Dot ∷ sign.Apply ∷ sign.Open ∷ sign.Close ∷ sign.Dot ∷ []) (bind outcome_ λ o. only (condition.Apply at true x o))

-- cond = expr | [ "!" ] name "." "apply" "(" ")" "." ( "hit" | "miss" )
unfoldable pub cond_ : Env → Lang P4Cond
cond_ env = either (bind (expr env) λ e. only (condition.Expr e.expr)) (either table_cond not_table_cond)

-- var = type name [ "=" expr ] ";"
unfoldable pub var : Env → Lang P4Var
var env = bind type_ λ t. bind (taken name) λ x. either
    (words (sign.Assign ∷ []) (bind (expression env) λ e. words (sign.Semicolon ∷ []) (only (record { at = type_place t; type_ = t; name = x; expr = Some e }))))
    (words (sign.Semicolon ∷ []) (only (record { at = type_place t; type_ = t; name = x; expr = None })))

-- [ slice ]
unfoldable pub slice_or_none : Lang (Option P4Slice)
slice_or_none = either (bind slice λ s. only (Some s)) (only None)

-- left = path [ slice ]
unfoldable pub left : Lang P4Left
left = bind path λ p. bind slice_or_none λ s. only (left_of p s)

-- assign = left "=" expr ";"
unfoldable pub assign : Env → Lang Piece
assign env = bind left λ l. words (sign.Assign ∷ []) (bind (expr env) λ x. words (sign.Semicolon ∷ []) (only (assign_piece l x)))

-- [ "(" type ")" ]
unfoldable pub cast_or_none : Env → Lang (Option P4Type)
cast_or_none env = either (bind (cast_front env) λ c. only (Some c.1)) (only None)

-- "(" [ expr ] ")" ";" behind the front of a read
unfoldable pub index : Env → Lang (Option P4Expr)
index env = words (sign.Open ∷ []) (either (words (sign.Close ∷ sign.Semicolon ∷ []) (only None)) (bind (expression env) λ e. words (sign.Close ∷ sign.Semicolon ∷ []) (only (Some e))))

-- read = left "=" [ "(" type ")" ] name "." "read" "(" [ expr ] ")" ";"
unfoldable pub read : Env → Lang Piece
read env = bind left λ l. words (sign.Assign ∷ []) (bind (cast_or_none env) λ t. bind (taken name) λ c. words (sign.Dot ∷ []) (bind (taken (the_name (codes "read"))) λ at. bind (index env) λ i. only (read_piece l t c i)))

-- write = name "." "write" "(" expr [ "," expr ] ")" ";"
unfoldable pub write : Env → Lang Piece
write env = bind (taken name) λ c. words (sign.Dot ∷ []) (bind (taken (the_name (codes "write"))) λ at. words (sign.Open ∷ []) (bind (expression env) λ x. either
    (words (sign.Comma ∷ []) (bind (expression env) λ y. words (sign.Close ∷ sign.Semicolon ∷ []) (only (write_piece c x (Some y)))))
    (words (sign.Close ∷ sign.Semicolon ∷ []) (only (write_piece c x None)))))

-- keystmt = "flow_key" "(" expr ")" ";"
unfoldable pub keystmt : Env → Lang Piece
keystmt env = bind (taken (is sign.FlowKey)) λ at. words (sign.Open ∷ []) (bind (expression env) λ x. words (sign.Close ∷ sign.Semicolon ∷ []) (only (key_piece at x)))

-- valid = path "." ( "setValid" | "setInvalid" ) "(" ")" ";"
unfoldable pub valid : Lang Piece
valid = either (bind (called_path (codes "setValid")) λ p. words (sign.Semicolon ∷ []) (only (valid_piece p validity.SetValid)))
    (bind (called_path (codes "setInvalid")) λ p. words (sign.Semicolon ∷ []) (only (valid_piece p validity.SetInvalid)))

-- apply = name "." "apply" "(" ")" ";"
unfoldable pub apply : Lang Piece
apply = bind (taken name) λ x. words (sign.Dot ∷ sign.Apply ∷ sign.Open ∷ sign.Close ∷ sign.Semicolon ∷ []) (only (apply_piece x))

-- callstmt = name "(" [ expr { "," expr } ] ")" ";"
unfoldable pub callstmt : Env → Lang Piece
callstmt env = bind (taken name) λ x. bind (args env) λ xs. words (sign.Semicolon ∷ []) (only (call_piece x xs))

-- block = "{" { stmt } "}"
unfoldable pub block_of_stmts : Lang Piece → Lang P4Block
block_of_stmts S = bind (taken (is sign.OpenBrace)) λ at. bind (many S) λ ps. words (sign.CloseBrace ∷ []) (only (block_of at (kept_all ps)))

-- [ "else" stmt ], which belongs to the nearest "if": so none follows a branch that is open
unfoldable pub else_ : ℕ → P4Cond → Lang Piece → Piece → Bool → Lang Piece
else_ at c S s true = only (if_piece at c s)
else_ at c S s false = either (words (sign.Else ∷ []) (bind S λ r. only (if_else_piece at c s r))) (only (if_piece at c s))

-- if = "if" "(" cond ")" stmt [ "else" stmt ]
unfoldable pub if_ : Env → Lang Piece → Lang Piece
if_ env S = bind (taken (is sign.If)) λ at. words (sign.Open ∷ []) (bind (cond_ env) λ c. words (sign.Close ∷ []) (bind S λ s. else_ at c S s (is_open s)))

-- stmt = ";" | block | var | assign | read | write | keystmt | valid | apply | callstmt | if
unfoldable pub stmt_of : Env → Lang Piece → Lang Piece
stmt_of env S = either (bind (taken (is sign.Semicolon)) λ at. only (piece.Empty at))
    (either (bind (block_of_stmts S) λ b. only (piece.Block b))
    (either (bind (var env) λ v. only (var_piece v))
    (either (assign env)
    (either (read env)
    (either (write env)
    (either (keystmt env)
    (either valid
    (either apply
    (either (callstmt env)
    (if_ env S))))))))))

unfoldable pub stmts : ℕ → Env → Lang Piece
stmts zero env = none
stmts (suc k) env = stmt_of env (stmts k env)

-- a statement, of any height
abbrev pub stmt : Env → Lang Piece
stmt env = Spells (λ k. stmts k env)

-- block = "{" { stmt } "}"
unfoldable pub block : Env → Lang P4Block
block env = block_of_stmts (stmt env)
