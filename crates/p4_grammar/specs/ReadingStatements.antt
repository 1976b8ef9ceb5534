-- Reading statements, with one token in hand.
use Rattle.std.specs.Prelude.{ℕ, zero, suc, Bool, true, false, List, [], ◌∷◌, Err, Option, Some, None, codes}
use Rattle.p4_lex.specs.declared.token.Sign.TheVariants as sign
use Rattle.p4_ast.specs.declared.name.P4Name.{P4Name}
use Rattle.p4_ast.specs.declared.name.P4Slice.{P4Slice}
use Rattle.p4_ast.specs.declared.name.P4Left.{P4Left}
use Rattle.p4_ast.specs.declared.declaration.P4Type.{P4Type}
use Rattle.p4_ast.specs.declared.expression.P4UnaryOp.TheVariants as op
use Rattle.p4_ast.specs.declared.control.P4Var.{P4Var}
use Rattle.p4_ast.specs.declared.statement.P4Block.{P4Block}
use Rattle.p4_ast.specs.declared.statement.P4Cond.{P4Cond}
use Rattle.p4_ast.specs.declared.statement.P4Cond.TheVariants as condition
use Rattle.p4_ast.specs.declared.statement.P4Outcome.{P4Outcome}
use Rattle.p4_ast.specs.declared.statement.P4Outcome.TheVariants as outcome
use Rattle.p4_ast.specs.declared.statement.P4Validity.{P4Validity}
use Rattle.p4_ast.specs.declared.statement.P4Validity.TheVariants as validity
use Rattle.p4_grammar.specs.declared.mark.Mark.{Mark}
use Rattle.p4_grammar.specs.declared.mark.Mark.TheVariants as mark
use Rattle.p4_grammar.specs.declared.mark.Piece.{Piece}
use Rattle.p4_grammar.specs.declared.mark.Piece.TheVariants as piece
use Rattle.p4_grammar.specs.declared.mark.Spelled.{Spelled}
use Rattle.p4_grammar.specs.Forms.{Reader, done_at, bind_at, taken_at, either_at, many_at, is_given}
use Rattle.p4_grammar.specs.Tokens.{is, name, the_name, in_hand, but, is_name, words_at, called}
use Rattle.p4_grammar.specs.Values.{Env, unary_value, named_type, type_place}
pub use Rattle.p4_grammar.specs.Trees.{kept_all, block_of, is_open, if_piece, if_else_piece, left_of, assign_piece, read_piece, write_piece, valid_piece, apply_piece, call_piece, key_piece, alone, var_piece}
use Rattle.p4_grammar.specs.ReadingExpressions.{word_type, word_type_at, names_at, slice_at, named_at, unary_at, expr_at, behind_at, expression_at, args_at}

-- ---- conditions

unfoldable pub outcome_at : Reader P4Outcome
outcome_at = either_at (λ a. is_given (the_name (codes "hit") a)) (bind_at (taken_at (the_name (codes "hit"))) λ at. done_at outcome.Hit) (bind_at (taken_at (the_name (codes "miss"))) λ at. done_at outcome.Miss)

-- behind the name of a table and a dot
unfoldable pub applied_at : ℕ → Bool → P4Name → Reader P4Cond
applied_at at negated x = words_at (sign.Apply ∷ sign.Open ∷ sign.Close ∷ sign.Dot ∷ []) (bind_at outcome_at λ o. done_at (condition.Apply at negated x o))

-- an operand, with `!` before it where that stands at this place
abbrev pub negated_value : Option ℕ → Spelled → Spelled
negated_value None x = x
negated_value (Some at) x = unary_value op.Not at x

-- an expression, behind its first operand x but for a `!`
unfoldable pub cond_rest_at : ℕ → Env → Option ℕ → Spelled → Reader P4Cond
cond_rest_at n env o x = bind_at (behind_at n env (negated_value o x)) λ e. done_at (condition.Expr e.expr)

abbrev pub is_some : {A : Type 0} → Option A → Bool
is_some None = false
is_some (Some x) = true

abbrev pub place_or : ℕ → Option ℕ → ℕ
place_or at None = at
place_or at (Some other) = other

-- behind a name that may be that of a table, with `!` before it or not
unfoldable pub cond_named_at : ℕ → Env → Option ℕ → P4Name → Reader P4Cond
cond_named_at n env o x = either_at (in_hand sign.Dot)
    (words_at (sign.Dot ∷ []) (either_at (in_hand sign.Apply) (applied_at (place_or x.at o) (is_some o) x)
    (bind_at (taken_at name) λ y. bind_at (names_at n) λ ys. bind_at (named_at x (y ∷ ys)) λ v. cond_rest_at n env o v)))
    (bind_at (named_at x []) λ v. cond_rest_at n env o v)

unfoldable pub cond_at : ℕ → Env → Reader P4Cond
cond_at n env = either_at (in_hand sign.Not)
    (bind_at (taken_at (is sign.Not)) λ at. either_at is_name (bind_at (taken_at name) λ x. cond_named_at n env (Some at) x) (bind_at (unary_at n env) λ v. cond_rest_at n env (Some at) v))
    (either_at is_name (bind_at (taken_at name) λ x. cond_named_at n env None x) (bind_at (expr_at n env) λ e. done_at (condition.Expr e.expr)))

-- ---- variables

-- behind the type and the name
unfoldable pub var_rest_at : ℕ → Env → ℕ → P4Type → P4Name → Reader P4Var
var_rest_at n env at t x = either_at (in_hand sign.Assign)
    (words_at (sign.Assign ∷ []) (bind_at (expression_at n env) λ e. words_at (sign.Semicolon ∷ []) (done_at (record { at = at; type_ = t; name = x; expr = Some e }))))
    (words_at (sign.Semicolon ∷ []) (done_at (record { at = at; type_ = t; name = x; expr = None })))

-- a variable
unfoldable pub var_at : ℕ → Env → Reader P4Type → Reader P4Var
var_at n env p = bind_at p λ t. bind_at (taken_at name) λ x. var_rest_at n env (type_place t) t x

-- ---- assignments, reads, writes

unfoldable pub read_rest_at : ℕ → Env → P4Left → Option P4Type → P4Name → Reader Piece
read_rest_at n env left t c = words_at (sign.Open ∷ []) (either_at (in_hand sign.Close)
    (words_at (sign.Close ∷ sign.Semicolon ∷ []) (done_at (read_piece left t c None)))
    (bind_at (expression_at n env) λ e. words_at (sign.Close ∷ sign.Semicolon ∷ []) (done_at (read_piece left t c (Some e)))))

unfoldable pub assigned_at : P4Left → Spelled → Reader Piece
assigned_at left x = words_at (sign.Semicolon ∷ []) (done_at (assign_piece left x))

-- behind the expression: only `c.read`, cast or not, may be read instead
unfoldable pub assign_end_at : ℕ → Env → P4Left → Spelled → Mark → Reader Piece
assign_end_at n env left x (mark.Read c) = either_at (in_hand sign.Open) (read_rest_at n env left None c) (assigned_at left x)
assign_end_at n env left x (mark.CastRead t c) = either_at (in_hand sign.Open) (read_rest_at n env left (Some t) c) (assigned_at left x)
assign_end_at n env left x (mark.One y) = assigned_at left x
assign_end_at n env left x mark.Bare = assigned_at left x
assign_end_at n env left x mark.Plain = assigned_at left x

-- a slice, or none
unfoldable pub slice_or_none_at : Reader (Option P4Slice)
slice_or_none_at = either_at (in_hand sign.OpenSlice) (bind_at slice_at λ s. done_at (Some s)) (done_at None)

-- behind the path of the left side
unfoldable pub assign_at : ℕ → Env → List P4Name → Reader Piece
assign_at n env names = bind_at slice_or_none_at λ s. words_at (sign.Assign ∷ []) (bind_at (expr_at n env) λ x. assign_end_at n env (left_of names s) x x.mark)

unfoldable pub write_rest_at : ℕ → Env → P4Name → Reader Piece
write_rest_at n env c = words_at (sign.Open ∷ []) (bind_at (expression_at n env) λ x. either_at (in_hand sign.Comma)
    (words_at (sign.Comma ∷ []) (bind_at (expression_at n env) λ y. words_at (sign.Close ∷ sign.Semicolon ∷ []) (done_at (write_piece c x (Some y)))))
    (words_at (sign.Close ∷ sign.Semicolon ∷ []) (done_at (write_piece c x None))))

unfoldable pub valid_rest_at : List P4Name → P4Validity → Reader Piece
valid_rest_at names v = words_at (sign.Open ∷ sign.Close ∷ sign.Semicolon ∷ []) (done_at (valid_piece names v))

-- a call by the path's last name where `(` stands behind it, and else an assignment
unfoldable pub or_valid_at : P4Validity → Option (List P4Name) → Reader Piece → Reader Piece
or_valid_at v None p = p
or_valid_at v (Some front) p = either_at (in_hand sign.Open) (valid_rest_at front v) p

unfoldable pub or_write_at : ℕ → Env → Option P4Name → Reader Piece → Reader Piece
or_write_at n env None p = p
or_write_at n env (Some c) p = either_at (in_hand sign.Open) (write_rest_at n env c) p

-- behind a path of the name x and these
unfoldable pub path_led_at : ℕ → Env → P4Name → List P4Name → Reader Piece
path_led_at n env x xs = or_write_at n env (alone (called (codes "write") x xs)) (or_valid_at validity.SetValid (called (codes "setValid") x xs) (or_valid_at validity.SetInvalid (called (codes "setInvalid") x xs) (assign_at n env (x ∷ xs))))

-- behind a name
unfoldable pub name_led_at : ℕ → Env → P4Name → Reader Piece
name_led_at n env x = either_at is_name (bind_at (taken_at name) λ y. bind_at (var_rest_at n env x.at (named_type x) y) λ v. done_at (var_piece v))
    (either_at (in_hand sign.Open) (bind_at (args_at n env) λ args. words_at (sign.Semicolon ∷ []) (done_at (call_piece x args)))
    (either_at (in_hand sign.Dot) (words_at (sign.Dot ∷ []) (either_at (in_hand sign.Apply)
    (words_at (sign.Apply ∷ sign.Open ∷ sign.Close ∷ sign.Semicolon ∷ []) (done_at (apply_piece x)))
    (bind_at (taken_at name) λ y. bind_at (names_at n) λ ys. path_led_at n env x (y ∷ ys))))
    (path_led_at n env x [])))

unfoldable pub key_at : ℕ → Env → Reader Piece
key_at n env = bind_at (taken_at (is sign.FlowKey)) λ at. words_at (sign.Open ∷ []) (bind_at (expression_at n env) λ x. words_at (sign.Close ∷ sign.Semicolon ∷ []) (done_at (key_piece at x)))

-- ---- blocks and branches

-- a block of the statements that p reads
unfoldable pub block_of_at : ℕ → Reader Piece → Reader P4Block
block_of_at n p = bind_at (taken_at (is sign.OpenBrace)) λ at. bind_at (many_at n (but sign.CloseBrace) p) λ ps. words_at (sign.CloseBrace ∷ []) (done_at (block_of at (kept_all ps)))

-- `else` belongs to the nearest `if`
unfoldable pub else_at : ℕ → P4Cond → Reader Piece → Piece → Bool → Reader Piece
else_at at c p s true = done_at (if_piece at c s)
else_at at c p s false = either_at (in_hand sign.Else) (words_at (sign.Else ∷ []) (bind_at p λ r. done_at (if_else_piece at c s r))) (done_at (if_piece at c s))

unfoldable pub if_at : ℕ → Env → Reader Piece → Reader Piece
if_at n env p = bind_at (taken_at (is sign.If)) λ at. words_at (sign.Open ∷ []) (bind_at (cond_at n env) λ c. words_at (sign.Close ∷ []) (bind_at p λ s. else_at at c p s (is_open s)))

-- a statement; p reads those within, with n tokens of fuel
unfoldable pub stmt_of_at : ℕ → Env → Reader Piece → Reader Piece
stmt_of_at n env p = either_at (in_hand sign.Semicolon) (bind_at (taken_at (is sign.Semicolon)) λ at. done_at (piece.Empty at))
    (either_at (in_hand sign.OpenBrace) (bind_at (block_of_at n p) λ b. done_at (piece.Block b))
    (either_at (in_hand sign.If) (if_at n env p)
    (either_at (in_hand sign.FlowKey) (key_at n env)
    (either_at word_type (bind_at (var_at n env word_type_at) λ v. done_at (var_piece v))
    (bind_at (taken_at name) λ x. name_led_at n env x)))))

unfoldable pub stmt_at : ℕ → Env → Reader Piece
stmt_at zero env w = Err w
stmt_at (suc n) env w = stmt_of_at n env (stmt_at n env) w

unfoldable pub block_at : ℕ → Env → Reader P4Block
block_at n env = block_of_at n (stmt_at n env)
