-- Reading types, paths and expressions, with one token in hand.
use Rattle.std.specs.Prelude.{ℕ, zero, suc, Bool, List, [], ◌∷◌, Err, Option, Some, None, codes}
use Rattle.p4_lex.specs.declared.token.Sign.TheVariants as sign
use Rattle.p4_lex.specs.declared.token.Token.{Token}
use Rattle.p4_ast.specs.declared.name.P4Name.{P4Name}
use Rattle.p4_ast.specs.declared.name.P4Slice.{P4Slice}
use Rattle.p4_ast.specs.declared.declaration.P4Type.{P4Type}
use Rattle.p4_ast.specs.declared.declaration.P4Type.TheVariants as type
use Rattle.p4_ast.specs.declared.expression.P4BinaryOp.TheVariants as binary_op
use Rattle.p4_ast.specs.declared.expression.P4Expr.{P4Expr}
use Rattle.p4_grammar.specs.declared.mark.Mark.TheVariants as mark
use Rattle.p4_grammar.specs.declared.mark.Spelled.{Spelled}
use Rattle.p4_grammar.specs.Forms.{Reader, done_at, bind_at, taken_at, either_at, many_at, is_given, chain_at}
use Rattle.p4_grammar.specs.Tokens.{is, name, number, in_hand, one_of, is_name, words_at, called}
use Rattle.p4_grammar.specs.Values.{Env, cast_by, path_value, valid_value, number_value, true_value, false_value, parens_value, slice_value, cast_value, unary_value, binary, choice_value, named_type, this, compare_op, chain_op, sum_op, unary_op, begins_operand}

-- ---- types

unfoldable pub bit_type_at : Reader P4Type
bit_type_at = bind_at (taken_at (is sign.Bit)) λ at. words_at (sign.Less ∷ []) (bind_at (taken_at number) λ n. words_at (sign.More ∷ []) (done_at (type.Bit at n)))

unfoldable pub bool_type_at : Reader P4Type
bool_type_at = bind_at (taken_at (is sign.Bool)) λ at. done_at (type.Bool at)

unfoldable pub std_type_at : Reader P4Type
std_type_at = bind_at (taken_at (is sign.StdT)) λ at. done_at (type.StdT at)

-- a type that begins with a word
unfoldable pub word_type_at : Reader P4Type
word_type_at = either_at (in_hand sign.Bit) bit_type_at (either_at (in_hand sign.Bool) bool_type_at std_type_at)

unfoldable pub name_type_at : Reader P4Type
name_type_at = bind_at (taken_at name) λ x. done_at (named_type x)

abbrev pub word_type : Token → Bool
word_type = one_of (sign.Bit ∷ sign.Bool ∷ sign.StdT ∷ [])

unfoldable pub type_at : Reader P4Type
type_at = either_at word_type word_type_at name_type_at

-- ---- paths and slices

-- the names behind the first one
unfoldable pub names_at : ℕ → Reader (List P4Name)
names_at n = many_at n (in_hand sign.Dot) (words_at (sign.Dot ∷ []) (taken_at name))

unfoldable pub path_at : ℕ → Reader (List P4Name)
path_at n = bind_at (taken_at name) λ x. bind_at (names_at n) λ xs. done_at (x ∷ xs)

unfoldable pub slice_at : Reader P4Slice
slice_at = bind_at (taken_at (is sign.OpenSlice)) λ at. bind_at (taken_at number) λ high. words_at (sign.Colon ∷ []) (bind_at (taken_at number) λ low. words_at (sign.CloseSlice ∷ []) (done_at (record { at = at; high = high; low = low })))

-- a value, sliced or not
unfoldable pub sliced_at : Spelled → Reader Spelled
sliced_at x = either_at (in_hand sign.OpenSlice) (bind_at slice_at λ s. done_at (slice_value x s)) (done_at x)

-- ---- operands

-- what follows a path that ends in `isValid`, and other paths
unfoldable pub asked_at : List P4Name → Option (List P4Name) → Reader Spelled
asked_at names None = sliced_at (path_value names)
asked_at names (Some front) = either_at (in_hand sign.Open) (words_at (sign.Open ∷ sign.Close ∷ []) (sliced_at (valid_value front))) (sliced_at (path_value names))

-- an operand that begins with this name and these
unfoldable pub named_at : P4Name → List P4Name → Reader Spelled
named_at x xs = asked_at (x ∷ xs) (called (codes "isValid") x xs)

unfoldable pub plain_at : Reader Spelled
plain_at = either_at (in_hand sign.True) (bind_at (taken_at (is sign.True)) λ at. sliced_at (true_value at))
    (either_at (in_hand sign.False) (bind_at (taken_at (is sign.False)) λ at. sliced_at (false_value at))
    (bind_at (taken_at number) λ k. sliced_at (number_value k)))

-- what stands behind an expression in parentheses: the operand of a cast, where they hold a typedef's name
unfoldable pub parens_at : ℕ → Option P4Name → Reader Spelled → P4Expr → Reader Spelled
parens_at at None u e = sliced_at (parens_value at e mark.Plain)
parens_at at (Some x) u e = either_at begins_operand (bind_at u λ y. done_at (cast_value at (named_type x) y)) (sliced_at (parens_value at e mark.Bare))

-- behind `(` at this place, where a type begins with a word
unfoldable pub cast_at : ℕ → Reader Spelled → Reader Spelled
cast_at at u = bind_at word_type_at λ t. words_at (sign.Close ∷ []) (bind_at u λ y. done_at (cast_value at t y))

unfoldable pub closed_at : ℕ → Env → Reader Spelled → Spelled → Reader Spelled
closed_at at env u x = words_at (sign.Close ∷ []) (parens_at at (cast_by env x.mark) u x.expr)

unfoldable pub open_at : Env → Reader Spelled → Reader Spelled → Reader Spelled
open_at env u e = bind_at (taken_at (is sign.Open)) λ at. either_at word_type (cast_at at u) (bind_at e λ x. closed_at at env u x)

-- an operand, where u reads those within and e expressions
unfoldable pub unary_of_at : ℕ → Env → Reader Spelled → Reader Spelled → Reader Spelled
unary_of_at n env u e = either_at (λ a. is_given (unary_op a)) (bind_at (taken_at unary_op) λ o. bind_at u λ x. done_at (unary_value o.0 o.1 x))
    (either_at (in_hand sign.Open) (open_at env u e)
    (either_at is_name (bind_at (taken_at name) λ x. bind_at (names_at n) λ xs. named_at x xs) plain_at))

-- ---- levels of operators, behind the first operand x; u reads operands

unfoldable pub sum_rest_at : ℕ → Reader Spelled → Spelled → Reader Spelled
sum_rest_at n u x = chain_at n sum_op binary u x

unfoldable pub sum_at : ℕ → Reader Spelled → Reader Spelled
sum_at n u = bind_at u λ x. sum_rest_at n u x

-- the comparison of a sum with another
unfoldable pub compared_at : ℕ → Reader Spelled → Spelled → Reader Spelled
compared_at n u s = either_at (λ a. is_given (compare_op a)) (bind_at (taken_at compare_op) λ o. bind_at (sum_at n u) λ y. done_at (binary o s y)) (done_at s)

-- a chain of one operator throughout
unfoldable pub same_op_at : ℕ → Reader Spelled → Spelled → Reader Spelled
same_op_at n u x = bind_at (taken_at chain_op) λ o. bind_at u λ y. chain_at n (λ z. this o) binary u (binary o x y)

unfoldable pub compare_rest_at : ℕ → Reader Spelled → Spelled → Reader Spelled
compare_rest_at n u x = either_at (λ a. is_given (chain_op a)) (same_op_at n u x) (bind_at (sum_rest_at n u x) λ s. compared_at n u s)

unfoldable pub compare_at : ℕ → Reader Spelled → Reader Spelled
compare_at n u = bind_at u λ x. compare_rest_at n u x

unfoldable pub and_rest_at : ℕ → Reader Spelled → Spelled → Reader Spelled
and_rest_at n u x = bind_at (compare_rest_at n u x) λ y. chain_at n (λ z. this binary_op.And) binary (compare_at n u) y

unfoldable pub and_at : ℕ → Reader Spelled → Reader Spelled
and_at n u = bind_at u λ x. and_rest_at n u x

unfoldable pub or_rest_at : ℕ → Reader Spelled → Spelled → Reader Spelled
or_rest_at n u x = bind_at (and_rest_at n u x) λ y. chain_at n (λ z. this binary_op.Or) binary (and_at n u) y

unfoldable pub choice_at : Reader Spelled → Spelled → Reader Spelled
choice_at e x = either_at (in_hand sign.Ask) (words_at (sign.Ask ∷ []) (bind_at e λ y. words_at (sign.Colon ∷ []) (bind_at e λ z. done_at (choice_value x y z)))) (done_at x)

-- an expression behind its first operand
unfoldable pub expr_rest_at : ℕ → Reader Spelled → Reader Spelled → Spelled → Reader Spelled
expr_rest_at n u e x = bind_at (or_rest_at n u x) λ y. choice_at e y

unfoldable mutual
  pub unary_at : ℕ → Env → Reader Spelled
  unary_at zero env w = Err w
  unary_at (suc n) env w = unary_of_at n env (unary_at n env) (expr_at n env) w

  pub expr_at : ℕ → Env → Reader Spelled
  expr_at zero env w = Err w
  expr_at (suc n) env w = bind_at (unary_of_at n env (unary_at n env) (expr_at n env)) (λ x. expr_rest_at (suc n) (unary_of_at n env (unary_at n env) (expr_at n env)) (expr_at n env) x) w

-- what an expression may begin behind its first operand, with this much fuel
unfoldable pub behind_at : ℕ → Env → Spelled → Reader Spelled
behind_at zero env x w = Err w
behind_at (suc n) env x w = expr_rest_at (suc n) (unary_at (suc n) env) (expr_at n env) x w

-- ---- lists of expressions

unfoldable pub expression_at : ℕ → Env → Reader P4Expr
expression_at n env = bind_at (expr_at n env) λ x. done_at x.expr

-- the first and those behind commas
unfoldable pub expressions_at : ℕ → Env → Reader (List P4Expr)
expressions_at n env = bind_at (expression_at n env) λ x. bind_at (many_at n (in_hand sign.Comma) (words_at (sign.Comma ∷ []) (expression_at n env))) λ xs. done_at (x ∷ xs)

-- arguments in parentheses
unfoldable pub args_at : ℕ → Env → Reader (List P4Expr)
args_at n env = words_at (sign.Open ∷ []) (either_at (in_hand sign.Close) (words_at (sign.Close ∷ []) (done_at [])) (bind_at (expressions_at n env) λ xs. words_at (sign.Close ∷ []) (done_at xs)))
