-- The grammar of types, paths and expressions. A production is the language of its trees; k bounds the height of a derivation.
use Rattle.std.specs.Prelude.{ℕ, zero, suc, Bool, true, cond, List, [], ◌∷◌, codes}
use Rattle.p4_lex.specs.declared.token.Sign.TheVariants as sign
use Rattle.p4_ast.specs.declared.name.P4Name.{P4Name}
use Rattle.p4_ast.specs.declared.name.P4Slice.{P4Slice}
use Rattle.p4_ast.specs.declared.declaration.P4Type.{P4Type}
use Rattle.p4_ast.specs.declared.declaration.P4Type.TheVariants as type
use Rattle.p4_ast.specs.declared.expression.P4BinaryOp.TheVariants as binary_op
use Rattle.p4_ast.specs.declared.expression.P4Expr.{P4Expr}
use Rattle.p4_grammar.specs.declared.mark.Spelled.{Spelled}
use Rattle.p4_grammar.specs.Forms.{Lang, none, only, bind, either, taken, many, chain, Spells}
use Rattle.p4_grammar.specs.Tokens.{is, name, number, the_name, words}
use Rattle.p4_grammar.specs.Values.{Env, has, of_parens, path_value, valid_value, number_value, true_value, false_value, parens_value, slice_value, cast_value, unary_value, binary, choice_value, named_type, this, compare_op, chain_op, sum_op, unary_op}

-- ---- types

unfoldable pub bit_type : Lang P4Type
bit_type = bind (taken (is sign.Bit)) λ at. words (sign.Less ∷ []) (bind (taken number) λ n. words (sign.More ∷ []) (only (type.Bit at n)))

unfoldable pub bool_type : Lang P4Type
bool_type = bind (taken (is sign.Bool)) λ at. only (type.Bool at)

unfoldable pub std_type : Lang P4Type
std_type = bind (taken (is sign.StdT)) λ at. only (type.StdT at)

-- "bit" "<" number ">" | "bool" | "std_t"
unfoldable pub word_type : Lang P4Type
word_type = either bit_type (either bool_type std_type)

unfoldable pub name_type : Lang P4Type
name_type = bind (taken name) λ x. only (named_type x)

-- type = "bit" "<" number ">" | "bool" | name | "std_t"
unfoldable pub type_ : Lang P4Type
type_ = either word_type name_type

-- ---- paths and slices

-- { "." name }
unfoldable pub names : Lang (List P4Name)
names = many (words (sign.Dot ∷ []) (taken name))

-- path = name { "." name }
unfoldable pub path : Lang (List P4Name)
path = bind (taken name) λ x. bind names λ xs. only (x ∷ xs)

-- slice = "[" number ":" number "]"
unfoldable pub slice : Lang P4Slice
slice = bind (taken (is sign.OpenSlice)) λ at. bind (taken number) λ high. words (sign.Colon ∷ []) (bind (taken number) λ low. words (sign.CloseSlice ∷ []) (only (record { at = at; high = high; low = low })))

-- [ slice ] behind a primary
unfoldable pub sliced : Spelled → Lang Spelled
sliced x = either (bind slice λ s. only (slice_value x s)) (only x)

-- path "." name "(" ")", where the last name has this text
unfoldable pub called_path : List ℕ → Lang (List P4Name)
called_path text = bind path λ p. words (sign.Dot ∷ []) (bind (taken (the_name text)) λ at. words (sign.Open ∷ sign.Close ∷ []) (only p))

-- ---- expressions

-- primary = number | "true" | "false" | path | path "." "isValid" "(" ")" | "(" expr ")"
unfoldable pub primary : Env → Lang Spelled → Lang Spelled
primary env E = either (bind (taken number) λ n. only (number_value n))
    (either (bind (taken (is sign.True)) λ at. only (true_value at))
    (either (bind (taken (is sign.False)) λ at. only (false_value at))
    (either (bind path λ p. only (path_value p))
    (either (bind (called_path (codes "isValid")) λ p. only (valid_value p))
    (bind (taken (is sign.Open)) λ at. bind E λ x. words (sign.Close ∷ []) (only (parens_value at x.expr (of_parens env x.mark))))))))

-- whether a type in parentheses makes a cast: a name only where it is a typedef declared before
abbrev pub casts : Env → P4Type → Bool
casts env (type.Bit at n) = true
casts env (type.Bool at) = true
casts env (type.Name at x) = has env x.text
casts env (type.StdT at) = true

-- "(" type ")"
unfoldable pub cast_front : Env → Lang (ℕ × P4Type)
cast_front env = bind (taken (is sign.Open)) λ at. bind type_ λ t. cond (casts env t) (words (sign.Close ∷ []) (only (at, t))) none

-- unary = ( "!" | "~" | "-" ) unary | "(" type ")" unary | primary [ slice ]
unfoldable pub unary_of : Env → Lang Spelled → Lang Spelled → Lang Spelled
unary_of env U E = either (bind (taken unary_op) λ o. bind U λ x. only (unary_value o.0 o.1 x))
    (either (bind (cast_front env) λ c. bind U λ x. only (cast_value c.0 c.1 x))
    (bind (primary env E) sliced))

-- sum = unary { ( "+" | "-" ) unary }
unfoldable pub sum_of : ℕ → Lang Spelled → Lang Spelled
sum_of k U = bind U λ x. chain k sum_op binary U x

-- chain = unary op unary { op unary }, the same op throughout
unfoldable pub chain_of : ℕ → Lang Spelled → Lang Spelled
chain_of k U = bind U λ x. bind (taken chain_op) λ o. bind U λ y. chain k (λ z. this o) binary U (binary o x y)

-- compare = sum [ ( "==" | "!=" | "<" | "<=" | ">" | ">=" ) sum ] | chain
unfoldable pub compare_of : ℕ → Lang Spelled → Lang Spelled
compare_of k U = either (bind (sum_of k U) λ x. either (bind (taken compare_op) λ o. bind (sum_of k U) λ y. only (binary o x y)) (only x)) (chain_of k U)

-- and = compare { "&&" compare }
unfoldable pub and_of : ℕ → Lang Spelled → Lang Spelled
and_of k U = bind (compare_of k U) λ x. chain k (λ z. this binary_op.And) binary (compare_of k U) x

-- or = and { "||" and }
unfoldable pub or_of : ℕ → Lang Spelled → Lang Spelled
or_of k U = bind (and_of k U) λ x. chain k (λ z. this binary_op.Or) binary (and_of k U) x

-- expr = or [ "?" expr ":" expr ]
unfoldable pub choice_of : Lang Spelled → Lang Spelled → Lang Spelled
choice_of E O = bind O λ x. either (words (sign.Ask ∷ []) (bind E λ y. words (sign.Colon ∷ []) (bind E λ z. only (choice_value x y z)))) (only x)

unfoldable mutual
  pub unary : ℕ → Env → Lang Spelled
  unary zero env = none
  unary (suc k) env = unary_of env (unary k env) (expr_ k env)

  pub expr_ : ℕ → Env → Lang Spelled
  expr_ zero env = none
  expr_ (suc k) env = choice_of (expr_ k env) (or_of (suc k) (unary_of env (unary k env) (expr_ k env)))

-- an expression, of any height
abbrev pub expr : Env → Lang Spelled
expr env = Spells (λ k. expr_ k env)

-- an expression as a tree alone
unfoldable pub expression : Env → Lang P4Expr
expression env = bind (expr env) λ x. only x.expr

-- expr { "," expr }
unfoldable pub expressions : Env → Lang (List P4Expr)
expressions env = bind (expression env) λ x. bind (many (words (sign.Comma ∷ []) (expression env))) λ xs. only (x ∷ xs)

-- "(" [ expr { "," expr } ] ")"
unfoldable pub args : Env → Lang (List P4Expr)
args env = words (sign.Open ∷ []) (either (words (sign.Close ∷ []) (only [])) (bind (expressions env) λ xs. words (sign.Close ∷ []) (only xs)))
