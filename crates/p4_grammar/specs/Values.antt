-- What expressions are made of: operators, and values with the mark of their spelling.
use Rattle.std.specs.Prelude.{ℕ, Bool, true, false, cond, List, [], ◌∷◌, map, Result, Ok, Err, Option, Some, None, codes}
use Rattle.std.specs.List.{list_any}
use Rattle.std.specs.Str.{bytes_eq}
use Rattle.std.specs.Ordering.{nat_cmp}
use Rattle.std.specs.Cmp.Lexicographic.{slice_cmp}
use Rattle.std.specs.BTreeSet.{insert_key}
use Rattle.p4_lex.specs.declared.token.Sign.{Sign}
use Rattle.p4_lex.specs.declared.token.Sign.TheVariants as sign
use Rattle.p4_lex.specs.declared.token.Lexeme.{Lexeme}
use Rattle.p4_lex.specs.declared.token.Lexeme.TheVariants as lexeme
use Rattle.p4_lex.specs.declared.token.Token.{Token}
use Rattle.p4_ast.specs.declared.name.P4Name.{P4Name}
use Rattle.p4_ast.specs.declared.name.P4Number.{P4Number}
use Rattle.p4_ast.specs.declared.name.P4Path.{P4Path}
use Rattle.p4_ast.specs.declared.name.P4Slice.{P4Slice}
use Rattle.p4_ast.specs.declared.declaration.P4Type.{P4Type}
use Rattle.p4_ast.specs.declared.declaration.P4Type.TheVariants as type
use Rattle.p4_ast.specs.declared.declaration.P4Declaration.{P4Declaration}
use Rattle.p4_ast.specs.declared.declaration.P4Declaration.TheVariants as declaration
use Rattle.p4_ast.specs.declared.expression.P4BinaryOp.{P4BinaryOp}
use Rattle.p4_ast.specs.declared.expression.P4BinaryOp.TheVariants as binary_op
use Rattle.p4_ast.specs.declared.expression.P4UnaryOp.{P4UnaryOp}
use Rattle.p4_ast.specs.declared.expression.P4UnaryOp.TheVariants as op
use Rattle.p4_ast.specs.declared.expression.P4Expr.{P4Expr}
use Rattle.p4_ast.specs.declared.expression.P4Expr.TheVariants as expr
use Rattle.p4_grammar.specs.declared.mark.Mark.{Mark}
use Rattle.p4_grammar.specs.declared.mark.Mark.TheVariants as mark
use Rattle.p4_grammar.specs.declared.mark.Spelled.{Spelled}
use Rattle.p4_grammar.specs.Tokens.{test, in_hand}

-- the names of the typedefs that are declared, each once, in their order
abbrev pub Env : Type 0
Env = List (List ℕ)

-- whether a typedef has this name
abbrev pub has : Env → List ℕ → Bool
has env x = list_any (bytes_eq x) env

-- these names, with this one in its place unless it is there
abbrev pub named : Env → List ℕ → Env
named env x = insert_key (slice_cmp nat_cmp) env x

-- the typedefs behind a declaration
abbrev pub known : Env → P4Declaration → Env
known env (declaration.Typedef t) = named env t.name.text
known env (declaration.Header h) = env
known env (declaration.Struct s) = env
known env (declaration.Const c) = env

-- ---- marks

-- the mark of more than the spelling of this mark, at its end
abbrev pub later : Mark → Mark
later mark.Bare = mark.Bare
later (mark.One x) = mark.Plain
later (mark.Read x) = mark.Plain
later (mark.CastRead t x) = mark.Plain
later mark.Plain = mark.Plain

-- the mark of a cast
abbrev pub of_cast : P4Type → Mark → Mark
of_cast t mark.Bare = mark.Bare
of_cast t (mark.One x) = mark.Plain
of_cast t (mark.Read x) = mark.CastRead t x
of_cast t (mark.CastRead u x) = mark.Plain
of_cast t mark.Plain = mark.Plain

-- the mark of a path
abbrev pub of_path : List P4Name → Mark
of_path [] = mark.Plain
of_path (x ∷ []) = mark.One x
of_path (x ∷ y ∷ []) = cond (bytes_eq y.text (codes "read")) (mark.Read x) mark.Plain
of_path (x ∷ y ∷ z ∷ zs) = mark.Plain

-- the mark of what stands in parentheses
abbrev pub of_parens : Env → Mark → Mark
of_parens env (mark.One x) = cond (has env x.text) mark.Bare mark.Plain
of_parens env (mark.Read x) = mark.Plain
of_parens env (mark.CastRead t x) = mark.Plain
of_parens env mark.Bare = mark.Plain
of_parens env mark.Plain = mark.Plain

-- whether its end is a typedef's name in parentheses
abbrev pub is_bare : Mark → Bool
is_bare mark.Bare = true
is_bare (mark.One x) = false
is_bare (mark.Read x) = false
is_bare (mark.CastRead t x) = false
is_bare mark.Plain = false

-- the typedef's name that stands alone in parentheses
abbrev pub cast_by : Env → Mark → Option P4Name
cast_by env (mark.One x) = cond (has env x.text) (Some x) None
cast_by env (mark.Read x) = None
cast_by env (mark.CastRead t x) = None
cast_by env mark.Bare = None
cast_by env mark.Plain = None

-- ---- values

abbrev pub first_at : List P4Name → ℕ
first_at [] = 0
first_at (x ∷ xs) = x.at

abbrev pub path_of : List P4Name → P4Path
path_of names = record { at = first_at names; names = names }

abbrev pub path_value : List P4Name → Spelled
path_value names = record { at = first_at names; expr = expr.Path (first_at names) (path_of names); mark = of_path names }

abbrev pub valid_value : List P4Name → Spelled
valid_value names = record { at = first_at names; expr = expr.IsValid (first_at names) (path_of names); mark = mark.Plain }

abbrev pub number_value : P4Number → Spelled
number_value n = record { at = n.at; expr = expr.Number n.at n; mark = mark.Plain }

abbrev pub true_value : ℕ → Spelled
true_value at = record { at = at; expr = expr.True at; mark = mark.Plain }

abbrev pub false_value : ℕ → Spelled
false_value at = record { at = at; expr = expr.False at; mark = mark.Plain }

-- parentheses aren't kept
abbrev pub parens_value : ℕ → P4Expr → Mark → Spelled
parens_value at e m = record { at = at; expr = e; mark = m }

abbrev pub slice_value : Spelled → P4Slice → Spelled
slice_value x s = record { at = x.at; expr = expr.Slice x.at x.expr s; mark = mark.Plain }

abbrev pub cast_value : ℕ → P4Type → Spelled → Spelled
cast_value at t x = record { at = at; expr = expr.Cast at t x.expr; mark = of_cast t x.mark }

abbrev pub unary_value : P4UnaryOp → ℕ → Spelled → Spelled
unary_value o at x = record { at = at; expr = expr.Unary at o x.expr; mark = later x.mark }

abbrev pub binary : P4BinaryOp → Spelled → Spelled → Spelled
binary o x y = record { at = x.at; expr = expr.Binary x.at o x.expr y.expr; mark = later y.mark }

abbrev pub choice_value : Spelled → Spelled → Spelled → Spelled
choice_value x y z = record { at = x.at; expr = expr.Choice x.at x.expr y.expr z.expr; mark = later z.mark }

abbrev pub exprs : List Spelled → List P4Expr
exprs xs = map (λ x. x.expr) xs

-- the type that a name says
abbrev pub named_type : P4Name → P4Type
named_type x = type.Name x.at x

-- the place of a type
abbrev pub type_place : P4Type → ℕ
type_place (type.Bit at width) = at
type_place (type.Bool at) = at
type_place (type.Name at x) = at
type_place (type.StdT at) = at

-- ---- operators

-- the sign of an operator
abbrev pub op_sign : P4BinaryOp → Sign
op_sign binary_op.Or = sign.Or
op_sign binary_op.And = sign.And
op_sign binary_op.Equal = sign.Equal
op_sign binary_op.NotEqual = sign.NotEqual
op_sign binary_op.Less = sign.Less
op_sign binary_op.LessEqual = sign.LessEqual
op_sign binary_op.More = sign.More
op_sign binary_op.MoreEqual = sign.MoreEqual
op_sign binary_op.Plus = sign.Plus
op_sign binary_op.Minus = sign.Minus
op_sign binary_op.SatPlus = sign.SatPlus
op_sign binary_op.SatMinus = sign.SatMinus
op_sign binary_op.BitAnd = sign.BitAnd
op_sign binary_op.BitOr = sign.BitOr
op_sign binary_op.BitXor = sign.BitXor
op_sign binary_op.ShiftLeft = sign.ShiftLeft
op_sign binary_op.ShiftRight = sign.ShiftRight
op_sign binary_op.Concat = sign.Concat

-- this operator, where the token is its sign
abbrev pub this : P4BinaryOp → Token → Result P4BinaryOp (Unit {0})
this o t = test (in_hand (op_sign o) t) o

-- the first of these operators whose sign the token is
abbrev pub some_op : List P4BinaryOp → Token → Result P4BinaryOp (Unit {0})
some_op [] t = Err tt
some_op (o ∷ os) t = cond (in_hand (op_sign o) t) (Ok o) (some_op os t)

-- the operators of comparisons
abbrev pub compare_op : Token → Result P4BinaryOp (Unit {0})
compare_op t = some_op (binary_op.Equal ∷ binary_op.NotEqual ∷ binary_op.Less ∷ binary_op.LessEqual ∷ binary_op.More ∷ binary_op.MoreEqual ∷ []) t

-- the operators of chains
abbrev pub chain_op : Token → Result P4BinaryOp (Unit {0})
chain_op t = some_op (binary_op.SatPlus ∷ binary_op.SatMinus ∷ binary_op.BitAnd ∷ binary_op.BitOr ∷ binary_op.BitXor ∷ binary_op.ShiftLeft ∷ binary_op.ShiftRight ∷ binary_op.Concat ∷ []) t

-- The operators of sums. A typedef's name in parentheses before an operand is a cast: so no difference has it as its left side's end.
abbrev pub sum_op : Spelled → Token → Result P4BinaryOp (Unit {0})
sum_op x t = some_op (cond (is_bare x.mark) (binary_op.Plus ∷ []) (binary_op.Plus ∷ binary_op.Minus ∷ [])) t

abbrev pub unary_lexeme : ℕ → Lexeme → Result (P4UnaryOp × ℕ) (Unit {0})
unary_lexeme at (lexeme.Sign sign.Not) = Ok (op.Not, at)
unary_lexeme at (lexeme.Sign sign.Complement) = Ok (op.Complement, at)
unary_lexeme at (lexeme.Sign sign.Minus) = Ok (op.Negate, at)
unary_lexeme at (lexeme.Sign s) = Err tt
unary_lexeme at (lexeme.Name text) = Err tt
unary_lexeme at (lexeme.Number value width) = Err tt

-- the operator before an operand, and its place
abbrev pub unary_op : Token → Result (P4UnaryOp × ℕ) (Unit {0})
unary_op t = unary_lexeme t.at t.lexeme

-- whether a token begins an operand
abbrev pub begins_lexeme : Lexeme → Bool
begins_lexeme (lexeme.Name text) = true
begins_lexeme (lexeme.Number value width) = true
begins_lexeme (lexeme.Sign sign.True) = true
begins_lexeme (lexeme.Sign sign.False) = true
begins_lexeme (lexeme.Sign sign.Open) = true
begins_lexeme (lexeme.Sign sign.Not) = true
begins_lexeme (lexeme.Sign sign.Complement) = true
begins_lexeme (lexeme.Sign sign.Minus) = true
begins_lexeme (lexeme.Sign s) = false

abbrev pub begins_operand : Token → Bool
begins_operand t = begins_lexeme t.lexeme
