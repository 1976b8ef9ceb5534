-- The tokens of expressions.
use Rattle.std.specs.Prelude.{List, [], ◌∷◌, Bool, true, false, codes}
use Rattle.p4_lex.specs.declared.token.Sign.{Sign}
use Rattle.p4_lex.specs.declared.token.Sign.TheVariants as sign
use Rattle.p4_lex.specs.declared.token.Lexeme.{Lexeme}
use Rattle.p4_lex.specs.declared.token.Lexeme.TheVariants as lexeme
use Rattle.p4_ast.specs.declared.expression.P4BinaryOp.{P4BinaryOp}
use Rattle.p4_ast.specs.declared.expression.P4BinaryOp.TheVariants as binary
use Rattle.p4_ast.specs.declared.expression.P4UnaryOp.{P4UnaryOp}
use Rattle.p4_ast.specs.declared.expression.P4UnaryOp.TheVariants as unary
use Rattle.p4_ast.specs.declared.expression.P4Expr.{P4Expr, fold-P4Expr}
use Rattle.p4_ast.specs.declared.expression.P4Expr.TheOpen as layer
use Rattle.p4_ast.specs.declared.expression.P4Expr.TheOpen.{P4Expr-F}
use Rattle.p4_print.specs.Shared.{◌+>◌, the, number, separated, type_tokens, path_tokens, slice_tokens}

abbrev pub binary_sign : P4BinaryOp → Sign
binary_sign binary.Or = sign.Or
binary_sign binary.And = sign.And
binary_sign binary.Equal = sign.Equal
binary_sign binary.NotEqual = sign.NotEqual
binary_sign binary.Less = sign.Less
binary_sign binary.LessEqual = sign.LessEqual
binary_sign binary.More = sign.More
binary_sign binary.MoreEqual = sign.MoreEqual
binary_sign binary.Plus = sign.Plus
binary_sign binary.Minus = sign.Minus
binary_sign binary.SatPlus = sign.SatPlus
binary_sign binary.SatMinus = sign.SatMinus
binary_sign binary.BitAnd = sign.BitAnd
binary_sign binary.BitOr = sign.BitOr
binary_sign binary.BitXor = sign.BitXor
binary_sign binary.ShiftLeft = sign.ShiftLeft
binary_sign binary.ShiftRight = sign.ShiftRight
binary_sign binary.Concat = sign.Concat

abbrev pub unary_sign : P4UnaryOp → Sign
unary_sign unary.Not = sign.Not
unary_sign unary.Complement = sign.Complement
unary_sign unary.Negate = sign.Minus

-- a sign that stands only in some cases
abbrev pub where_so : Bool → Sign → List Lexeme
where_so true s = the s ∷ []
where_so false s = []

-- an operation, a cast or a slice: in parentheses where it is an operand
unfoldable pub wrapped : Bool → List Lexeme → List Lexeme
wrapped operand ts = where_so operand sign.Open +> ts +> where_so operand sign.Close

-- the tokens of one level, alone or as an operand, where those of its operands are given
abbrev pub expr_step : P4Expr-F (Bool → List Lexeme) → Bool → List Lexeme
expr_step (layer.Choice at test first second) operand = wrapped operand (test true +> the sign.Ask ∷ first true +> the sign.Colon ∷ second true)
expr_step (layer.Binary at op left right) operand = wrapped operand (left true +> the (binary_sign op) ∷ right true)
expr_step (layer.Unary at op x) operand = wrapped operand (the (unary_sign op) ∷ x true)
expr_step (layer.Cast at type_ x) operand = wrapped operand (the sign.Open ∷ type_tokens type_ +> the sign.Close ∷ x true)
expr_step (layer.Slice at x slice) operand = wrapped operand (x true +> slice_tokens slice)
expr_step (layer.Number at n) operand = number n ∷ []
expr_step (layer.True at) operand = the sign.True ∷ []
expr_step (layer.False at) operand = the sign.False ∷ []
expr_step (layer.Path at path) operand = path_tokens path
expr_step (layer.IsValid at path) operand = path_tokens path +> the sign.Dot ∷ lexeme.Name (codes "isValid") ∷ the sign.Open ∷ the sign.Close ∷ []

-- an expression, alone or as an operand
abbrev pub expr_as : P4Expr → Bool → List Lexeme
expr_as = fold-P4Expr (Bool → List Lexeme) expr_step

abbrev pub expr_tokens : P4Expr → List Lexeme
expr_tokens e = expr_as e false

abbrev pub operand_tokens : P4Expr → List Lexeme
operand_tokens e = expr_as e true

-- arguments in parentheses
unfoldable pub args_tokens : List P4Expr → List Lexeme
args_tokens args = the sign.Open ∷ separated sign.Comma expr_tokens args +> the sign.Close ∷ []
