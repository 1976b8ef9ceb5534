-- Operators between two operands.
use Rattle.std.specs.Prelude.{Bool, ◌||◌, [], ◌∷◌}
use Rattle.p4_lex.specs.declared.token.Token.{Token}
use Rattle.p4_ast.specs.declared.expression.P4BinaryOp.TheVariants as op
use Rattle.p4_grammar.specs.Forms.{is_given}
use Rattle.p4_grammar.specs.Values.{compare_op, chain_op, some_op}

-- whether a token is an operator between two operands
abbrev pub is_binary : Token → Bool
is_binary t =
    is_given (some_op (op.Or ∷ op.And ∷ op.Plus ∷ op.Minus ∷ []) t) || (is_given (compare_op t) || is_given (chain_op t))
