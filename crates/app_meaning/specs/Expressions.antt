-- The values of expressions.
use Rattle.std.specs.Prelude.{ℕ, min, List, Option, Some, None, if◌then◌else◌}
use Rattle.p4_ast.specs.declared.name.P4Number.{P4Number}
use Rattle.p4_ast.specs.declared.name.P4Slice.{P4Slice}
use Rattle.p4_ast.specs.declared.expression.P4Expr.{P4Expr, fold-P4Expr}
use Rattle.p4_ast.specs.declared.expression.P4Expr.TheOpen as layer
use Rattle.p4_ast.specs.declared.expression.P4Expr.TheOpen.{P4Expr-F}
use Rattle.app_data.specs.declared.value.Value.{Value}
use Rattle.app_meaning.specs.Values.{cut, width_of, truth, holds, binary_value, unary_value, slice_value}
use Rattle.app_meaning.specs.Slots.{Scope, names, type_width, path_value}
use Rattle.std.specs.Prelude.{true, false}

-- the width of a literal, 128 where none is written
abbrev pub number_width : Option ℕ → ℕ
number_width None = 128
number_width (Some w) = width_of w

-- a literal's value
abbrev pub literal : P4Number → Value
literal n = cut (number_width n.width) n.value

-- the highest bit of a slice
abbrev pub high_bit : P4Slice → ℕ
high_bit s = min 127 s.high.value

-- the lowest bit of a slice
abbrev pub low_bit : P4Slice → ℕ
low_bit s = min 127 s.low.value

-- one level, where the values of its operands are given
abbrev pub eval_step : P4Expr-F (Scope → List Value → Value) → Scope → List Value → Value
eval_step (layer.Choice at test first second) sc values = if holds (test sc values) then first sc values else second sc values
eval_step (layer.Binary at op left right) sc values = binary_value op (left sc values) (right sc values)
eval_step (layer.Unary at op operand) sc values = unary_value op (operand sc values)
eval_step (layer.Cast at type_ operand) sc values = cut (type_width sc.types type_) (operand sc values).number
eval_step (layer.Slice at operand slice) sc values = slice_value (operand sc values) (high_bit slice) (low_bit slice)
eval_step (layer.Number at number) sc values = literal number
eval_step (layer.True at) sc values = truth true
eval_step (layer.False at) sc values = truth false
eval_step (layer.Path at path) sc values = path_value sc values (names path)
eval_step (layer.IsValid at path) sc values = path_value sc values (names path)

-- the value of an expression
abbrev pub eval : P4Expr → Scope → List Value → Value
eval = fold-P4Expr (Scope → List Value → Value) eval_step
