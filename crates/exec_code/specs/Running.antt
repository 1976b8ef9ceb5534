-- The values of code.
use Rattle.std.specs.Prelude.{List, if◌then◌else◌}
use Rattle.app_data.specs.declared.value.Value.{Value}
use Rattle.exec_code.specs.declared.code.Code.{Code, fold-Code}
use Rattle.exec_code.specs.declared.code.Code.TheOpen as layer
use Rattle.exec_code.specs.declared.code.Code.TheOpen.{Code-F}
use Rattle.app_meaning.specs.Values.{cut, holds, binary_value, unary_value, slice_value}
use Rattle.app_meaning.specs.Slots.{value_in}
use Rattle.app_meaning.specs.Expressions.{high_bit, low_bit}

-- one level, where the values of its operands are given
abbrev pub code_step : Code-F (List Value → Value) → List Value → Value
code_step (layer.Literal v) values = v
code_step (layer.Slot i) values = value_in values i
code_step (layer.Choice test first second) values = if holds (test values) then first values else second values
code_step (layer.Binary op left right) values = binary_value op (left values) (right values)
code_step (layer.Unary op operand) values = unary_value op (operand values)
code_step (layer.Cut width operand) values = cut width (operand values).number
code_step (layer.Slice operand bits) values = slice_value (operand values) (high_bit bits) (low_bit bits)

-- the value of code
abbrev pub run_code : Code → List Value → Value
run_code = fold-Code (List Value → Value) code_step
