-- The value of code, one equation for each variant.
use Rattle.std.proofs.Common.{◌≡◌, ℕ, List, sym, ap, ◌∙◌, if◌then◌else◌}
use Rattle.app_data.specs.declared.value.Value.{Value}
use Rattle.p4_ast.specs.declared.expression.P4BinaryOp.{P4BinaryOp}
use Rattle.p4_ast.specs.declared.expression.P4UnaryOp.{P4UnaryOp}
use Rattle.exec_code.specs.declared.code.Code.{Code, fold-roll-Code}
use Rattle.exec_code.specs.declared.code.Code.TheVariants as code
use Rattle.exec_code.specs.declared.code.Code.TheOpen as layer
use Rattle.app_meaning.specs.Values.{cut, holds, binary_value, unary_value, slice_value}
use Rattle.p4_ast.specs.declared.name.P4Slice.{P4Slice}
use Rattle.app_meaning.specs.Slots.{value_in}
use Rattle.app_meaning.specs.Expressions.{high_bit, low_bit}
use Rattle.exec_code.specs.Running.{code_step, run_code}

abbrev Runs : Type 0
Runs = List Value → Value

pub code-Literal : (v : Value) → run_code (code.Literal v) ≡ (λ values. v)
code-Literal v = ap run_code (sym (code.rolls-Literal v)) ∙ fold-roll-Code Runs code_step (layer.Literal v)

pub code-Slot : (i : ℕ) → run_code (code.Slot i) ≡ (λ values. value_in values i)
code-Slot i = ap run_code (sym (code.rolls-Slot i)) ∙ fold-roll-Code Runs code_step (layer.Slot i)

pub code-Choice : (t x y : Code) → run_code (code.Choice t x y) ≡ (λ values. if holds (run_code t values) then run_code x values else run_code y values)
code-Choice t x y = ap run_code (sym (code.rolls-Choice t x y)) ∙ fold-roll-Code Runs code_step (layer.Choice t x y)

pub code-Binary : (op : P4BinaryOp) (x y : Code) → run_code (code.Binary op x y) ≡ (λ values. binary_value op (run_code x values) (run_code y values))
code-Binary op x y = ap run_code (sym (code.rolls-Binary op x y)) ∙ fold-roll-Code Runs code_step (layer.Binary op x y)

pub code-Unary : (op : P4UnaryOp) (x : Code) → run_code (code.Unary op x) ≡ (λ values. unary_value op (run_code x values))
code-Unary op x = ap run_code (sym (code.rolls-Unary op x)) ∙ fold-roll-Code Runs code_step (layer.Unary op x)

pub code-Cut : (w : ℕ) (x : Code) → run_code (code.Cut w x) ≡ (λ values. cut w (run_code x values).number)
code-Cut w x = ap run_code (sym (code.rolls-Cut w x)) ∙ fold-roll-Code Runs code_step (layer.Cut w x)

pub code-Slice : (x : Code) (bits : P4Slice) → run_code (code.Slice x bits) ≡ (λ values. slice_value (run_code x values) (high_bit bits) (low_bit bits))
code-Slice x bits = ap run_code (sym (code.rolls-Slice x bits)) ∙ fold-roll-Code Runs code_step (layer.Slice x bits)

pub ruleset codes = (code-Literal, code-Slot, code-Choice, code-Binary, code-Unary, code-Cut, code-Slice)
