-- Numbers of so many bits, and what the operators make of them.
use Rattle.std.specs.Prelude.{ℕ, ◌+◌, ◌-◌, ◌*◌, ◌/◌, ◌%◌, ◌^◌, min, Bool, true, false, not, ◌==◌, if◌then◌else◌, nat_lt, nat_le, bit_and, bit_or, bit_xor}
use Rattle.app_data.specs.declared.value.Value.{Value}
use Rattle.p4_ast.specs.declared.expression.P4BinaryOp.{P4BinaryOp}
use Rattle.p4_ast.specs.declared.expression.P4BinaryOp.TheVariants as binary
use Rattle.p4_ast.specs.declared.expression.P4UnaryOp.{P4UnaryOp}
use Rattle.p4_ast.specs.declared.expression.P4UnaryOp.TheVariants as unary

-- a width, of at most 128 bits
abbrev pub width_of : ℕ → ℕ
width_of n = min 128 n

-- the lowest bits of a number
abbrev pub cut : ℕ → ℕ → Value
cut width n = record { width = width; number = n % 2 ^ width_of width }

-- the bit of a bool
abbrev pub bit_of : Bool → ℕ
bit_of true = 1
bit_of false = 0

-- a bool as a value
abbrev pub truth : Bool → Value
truth b = record { width = 1; number = bit_of b }

-- the condition that a bool or a `bit<1>` is
abbrev pub holds : Value → Bool
holds v = v.number == 1

-- the greatest number of so many bits
abbrev pub ones : ℕ → ℕ
ones width = 2 ^ width_of width - 1

-- a shift by the width or more gives 0
abbrev pub shift_left : Value → ℕ → Value
shift_left v by = if nat_lt by (width_of v.width) then cut v.width (v.number * 2 ^ by) else cut v.width 0

-- a shift by the width or more gives 0
abbrev pub shift_right : Value → ℕ → Value
shift_right v by = if nat_lt by (width_of v.width) then cut v.width (v.number / 2 ^ by) else cut v.width 0

-- what an operator gives of two values; sums and differences wrap at the left operand's width
abbrev pub binary_value : P4BinaryOp → Value → Value → Value
binary_value binary.Or a b = cut a.width (bit_or a.number b.number)
binary_value binary.And a b = cut a.width (bit_and a.number b.number)
binary_value binary.Equal a b = truth (a.number == b.number)
binary_value binary.NotEqual a b = truth (not (a.number == b.number))
binary_value binary.Less a b = truth (nat_lt a.number b.number)
binary_value binary.LessEqual a b = truth (nat_le a.number b.number)
binary_value binary.More a b = truth (nat_lt b.number a.number)
binary_value binary.MoreEqual a b = truth (nat_le b.number a.number)
binary_value binary.Plus a b = cut a.width (a.number + b.number)
binary_value binary.Minus a b = cut a.width (a.number + (2 ^ 128 - b.number))
binary_value binary.SatPlus a b = record { width = a.width; number = min (ones a.width) (a.number + b.number) }
binary_value binary.SatMinus a b = cut a.width (a.number - b.number)
binary_value binary.BitAnd a b = cut a.width (bit_and a.number b.number)
binary_value binary.BitOr a b = cut a.width (bit_or a.number b.number)
binary_value binary.BitXor a b = cut a.width (bit_xor a.number b.number)
binary_value binary.ShiftLeft a b = shift_left a b.number
binary_value binary.ShiftRight a b = shift_right a b.number
binary_value binary.Concat a b = cut (width_of (a.width + b.width)) (a.number * 2 ^ b.width + b.number)

-- what an operator gives of one value
abbrev pub unary_value : P4UnaryOp → Value → Value
unary_value unary.Not v = truth (not (holds v))
unary_value unary.Complement v = record { width = v.width; number = ones v.width - v.number }
unary_value unary.Negate v = cut v.width (2 ^ 128 - v.number)

-- bits `high` down to `low`, both below 128
abbrev pub slice_value : Value → ℕ → ℕ → Value
slice_value v high low = cut (high + 1 - low) (v.number / 2 ^ low)

-- `old` with another number in its bits `high` down to `low`
abbrev pub with_slice : Value → ℕ → ℕ → ℕ → Value
with_slice old high low n =
    cut old.width (old.number / 2 ^ (high + 1) * 2 ^ (high + 1) + n % 2 ^ (high + 1 - low) * 2 ^ low + old.number % 2 ^ low)
