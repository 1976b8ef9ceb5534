-- Values that are built of literals and constants.
use Rattle.std.specs.Prelude.{ℕ, ◌+◌, ◌-◌, ◌*◌, ◌/◌, ◌%◌, ◌^◌, min, Bool, true, false, not, ◌&&◌, ◌||◌, ◌==◌, nat_lt, nat_le, if◌then◌else◌, List, [], ◌∷◌, Option, Some, None, option_and_then, bit_and, bit_or, bit_xor}
use Rattle.std.specs.Bool.{beq}
use Rattle.p4_ast.specs.declared.name.P4Name.{P4Name}
use Rattle.p4_ast.specs.declared.name.P4Number.{P4Number}
use Rattle.p4_ast.specs.declared.expression.P4BinaryOp.{P4BinaryOp}
use Rattle.p4_ast.specs.declared.expression.P4BinaryOp.TheVariants as binary
use Rattle.p4_ast.specs.declared.expression.P4UnaryOp.{P4UnaryOp}
use Rattle.p4_ast.specs.declared.expression.P4UnaryOp.TheVariants as unary
use Rattle.p4_ast.specs.declared.expression.P4Expr.{P4Expr, fold-P4Expr}
use Rattle.p4_ast.specs.declared.expression.P4Expr.TheOpen as layer
use Rattle.p4_ast.specs.declared.expression.P4Expr.TheOpen.{P4Expr-F}
use Rattle.p4_scope.specs.declared.kind.Kind.{Kind}
use Rattle.p4_scope.specs.declared.kind.Kind.TheVariants as kind
use Rattle.p4_scope.specs.declared.kind.Value.{Value}
use Rattle.p4_scope.specs.declared.kind.Value.TheVariants as value
use Rattle.p4_scope.specs.declared.thing.Thing.{Thing}
use Rattle.p4_scope.specs.declared.thing.Thing.TheVariants as thing
use Rattle.p4_scope.specs.Scopes.{Scope}
use Rattle.p4_scope.specs.Types.{is_width, type_kind}
use Rattle.p4_scope.specs.FlowKeys.{first_at}
use Rattle.p4_scope.specs.Paths.{root}

-- ---- operators

-- a number cut to so many bits, where bits may have this width
abbrev pub some_bits : ℕ → ℕ → Option Value
some_bits w n = if is_width w then Some (value.Bits (n % 2 ^ w) w) else None

-- a bool
abbrev pub some_bool : Bool → Option Value
some_bool b = Some (value.Bool b)

-- two numbers of w bits; what is taken from 0 is cut as a number of 128 bits is
abbrev pub bits_value : P4BinaryOp → ℕ → ℕ → ℕ → Option Value
bits_value binary.Plus w a b = some_bits w (a + b)
bits_value binary.Minus w a b = some_bits w (a + (2 ^ 128 - b))
bits_value binary.SatPlus w a b = some_bits w (min (a + b) (2 ^ w - 1))
bits_value binary.SatMinus w a b = some_bits w (a - b)
bits_value binary.BitAnd w a b = some_bits w (bit_and a b)
bits_value binary.BitOr w a b = some_bits w (bit_or a b)
bits_value binary.BitXor w a b = some_bits w (bit_xor a b)
bits_value binary.Equal w a b = some_bool (a == b)
bits_value binary.NotEqual w a b = some_bool (not (a == b))
bits_value binary.Less w a b = some_bool (nat_lt a b)
bits_value binary.LessEqual w a b = some_bool (nat_le a b)
bits_value binary.More w a b = some_bool (nat_lt b a)
bits_value binary.MoreEqual w a b = some_bool (nat_le b a)
bits_value op w a b = None

-- two numbers of v and w bits; a shift by all bits or more gives 0
abbrev pub numbers_value : P4BinaryOp → ℕ → ℕ → ℕ → ℕ → Option Value
numbers_value binary.ShiftLeft v a w b = some_bits v (if nat_lt b v then a * 2 ^ b else 0)
numbers_value binary.ShiftRight v a w b = some_bits v (if nat_lt b v then a / 2 ^ b else 0)
numbers_value binary.Concat v a w b = some_bits (v + w) (a * 2 ^ w + b)
numbers_value op v a w b = if v == w then bits_value op v a b else None

-- two bools
abbrev pub bools_value : P4BinaryOp → Bool → Bool → Option Value
bools_value binary.Or a b = some_bool (a || b)
bools_value binary.And a b = some_bool (a && b)
bools_value binary.Equal a b = some_bool (beq a b)
bools_value binary.NotEqual a b = some_bool (not (beq a b))
bools_value op a b = None

-- two values
abbrev pub binary_value : P4BinaryOp → Option Value → Option Value → Option Value
binary_value op (Some (value.Bits a v)) (Some (value.Bits b w)) = numbers_value op v a w b
binary_value op (Some (value.Bool a)) (Some (value.Bool b)) = bools_value op a b
binary_value op x y = None

-- one value
abbrev pub unary_value : P4UnaryOp → Option Value → Option Value
unary_value unary.Not (Some (value.Bool b)) = some_bool (not b)
unary_value unary.Complement (Some (value.Bits n w)) = some_bits w (2 ^ 128 - 1 - n)
unary_value unary.Negate (Some (value.Bits n w)) = some_bits w (2 ^ 128 - n)
unary_value op x = None

-- a value that is cast
abbrev pub cast_value : Kind → Option Value → Option Value
cast_value (kind.Bits w) (Some (value.Bits n v)) = some_bits w n
cast_value (kind.Bits w) (Some (value.Bool b)) = some_bits w (if b then 1 else 0)
cast_value kind.Bool (Some (value.Bits n w)) = if w == 1 then some_bool (n == 1) else None
cast_value kind.Bool (Some (value.Bool b)) = some_bool b
cast_value k x = None

-- a slice of a value, where the value has these bits
abbrev pub slice_value : ℕ → ℕ → Option Value → Option Value
slice_value high low (Some (value.Bits n w)) = if nat_le low high && nat_lt high w && is_width w then some_bits (high - low + 1) (n / 2 ^ low) else None
slice_value high low x = None

-- a choice between values
abbrev pub choice_value : Option Value → Option Value → Option Value → Option Value
choice_value (Some (value.Bool b)) (Some x) (Some y) = if b then Some x else Some y
choice_value t x y = None

-- ---- expressions

-- the value of a literal
abbrev pub number_value : P4Number → Option Value
number_value n = option_and_then (λ w. some_bits w n.value) n.width

-- the value of a constant
abbrev pub constant_value : Option Thing → Option Value
constant_value (Some (thing.Const k v)) = v
constant_value t = None

-- whether a path is a single name
abbrev pub alone : List P4Name → Bool
alone (x ∷ []) = true
alone xs = false

-- the value of a level, where each literal has its width
abbrev pub value_step : P4Expr-F (Scope → Option Value) → Scope → Option Value
value_step (layer.Choice at test first second) s = choice_value (test s) (first s) (second s)
value_step (layer.Binary at op left right) s = binary_value op (left s) (right s)
value_step (layer.Unary at op x) s = unary_value op (x s)
value_step (layer.Cast at t x) s = cast_value (type_kind t s).1 (x s)
value_step (layer.Slice at x slice) s = slice_value slice.high.value slice.low.value (x s)
value_step (layer.Number at n) s = number_value n
value_step (layer.True at) s = some_bool true
value_step (layer.False at) s = some_bool false
value_step (layer.Path at path) s = if alone path.names then constant_value (root path.names s) else None
value_step (layer.IsValid at path) s = None

-- the value of an expression
abbrev pub value_of : P4Expr → Scope → Option Value
value_of = fold-P4Expr (Scope → Option Value) value_step

-- ---- what isn't constant

-- the place of a path, unless its first name is a constant or isn't declared
abbrev pub strange_path : ℕ → Option Thing → Option ℕ
strange_path at None = None
strange_path at (Some (thing.Const k v)) = None
strange_path at (Some t) = Some at

-- the first path of a level that isn't constant
abbrev pub strange_step : P4Expr-F (Scope → Option ℕ) → Scope → Option ℕ
strange_step (layer.Choice at test first second) s = first_at (test s) (first_at (first s) (second s))
strange_step (layer.Binary at op left right) s = first_at (left s) (right s)
strange_step (layer.Unary at op x) s = x s
strange_step (layer.Cast at t x) s = x s
strange_step (layer.Slice at x slice) s = x s
strange_step (layer.Number at n) s = None
strange_step (layer.True at) s = None
strange_step (layer.False at) s = None
strange_step (layer.Path at path) s = strange_path at (root path.names s)
strange_step (layer.IsValid at path) s = strange_path at (root path.names s)

-- the place of the first path that isn't a constant
abbrev pub strange : P4Expr → Scope → Option ℕ
strange = fold-P4Expr (Scope → Option ℕ) strange_step
