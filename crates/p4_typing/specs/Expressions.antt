-- Expressions: their faults, what they give, and the widths of their literals.
use Rattle.std.specs.Prelude.{ℕ, ◌+◌, ◌-◌, ◌^◌, Bool, true, false, ◌&&◌, ◌==◌, nat_lt, nat_le, if◌then◌else◌, Option, Some, None}
use Rattle.rp_base.specs.declared.refused.Why.{Why}
use Rattle.rp_base.specs.declared.refused.Why.TheVariants as why
use Rattle.p4_ast.specs.declared.name.P4Number.{P4Number}
use Rattle.p4_ast.specs.declared.name.P4Path.{P4Path}
use Rattle.p4_ast.specs.declared.name.P4Slice.{P4Slice}
use Rattle.p4_ast.specs.declared.name.P4Left.{P4Left}
use Rattle.p4_ast.specs.declared.declaration.P4Type.{P4Type}
use Rattle.p4_ast.specs.declared.expression.P4BinaryOp.{P4BinaryOp}
use Rattle.p4_ast.specs.declared.expression.P4BinaryOp.TheVariants as binary
use Rattle.p4_ast.specs.declared.expression.P4UnaryOp.{P4UnaryOp}
use Rattle.p4_ast.specs.declared.expression.P4UnaryOp.TheVariants as unary
use Rattle.p4_ast.specs.declared.expression.P4Expr.{P4Expr, fold-P4Expr, para-P4Expr}
use Rattle.p4_ast.specs.declared.expression.P4Expr.TheOpen as layer
use Rattle.p4_ast.specs.declared.expression.P4Expr.TheOpen.{P4Expr-F}
use Rattle.p4_ast.specs.declared.expression.P4Expr.TheVariants as expr
use Rattle.p4_scope.specs.declared.kind.Kind.{Kind}
use Rattle.p4_scope.specs.declared.kind.Kind.TheVariants as kind
use Rattle.p4_typing.specs.declared.form.Form.{Form}
use Rattle.p4_typing.specs.declared.form.Form.TheVariants as form
use Rattle.p4_typing.specs.declared.part.Typed.{Typed}
use Rattle.p4_typing.specs.declared.part.Operands.{Operands}
use Rattle.p4_scope.specs.Faults.{Fault, first_of, fault, fault_if}
use Rattle.p4_scope.specs.Scopes.{Scope}
use Rattle.p4_scope.specs.Types.{is_width, type_place, type_kind}
use Rattle.p4_scope.specs.Paths.{path_kind, header_path, root, is_fixed}

-- ---- literals without a width

-- how an expression takes the width of its place, or none: the first fault, and the expression behind it
abbrev pub Taking : Type 0
Taking = Option ℕ → Fault × P4Expr

-- a literal, with the width that is written or that it takes
abbrev pub number_taken : ℕ → P4Number → Option ℕ → Option ℕ → Fault × P4Expr
number_taken at n (Some v) w = (None, expr.Number at n)
number_taken at n None None = (fault why.Width n.at, expr.Number at n)
number_taken at n None (Some w) = (fault_if (nat_le (2 ^ w) n.value) why.Fit n.at, expr.Number at (record n { width = Some w }))

-- An operation and a choice hand the width to their operands, but not to the test of a choice.
abbrev pub taken_step : P4Expr-F (P4Expr × Taking) → Taking
taken_step (layer.Choice at test first second) w = (first_of (first.1 w).0 (second.1 w).0, expr.Choice at test.0 (first.1 w).1 (second.1 w).1)
taken_step (layer.Binary at op left right) w = (first_of (left.1 w).0 (right.1 w).0, expr.Binary at op (left.1 w).1 (right.1 w).1)
taken_step (layer.Unary at op x) w = ((x.1 w).0, expr.Unary at op (x.1 w).1)
taken_step (layer.Cast at t x) w = (None, expr.Cast at t x.0)
taken_step (layer.Slice at x slice) w = (None, expr.Slice at x.0 slice)
taken_step (layer.Number at n) w = number_taken at n n.width w
taken_step (layer.True at) w = (None, expr.True at)
taken_step (layer.False at) w = (None, expr.False at)
taken_step (layer.Path at path) w = (None, expr.Path at path)
taken_step (layer.IsValid at path) w = (None, expr.IsValid at path)

-- an expression without a width of its own takes this width, or finds none
abbrev pub taken : P4Expr → Taking
taken = para-P4Expr Taking taken_step

-- ---- expressions

-- a part of these
abbrev pub typed_as : ℕ → Fault → Form → P4Expr → Typed
typed_as at f k e = record { at = at; fault = f; form = k; expr = e }

-- it fails at its place
abbrev pub failed : Why → Typed → Typed
failed w t = record t { fault = first_of t.fault (fault w t.at); form = form.Failed }

-- what has taken a width, or none
abbrev pub behind_taking : Form → Fault × P4Expr → Typed → Typed
behind_taking k r t = record t { fault = first_of t.fault r.0; form = k; expr = r.1 }

-- it takes this width
abbrev pub sized : ℕ → Typed → Typed
sized w t = behind_taking (form.Bits w) (taken t.expr (Some w)) t

-- its place gives no width
abbrev pub placeless : Typed → Typed
placeless t = behind_taking form.Failed (taken t.expr None) t

-- What a place asks for: `wanted` is what it is to be, `given` what the expression gives. A place that failed asks for nothing.
abbrev pub expected_by : Form → Form → Typed → Typed
expected_by form.Failed given t = t
expected_by wanted form.Failed t = t
expected_by (form.Bits w) form.Open t = sized w t
expected_by (form.Bits w) (form.Bits v) t = if w == v then t else failed why.Width t
expected_by form.Bool form.Bool t = t
expected_by wanted given t = failed why.Kind t

-- an expression at a place that asks for this
abbrev pub expected : Form → Typed → Typed
expected wanted t = expected_by wanted t.form t

-- bits, or a fault
abbrev pub bits_by : Form → Typed → Typed
bits_by form.Bool t = failed why.Kind t
bits_by k t = t

-- an operand that must be bits
abbrev pub as_bits : Typed → Typed
as_bits t = bits_by t.form t

-- bits with a width of their own, or a fault
abbrev pub alone_by : Form → Typed → Typed
alone_by form.Bool t = failed why.Kind t
alone_by form.Open t = placeless t
alone_by k t = t

-- bits at a place that gives no width
abbrev pub bits_alone : Typed → Typed
bits_alone t = alone_by t.form t

-- ---- two operands

-- two operands, and what their operation gives
abbrev pub operands : Form → Typed → Typed → Operands
operands k l r = record { fault = first_of l.fault r.fault; form = k; left = l.expr; right = r.expr }

-- One width or one kind: a literal takes the width of the other operand.
abbrev pub alike_by : Form → Form → Typed → Typed → Operands
alike_by form.Failed k l r = operands form.Failed l r
alike_by j form.Failed l r = operands form.Failed l r
alike_by (form.Bits w) (form.Bits v) l r = if w == v then operands (form.Bits w) l r else operands form.Failed (failed why.Width l) r
alike_by (form.Bits w) form.Open l r = operands (form.Bits w) l (sized w r)
alike_by form.Open (form.Bits w) l r = operands (form.Bits w) (sized w l) r
alike_by form.Open form.Open l r = operands form.Open l r
alike_by form.Bool form.Bool l r = operands form.Bool l r
alike_by j k l r = operands form.Failed (failed why.Kind l) r

-- two operands of one width or of one kind
abbrev pub alike : Typed → Typed → Operands
alike l r = alike_by l.form r.form l r

-- Two literals that are compared have no place.
abbrev pub compared_by : Form → Form → Typed → Typed → Operands
compared_by form.Open form.Open l r = operands form.Bool (placeless l) (placeless r)
compared_by j k l r = record (alike_by j k l r) { form = form.Bool }

-- two operands that are compared
abbrev pub compared : Typed → Typed → Operands
compared l r = compared_by l.form r.form l r

-- bits, of eight where the place gives the width
abbrev pub eight_by : Form → Typed → Typed
eight_by form.Open t = sized 8 t
eight_by form.Bool t = failed why.Kind t
eight_by k t = t

-- a side of a shift: `bit<8>` where it has no width of its own
abbrev pub shift_side : Typed → Typed
shift_side t = eight_by t.form t

-- two sides of a shift, which keeps the width of the left one
abbrev pub shifted : Typed → Typed → Operands
shifted l r = operands l.form l r

-- bits of both widths, at most 128
abbrev pub joined_by : Form → Form → ℕ → Typed → Typed → Operands
joined_by (form.Bits w) (form.Bits v) at l r = if nat_le (w + v) 128 then operands (form.Bits (w + v)) l r
    else record (operands form.Failed l r) { fault = first_of (first_of l.fault r.fault) (fault why.Width at) }
joined_by j k at l r = operands form.Failed l r

-- two operands of `++`, which fails at the operation's place
abbrev pub joined : ℕ → Typed → Typed → Operands
joined at l r = joined_by l.form r.form at l r

-- two bools
abbrev pub bools : Typed → Typed → Operands
bools l r = operands form.Bool (expected form.Bool l) (expected form.Bool r)

-- two operands of an operator
abbrev pub operated : P4BinaryOp → ℕ → Typed → Typed → Operands
operated binary.Or at l r = bools l r
operated binary.And at l r = bools l r
operated binary.Equal at l r = compared l r
operated binary.NotEqual at l r = compared l r
operated binary.Less at l r = compared (as_bits l) (as_bits r)
operated binary.LessEqual at l r = compared (as_bits l) (as_bits r)
operated binary.More at l r = compared (as_bits l) (as_bits r)
operated binary.MoreEqual at l r = compared (as_bits l) (as_bits r)
operated binary.ShiftLeft at l r = shifted (shift_side l) (shift_side r)
operated binary.ShiftRight at l r = shifted (shift_side l) (shift_side r)
operated binary.Concat at l r = joined at (bits_alone l) (bits_alone r)
operated op at l r = alike (as_bits l) (as_bits r)

-- ---- one level

-- what a value of this kind gives: a header or structure fails at this place
abbrev pub form_by : ℕ → Fault → Kind → Fault × Form
form_by at f (kind.Bits w) = (f, form.Bits w)
form_by at f kind.Bool = (f, form.Bool)
form_by at f kind.Failed = (f, form.Failed)
form_by at f k = (first_of f (fault why.Kind at), form.Failed)

-- what a value of this kind gives, where a header or structure is no value
abbrev pub form_of : Kind → Form
form_of k = (form_by 0 None k).1

-- a literal with a width of its own or without
abbrev pub literal_by : Option ℕ → ℕ → P4Number → Typed
literal_by None at n = typed_as at None form.Open (expr.Number at n)
literal_by (Some w) at n = if is_width w then typed_as at (fault_if (nat_le (2 ^ w) n.value) why.Fit n.at) (form.Bits w) (expr.Number at n)
    else typed_as at (fault why.Width n.at) form.Failed (expr.Number at n)

-- a choice between two operands
abbrev pub chosen : ℕ → Typed → Operands → Typed
chosen at t o = typed_as at (first_of t.fault o.fault) o.form (expr.Choice at t.expr o.left o.right)

-- an operation of two operands
abbrev pub operation : ℕ → P4BinaryOp → Operands → Typed
operation at op o = typed_as at o.fault o.form (expr.Binary at op o.left o.right)

-- an operator before its operand
abbrev pub prefixed : ℕ → P4UnaryOp → Typed → Typed
prefixed at unary.Not t = typed_as at (expected form.Bool t).fault form.Bool (expr.Unary at unary.Not (expected form.Bool t).expr)
prefixed at op t = typed_as at (as_bits t).fault (as_bits t).form (expr.Unary at op (as_bits t).expr)

-- what is cast: bool and `bit<1>` to each other, bits to bits
abbrev pub cast_operand : Form → Form → Typed → Typed
cast_operand (form.Bits w) form.Open t = sized w t
cast_operand (form.Bits w) form.Bool t = if w == 1 then t else failed why.Kind t
cast_operand form.Bool form.Open t = placeless t
cast_operand form.Bool (form.Bits w) t = if w == 1 then t else failed why.Kind t
cast_operand to from t = t

-- a cast to what this type gives
abbrev pub cast : ℕ → P4Type → Fault × Form → Typed → Typed
cast at type_ to t =
    let x : Typed = cast_operand to.1 t.form t in
    typed_as at (first_of to.0 x.fault) to.1 (expr.Cast at type_ x.expr)

-- bits of a width, cut to a slice: the fault, and what is left
abbrev pub cut_form : P4Slice → ℕ → Fault × Form
cut_form slice w = if nat_le slice.low.value slice.high.value && nat_lt slice.high.value w
    then (None, form.Bits (slice.high.value - slice.low.value + 1)) else (fault why.Width slice.at, form.Failed)

-- a slice whose numbers are in the wrong order fails whatever it is a slice of
abbrev pub slice_form : P4Slice → Form → Fault × Form
slice_form slice (form.Bits w) = cut_form slice w
slice_form slice k = (fault_if (nat_lt slice.high.value slice.low.value) why.Width slice.at, form.Failed)

-- a slice of bits
abbrev pub sliced : ℕ → P4Slice → Typed → Typed
sliced at slice t =
    let k : Fault × Form = slice_form slice t.form in
    typed_as at (first_of t.fault k.0) k.1 (expr.Slice at t.expr slice)

-- what a value of this type gives
abbrev pub type_form : P4Type → Scope → Fault × Form
type_form t s =
    let k : Fault × Kind = type_kind t s in
    form_by (type_place t) k.0 k.1

-- what a path gives, or its fault at this place
abbrev pub path_form : ℕ → P4Path → Scope → Fault × Form
path_form at path s =
    let k : Fault × Kind = path_kind path s in
    form_by at k.0 k.1

-- a path that has a value
abbrev pub valued : ℕ → P4Path → Fault × Form → Typed
valued at path k = typed_as at k.0 k.1 (expr.Path at path)

-- one level
abbrev pub typed_step : P4Expr-F (Scope → Typed) → Scope → Typed
typed_step (layer.Choice at test first second) s = chosen at (expected form.Bool (test s)) (alike (first s) (second s))
typed_step (layer.Binary at op left right) s = operation at op (operated op at (left s) (right s))
typed_step (layer.Unary at op x) s = prefixed at op (x s)
typed_step (layer.Cast at t x) s = cast at t (type_form t s) (x s)
typed_step (layer.Slice at x slice) s = sliced at slice (bits_alone (x s))
typed_step (layer.Number at n) s = literal_by n.width at n
typed_step (layer.True at) s = typed_as at None form.Bool (expr.True at)
typed_step (layer.False at) s = typed_as at None form.Bool (expr.False at)
typed_step (layer.Path at path) s = valued at path (path_form at path s)
typed_step (layer.IsValid at path) s = typed_as at (header_path path s) form.Bool (expr.IsValid at path)

-- an expression behind its checks
abbrev pub typed : P4Expr → Scope → Typed
typed = fold-P4Expr (Scope → Typed) typed_step

-- an expression at a place that asks for this
abbrev pub at_place : Form → P4Expr → Scope → Typed
at_place wanted e s = expected wanted (typed e s)

-- ---- left sides

-- a slice of a left side, which fails at this place where it is a bool
abbrev pub cut_left : Option P4Slice → ℕ → Fault × Form → Fault × Form
cut_left None at k = k
cut_left (Some slice) at (f, form.Bool) = (first_of f (fault why.Kind at), form.Failed)
cut_left (Some slice) at (f, k) = (first_of f (slice_form slice k).0, (slice_form slice k).1)

-- whether there is no fault
abbrev pub is_clean : Fault → Bool
is_clean None = true
is_clean (Some f) = false

-- what a left side takes: a constant and an action's parameter aren't written
abbrev pub left_form : P4Left → Scope → Fault × Form
left_form l s =
    let k : Fault × Form = path_form l.path.at l.path s in
    let fixed : Bool = is_clean (path_kind l.path s).0 && is_fixed (root l.path.names s) in
    cut_left l.slice l.path.at (first_of k.0 (fault_if fixed why.Kind l.path.at), k.1)
