-- Places that ask for something: assignments, arguments, and expressions that may be left out.
use Rattle.std.specs.Prelude.{ℕ, ◌==◌, if◌then◌else◌, List, [], ◌∷◌, length, Option, Some, None}
use Rattle.rp_base.specs.declared.refused.Why.TheVariants as why
use Rattle.p4_ast.specs.declared.name.P4Name.{P4Name}
use Rattle.p4_ast.specs.declared.expression.P4Expr.{P4Expr}
use Rattle.p4_ast.specs.declared.statement.P4Assign.{P4Assign}
use Rattle.p4_scope.specs.declared.kind.Kind.{Kind}
use Rattle.p4_typing.specs.declared.form.Form.{Form}
use Rattle.p4_typing.specs.declared.form.Form.TheVariants as form
use Rattle.p4_typing.specs.declared.part.Typed.{Typed}
use Rattle.p4_scope.specs.Faults.{Fault, first_of, fault, add}
use Rattle.p4_scope.specs.Scopes.{Scope}
use Rattle.p4_typing.specs.Expressions.{at_place, form_of, left_form}

-- an expression that may be left out
abbrev pub maybe_at : Form → Option P4Expr → Scope → Fault × Option P4Expr
maybe_at wanted None s = (None, None)
maybe_at wanted (Some e) s =
    let t : Typed = at_place wanted e s in
    (t.fault, Some t.expr)

-- an assignment, which changes no scope
abbrev pub assign : P4Assign → Scope → Fault × P4Assign
assign a s =
    let l : Fault × Form = left_form a.left s in
    let t : Typed = at_place l.1 a.expr s in
    (first_of l.0 t.fault, record a { expr = t.expr })

-- what the first of these parameters asks for: without one, nothing is asked of an argument
abbrev pub asked_first : List Kind → Form
asked_first [] = form.Failed
asked_first (k ∷ ks) = form_of k

-- the parameters behind the first
abbrev pub asked_rest : List Kind → List Kind
asked_rest [] = []
asked_rest (k ∷ ks) = ks

-- an argument for a parameter of this form
abbrev pub arg : Form → P4Expr → Scope → Fault × P4Expr
arg wanted e s =
    let t : Typed = at_place wanted e s in
    (t.fault, t.expr)

-- arguments for parameters of these kinds, behind those that are done
abbrev pub args_for : List Kind → List P4Expr → Scope → Fault × List P4Expr → Fault × List P4Expr
args_for ks [] s done = done
args_for ks (e ∷ es) s done = args_for (asked_rest ks) es s (add (arg (asked_first ks) e s) done)

-- what so many arguments of the action of this name are asked for: another number than that of its parameters fails
abbrev pub asked : P4Name → Option (List Kind) → ℕ → List Kind × Fault
asked x None n = ([], None)
asked x (Some ks) n = if length ks == n then (ks, None) else ([], fault why.Kind x.at)

-- the arguments of the action of this name and of these parameters
abbrev pub args : P4Name → Option (List Kind) → List P4Expr → Scope → Fault × List P4Expr
args x ks es s = args_for (asked x ks (length es)).0 es s ((asked x ks (length es)).1, [])
