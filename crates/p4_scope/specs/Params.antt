-- Parameters of the parser and of the two controls.
use Rattle.std.specs.Prelude.{ℕ, Bool, true, false, not, ◌==◌, Option, Some, None, slice_get}
use Rattle.rp_base.specs.declared.refused.Why.TheVariants as why
use Rattle.p4_ast.specs.declared.name.P4Name.{P4Name}
use Rattle.p4_ast.specs.declared.control.P4Param.{P4Param}
use Rattle.p4_scope.specs.declared.kind.Kind.{Kind}
use Rattle.p4_scope.specs.declared.kind.Kind.TheVariants as kind
use Rattle.p4_scope.specs.declared.thing.Thing.TheVariants as thing
use Rattle.p4_scope.specs.Faults.{Fault, first_of, fault, fault_if}
use Rattle.p4_scope.specs.Scopes.{Record, Scope, note, declare}
use Rattle.p4_scope.specs.Types.{name_kind}

-- a kind that must be a structure, or fails at this place
abbrev pub struct_by : ℕ → Fault → Kind → Fault × Kind
struct_by at f (kind.Struct n) = (f, kind.Struct n)
struct_by at f kind.Failed = (f, kind.Failed)
struct_by at f k = (first_of f (fault why.Kind at), kind.Failed)

-- the kind of a parameter, which must be a structure
abbrev pub struct_kind : P4Name → Scope → Fault × Kind
struct_kind x s =
    let k : Fault × Kind = name_kind x s in
    struct_by x.at k.0 k.1

-- two structures that must be one
abbrev pub same_by : ℕ → Kind → Kind → Fault
same_by at (kind.Struct n) (kind.Struct m) = fault_if (not (n == m)) why.Kind at
same_by at j k = None

-- a parameter of a control, which must be the structure of the parser's
abbrev pub same_param : Kind → P4Param → Scope → Scope
same_param want p s =
    let k : Fault × Kind = struct_kind p.type_ s in
    declare p.name (thing.Var k.1) (note (first_of k.0 (same_by p.type_.at want k.1)) s)

-- whether a structure may be that of headers, or of metadata
abbrev pub may_hold : Bool → Record → Bool
may_hold true r = r.only_headers
may_hold false r = not r.has_header

-- a structure that holds what it may not fails at its declaration
abbrev pub record_fault : Bool → Option Record → Fault
record_fault of_headers None = None
record_fault of_headers (Some r) = fault_if (not (may_hold of_headers r)) why.Kind r.at

-- the same, of the structure that this kind is
abbrev pub holding_fault : Bool → Kind → Scope → Fault
holding_fault of_headers (kind.Struct n) s = record_fault of_headers (slice_get s.records n)
holding_fault of_headers k s = None

-- a parameter of the parser: the structure of headers, or that of metadata
abbrev pub parser_param : Bool → P4Param → Scope → Scope
parser_param of_headers p s =
    let k : Fault × Kind = struct_kind p.type_ s in
    declare p.name (thing.Var k.1) (note (first_of k.0 (holding_fault of_headers k.1 s)) s)
