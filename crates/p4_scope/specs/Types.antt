-- Types and widths.
use Rattle.std.specs.Prelude.{ℕ, ◌+◌, ◌%◌, Bool, true, false, not, ◌&&◌, ◌==◌, nat_le, if◌then◌else◌, List, [], ◌∷◌, ◌++◌, length, Option, Some, None, is_some, bytes_eq, slice_get}
use Rattle.std.specs.List.{list_any, list_all}
use Rattle.std.specs.Map.{lookup}
use Rattle.std.specs.Option.{option_map_or}
use Rattle.rp_base.specs.declared.refused.Why.TheVariants as why
use Rattle.p4_ast.specs.declared.name.P4Name.{P4Name}
use Rattle.p4_ast.specs.declared.declaration.P4Type.{P4Type}
use Rattle.p4_ast.specs.declared.declaration.P4Type.TheVariants as type
use Rattle.p4_ast.specs.declared.declaration.P4Field.{P4Field}
use Rattle.p4_ast.specs.declared.declaration.P4Header.{P4Header}
use Rattle.p4_ast.specs.declared.declaration.P4Struct.{P4Struct}
use Rattle.p4_ast.specs.declared.declaration.P4Typedef.{P4Typedef}
use Rattle.p4_scope.specs.declared.kind.Kind.{Kind}
use Rattle.p4_scope.specs.declared.kind.Kind.TheVariants as kind
use Rattle.p4_scope.specs.declared.thing.Thing.{Thing}
use Rattle.p4_scope.specs.declared.thing.Thing.TheVariants as thing
use Rattle.p4_scope.specs.Faults.{Fault, first_of, fault, fault_if}
use Rattle.p4_scope.specs.Scopes.{Text, Record, Scope, note, find, declare}

-- ---- types

-- whether bits may have this width
abbrev pub is_width : ℕ → Bool
is_width w = nat_le 1 w && nat_le w 128

-- the kind of what a type's name stands for
abbrev pub named_kind : P4Name → Option Thing → Fault × Kind
named_kind x None = (fault why.Unknown x.at, kind.Failed)
named_kind x (Some (thing.Type k)) = (None, k)
named_kind x (Some t) = (fault why.Kind x.at, kind.Failed)

-- the kind that a type's name stands for
abbrev pub name_kind : P4Name → Scope → Fault × Kind
name_kind x s = named_kind x (find x.text s)

-- the place of a type
abbrev pub type_place : P4Type → ℕ
type_place (type.Bit at w) = at
type_place (type.Bool at) = at
type_place (type.Name at x) = at
type_place (type.StdT at) = at

-- the kind that a type stands for
abbrev pub type_kind : P4Type → Scope → Fault × Kind
type_kind (type.Bit at w) s = if is_width w.value then (None, kind.Bits w.value) else (fault why.Width w.at, kind.Failed)
type_kind (type.Bool at) s = (None, kind.Bool)
type_kind (type.Name at x) s = name_kind x s
type_kind (type.StdT at) s = (None, kind.Std)

-- a kind that must be bits or bool, or fails at this place
abbrev pub plain : ℕ → Fault → Kind → Fault × Kind
plain at f (kind.Header n) = (first_of f (fault why.Kind at), kind.Failed)
plain at f (kind.Struct n) = (first_of f (fault why.Kind at), kind.Failed)
plain at f kind.Std = (first_of f (fault why.Kind at), kind.Failed)
plain at f k = (f, k)

-- the kind of a variable, a constant or an action's parameter
abbrev pub plain_kind : ℕ → P4Type → Scope → Fault × Kind
plain_kind at t s =
    let k : Fault × Kind = type_kind t s in
    plain at k.0 k.1

-- a kind that must be bits, or fails at this place
abbrev pub bits : ℕ → Fault → Kind → Fault × Kind
bits at f (kind.Bits w) = (f, kind.Bits w)
bits at f kind.Failed = (f, kind.Failed)
bits at f k = (first_of f (fault why.Kind at), kind.Failed)

-- ---- headers and structures

-- the fields so far: their first fault, their kinds by name, and the kinds of all, also of those with a name of before
pub record Fields : Type 0 where
  pub fault : Fault
  pub named : List (Text × Kind)
  pub kinds : List Kind

-- before the first field
abbrev pub no_fields : Fields
no_fields = record { fault = None; named = []; kinds = [] }

-- the kinds by name with a field's, unless it has a name of before
abbrev pub named_by : Bool → P4Name → Kind → List (Text × Kind) → List (Text × Kind)
named_by true x k fs = fs
named_by false x k fs = fs ++ (x.text, k) ∷ []

-- the fields with another, of this name and kind
abbrev pub add_field : P4Name → Fault × Kind → Fields → Fields
add_field x k fs =
    let twice : Bool = is_some (lookup (bytes_eq x.text) fs.named) in
    record {
      fault = first_of (first_of fs.fault k.0) (fault_if twice why.Twice x.at);
      named = named_by twice x k.1 fs.named;
      kinds = fs.kinds ++ k.1 ∷ [];
    }

-- the fields of a header, behind others
abbrev pub header_fields : List P4Field → Scope → Fields → Fields
header_fields [] s fs = fs
header_fields (f ∷ rest) s fs =
    let k : Fault × Kind = type_kind f.type_ s in
    header_fields rest s (add_field f.name (bits f.at k.0 k.1) fs)

-- the fields of a structure, behind others
abbrev pub struct_fields : List P4Field → Scope → Fields → Fields
struct_fields [] s fs = fs
struct_fields (f ∷ rest) s fs = struct_fields rest s (add_field f.name (type_kind f.type_ s) fs)

-- the width of fields behind so many bits, unless one of them failed
abbrev pub total : List Kind → ℕ → Option ℕ
total [] n = Some n
total (kind.Bits w ∷ ks) n = total ks (n + w)
total (k ∷ ks) n = None

-- whether a header may have this width
abbrev pub is_header_width : ℕ → Bool
is_header_width w = (w % 8 == 0) && nat_le w 1024

-- a declared header or structure
abbrev pub with_record : P4Name → Kind → Record → Scope → Scope
with_record x k r s = declare x (thing.Type k) (record s { records = s.records ++ r ∷ [] })

-- whether the fields have a width, and no header may have it
abbrev pub is_odd : List Kind → Bool
is_odd ks = option_map_or (λ w. not (is_header_width w)) (total ks 0) false

-- a header, behind which its name is visible
abbrev pub header : P4Header → Scope → Scope
header h s =
    let fs : Fields = header_fields h.fields s no_fields in
    with_record h.name (kind.Header (length s.records))
    (record { at = h.at; fields = fs.named; only_headers = false; has_header = false })
    (note (first_of fs.fault (fault_if (is_odd fs.kinds) why.Width h.at)) s)

-- whether it is a header, or failed
abbrev pub is_header : Kind → Bool
is_header (kind.Header n) = true
is_header kind.Failed = true
is_header k = false

-- whether it is or holds a header
abbrev pub has_header : Scope → Kind → Bool
has_header s (kind.Header n) = true
has_header s (kind.Struct n) = option_map_or (λ r. r.has_header) (slice_get s.records n) false
has_header s k = false

-- a structure, behind which its name is visible
abbrev pub struct_ : P4Struct → Scope → Scope
struct_ t s =
    let fs : Fields = struct_fields t.fields s no_fields in
    with_record t.name (kind.Struct (length s.records))
    (record { at = t.at; fields = fs.named; only_headers = list_all is_header fs.kinds; has_header = list_any (has_header s) fs.kinds })
    (note fs.fault s)

-- a typedef, behind which its name is visible
abbrev pub typedef : P4Typedef → Scope → Scope
typedef t s =
    let k : Fault × Kind = type_kind t.type_ s in
    declare t.name (thing.Type k.1) (note k.0 s)
