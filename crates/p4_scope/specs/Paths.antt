-- Paths: what a name with fields behind it stands for.
use Rattle.std.specs.Prelude.{ℕ, Bool, true, false, List, [], ◌∷◌, Option, Some, None, bytes_eq, codes, slice_get}
use Rattle.std.specs.Map.{lookup}
use Rattle.std.specs.Option.{option_map_or}
use Rattle.rp_base.specs.declared.refused.Why.TheVariants as why
use Rattle.p4_ast.specs.declared.name.P4Name.{P4Name}
use Rattle.p4_ast.specs.declared.name.P4Path.{P4Path}
use Rattle.p4_scope.specs.declared.kind.Kind.{Kind}
use Rattle.p4_scope.specs.declared.kind.Kind.TheVariants as kind
use Rattle.p4_scope.specs.declared.thing.Thing.{Thing}
use Rattle.p4_scope.specs.declared.thing.Thing.TheVariants as thing
use Rattle.p4_scope.specs.Faults.{Fault, first_of, fault}
use Rattle.p4_scope.specs.Scopes.{Text, Scope, find}

-- the fields of `std_t`
abbrev pub std_fields : List (Text × Kind)
std_fields = (codes "in_port", kind.Bits 16) ∷ (codes "out_port", kind.Bits 16) ∷ (codes "drop", kind.Bits 1) ∷ []

-- the fields of a header or structure with this number
abbrev pub fields_of : Scope → ℕ → List (Text × Kind)
fields_of s n = option_map_or (λ r. r.fields) (slice_get s.records n) []

-- What is behind the dot. Bits and bools have no fields.
abbrev pub fields : Kind → Scope → List (Text × Kind)
fields (kind.Header n) s = fields_of s n
fields (kind.Struct n) s = fields_of s n
fields kind.Std s = std_fields
fields k s = []

-- the kind of a field of this name
abbrev pub found : P4Name → Option Kind → Fault × Kind
found x (Some k) = (None, k)
found x None = (fault why.Unknown x.at, kind.Failed)

-- a field of what has this kind
abbrev pub field : Kind → P4Name → Scope → Fault × Kind
field kind.Failed x s = (None, kind.Failed)
field k x s = found x (lookup (bytes_eq x.text) (fields k s))

-- fields of fields, behind what has this kind
abbrev pub behind : Fault × Kind → List P4Name → Scope → Fault × Kind
behind k [] s = k
behind k (x ∷ xs) s =
    let j : Fault × Kind = field k.1 x s in
    behind (first_of k.0 j.0, j.1) xs s

-- the kind of a thing that has a value
abbrev pub value_kind : P4Name → Option Thing → Fault × Kind
value_kind x None = (fault why.Unknown x.at, kind.Failed)
value_kind x (Some (thing.Const k v)) = (None, k)
value_kind x (Some (thing.Var k)) = (None, k)
value_kind x (Some (thing.Param k)) = (None, k)
value_kind x (Some t) = (fault why.Kind x.at, kind.Failed)

-- the kind of names with dots between them, of which none is a fault at this place
abbrev pub names_kind : ℕ → List P4Name → Scope → Fault × Kind
names_kind at [] s = (fault why.Unknown at, kind.Failed)
names_kind at (x ∷ xs) s = behind (value_kind x (find x.text s)) xs s

-- the kind of a path
abbrev pub path_kind : P4Path → Scope → Fault × Kind
path_kind p s = names_kind p.at p.names s

-- what the first name stands for
abbrev pub root : List P4Name → Scope → Option Thing
root [] s = None
root (x ∷ xs) s = find x.text s

-- whether it has a value that isn't written
abbrev pub is_fixed : Option Thing → Bool
is_fixed (Some (thing.Const k v)) = true
is_fixed (Some (thing.Param k)) = true
is_fixed t = false

-- a kind that must be a header, or fails at this place
abbrev pub header_fault : ℕ → Fault → Kind → Fault
header_fault at f (kind.Header n) = f
header_fault at f kind.Failed = f
header_fault at f k = first_of f (fault why.Kind at)

-- a path that must be a header
abbrev pub header_path : P4Path → Scope → Fault
header_path p s =
    let k : Fault × Kind = path_kind p s in
    header_fault p.at k.0 k.1
