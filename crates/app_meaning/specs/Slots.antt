-- Where values stand: each path of a program has a slot, whose number is its place in one list.
use Rattle.std.specs.Prelude.{ℕ, suc, Bool, ◌&&◌, List, [], ◌∷◌, ◌++◌, map, length, Option, Some, None, if◌then◌else◌, bytes_eq, codes, slice_index_or, option_map}
use Rattle.p4_ast.specs.declared.name.P4Name.{P4Name}
use Rattle.p4_ast.specs.declared.name.P4Path.{P4Path}
use Rattle.p4_ast.specs.declared.declaration.P4Type.{P4Type}
use Rattle.p4_ast.specs.declared.declaration.P4Type.TheVariants as type
use Rattle.p4_ast.specs.declared.declaration.P4Field.{P4Field}
use Rattle.app_data.specs.declared.value.Value.{Value}
use Rattle.app_data.specs.declared.scope.Slot.{Slot}
use Rattle.app_data.specs.declared.scope.TypeSlots.{TypeSlots}
use Rattle.app_data.specs.declared.scope.Constant.{Constant}
use Rattle.app_data.specs.declared.scope.Register.{Register}
use Rattle.app_meaning.specs.Values.{cut, width_of}

-- a name, by its bytes
abbrev pub Name : Type 0
Name = List ℕ

-- the names of a path, first the variable or parameter
abbrev pub Path : Type 0
Path = List Name

-- the bytes of a name
abbrev pub text : P4Name → Name
text n = n.text

-- the names of a path
abbrev pub names : P4Path → Path
names p = map text p.names

-- whether two paths are the same
abbrev pub path_eq : Path → Path → Bool
path_eq [] [] = Bool.true
path_eq [] (q ∷ qs) = Bool.false
path_eq (p ∷ ps) [] = Bool.false
path_eq (p ∷ ps) (q ∷ qs) = bytes_eq p q && path_eq ps qs

-- a slot that has no fields
abbrev pub value_slot : Path → ℕ → Slot
value_slot path width = record { path = path; width = width; fields = 0 }

-- the same slots with a name in front of their paths
abbrev pub below : Name → List Slot → List Slot
below name slots = map (λ s. record { path = name ∷ s.path; width = s.width; fields = s.fields }) slots

-- the type of this name, the last declaration first
abbrev pub named_type : Name → List TypeSlots → Option (List Slot)
named_type name [] = None
named_type name (t ∷ ts) = if bytes_eq t.name name then Some t.slots else named_type name ts

-- the constant of this name, the last declaration first
abbrev pub named_constant : Name → List Constant → Option Value
named_constant name [] = None
named_constant name (c ∷ cs) = if bytes_eq c.name name then Some c.value else named_constant name cs

-- the cells of this name
abbrev pub named_register : Name → List Register → Option Register
named_register name [] = None
named_register name (g ∷ gs) = if bytes_eq g.name name then Some g else named_register name gs

-- no slots where there is no type
abbrev pub or_none : Option (List Slot) → List Slot
or_none None = []
or_none (Some slots) = slots

-- the slots of a value of type `std_t`
abbrev pub std_slots : List Slot
std_slots = value_slot (codes "in_port" ∷ []) 16 ∷ value_slot (codes "out_port" ∷ []) 16 ∷ value_slot (codes "drop" ∷ []) 1 ∷ []

-- the slots of one value of a type
abbrev pub type_slots : List TypeSlots → P4Type → List Slot
type_slots types (type.Bit at width) = value_slot [] (width_of width.value) ∷ []
type_slots types (type.Bool at) = value_slot [] 1 ∷ []
type_slots types (type.Name at name) = or_none (named_type (text name) types)
type_slots types (type.StdT at) = std_slots

-- the width of the first slot
abbrev pub first_width : List Slot → ℕ
first_width [] = 0
first_width (s ∷ ss) = s.width

-- the width of a type of bits or bool
abbrev pub type_width : List TypeSlots → P4Type → ℕ
type_width types t = first_width (type_slots types t)

-- a field of a header, a parameter of an action or a variable
abbrev pub typed_slot : List TypeSlots → P4Type → P4Name → Slot
typed_slot types t name = value_slot (text name ∷ []) (type_width types t)

-- a header and behind it its fields
abbrev pub header_slots : List TypeSlots → List P4Field → List Slot
header_slots types fields =
    record { path = []; width = 1; fields = length fields } ∷ map (λ f. typed_slot types f.type_ f.name) fields

-- the slots of a structure's fields, one field after the other
abbrev pub struct_slots : List TypeSlots → List P4Field → List Slot
struct_slots types [] = []
struct_slots types (f ∷ fs) = below (text f.name) (type_slots types f.type_) ++ struct_slots types fs

-- What names stand for. While an action runs, `own` has its name:
-- its parameters and variables have slots of their own, with the action's name in front.
pub record Scope : Type 0 where
  pub types : List TypeSlots
  pub constants : List Constant
  pub registers : List Register
  pub slots : List Slot
  pub own : Option Name

-- the number of the first slot with this path
abbrev pub place : List Slot → Path → Option ℕ
place [] path = None
place (s ∷ ss) path = if path_eq s.path path then Some 0 else option_map suc (place ss path)

-- the number of the slot of the action's own name
abbrev pub own_place : Option Name → List Slot → Name → Option ℕ
own_place None slots name = None
own_place (Some action) slots name = place slots (action ∷ name ∷ [])

-- the first number, or else the other one
abbrev pub or_else : Option ℕ → Option ℕ → Option ℕ
or_else (Some i) other = Some i
or_else None other = other

-- the number of a path's slot: a name of the action's own goes before one from outside
abbrev pub slot_of : Scope → Path → Option ℕ
slot_of sc [] = None
slot_of sc (n ∷ []) = or_else (own_place sc.own sc.slots n) (place sc.slots (n ∷ []))
slot_of sc (n ∷ m ∷ ns) = place sc.slots (n ∷ m ∷ ns)

-- the value in a slot
abbrev pub value_in : List Value → ℕ → Value
value_in values i = slice_index_or values i (cut 0 0)

-- 0 where there is no value
abbrev pub or_zero : Option Value → Value
or_zero None = cut 0 0
or_zero (Some v) = v

-- a constant's value
abbrev pub constant : Scope → Path → Value
constant sc [] = cut 0 0
constant sc (n ∷ []) = or_zero (named_constant n sc.constants)
constant sc (n ∷ m ∷ ns) = cut 0 0

-- the value in a slot, or else a constant
abbrev pub slot_or_constant : Scope → List Value → Path → Option ℕ → Value
slot_or_constant sc values path (Some i) = value_in values i
slot_or_constant sc values path None = constant sc path

-- the value of a path: of its slot, or of a constant
abbrev pub path_value : Scope → List Value → Path → Value
path_value sc values path = slot_or_constant sc values path (slot_of sc path)
