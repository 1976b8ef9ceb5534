-- How values change.
use Rattle.std.specs.Prelude.{ℕ, zero, suc, Bool, true, false, not, List, [], ◌∷◌, Option, Some, None, if◌then◌else◌, set, slice_get}
use Rattle.p4_ast.specs.declared.name.P4Slice.{P4Slice}
use Rattle.p4_ast.specs.declared.name.P4Left.{P4Left}
use Rattle.p4_ast.specs.declared.statement.P4Validity.{P4Validity}
use Rattle.p4_ast.specs.declared.statement.P4Validity.TheVariants as validity
use Rattle.app_data.specs.declared.value.Value.{Value}
use Rattle.app_meaning.specs.Values.{cut, truth, holds, with_slice}
use Rattle.app_data.specs.declared.scope.Slot.{Slot}
use Rattle.app_meaning.specs.Slots.{Path, Scope, names, place, slot_of, value_in}
use Rattle.app_meaning.specs.Expressions.{high_bit, low_bit}

-- a value in its slot, nothing where there is no slot
abbrev pub set_slot : List Value → Option ℕ → Value → List Value
set_slot values None v = values
set_slot values (Some i) v = set values i v

-- the slot of the header whose field a path is: the path has three names, of a parameter, a header and a field
abbrev pub header_of : Scope → Path → Option ℕ
header_of sc [] = None
header_of sc (n ∷ []) = None
header_of sc (n ∷ m ∷ []) = None
header_of sc (n ∷ m ∷ k ∷ []) = place sc.slots (n ∷ m ∷ [])
header_of sc (n ∷ m ∷ k ∷ j ∷ ns) = None

-- whether a header isn't valid, where it is one
abbrev pub is_invalid : List Value → Option ℕ → Bool
is_invalid values None = false
is_invalid values (Some h) = not (holds (value_in values h))

-- a number in place of the whole value, or of some of its bits
abbrev pub assigned : Value → Option P4Slice → ℕ → Value
assigned old None n = cut old.width n
assigned old (Some s) n = with_slice old (high_bit s) (low_bit s) n

-- a number in a slot, nothing where there is no slot
abbrev pub assign_slot : List Value → Option ℕ → Option P4Slice → ℕ → List Value
assign_slot values None slice n = values
assign_slot values (Some i) slice n = set values i (assigned (value_in values i) slice n)

-- the values after an assignment; a field of an invalid header isn't written
abbrev pub assign : Scope → P4Left → ℕ → List Value → List Value
assign sc left n values =
    if is_invalid values (header_of sc (names left.path))
    then values
    else assign_slot values (slot_of sc (names left.path)) left.slice n

-- so many values from this place on made 0
abbrev pub zeroed : ℕ → ℕ → List Value → List Value
zeroed zero i values = values
zeroed (suc k) i values = zeroed k (suc i) (set values i (cut (value_in values i).width 0))

-- how many fields belong to a slot
abbrev pub fields_of : Option Slot → ℕ
fields_of None = 0
fields_of (Some s) = s.fields

-- how many fields the header of this slot has
abbrev pub field_count : Scope → ℕ → ℕ
field_count sc h = fields_of (slice_get sc.slots h)

-- A header becomes valid or invalid. The fields of an invalid header are 0.
abbrev pub validate : Scope → P4Validity → Option ℕ → List Value → List Value
validate sc v None values = values
validate sc validity.SetInvalid (Some h) values = set (zeroed (field_count sc h) (suc h) values) h (truth false)
validate sc validity.SetValid (Some h) values =
    if holds (value_in values h) then values else set (zeroed (field_count sc h) (suc h) values) h (truth true)
