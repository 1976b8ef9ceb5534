-- How far a packet was parsed, by what a walk answers.
use Rattle.std.specs.Prelude.{ℕ, Bool, true, false, List, Option, Some, None, if◌then◌else◌, take, drop, length, nat_le, nat_lt}
use Rattle.std.specs.Borrow.{Bor}
use Rattle.p4_ast.specs.declared.name.P4Name.{P4Name}
use Rattle.rp_bits.specs.Bits.{number_of}
use Rattle.app_data.specs.declared.value.Value.{Value}
use Rattle.app_meaning.specs.Values.{cut}
use Rattle.app_meaning.specs.Slots.{Name, text}
use Rattle.app_meaning.specs.Packets.{Parsing, total_width, filled}

-- the number of the next bits, and what follows them; where fewer are left, none of them is taken
abbrev pub next_bits : ℕ → List ℕ → Option ℕ × List ℕ
next_bits w bits = if nat_lt (length bits) w then (None, bits) else (Some (number_of (take w bits)), drop w bits)

-- the next bits as a value of this width, and what follows them; none where fewer are left
abbrev pub field : ℕ → List ℕ → Option (Value × List ℕ)
field w bits = if nat_le w (length bits) then Some (cut w (number_of (take w bits)), drop w bits) else None

-- a value that was taken, and what follows it
abbrev pub taken_field : Option Value → List ℕ → Option (Value × List ℕ)
taken_field None left = None
taken_field (Some v) left = Some (v, left)

-- so many values from this place on take their bits; none where too few are left
abbrev pub fields : ℕ → ℕ → Parsing → Option Parsing
fields k i p = if nat_le (total_width k i p.values) (length p.left) then Some (filled k i p) else None

-- what a walk leaves, none where it rejects the packet
abbrev pub parsed : Bool → List Value → List ℕ → Option Parsing
parsed true values left = Some (record { values = values; left = left })
parsed false values left = None

-- the name of the next state, and what it starts with; none where the packet is rejected
abbrev pub onward : Option (Option Name × Parsing) → Option (Name × Parsing)
onward None = None
onward (Some (None, p)) = None
onward (Some (Some name, p)) = Some (name, p)

-- the next state that a walk names, and what it leaves
abbrev pub turned : Option (Bor P4Name) → List Value → List ℕ → Option (Name × Parsing)
turned None values left = None
turned (Some name) values left = Some (text name.now, record { values = values; left = left })
