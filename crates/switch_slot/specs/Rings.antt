-- A ring of marks in its memory, if it has taken any.
use Rattle.std.specs.Prelude.{ℕ, ◌≡◌, ◌≤◌, ⊤, [], Option, Some, None, length, if◌then◌else◌}
use Rattle.circular_buffer.specs.Buffer.{Buffer}
use Rattle.proto_data.specs.declared.limits.TheConstants.{MARKS}
use Rattle.proto_model.specs.Ring.{Ring, holds}

-- the marks, the oldest first
abbrev pub places_of : Option (Buffer (Option ℕ)) → Ring
places_of None = []
places_of (Some b) = b.items

-- there is room for as many marks as a ring has
abbrev pub IsRing : Option (Buffer (Option ℕ)) → Type 0
IsRing None = ⊤
IsRing (Some b) = (b.capacity ≡ MARKS) × (length b.items ≤ MARKS)

-- a place once the mark is forgotten
abbrev pub emptied_place : ℕ → Option ℕ → Option ℕ
emptied_place mark place = if holds mark place then None else place
