-- What is seen of a buffer of copies: all of them with their names, in order of last sending.
use Rattle.std.specs.Prelude.{ℕ, ◌-◌, ◌<◌, ◌≤◌, ◌==◌, ◌≡◌, nat_le, not, ◌&&◌, Bool, List, [], ◌∷◌, ◌++◌, Option, Some, None, IsSome, if◌then◌else◌, map, filter, take, option_map, fold}
use Rattle.link_arena.specs.Lists.{find, without}
use Rattle.mirror_buf.specs.declared.kept.Kept.{Kept}

-- a copy with its name
abbrev pub Named : Type 0
Named = ℕ × Kept

-- the copies with their names, and how many slots there may be
pub record Copies : Type 0 where
  pub copies : List Named
  pub slots : ℕ

-- a copy has this name
abbrev pub IsKept : Copies → ℕ → Type 0
IsKept s id = IsSome (find id s.copies)

-- of this slot
abbrev pub is_of : ℕ → Named → Bool
is_of slot c = c.1.slot == slot

-- of this slot, with a number up to this one
abbrev pub is_covered : ℕ → ℕ → Named → Bool
is_covered slot upto c = nat_le c.1.number upto && is_of slot c

-- of this slot only with a lower number
abbrev pub numbered_below : ℕ → ℕ → Named → Type 0
numbered_below slot number c = c.1.slot ≡ slot → c.1.number < number

-- last sent at this moment or before
abbrev pub sent_by : ℕ → Named → Type 0
sent_by now c = c.1.sent ≤ now

-- last sent at least so long ago
abbrev pub is_due : ℕ → ℕ → Named → Bool
is_due now age c = nat_le age (now - c.1.sent)

-- the names of the first copies that are due, at most so many
abbrev pub due_ids : ℕ → ℕ → ℕ → List Named → List ℕ
due_ids now age room cs = take room (map (λ c. c.0) (filter (is_due now age) cs))

-- the greater number so far, with its first sending
abbrev pub greatest_first : Option (ℕ × ℕ) → Named → Option (ℕ × ℕ)
greatest_first None c = Some (c.1.number, c.1.first)
greatest_first (Some best) c = if nat_le c.1.number best.0 then Some best else Some (c.1.number, c.1.first)

-- the first sending of the copy with the greatest number
abbrev pub first_of_greatest : List Named → Option ℕ
first_of_greatest cs = option_map (λ g. g.1) (fold greatest_first None cs)

-- one copy more, as the last one sent
abbrev pub with_copy : Copies → ℕ → Kept → Copies
with_copy s id k = record s { copies = s.copies ++ (id, k) ∷ [] }

-- without the copies that an Ack covers
abbrev pub without_covered : Copies → ℕ → ℕ → Copies
without_covered s slot upto = record s { copies = filter (λ c. not (is_covered slot upto c)) s.copies }

-- without the slot's copies
abbrev pub without_slot : Copies → ℕ → Copies
without_slot s slot = record s { copies = filter (λ c. not (is_of slot c)) s.copies }

-- a copy once it was sent now
abbrev pub sent_at : ℕ → Named → Named
sent_at now c = (c.0, record c.1 { sent = now })

-- the copy of this name was sent now, and comes last
abbrev pub resent : Copies → ℕ → ℕ → Copies
resent s id now = record s { copies = without id s.copies ++ map (sent_at now) (filter (λ c. c.0 == id) s.copies) }
