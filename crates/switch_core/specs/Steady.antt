-- What is known of a switch between its turns, whatever came and at whatever moments.
-- A slot's number rises by one at most with each message that is sent.
use Rattle.std.specs.Prelude.{ℕ, ◌≡◌, ◌≤◌, true, Option, Some, None, length}
use Rattle.key_table.specs.Table.{Key}
use Rattle.proto_data.specs.declared.limits.TheConstants.{SLOTS}
use Rattle.proto_model.specs.Feeds.{Each}
use Rattle.proto_model.specs.Slot.{Slot}
use Rattle.proto_model.specs.SwitchState.{Switch, Copy, slot_at}
use Rattle.proto_safety.specs.Sizes.{is_leased, SlotCells}

-- a slot of an application with so many cells, whose numbers are at most n
pub record IsSteadySlot (count n : ℕ) (slot : Slot) : Type 0 where
  pub last : slot.last ≤ n
  pub whole : SlotCells count slot

-- a copy of a leased slot, with a number up to its last
abbrev pub IsCopyOf : Option Slot → Copy → Type 0
IsCopyOf None c = ⊥
IsCopyOf (Some slot) c = (is_leased slot.lease ≡ true) × (c.number ≤ slot.last)

-- a switch of an application with so many cells, whose numbers are at most n
pub record IsSteady (count n : ℕ) (s : Switch) : Type 0 where
  pub cells : count ≤ 256
  pub term : s.terms.t_switch ≤ 1000000
  pub nonces : s.nonces ≤ n
  pub few : length s.slots ≤ SLOTS
  pub slots : Each (λ (e : Key × Slot). IsSteadySlot count n e.1) s.slots
  pub copies : Each (λ (c : Copy). IsCopyOf (slot_at s c.key) c) s.copies
