-- No step sends more than 64 messages.
use Rattle.std.proofs.Common.{◌≡◌, ℕ, ◌+◌, ◌≤◌, List, [], ◌∷◌, length, Option, Some, None, arith, refl, true, false, Bool, length-append, nat_lt, map}
use Rattle.std.proofs.lemmas.Bool.{ltb-true}
use Rattle.proto_data.specs.declared.message.Msg.{Msg}
use Rattle.proto_data.specs.declared.terms.Mode.{Mode}
use Rattle.key_table.specs.Table.{Key}
use Rattle.proto_model.specs.Slot.{Slot, Lease, Held, Round}
use Rattle.proto_model.specs.SwitchState.{Switch, slot_at}
use Rattle.proto_model.specs.SwitchRow.{SwitchRow, Late, Resends}
use Rattle.proto_model.specs.SwitchOutcomes.{perform}
use Rattle.proto_model.specs.SwitchAlarm.{alarm, Walk, strict_slot, snap_slot, held_slot, walked_slot, walked_key, walked_more, walked_slots, walk_order}
use Rattle.std.proofs.lemmas.Grind.{common_steps}
use Rattle.proto_safety.proofs.Basics.Lists.{length_take_le}

-- at most one more message
abbrev OneMore : Walk → Walk → Type 0
OneMore w x = length x.sent ≤ length w.sent + 1

strict_one : (w : Walk) (now : ℕ) (key : Key) (slot : Slot) (epoch expiry : ℕ) → OneMore w (strict_slot w now key slot epoch expiry)
strict_one w now key slot epoch expiry = grind (arith, common_steps, length-append {A = Msg})

snap_one : (w : Walk) (now : ℕ) (key : Key) (slot : Slot) (epoch expiry : ℕ) (r : Option Round) → OneMore w (snap_slot w now key slot epoch expiry r)
snap_one w now key slot epoch expiry (Some r) = omega (arith, length-append {A = Msg})
snap_one w now key slot epoch expiry None = grind (arith, common_steps, length-append {A = Msg})

held_one : (m : Mode) (w : Walk) (now : ℕ) (key : Key) (slot : Slot) (epoch expiry : ℕ) → OneMore w (held_slot m w now key slot epoch expiry)
held_one Mode.Strict w now key slot epoch expiry = strict_one w now key slot epoch expiry
held_one (Mode.Snapshot b) w now key slot epoch expiry = snap_one w now key slot epoch expiry slot.round

slot_one : (w : Walk) (now : ℕ) (key : Key) (slot : Slot) (lease : Lease) → OneMore w (walked_slot w now key slot lease)
slot_one w now key slot (Held n e x) = held_one w.state.terms.mode w now key slot e x
slot_one w now key slot _ = omega arith

key_one : (w : Walk) (now : ℕ) (key : Key) (o : Option Slot) → OneMore w (walked_key w now key o)
key_one w now key None = omega arith
key_one w now key (Some slot) = slot_one w now key slot slot.lease

more_sends : (w : Walk) (now : ℕ) (key : Key) (room : Bool) → nat_lt (length w.sent) 64 ≡ room → length w.sent ≤ 64 → length (walked_more w now key room).sent ≤ 64
more_sends w now key true is h = omega (arith, key_one w now key (slot_at w.state key), ltb-true (length w.sent) 64 is)
more_sends w now key false is h = h

walk_sends : (now : ℕ) (keys : List Key) (w : Walk) → length w.sent ≤ 64 → length (walked_slots w now keys).sent ≤ 64
walk_sends now [] w h = h
walk_sends now (key ∷ keys) w h = walk_sends now keys _ (more_sends w now key (nat_lt (length w.sent) 64) refl h)

alarm_sends : (s : Switch) (now : ℕ) → length (alarm s now).1.sent ≤ 64
alarm_sends s now = walk_sends now (walk_order s.walked (map (λ (e : Key × Slot). e.0) s.slots)) _ (length_take_le 64 _)

pub row_sends : (s : Switch) (now : ℕ) (row : SwitchRow) → length (perform s now row).1.sent ≤ 64
row_sends s now Resends = alarm_sends s now
row_sends s now (Late key slot None) = omega arith
row_sends s now (Late key slot (Some m)) = omega arith
row_sends s now _ = omega arith
