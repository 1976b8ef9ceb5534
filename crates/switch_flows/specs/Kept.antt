-- How the copies of a buffer, which have the numbers of slots, are the copies of flows, which have keys.
use Rattle.std.specs.Prelude.{ℕ, ◌≡◌, ◌≤◌, ◌<◌, List, [], map, length, slice_index_or}
use Rattle.mirror_buf.specs.declared.kept.Kept.{Kept}
use Rattle.mirror_buf.specs.Copies.{Named, Copies, sent_by}
use Rattle.mirror_buf.specs.Places.{Each, Ordered, Apart, Sooner}
use Rattle.key_table.specs.Table.{Key, Table, keys, map_values}
use Rattle.proto_model.specs.Slot.{Slot, lapsed_slot}
use Rattle.proto_model.specs.SwitchState.{Copy}
use Rattle.switch_flows.specs.Places.{Distinct}
use Rattle.switch_flows.specs.States.{FlowsAt}

-- what is kept for a slot, as a copy of the flow that has the slot
abbrev pub copy_of : List Key → Kept → Copy
copy_of ks k = record { key = slice_index_or ks k.slot []; number = k.number; delta = k.delta; first = k.first; sent = k.sent }

-- all copies by their flows
abbrev pub copies_of : List Key → List Named → List Copy
copies_of ks cs = map (λ (c : Named). copy_of ks c.1) cs

-- rows and a buffer at a moment
abbrev pub seen : Table Slot → Copies → ℕ → FlowsAt
seen rows b latest = record { slots = map_values (lapsed_slot latest) rows; copies = copies_of (keys rows) b.copies; latest = latest }

-- the first sending of a copy was no later
abbrev pub first_by : ℕ → Named → Type 0
first_by moment c = c.1.first ≤ moment

-- the slot of a copy is one of so many
abbrev pub placed : ℕ → Named → Type 0
placed count c = c.1.slot < count

-- what holds of all flows: each copy is of a slot that there is, no moment is after the latest, and copies stand by their last sending
pub record AreFlows (ks : List Key) (b : Copies) (latest : ℕ) : Type 0 where
  pub few : length ks ≤ 1024
  pub distinct : Distinct ks
  pub room : b.slots ≡ 1024
  pub there : Each (placed (length ks)) b.copies
  pub first : Each (first_by latest) b.copies
  pub sent : Each (sent_by latest) b.copies
  pub apart : Ordered Apart b.copies
  pub sooner : Ordered Sooner b.copies
