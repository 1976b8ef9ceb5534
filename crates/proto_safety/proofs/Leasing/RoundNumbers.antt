-- A running round has a number of at least 1, which is at most its slot's last, in every mode.
use Rattle.std.proofs.Common.{◌≡◌, ℕ, ◌+◌, ◌≤◌, List, Option, Some, None, arith, subst, slice_get}
use Rattle.std.specs.Prelude.{option_map}
use Rattle.proto_data.specs.declared.message.Input.{Input}
use Rattle.proto_data.specs.declared.terms.Terms.{Terms}
use Rattle.rp_base.specs.declared.event.Event.{Event}
use Rattle.rp_app.specs.Application.{Application}
use Rattle.key_table.specs.Table.{Key}
use Rattle.proto_model.specs.Slot.{Slot, Round, lapsed_slot}
use Rattle.proto_model.specs.SwitchState.{Item, slot_at}
use Rattle.proto_model.specs.Feeds.{Each}
use Rattle.proto_model.specs.World.{World, Setup, SwitchNode, opened}
use Rattle.proto_model.specs.WorldStep.{world_after}
use Rattle.proto_safety.proofs.Inductions.FlowMoves.{View, Move, elsewhere, lapses, asks, asks_again, takes_grant, forgets, direct, mirrored, acked, idles, resends, keeps_lease, snapped, round_done, sends_chunk, begins_round}
use Rattle.proto_safety.proofs.Inductions.FlowInduction.{FlowKeeps, flows_kept, flows_hold}
use Rattle.proto_safety.proofs.Inductions.Induction.{Keeps}
use Rattle.proto_safety.proofs.Basics.Eachs.{each_at}

abbrev pub RoundFits : ℕ → Option Round → Type 0
RoundFits last None = Unit {0}
RoundFits last (Some r) = (1 ≤ r.number) × (r.number ≤ last)

abbrev pub SlotFits : Option Slot → Type 0
SlotFits None = Unit {0}
SlotFits (Some slot) = RoundFits slot.last slot.round

abbrev pub Numbered : ℕ → Terms → Key → View → Type 0
Numbered inc terms key v = SlotFits v.slot

slot_of : (o : Option Slot) (slot : Slot) → o ≡ Some slot → SlotFits o → RoundFits slot.last slot.round
slot_of o slot at h = subst SlotFits at h

round_of : (last : ℕ) (o : Option Round) (r : Round) → o ≡ Some r → RoundFits last o → RoundFits last (Some r)
round_of last o r is h = subst (RoundFits last) is h

fits_more : (last : ℕ) (o : Option Round) → RoundFits last o → RoundFits (last + 1) o
fits_more last None h = tt
fits_more last (Some r) h = (h.0, omega (arith, h.1))

lapsed_fits : (now : ℕ) (o : Option Slot) → SlotFits o → SlotFits (option_map (lapsed_slot now) o)
lapsed_fits now None h = tt
lapsed_fits now (Some slot) h = h

moves : (app : Application) (inc : ℕ) (terms : Terms) (now : ℕ) (input : Input) (key : Key) (v u : View) (items : List Item) → Move app inc terms now input key v items u → Numbered inc terms key v → Numbered inc terms key u
moves app inc terms now input key v u items (elsewhere le) h = h
moves app inc terms now input key v u items lapses h = lapsed_fits now v.slot h
moves app inc terms now input key v u items (asks slot came of) h = tt
moves app inc terms now input key v u items (asks_again {slot = slot} came of at is young) h = slot_of v.slot slot at h
moves app inc terms now input key v u items (takes_grant came whole at is young) h = tt
moves app inc terms now input key v u items (forgets {slot = slot} mark at) h = slot_of v.slot slot at h
moves app inc terms now input key v u items (direct {slot = slot} b at is mode e clean alone) h = slot_of v.slot slot at h
moves app inc terms now input key v u items (mirrored {slot = slot} b at is mode e) h = fits_more slot.last slot.round (slot_of v.slot slot at h)
moves app inc terms now input key v u items (acked {slot = slot} came mode at of) h = slot_of v.slot slot at h
moves app inc terms now input key v u items (idles at) h = tt
moves app inc terms now input key v u items (resends same) h = h
moves app inc terms now input key v u items (keeps_lease {slot = slot} mode at is alone) h = fits_more slot.last slot.round (slot_of v.slot slot at h)
moves app inc terms now input key v u items (snapped {slot = slot} b at is mode e young) h = slot_of v.slot slot at h
moves app inc terms now input key v u items (round_done came mode at e is n) h = tt
moves app inc terms now input key v u items (sends_chunk {slot = slot} {r = r} at is running) h = round_of slot.last slot.round r running (slot_of v.slot slot at h)
moves app inc terms now input key v u items (begins_round {slot = slot} at is mode idle) h = (omega arith, omega arith)

numbered : (app : Application) → FlowKeeps app Numbered
numbered app = record { starts = λ inc terms key. tt; moves = moves app }

abbrev pub AllNumbered : World → Type 0
AllNumbered w = Each (λ (n : SwitchNode). (key : Key) → SlotFits (slot_at n.state key)) w.switches

pub numbered_kept : (app : Application) → Keeps app AllNumbered
numbered_kept app = flows_kept app Numbered (numbered app)

pub all_numbered : (app : Application) (setup : Setup) (es : List Event) → AllNumbered (world_after app (opened app.cell_count setup) es)
all_numbered app setup es = flows_hold app Numbered (numbered app) setup es

pub numbered_at : (w : World) (n : ℕ) (node : SwitchNode) (key : Key) (slot : Slot) (r : Round) → AllNumbered w → slice_get w.switches n ≡ Some node → slot_at node.state key ≡ Some slot → slot.round ≡ Some r → (1 ≤ r.number) × (r.number ≤ slot.last)
numbered_at w n node key slot r h at found is =
    round_of slot.last slot.round r is (slot_of (slot_at node.state key) slot found (each_at (λ (x : SwitchNode). (k : Key) → SlotFits (slot_at x.state k)) w.switches n node h at key))
