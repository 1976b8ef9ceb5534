-- A leased slot has as many cells as the application keeps.
use Rattle.std.proofs.Common.{◌≡◌, ℕ, List, [], ◌∷◌, length, Option, Some, None, refl, sym, ◌∙◌, subst, true, eqb-true}
use Rattle.std.specs.Prelude.{option_map}
use Rattle.std.proofs.lemmas.Bool.{false≢true}
use Rattle.proto_data.specs.declared.message.Input.{Input}
use Rattle.proto_data.specs.declared.terms.Terms.{Terms}
use Rattle.rp_base.specs.declared.event.Event.{Event}
use Rattle.rp_base.specs.declared.node.Packet.{Packet}
use Rattle.rp_app.specs.Application.{Application}
use Rattle.rp_app.proofs.Deltas.{length-written}
use Rattle.key_table.specs.Table.{Key, Table, get, map_values}
use Rattle.proto_model.specs.Feeds.{Each}
use Rattle.proto_model.specs.Slot.{Slot, Lease, Idle, Asking, Held, Lapsed, lapsed_slot, lapsed_lease, extended}
use Rattle.proto_model.specs.SwitchState.{Switch, Item, slot_at, lapsed}
use Rattle.proto_model.specs.SwitchOutcomes.{acked_lease}
use Rattle.proto_model.specs.World.{World, Setup, SwitchNode, opened}
use Rattle.proto_model.specs.WorldStep.{world_after}
use Rattle.proto_safety.specs.Sizes.{is_leased, SlotCells}
use Rattle.key_table.proofs.Tables.{get-map_values}
use Rattle.proto_safety.proofs.Nodes.SwitchTable.{Ready, fed, at_grant, at_grant_again}
use Rattle.proto_safety.proofs.Inductions.FlowMoves.{View, Move, elsewhere, lapses, asks, asks_again, takes_grant, forgets, direct, mirrored, acked, idles, resends, keeps_lease, snapped, round_done, sends_chunk, begins_round}
use Rattle.proto_safety.proofs.Inductions.FlowInduction.{FlowKeeps, Holds, flows_hold, flows_kept}
use Rattle.proto_safety.proofs.Inductions.Induction.{Keeps}

pub lapsed_was_leased : (now : ℕ) (lease : Lease) → is_leased (lapsed_lease now lease) ≡ true → is_leased lease ≡ true
lapsed_was_leased now Idle h = h
lapsed_was_leased now (Asking nonce first) h = h
lapsed_was_leased now (Held nonce epoch expiry) h = refl
lapsed_was_leased now (Lapsed nonce epoch expiry) h = h

pub mapped : (now : ℕ) (o : Option Slot) (slot : Slot) → option_map (lapsed_slot now) o ≡ Some slot → (old : Slot) × (o ≡ Some old) × (lapsed_slot now old ≡ slot)
mapped now None slot e = absurd cc
mapped now (Some old) slot e = (old, refl, cc)

abbrev pub CellsCounted : ℕ → Option Slot → Type 0
CellsCounted count None = Unit {0}
CellsCounted count (Some slot) = SlotCells count slot

counted_at : (count : ℕ) (o : Option Slot) (slot : Slot) → o ≡ Some slot → CellsCounted count o → SlotCells count slot
counted_at count o slot at h = subst (λ x. CellsCounted count x) at h

-- a slot with the same cells whose lease is none where the old one's was none
same_cells : (count : ℕ) (o : Option Slot) (old new : Slot) → o ≡ Some old → length new.cells ≡ length old.cells → (is_leased new.lease ≡ true → is_leased old.lease ≡ true) → CellsCounted count o → SlotCells count new
same_cells count o old new at cells leased h = record { cells_are = λ l. cells ∙ (counted_at count o old at h).cells_are (leased l) }

pub extended_was_leased : (t now at : ℕ) (l : Lease) → is_leased (extended t now at l) ≡ true → is_leased l ≡ true
extended_was_leased t now at (Lapsed nonce epoch expiry) h = refl
extended_was_leased t now at Idle h = h
extended_was_leased t now at (Asking nonce first) h = h
extended_was_leased t now at (Held nonce epoch expiry) h = refl

pub acked_was_leased : (t now : ℕ) (l : Lease) (o : Option (ℕ × ℕ)) → is_leased (acked_lease t now l o) ≡ true → is_leased l ≡ true
acked_was_leased t now l None h = h
acked_was_leased t now l (Some best) h = extended_was_leased t now best.1 l h

pub lapsed_counted : (count now : ℕ) (o : Option Slot) → CellsCounted count o → CellsCounted count (option_map (lapsed_slot now) o)
lapsed_counted count now None h = tt
lapsed_counted count now (Some slot) h = record { cells_are = λ l. h.cells_are (lapsed_was_leased now slot.lease l) }

cells_move : (app : Application) (inc : ℕ) (terms : Terms) (now : ℕ) (input : Input) (key : Key) (v u : View) (items : List Item) → Move app inc terms now input key v items u → CellsCounted app.cell_count v.slot → CellsCounted app.cell_count u.slot
cells_move app inc terms now input key v u items (elsewhere le) h = h
cells_move app inc terms now input key v u items lapses h = lapsed_counted app.cell_count now v.slot h
cells_move app inc terms now input key v u items (asks slot came of) h = record { cells_are = λ l. absurd (false≢true l) }
cells_move app inc terms now input key v u items (asks_again {slot = slot} came of at is young) h = same_cells app.cell_count v.slot slot _ at refl (λ l. l) h
cells_move app inc terms now input key v u items (takes_grant {cells = cells} came whole at is young) h = record { cells_are = λ l. eqb-true (length cells) app.cell_count whole }
cells_move app inc terms now input key v u items (forgets {slot = slot} mark at) h = same_cells app.cell_count v.slot slot _ at refl (λ l. l) h
cells_move app inc terms now input key v u items (direct {slot = slot} {made = made} b at is mode e clean alone) h = same_cells app.cell_count v.slot slot _ at (length-written slot.cells made.0) (λ l. l) h
cells_move app inc terms now input key v u items (mirrored {slot = slot} {made = made} b at is mode e) h = same_cells app.cell_count v.slot slot _ at (length-written slot.cells made.0) (λ l. l) h
cells_move app inc terms now input key v u items (acked {slot = slot} came mode at of) h = same_cells app.cell_count v.slot slot _ at refl (λ l. acked_was_leased terms.t_switch now slot.lease _ l) h
cells_move app inc terms now input key v u items (idles at) h = record { cells_are = λ l. absurd (false≢true l) }
cells_move app inc terms now input key v u items (resends same) h = h
cells_move app inc terms now input key v u items (keeps_lease {slot = slot} mode at is alone) h = same_cells app.cell_count v.slot slot _ at refl (λ l. l) h
cells_move app inc terms now input key v u items (snapped {slot = slot} {made = made} b at is mode e young) h = same_cells app.cell_count v.slot slot _ at (length-written slot.cells made.0) (λ l. l) h
cells_move app inc terms now input key v u items (round_done {slot = slot} {r = r} came mode at of is m) h = same_cells app.cell_count v.slot slot _ at refl (λ l. extended_was_leased terms.t_switch now r.begun slot.lease l) h
cells_move app inc terms now input key v u items (sends_chunk {slot = slot} at is r) h = same_cells app.cell_count v.slot slot _ at refl (λ l. l) h
cells_move app inc terms now input key v u items (begins_round {slot = slot} at is mode r) h = same_cells app.cell_count v.slot slot _ at refl (λ l. l) h

abbrev pub Counted : Application → ℕ → Terms → Key → View → Type 0
Counted app inc terms key v = CellsCounted app.cell_count v.slot

pub cells_keep : (app : Application) → FlowKeeps app (Counted app)
cells_keep app = record { starts = λ inc terms key. tt; moves = λ inc terms now input key v u items m h. cells_move app inc terms now input key v u items m h }

-- each leased slot of a switch has so many cells
abbrev pub SwitchCounted : Application → SwitchNode → Type 0
SwitchCounted app node = (key : Key) → CellsCounted app.cell_count (slot_at node.state key)

abbrev pub AllCounted : Application → World → Type 0
AllCounted app w = Each (Holds app (Counted app) (cells_keep app)) w.switches

pub counted_kept : (app : Application) → Keeps app (AllCounted app)
counted_kept app = flows_kept app (Counted app) (cells_keep app)

pub all_counted : (app : Application) (setup : Setup) (es : List Event) → AllCounted app (world_after app (opened app.cell_count setup) es)
all_counted app setup es = flows_hold app (Counted app) (cells_keep app) setup es

-- a packet is processed in a slot with so many cells
pub ready_counted : {app : Application} {s : Switch} {now : ℕ} {input : Input} {key : Key} {slot : Slot} {epoch : ℕ} {p : Packet} → Ready app s now input key slot epoch p →
    ((k : Key) → CellsCounted app.cell_count (slot_at s k)) → length slot.cells ≡ app.cell_count
ready_counted {app = app} {key = key} (fed {slot = slot} of at is) h = (counted_at app.cell_count _ slot at (h key)).cells_are (rw is refl)
ready_counted {app = app} (at_grant {cells = cells} t m) h = eqb-true (length cells) app.cell_count t.whole
ready_counted {app = app} {key = key} (at_grant_again {slot = slot} i at is m) h = (counted_at app.cell_count _ slot at (h key)).cells_are (rw is refl)

-- each leased slot of a table has so many cells
abbrev pub Whole : ℕ → Table Slot → Type 0
Whole count slots = (key : Key) → CellsCounted count (get slots key)

pub lapsed_whole : (count now : ℕ) (slots : Table Slot) → Whole count slots → Whole count (map_values (lapsed_slot now) slots)
lapsed_whole count now slots h key = subst (λ o. CellsCounted count o) (sym (get-map_values (lapsed_slot now) slots key)) (lapsed_counted count now (get slots key) (h key))

-- and in the switch whose ended leases have lapsed
pub lapsed_switch_counted : (app : Application) (s : Switch) (now : ℕ) → Whole app.cell_count s.slots → Whole app.cell_count (lapsed now s).slots
lapsed_switch_counted app s now h = lapsed_whole app.cell_count now s.slots h
