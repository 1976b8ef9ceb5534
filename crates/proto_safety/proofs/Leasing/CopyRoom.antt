-- A switch never has more than 1,024 copies.
use Rattle.std.proofs.Common.{◌≡◌, ℕ, ◌+◌, ◌≤◌, ◌/◌, List, [], ◌∷◌, ◌++◌, length, map, Option, Some, None, arith, refl, true, false, Bool, zero, suc, length-append}
use Rattle.std.specs.Prelude.{◌&&◌, ◌||◌, not, nat_lt, is_some, if◌then◌else◌}
use Rattle.std.proofs.lemmas.Bool.{and_parts, ltb-true, leb-false}
use Rattle.rp_base.specs.declared.event.Event.{Event}
use Rattle.proto_data.specs.declared.message.Input.{Input}
use Rattle.proto_data.specs.declared.terms.Mode.{Mode}
use Rattle.rp_app.specs.Application.{Application}
use Rattle.key_table.specs.Table.{Key}
use Rattle.proto_model.specs.Slot.{Slot, Lease, Round, Idle, Asking, Held, Lapsed}
use Rattle.proto_model.specs.SwitchOutcomes.{perform}
use Rattle.proto_model.specs.SwitchAlarm.{Walk, is_due, due_copies, other_copies, ends_soon, snap_slot, strict_slot, held_slot, walked_slot, walked_key, walked_more, walked_slots, walk_order, resent, alarm}
use Rattle.proto_model.specs.SwitchRow.{SwitchRow, NewAsk, Mirrored, Late, Acked, Denied, Resends, switch_row}
use Rattle.proto_model.specs.SwitchRows.{switch_step}
use Rattle.proto_model.specs.SwitchState.{Switch, Copy, slot_at, has_copies, is_of, is_covered, lapsed}
use Rattle.proto_model.specs.World.{World, Setup, SwitchNode, opened}
use Rattle.proto_model.specs.WorldStep.{world_after}
use Rattle.proto_safety.proofs.Inductions.Induction.{Keeps, run_kept}
use Rattle.proto_safety.proofs.Nodes.SwitchNodes.{AllAt, all_set, all_changed, all_advanced, all_opened}
use Rattle.proto_safety.proofs.Nodes.SwitchTable.{RowTaken, mirrored, row_taken}
use Rattle.proto_safety.proofs.Basics.Lists.{filter_few, length_map}

-- copies that are due and the others are all copies
due_parts : (now age room : ℕ) (cs : List Copy) → length (due_copies now age room cs) + length (other_copies now age room cs) ≡ length cs
due_parts now age room [] = refl
due_parts now age zero (c ∷ cs) = omega arith
due_parts now age (suc room) (c ∷ cs) = due_case (is_due now age c) (due_parts now age room cs) (due_parts now age (suc room) cs)
  where
    due_case : (b : Bool) → length (due_copies now age room cs) + length (other_copies now age room cs) ≡ length cs → length (due_copies now age (suc room) cs) + length (other_copies now age (suc room) cs) ≡ length cs →
        length (if b then c ∷ due_copies now age room cs else due_copies now age (suc room) cs) + length (if b then other_copies now age room cs else c ∷ other_copies now age (suc room) cs) ≡ length (c ∷ cs)
    due_case true h k = omega (arith, h)
    due_case false h k = omega (arith, k)

-- ---- an Alarm

abbrev Few : Walk → Type 0
Few w = length w.state.copies ≤ 1024

few_strict : (w : Walk) (now : ℕ) (key : Key) (slot : Slot) (epoch expiry : ℕ) → Few w → Few (strict_slot w now key slot epoch expiry)
few_strict w now key slot epoch expiry h = put_case (nat_lt (length w.state.copies) 1024 && (not (has_copies w.state key) && ends_soon w.state now slot expiry)) refl
  where
    room : nat_lt (length w.state.copies) 1024 ≡ true → length (w.state.copies ++ record { key = key; number = slot.last + 1; delta = []; first = now; sent = now } ∷ []) ≤ 1024
    room lt = omega (arith, ltb-true (length w.state.copies) 1024 lt, length-append w.state.copies (record { key = key; number = slot.last + 1; delta = []; first = now; sent = now } ∷ []))

    put_case : (b : Bool) → (nat_lt (length w.state.copies) 1024 && (not (has_copies w.state key) && ends_soon w.state now slot expiry)) ≡ b → Few (strict_slot w now key slot epoch expiry)
    put_case true is = rw is (room (and_parts (nat_lt (length w.state.copies) 1024) (not (has_copies w.state key) && ends_soon w.state now slot expiry) is).0)
    put_case false is = rw is h

few_snap : (w : Walk) (now : ℕ) (key : Key) (slot : Slot) (epoch expiry : ℕ) (o : Option Round) → Few w → Few (snap_slot w now key slot epoch expiry o)
few_snap w now key slot epoch expiry (Some r) h = h
few_snap w now key slot epoch expiry None h = begin_case (is_some slot.ages.pre || ends_soon w.state now slot expiry) refl
  where
    begin_case : (b : Bool) → (is_some slot.ages.pre || ends_soon w.state now slot expiry) ≡ b → Few (snap_slot w now key slot epoch expiry None)
    begin_case true is = rw is h
    begin_case false is = rw is h

few_held : (m : Mode) (w : Walk) (now : ℕ) (key : Key) (slot : Slot) (epoch expiry : ℕ) → Few w → Few (held_slot m w now key slot epoch expiry)
few_held Mode.Strict w now key slot epoch expiry h = few_strict w now key slot epoch expiry h
few_held (Mode.Snapshot bound) w now key slot epoch expiry h = few_snap w now key slot epoch expiry slot.round h

few_slot : (w : Walk) (now : ℕ) (key : Key) (slot : Slot) (lease : Lease) → Few w → Few (walked_slot w now key slot lease)
few_slot w now key slot (Held nonce epoch expiry) h = few_held w.state.terms.mode w now key slot epoch expiry h
few_slot w now key slot Idle h = h
few_slot w now key slot (Asking nonce first) h = h
few_slot w now key slot (Lapsed nonce epoch expiry) h = h

few_key : (w : Walk) (now : ℕ) (key : Key) (o : Option Slot) → Few w → Few (walked_key w now key o)
few_key w now key None h = h
few_key w now key (Some slot) h = few_slot w now key slot slot.lease h

few_more : (w : Walk) (now : ℕ) (key : Key) (room : Bool) → Few w → Few (walked_more w now key room)
few_more w now key true h = few_key w now key (slot_at w.state key) h
few_more w now key false h = h

few_walked : (now : ℕ) (keys : List Key) (w : Walk) → Few w → Few (walked_slots w now keys)
few_walked now [] w h = h
few_walked now (key ∷ keys) w h = few_walked now keys (walked_more w now key (nat_lt (length w.sent) 64)) (few_more w now key (nat_lt (length w.sent) 64) h)

few_alarm : (s : Switch) (now : ℕ) → length s.copies ≤ 1024 → length (alarm s now).0.copies ≤ 1024
few_alarm s now h =
    few_walked now (walk_order s.walked (map (λ (e : Key × Slot). e.0) s.slots)) (resent s now (due_copies now (s.terms.t_switch / 4) 64 s.copies) (other_copies now (s.terms.t_switch / 4) 64 s.copies))
    (omega (
      arith,
      h,
      due_parts now (s.terms.t_switch / 4) 64 s.copies,
      length-append (other_copies now (s.terms.t_switch / 4) 64 s.copies) (map (λ (c : Copy). record c { sent = now }) (due_copies now (s.terms.t_switch / 4) 64 s.copies)),
      length_map (λ (c : Copy). record c { sent = now }) (due_copies now (s.terms.t_switch / 4) 64 s.copies),
    ))

-- ---- a step

few_row : (app : Application) (s : Switch) (now : ℕ) {input : Input} (row : SwitchRow) → RowTaken app s now input row → length s.copies ≤ 1024 → length (perform s now row).0.copies ≤ 1024
few_row app s now (NewAsk key slot packet) f h = omega (arith, h, filter_few (λ c. not (is_of key c)) s.copies)
few_row app s now (Mirrored key slot epoch mark delta out) (mirrored r m made room dirty) h =
    omega (arith, leb-false 1024 (length s.copies) room, length-append s.copies (record { key = key; number = slot.last + 1; delta = delta; first = now; sent = now } ∷ []))
few_row app s now (Late key slot mark) f h = omega (arith, h, filter_few (λ c. not (is_of key c)) s.copies)
few_row app s now (Acked key slot upto load) f h = omega (arith, h, filter_few (λ c. not (is_covered key upto c)) s.copies)
few_row app s now (Denied key slot) f h = omega (arith, h, filter_few (λ c. not (is_of key c)) s.copies)
few_row app s now Resends f h = few_alarm s now h
few_row app s now _ f h = h

few_step : (app : Application) (s : Switch) (now : ℕ) (input : Input) → length s.copies ≤ 1024 → length (switch_step app s now input).0.copies ≤ 1024
few_step app s now input h = few_row app (lapsed now s) now (switch_row app (lapsed now s) now input) (row_taken app (lapsed now s) now input) h

-- ---- every run

abbrev AllFew : World → Type 0
AllFew w = AllAt (λ n (node : SwitchNode). length node.state.copies ≤ 1024) w.switches

few_kept : (app : Application) → Keeps app AllFew
few_kept app =
    record {
      counts = λ w h. h;
      passes = λ w i h. h;
      feeds = λ w n node p at up mark h. all_set (λ n (node : SwitchNode). length node.state.copies ≤ 1024) w.switches n _ (few_step app node.state node.clock (Input.Packet p) (h n node at)) h;
      switches = λ w n node input at up from h. all_set (λ n (node : SwitchNode). length node.state.copies ≤ 1024) w.switches n _ (few_step app node.state node.clock input (h n node at)) h;
      replicas = λ w n node input at up from h. h;
      advances = λ w by fits h. all_advanced (λ n (node : SwitchNode). length node.state.copies ≤ 1024) w.switches by (λ m d x k. k) h;
      stops_switch = λ w n fits h. all_changed (λ n (node : SwitchNode). length node.state.copies ≤ 1024) w.switches n _ (λ m x k. k) h;
      stops_replica = λ w n fits h. h;
      boots = λ w n down h. all_changed (λ n (node : SwitchNode). length node.state.copies ≤ 1024) w.switches n _ (λ m x k. omega arith) h;
      detects_switch = λ w n fits h. all_changed (λ n (node : SwitchNode). length node.state.copies ≤ 1024) w.switches n _ (λ m x k. k) h;
      detects_replica = λ w n fits h. h;
      announces = λ w h. h;
    }

pub few_copies : (app : Application) (setup : Setup) (es : List Event) → AllAt (λ n (node : SwitchNode). length node.state.copies ≤ 1024) (world_after app (opened app.cell_count setup) es).switches
few_copies app setup es = run_kept app AllFew (few_kept app) es (opened app.cell_count setup) (all_opened (λ n (node : SwitchNode). length node.state.copies ≤ 1024) setup (λ n. omega arith))
