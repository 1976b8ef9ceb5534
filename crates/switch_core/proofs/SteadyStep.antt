-- Each step keeps a switch steady, in both modes, whatever came and at whatever moment.
use Rattle.std.proofs.Common.{◌≡◌, ℕ, ◌+◌, ◌≤◌, List, [], ◌∷◌, ◌++◌, length, Option, Some, None, arith, refl, sym, ap, subst, ◌∙◌, true, false, Bool, eqb-true, filter}
use Rattle.std.specs.Prelude.{not, nat_lt, if◌then◌else◌}
use Rattle.std.proofs.lemmas.Bool.{false≢true}
use Rattle.rp_app.specs.Application.{Application, Delta}
use Rattle.rp_app.proofs.Deltas.{length-written}
use Rattle.rp_base.specs.declared.node.Packet.{Packet}
use Rattle.key_table.specs.Table.{Key, get, put}
use Rattle.key_table.proofs.Tables.{get-put_same}
use Rattle.proto_data.specs.declared.limits.TheConstants.{SLOTS}
use Rattle.proto_data.specs.declared.message.Input.{Input}
use Rattle.proto_model.specs.Slot.{Slot, Lease, Idle, Asking, Held, Lapsed, fresh_slot, extended}
use Rattle.proto_model.specs.SwitchState.{Switch, Copy, slot_at, with_slot, lapsed, is_of, is_covered}
use Rattle.proto_model.specs.SwitchRow.{SwitchRow, NewAsk, AskAgain, Drops, Direct, Mirrored, Granted, Late, Acked, RoundDone, Denied, Busied, Adopts, Resends, switch_row, granted}
use Rattle.proto_model.specs.SwitchOutcomes.{perform, acked_lease, idled}
use Rattle.proto_model.specs.SwitchRows.{switch_step}
use Rattle.proto_safety.specs.Books.{In}
use Rattle.proto_safety.specs.Sizes.{is_leased}
use Rattle.proto_safety.proofs.Basics.Eachs.{each_append, each_filter, each_in}
use Rattle.proto_safety.proofs.Basics.Members.{in_filter}
use Rattle.proto_safety.proofs.Nodes.SwitchTable.{RowTaken, Timely, Ready, fed, at_grant, at_grant_again, first_ask, ask_idle, ask_anew, ask_lapsed, ask_again, no_copy_room, direct, mirrored, snapped, too_old, granted_only, late, acked, round_done, denied, busied, row_taken}
use Rattle.proto_safety.proofs.Serial.SlotCells.{extended_was_leased, acked_was_leased}
use Rattle.switch_core.specs.Steady.{IsSteadySlot, IsCopyOf, IsSteady}
use Rattle.switch_core.proofs.Steady.{steady_later, steady_lapsed, steady_at, stored, replaced, unleased_copies, put_found, put_more, copies_put, copy_at, none_kept}
use Rattle.switch_core.proofs.SteadyAlarm.{steady_alarm}

-- ---- leases

-- a lease that is extended or renewed is one as before
extended_leased : (t now at : ℕ) (lease : Lease) → is_leased lease ≡ true → is_leased (extended t now at lease) ≡ true
extended_leased t now at Idle h = h
extended_leased t now at (Asking nonce first) h = h
extended_leased t now at (Held nonce epoch expiry) h = refl
extended_leased t now at (Lapsed nonce epoch expiry) h = renew_case (nat_lt now (at + t))
  where
    renew_case : (b : Bool) → is_leased (if b then Held nonce epoch (at + t) else Lapsed nonce epoch expiry) ≡ true
    renew_case true = refl
    renew_case false = refl

acked_leased : (t now : ℕ) (lease : Lease) (o : Option (ℕ × ℕ)) → is_leased lease ≡ true → is_leased (acked_lease t now lease o) ≡ true
acked_leased t now lease None h = h
acked_leased t now lease (Some best) h = extended_leased t now best.1 lease h

module _ (count n now : ℕ) (app : Application) (same : app.cell_count ≡ count) (s : Switch) (h : IsSteady count n s) where
  abbrev IsAfter : Switch → Type 0
  IsAfter made = IsSteady count (n + 1) made

  later : IsAfter s
  later = steady_later count n (n + 1) s (omega arith) h

  was : (key : Key) (slot : Slot) → slot_at s key ≡ Some slot → IsSteadySlot count n slot
  was key slot at = steady_at count n s key slot h at

  -- the slot changes, and neither its lease's being granted nor its number
  changed : (key : Key) (old new : Slot) → slot_at s key ≡ Some old → is_leased new.lease ≡ is_leased old.lease → new.last ≡ old.last → length new.cells ≡ length old.cells → IsAfter (with_slot s key new)
  changed key old new at leased last cells =
      let is = was key old at in
      replaced count n s h s.copies s.walked key old new at (λ c i. i) (λ l. leased ∙ l) (omega (arith, last))
      (record { last = omega (arith, last, is.last); whole = record { cells_are = λ l. cells ∙ is.whole.cells_are (sym leased ∙ l) } })

  -- the slot has no lease from now on, and its copies are given up
  emptied_steady : (nonces : ℕ) (key : Key) (new : Slot) → nonces ≤ n + 1 → length (put s.slots key new) ≤ SLOTS → new.last ≤ n + 1 → is_leased new.lease ≡ false →
      IsAfter (with_slot (record s { nonces = nonces; copies = filter (λ c. not (is_of key c)) s.copies }) key new)
  emptied_steady nonces key new low few last none =
      stored count n s h nonces (filter (λ c. not (is_of key c)) s.copies) s.walked key new low few
      (record { last = last; whole = record { cells_are = λ l. absurd (false≢true (sym none ∙ l)) } })
      (copies_put s.slots key new (filter (λ c. not (is_of key c)) s.copies) (each_filter _ (λ c. not (is_of key c)) s.copies h.copies) (λ c i of. absurd (none_kept key s.copies c i of)))

  few_found : (key : Key) (old new : Slot) → slot_at s key ≡ Some old → length (put s.slots key new) ≤ SLOTS
  few_found key old new at = omega (arith, h.few, put_found s.slots key old new at)

  asks : (key : Key) (slot : Slot) (p : Packet) → slot.last ≤ n → ((new : Slot) → length (put s.slots key new) ≤ SLOTS) → IsAfter (perform s now (NewAsk key slot p)).0
  asks key slot p last few = emptied_steady (s.nonces + 1) key _ (omega (arith, h.nonces)) (few _) (omega (arith, last)) refl

  idles : (key : Key) (slot : Slot) → slot_at s key ≡ Some slot → IsAfter (idled s key slot)
  idles key slot at = emptied_steady s.nonces key _ (omega (arith, h.nonces)) (few_found key slot _ at) (omega (arith, (was key slot at).last)) refl

  -- ---- a packet that is about to be processed

  record Processes (key : Key) (slot : Slot) : Type 0 where
    last : slot.last ≤ n
    leased : is_leased slot.lease ≡ true
    cells : length slot.cells ≡ count
    few : (new : Slot) → length (put s.slots key new) ≤ SLOTS
    copies : (c : Copy) → In s.copies c → is_of key c ≡ true → c.number ≤ slot.last

  -- copies of a key are up to the last number of the slot that stands there
  below : (key : Key) (slot : Slot) → slot_at s key ≡ Some slot → (c : Copy) → In s.copies c → is_of key c ≡ true → c.number ≤ slot.last
  below key slot at c i of = (copy_at s.slots key c (Some slot) at of (each_in (λ (d : Copy). IsCopyOf (slot_at s d.key) d) s.copies c h.copies i)).1

  -- a Grant that comes in time finds no copies
  timely : (epoch : ℕ) {inc nonce first : ℕ} {key : Key} {cells : List ℕ} {slot : Slot} → Timely app s now inc nonce key cells slot first → Processes key (granted slot nonce epoch (first + s.terms.t_switch) cells)
  timely epoch {key = key} {cells = cells} {slot = slot} t =
      record {
        last = omega arith;
        leased = refl;
        cells = eqb-true (length cells) app.cell_count t.whole ∙ same;
        few = λ new. few_found key slot new t.at;
        copies = λ c i of. absurd (unleased_copies count n s h key slot t.at (ap is_leased t.asking) c i of);
      }

  ready : (input : Input) (key : Key) (slot : Slot) (epoch : ℕ) (p : Packet) → Ready app s now input key slot epoch p → Processes key slot
  ready input key slot epoch p (fed of at held) =
      let is = was key slot at in
      let leased : is_leased slot.lease ≡ true = ap is_leased held in
      record { last = is.last; leased = leased; cells = is.whole.cells_are leased; few = λ new. few_found key slot new at; copies = below key slot at }
  ready input key _ epoch p (at_grant t m) = let g = timely epoch t in record { last = g.last; leased = g.leased; cells = g.cells; few = g.few; copies = g.copies }
  ready input key _ epoch p (at_grant_again {slot = slot} here at held m) =
      let is = was key slot at in
      let leased : is_leased slot.lease ≡ true = ap is_leased held in
      record { last = is.last; leased = leased; cells = is.whole.cells_are leased; few = λ new. few_found key slot new at; copies = below key slot at }

  -- the slot is stored with the same number
  taken : (key : Key) (slot new : Slot) → Processes key slot → new.lease ≡ slot.lease → new.last ≡ slot.last → length new.cells ≡ length slot.cells → IsAfter (with_slot s key new)
  taken key slot new x lease last cells =
      stored count n s h s.nonces s.copies s.walked key new (omega (arith, h.nonces)) (x.few new)
      (record { last = omega (arith, last, x.last); whole = record { cells_are = λ l. cells ∙ x.cells } })
      (copies_put s.slots key new s.copies h.copies (λ c i of. (ap is_leased lease ∙ x.leased, omega (arith, last, x.copies c i of))))

  -- or with the next one, and its copy
  copied : (key : Key) (slot new : Slot) (delta : Delta) → Processes key slot → new.lease ≡ slot.lease → new.last ≡ slot.last + 1 → length new.cells ≡ length slot.cells →
      IsAfter (with_slot (record s { copies = s.copies ++ record { key = key; number = slot.last + 1; delta = delta; first = now; sent = now } ∷ [] }) key new)
  copied key slot new delta x lease last cells =
      stored count n s h s.nonces (s.copies ++ made ∷ []) s.walked key new (omega (arith, h.nonces)) (x.few new)
      (record { last = omega (arith, last, x.last); whole = record { cells_are = λ l. cells ∙ x.cells } })
      (each_append (λ (d : Copy). IsCopyOf (get (put s.slots key new) d.key) d) s.copies (made ∷ [])
      (copies_put s.slots key new s.copies h.copies (λ c i of. (ap is_leased lease ∙ x.leased, omega (arith, last, x.copies c i of))))
      (subst (λ o. IsCopyOf o made) (sym (get-put_same s.slots key new)) (ap is_leased lease ∙ x.leased, omega (arith, last)), tt))
    where
      made : Copy
      made = record { key = key; number = slot.last + 1; delta = delta; first = now; sent = now }

  -- ---- rows

  abbrev IsLater : SwitchRow → Type 0
  IsLater row = IsSteady count (n + SLOTS) (perform s now row).0

  up : (made : Switch) → IsAfter made → IsSteady count (n + SLOTS) made
  up made k = steady_later count (n + 1) (n + SLOTS) made (omega arith) k

  row_steady : (input : Input) (row : SwitchRow) → RowTaken app s now input row → IsLater row
  row_steady input (NewAsk key slot p) (first_ask of at room) = up _ (asks key fresh_slot p (omega arith) (λ new. omega (arith, room, put_more s.slots key new)))
  row_steady input (NewAsk key slot p) (ask_idle of at lease) = up _ (asks key slot p (was key slot at).last (λ new. few_found key slot new at))
  row_steady input (NewAsk key slot p) (ask_anew of at lease old) = up _ (asks key slot p (was key slot at).last (λ new. few_found key slot new at))
  row_steady input (NewAsk key slot p) (ask_lapsed of at lease) = up _ (asks key slot p (was key slot at).last (λ new. few_found key slot new at))
  row_steady input (AskAgain key slot nonce p) (ask_again of at lease young) = up _ (changed key slot _ at refl refl refl)
  row_steady input (Drops key slot mark cause) (no_copy_room {epoch = epoch} {p = p} r mode full) = up _ (taken key slot slot (ready input key slot epoch p r) refl refl refl)
  row_steady input (Drops key slot mark cause) (too_old {epoch = epoch} {p = p} r mode old) = up _ (taken key slot slot (ready input key slot epoch p r) refl refl refl)
  row_steady input (Direct key slot epoch mark delta out) (direct {p = p} {made = made} r mode e clean alone) =
      up _ (taken key slot _ (ready input key slot epoch p r) refl refl (length-written slot.cells made.0))
  row_steady input (Direct key _ epoch mark delta out) (snapped {slot = slot} {p = p} {made = made} r mode e young) =
      up _ (taken key slot _ (ready input key slot epoch p r) refl refl (length-written slot.cells made.0))
  row_steady input (Mirrored key slot epoch mark delta out) (mirrored {p = p} {made = made} r mode e room t) =
      up _ (copied key slot _ made.0 (ready input key slot epoch p r) refl refl (length-written slot.cells made.0))
  row_steady input (Granted key _) (granted_only {epoch = epoch} {first = first} {cells = cells} {slot = slot} t none) =
      let new : Slot = granted slot _ epoch (first + s.terms.t_switch) cells in up _ (taken key new new (timely epoch t) refl refl refl)
  row_steady input (Late key slot mark) (late here at asking old) = up _ (idles key slot at)
  row_steady input (Acked key slot upto load) (acked mode here at of) =
      let is = was key slot at in
      up _
      (replaced count n s h (filter (λ c. not (is_covered key upto c)) s.copies) s.walked key slot _ at (λ c i. (in_filter (λ c. not (is_covered key upto c)) s.copies c i).0)
      (acked_leased s.terms.t_switch now slot.lease _) (omega arith)
      (record { last = omega (arith, is.last); whole = record { cells_are = λ l. is.whole.cells_are (acked_was_leased s.terms.t_switch now slot.lease _ l) } }))
  row_steady input (RoundDone key slot r) (round_done mode here at of o eq) =
      let is = was key slot at in
      up _
      (replaced count n s h s.copies s.walked key slot _ at (λ c i. i) (extended_leased s.terms.t_switch now r.begun slot.lease) (omega arith)
      (record { last = omega (arith, is.last); whole = record { cells_are = λ l. is.whole.cells_are (extended_was_leased s.terms.t_switch now r.begun slot.lease l) } }))
  row_steady input (Denied key slot) (denied here at of) = up _ (idles key slot at)
  row_steady input (Busied key slot mark) (busied here at asking r) = up _ (changed key slot _ at refl refl refl)
  row_steady input (Adopts config) a = record { cells = h.cells; term = h.term; nonces = (up s later).nonces; few = h.few; slots = (up s later).slots; copies = h.copies }
  row_steady input Resends a = steady_alarm count n now s h
  row_steady input _ a = up s later

-- Each step raises the numbers by at most as many as there may be slots.
pub steady_step : (count n now : ℕ) (app : Application) (s : Switch) (input : Input) → app.cell_count ≡ count → IsSteady count n s → IsSteady count (n + SLOTS) (switch_step app s now input).0
steady_step count n now app s input same h =
    row_steady count n now app same (lapsed now s) (steady_lapsed count n now s h) input (switch_row app (lapsed now s) now input) (row_taken app (lapsed now s) now input)
