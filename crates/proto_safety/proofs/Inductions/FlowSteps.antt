-- A switch's step is, for each flow, moves of that flow.
use Rattle.std.proofs.Common.{◌≡◌, ℕ, ◌+◌, ◌≤◌, List, [], ◌∷◌, ◌++◌, length, Option, Some, None, arith, refl, sym, ap, subst, ◌∙◌, true, false, Bool, eqb-true}
use Rattle.std.specs.Prelude.{◌==◌, not, filter, fold, if◌then◌else◌}
use Rattle.rp_base.specs.declared.node.Node.{Node}
use Rattle.proto_data.specs.declared.message.Body.{Body}
use Rattle.proto_data.specs.declared.terms.Mode.{Mode}
use Rattle.proto_data.specs.declared.message.Input.{Input}
use Rattle.rp_base.specs.declared.node.Packet.{Packet}
use Rattle.rp_base.specs.declared.node.Output.{Output}
use Rattle.proto_data.specs.declared.message.Carried.{Carried}
use Rattle.rp_app.specs.Application.{Application, Delta, written}
use Rattle.key_table.specs.Table.{Key, same_key}
use Rattle.proto_model.specs.Ring.{remember}
use Rattle.proto_model.specs.Slot.{Round, may, updated, extended, acknowledged, fresh_slot, is_young, Slot, Idle, Asking, Held, emptied}
use Rattle.proto_model.specs.SwitchState.{Switch, Copy, Item, slot_at, with_slot, without_copies, has_copies, is_of, is_covered, greatest_first}
use Rattle.proto_model.specs.SwitchRow.{SwitchRow, is_clean, asked_mark, granted, without_asked, has_epoch}
use Rattle.proto_model.specs.SwitchOutcomes.{late_did, perform, item_of, remember_output, acked_lease, forget_load, idled}
use Rattle.proto_safety.proofs.Nodes.SwitchTable.{stale, keyless, no_room, adopted, resends, msg, Ready, RowTaken, first_ask, ask_idle, ask_anew, ask_lapsed, ask_again, no_copy_room, direct, mirrored, snapped, too_old, granted_only, late, acked, round_done, denied, busied}
use Rattle.proto_safety.proofs.Inductions.FlowMoves.{view, none, more, asks, asks_again, takes_grant, forgets, idles, same_view, Steps, untouched, ready_moves, ready_held, ready_brings, Brings, one_more_same, one_more_other, none_given_up, none_of, covered_of, covered_elsewhere}
use Rattle.proto_safety.proofs.Inductions.FlowMoves.{snapped as moves_snapped, round_done as moves_round_done, direct as moves_direct, mirrored as moves_mirrored, acked as moves_acked}
use Rattle.proto_safety.proofs.Inductions.OtherFlows.{given_up_elsewhere}
use Rattle.key_table.proofs.Tables.{get-put_same, get-put_other, same_key-true, same_key-refl}
use Rattle.proto_safety.proofs.Basics.Lists.{filter_comm}

-- the items of one flow
abbrev pub of_flow : Key → Option Item → List Item
of_flow key None = []
of_flow key (Some i) = if same_key i.key key then i ∷ [] else []

module _ (app : Application) (s : Switch) (now : ℕ) (input : Input) where
  abbrev pub RowMoves : Key → SwitchRow → Type 0
  RowMoves key row = Steps app s now input key (view key s) (of_flow key (perform s now row).1.item) (view key (perform s now row).0)

  -- a flow's slot changes, and its copies
  stored : (key : Key) (items : List Item) (s' : Switch) (nonces : ℕ) (slot : Slot) (copies : List Copy) → s'.nonces ≡ nonces → slot_at s' key ≡ Some slot → filter (is_of key) s'.copies ≡ copies →
      Steps app s now input key (view key s) items (record { nonces = nonces; slot = Some slot; copies = copies }) → Steps app s now input key (view key s) items (view key s')
  stored key items s' nonces slot copies n at cs h = subst (λ u. Steps app s now input key (view key s) items u) (sym (same_view (view key s') nonces (Some slot) copies n at cs)) h

  -- a slot alone is stored; at its own key `own` says how
  slot_stored : (k key : Key) (slot : Slot) → (k ≡ key → Steps app s now input key (view key s) [] (record { nonces = s.nonces; slot = Some slot; copies = filter (is_of key) s.copies })) → (b : Bool) → same_key k key ≡ b →
      Steps app s now input key (view key s) [] (view key (with_slot s k slot))
  slot_stored k key slot own true is =
      let same : k ≡ key = same_key-true k key is in
      stored key [] (with_slot s k slot) s.nonces slot (filter (is_of key) s.copies) refl (rw same (get-put_same s.slots key slot)) refl (own same)
  slot_stored k key slot own false is = untouched app s now input key (with_slot s k slot) (omega arith) (get-put_other s.slots key k slot is) refl

  -- a slot is stored and its copies are given up, after which `nonces` is the count
  emptied_stored : (k key : Key) (slot : Slot) (nonces : ℕ) → s.nonces ≤ nonces → (k ≡ key → Steps app s now input key (view key s) [] (record { nonces = nonces; slot = Some slot; copies = [] })) → (b : Bool) → same_key k key ≡ b →
      Steps app s now input key (view key s) [] (view key (with_slot (without_copies (record s { nonces = nonces }) k) k slot))
  emptied_stored k key slot nonces le own true is =
      let same : k ≡ key = same_key-true k key is in
      stored key [] (with_slot (without_copies (record s { nonces = nonces }) k) k slot) nonces slot [] refl (rw same (get-put_same s.slots key slot)) (rw same (none_given_up key s.copies)) (own same)
  emptied_stored k key slot nonces le own false is =
      untouched app s now input key (with_slot (without_copies (record s { nonces = nonces }) k) k slot) le (get-put_other s.slots key k slot is) (given_up_elsewhere k key s.copies is)

  -- what a packet that is processed leaves
  direct_stored : (k key : Key) (slot : Slot) (nonce epoch expiry : ℕ) (p : Packet) (made : Delta × Option Output) → Ready app s now input k slot epoch p → slot.lease ≡ Held nonce epoch expiry → Brings app k input p → s.terms.mode ≡ Mode.Strict →
      app.plain slot.cells p ≡ made → is_clean made.0 ≡ true → has_copies s k ≡ false → (b : Bool) → same_key k key ≡ b → (items : List Item) → (if b then item_of k epoch p.mark slot.last now made.0 ∷ [] else []) ≡ items →
      Steps app s now input key (view key s) items (view key (with_slot s k (record slot { cells = written slot.cells made.0; used = true })))
  direct_stored k key slot nonce epoch expiry p made r is brings mode e clean nothing true same_is items at =
      let same : k ≡ key = same_key-true k key same_is in
      subst (λ js. Steps app s now input key (view key s) js (view key (with_slot s k (record slot { cells = written slot.cells made.0; used = true })))) at
      (subst (λ j. Steps app s now input j (view j s) (item_of k epoch p.mark slot.last now made.0 ∷ []) (view j (with_slot s k (record slot { cells = written slot.cells made.0; used = true })))) same
      (stored k (item_of k epoch p.mark slot.last now made.0 ∷ []) (with_slot s k (record slot { cells = written slot.cells made.0; used = true })) s.nonces (record slot { cells = written slot.cells made.0; used = true }) (filter (is_of k) s.copies) refl
      (get-put_same s.slots k (record slot { cells = written slot.cells made.0; used = true })) refl
      (more (ready_moves app s now input k slot epoch p r) (moves_direct brings refl is mode e clean (none_of k s.copies nothing)))))
  direct_stored k key slot nonce epoch expiry p made r is brings mode e clean nothing false same_is items at =
      subst (λ js. Steps app s now input key (view key s) js (view key (with_slot s k (record slot { cells = written slot.cells made.0; used = true })))) at
      (untouched app s now input key (with_slot s k (record slot { cells = written slot.cells made.0; used = true })) (omega arith) (get-put_other s.slots key k _ same_is) refl)

  abbrev mirrored_state : Key → Slot → Delta → Option Output → Switch
  mirrored_state k slot delta out =
      with_slot (record s { copies = s.copies ++ record { key = k; number = slot.last + 1; delta = delta; first = now; sent = now } ∷ [] }) k
      (record slot { cells = written slot.cells delta; last = slot.last + 1; used = true; held = remember_output slot.held out })

  mirrored_stored : (k key : Key) (slot : Slot) (nonce epoch expiry : ℕ) (p : Packet) (made : Delta × Option Output) → Ready app s now input k slot epoch p → slot.lease ≡ Held nonce epoch expiry → Brings app k input p → s.terms.mode ≡ Mode.Strict →
      app.plain slot.cells p ≡ made → (b : Bool) → same_key k key ≡ b → (items : List Item) → (if b then item_of k epoch p.mark (slot.last + 1) now made.0 ∷ [] else []) ≡ items →
      Steps app s now input key (view key s) items (view key (mirrored_state k slot made.0 made.1))
  mirrored_stored k key slot nonce epoch expiry p made r is brings mode e true same_is items at =
      let same : k ≡ key = same_key-true k key same_is in
      let copy : Copy = record { key = k; number = slot.last + 1; delta = made.0; first = now; sent = now } in
      subst (λ js. Steps app s now input key (view key s) js (view key (mirrored_state k slot made.0 made.1))) at
      (subst (λ j. Steps app s now input j (view j s) (item_of k epoch p.mark (slot.last + 1) now made.0 ∷ []) (view j (mirrored_state k slot made.0 made.1))) same
      (stored k (item_of k epoch p.mark (slot.last + 1) now made.0 ∷ []) (mirrored_state k slot made.0 made.1) s.nonces
      (record slot { cells = written slot.cells made.0; last = slot.last + 1; used = true; held = remember_output slot.held made.1 }) (filter (is_of k) s.copies ++ copy ∷ []) refl
      (get-put_same s.slots k _) (one_more_same k s.copies copy (same_key-refl k))
      (more (ready_moves app s now input k slot epoch p r) (moves_mirrored brings refl is mode e))))
  mirrored_stored k key slot nonce epoch expiry p made r is brings mode e false same_is items at =
      subst (λ js. Steps app s now input key (view key s) js (view key (mirrored_state k slot made.0 made.1))) at
      (untouched app s now input key (mirrored_state k slot made.0 made.1) (omega arith) (get-put_other s.slots key k _ same_is)
      (one_more_other key s.copies (record { key = k; number = slot.last + 1; delta = made.0; first = now; sent = now }) same_is))

  abbrev acked_state : Key → Slot → ℕ → Option Carried → Switch
  acked_state k slot upto load =
      with_slot (record s { copies = filter (λ c. not (is_covered k upto c)) s.copies }) k
      (record slot { lease = acked_lease s.terms.t_switch now slot.lease (fold greatest_first None (filter (is_covered k upto) s.copies)); held = forget_load slot.held load })

  acked_stored : (k key : Key) (slot : Slot) (from to : Node) (inc epoch upto : ℕ) (load : Option Carried) → input ≡ msg from to (Body.Ack s.inc epoch upto k load) → s.terms.mode ≡ Mode.Strict → slot_at s k ≡ Some slot → has_epoch slot.lease epoch ≡ true →
      (b : Bool) → same_key k key ≡ b → Steps app s now input key (view key s) [] (view key (acked_state k slot upto load))
  acked_stored k key slot from to inc epoch upto load came mode at of true same_is =
      let same : k ≡ key = same_key-true k key same_is in
      subst (λ j. Steps app s now input j (view j s) [] (view j (acked_state k slot upto load))) same
      (stored k [] (acked_state k slot upto load) s.nonces
      (record slot { lease = acked_lease s.terms.t_switch now slot.lease (fold greatest_first None (filter (is_covered k upto) (filter (is_of k) s.copies))); held = forget_load slot.held load })
      (filter (λ c. not (is_covered k upto c)) (filter (is_of k) s.copies)) refl
      (get-put_same s.slots k _ ∙ ap (λ cs. Some (record slot { lease = acked_lease s.terms.t_switch now slot.lease (fold greatest_first None cs); held = forget_load slot.held load })) (covered_of k upto s.copies))
      (filter_comm (is_of k) (λ c. not (is_covered k upto c)) s.copies)
      (more none (moves_acked came mode at of)))
  acked_stored k key slot from to inc epoch upto load came mode at of false same_is =
      untouched app s now input key (acked_state k slot upto load) (omega arith) (get-put_other s.slots key k _ same_is) (covered_elsewhere k key upto s.copies same_is)

  -- a dropped packet's slot: it may have been granted just now
  ready_stored : (k key : Key) (slot : Slot) (epoch : ℕ) (p : Packet) → Ready app s now input k slot epoch p → Steps app s now input key (view key s) [] (view key (with_slot s k slot))
  ready_stored k key slot epoch p r = slot_stored k key slot (λ same. subst (λ j. Steps app s now input j (view j s) [] (record { nonces = s.nonces; slot = Some slot; copies = filter (is_of j) s.copies })) same (ready_moves app s now input k slot epoch p r)) (same_key k key) refl

  snapped_stored : (k key : Key) (slot : Slot) (nonce epoch expiry bound : ℕ) (p : Packet) (made : Delta × Option Output) → Ready app s now input k slot epoch p → slot.lease ≡ Held nonce epoch expiry → Brings app k input p → s.terms.mode ≡ Mode.Snapshot bound →
      app.plain slot.cells p ≡ made → may bound now slot.ages ≡ true → (b : Bool) → same_key k key ≡ b → (items : List Item) → (if b then item_of k epoch p.mark slot.last now made.0 ∷ [] else []) ≡ items →
      Steps app s now input key (view key s) items (view key (with_slot s k (record slot { ages = if is_clean made.0 then slot.ages else updated now slot.round slot.ages; cells = written slot.cells made.0; used = true })))
  snapped_stored k key slot nonce epoch expiry bound p made r is brings mode e young true same_is items at =
      let same : k ≡ key = same_key-true k key same_is in
      let new : Slot = record slot { ages = if is_clean made.0 then slot.ages else updated now slot.round slot.ages; cells = written slot.cells made.0; used = true } in
      subst (λ js. Steps app s now input key (view key s) js (view key (with_slot s k new))) at
      (subst (λ j. Steps app s now input j (view j s) (item_of k epoch p.mark slot.last now made.0 ∷ []) (view j (with_slot s k new))) same
      (stored k (item_of k epoch p.mark slot.last now made.0 ∷ []) (with_slot s k new) s.nonces new (filter (is_of k) s.copies) refl
      (get-put_same s.slots k new) refl
      (more (ready_moves app s now input k slot epoch p r) (moves_snapped brings refl is mode e young))))
  snapped_stored k key slot nonce epoch expiry bound p made r is brings mode e young false same_is items at =
      let new : Slot = record slot { ages = if is_clean made.0 then slot.ages else updated now slot.round slot.ages; cells = written slot.cells made.0; used = true } in
      subst (λ js. Steps app s now input key (view key s) js (view key (with_slot s k new))) at
      (untouched app s now input key (with_slot s k new) (omega arith) (get-put_other s.slots key k _ same_is) refl)

  round_stored : (k key : Key) (slot : Slot) (from to : Node) (epoch upto bound : ℕ) (load : Option Carried) (r : Round) → input ≡ msg from to (Body.Ack s.inc epoch upto k load) → s.terms.mode ≡ Mode.Snapshot bound → slot_at s k ≡ Some slot →
      has_epoch slot.lease epoch ≡ true → slot.round ≡ Some r → (r.number == upto) ≡ true →
      Steps app s now input key (view key s) [] (view key (with_slot s k (record slot { lease = extended s.terms.t_switch now r.begun slot.lease; round = None; ages = acknowledged slot.ages })))
  round_stored k key slot from to epoch upto bound load r came mode at of is n =
      slot_stored k key (record slot { lease = extended s.terms.t_switch now r.begun slot.lease; round = None; ages = acknowledged slot.ages })
      (λ same.
      subst (λ j. Steps app s now input j (view j s) [] (record { nonces = s.nonces; slot = Some (record slot { lease = extended s.terms.t_switch now r.begun slot.lease; round = None; ages = acknowledged slot.ages }); copies = filter (is_of j) s.copies })) same
      (more none (moves_round_done came mode at of is n)))
      (same_key k key) refl

  asked : (k key : Key) (slot : Slot) (p : Packet) → input ≡ Input.Packet p → app.key_of p ≡ Some k →
      Steps app s now input key (view key s) [] (view key (with_slot (without_copies (record s { nonces = s.nonces + 1 }) k) k (record (emptied slot (Asking (s.nonces + 1) now)) { asked = Some p.mark ∷ [] })))
  asked k key slot p came of =
      emptied_stored k key (record (emptied slot (Asking (s.nonces + 1) now)) { asked = Some p.mark ∷ [] }) (s.nonces + 1) (omega arith)
      (λ same. more none (asks slot came (of ∙ ap Some same))) (same_key k key) refl

  asked_again : (k key : Key) (slot : Slot) (nonce first : ℕ) (p : Packet) → input ≡ Input.Packet p → app.key_of p ≡ Some k → slot_at s k ≡ Some slot → slot.lease ≡ Asking nonce first → is_young s.terms.t_switch first now ≡ true →
      Steps app s now input key (view key s) [] (view key (with_slot s k (record slot { asked = remember slot.asked p.mark })))
  asked_again k key slot nonce first p came of at is young =
      slot_stored k key (record slot { asked = remember slot.asked p.mark })
      (λ same. more none (asks_again came (of ∙ ap Some same) (ap (λ j. slot_at s j) (sym same) ∙ at) is young)) (same_key k key) refl

  taken_grant : (k key : Key) (slot : Slot) (from to : Node) (nonce epoch first : ℕ) (cells : List ℕ) (load : Option Carried) → input ≡ msg from to (Body.Grant s.inc nonce epoch k cells load) → (length cells == app.cell_count) ≡ true →
      slot_at s k ≡ Some slot → slot.lease ≡ Asking nonce first → is_young s.terms.t_switch first now ≡ true →
      Steps app s now input key (view key s) [] (view key (with_slot s k (granted slot nonce epoch (first + s.terms.t_switch) cells)))
  taken_grant k key slot from to nonce epoch first cells load came whole at is young =
      slot_stored k key (granted slot nonce epoch (first + s.terms.t_switch) cells)
      (λ same.
      subst (λ j. Steps app s now input j (view j s) [] (record { nonces = s.nonces; slot = Some (granted slot nonce epoch (first + s.terms.t_switch) cells); copies = filter (is_of j) s.copies })) same
      (more none (takes_grant {from = from} {to = to} {load = load} came whole at is young)))
      (same_key k key) refl

  idled_stored : (k key : Key) (slot : Slot) → slot_at s k ≡ Some slot → Steps app s now input key (view key s) [] (view key (idled s k slot))
  idled_stored k key slot at =
      emptied_stored k key (emptied slot Idle) s.nonces (omega arith) (λ same. more none (idles (ap (λ j. slot_at s j) (sym same) ∙ at))) (same_key k key) refl

  forgotten : (k key : Key) (slot : Slot) (mark : ℕ) → slot_at s k ≡ Some slot → Steps app s now input key (view key s) [] (view key (with_slot s k (without_asked slot mark)))
  forgotten k key slot mark at = slot_stored k key (without_asked slot mark) (λ same. more none (forgets mark (ap (λ j. slot_at s j) (sym same) ∙ at))) (same_key k key) refl

  nothing_moves : (key : Key) → Steps app s now input key (view key s) [] (view key s)
  nothing_moves key = none

-- a late Grant processes nothing
late_item : (key : Key) (mark : Option ℕ) → of_flow key (late_did mark).item ≡ []
late_item key None = refl
late_item key (Some m) = refl

-- a row's moves of one flow, but for the Alarm
pub row_moves : (app : Application) (s : Switch) (now : ℕ) (input : Input) (key : Key) (row : SwitchRow) → RowTaken app s now input row → (input ≡ Input.Alarm → ⊥) → RowMoves app s now input key row
row_moves app s now input key row stale out = none
row_moves app s now input key row (keyless of) out = none
row_moves app s now input key row (no_room of at) out = none
row_moves app s now input key row (first_ask {p = p} {key = k} of at room) out = asked app s now input k key fresh_slot p refl of
row_moves app s now input key row (ask_idle {p = p} {key = k} {slot = slot} of at is) out = asked app s now input k key slot p refl of
row_moves app s now input key row (ask_anew {p = p} {key = k} {slot = slot} of at is old) out = asked app s now input k key slot p refl of
row_moves app s now input key row (ask_lapsed {p = p} {key = k} {slot = slot} of at is) out = asked app s now input k key slot p refl of
row_moves app s now input key row (ask_again {p = p} {key = k} {slot = slot} {nonce = nonce} {first = first} of at is young) out = asked_again app s now input k key slot nonce first p refl of at is young
row_moves app s now input key row (no_copy_room {key = k} {slot = slot} {epoch = epoch} {p = p} r m full) out = ready_stored app s now input k key slot epoch p r
row_moves app s now input key row (direct {key = k} {slot = slot} {epoch = epoch} {p = p} {made = made} r m e clean alone) out =
    let h = ready_held r in direct_stored app s now input k key slot h.0 epoch h.1.0 p made r h.1.1 (ready_brings r) m e clean alone (same_key k key) refl _ refl
row_moves app s now input key row (mirrored {key = k} {slot = slot} {epoch = epoch} {p = p} {made = made} r m e room out_or_dirty) out =
    let h = ready_held r in mirrored_stored app s now input k key slot h.0 epoch h.1.0 p made r h.1.1 (ready_brings r) m e (same_key k key) refl _ refl
row_moves app s now input key row (snapped {key = k} {slot = slot} {epoch = epoch} {bound = bound} {p = p} {made = made} r m e young) out =
    let h = ready_held r in snapped_stored app s now input k key slot h.0 epoch h.1.0 bound p made r h.1.1 (ready_brings r) m e young (same_key k key) refl _ refl
row_moves app s now input key row (too_old {key = k} {slot = slot} {epoch = epoch} {p = p} r m old) out = ready_stored app s now input k key slot epoch p r
row_moves app s now input key row (granted_only {from = from} {to = to} {inc = inc} {nonce = nonce} {epoch = epoch} {first = first} {key = k} {cells = cells} {load = load} {slot = slot} t none_asked) out =
    taken_grant app s now input k key slot from to nonce epoch first cells load (let here : inc ≡ s.inc = eqb-true inc s.inc t.here in rw here refl) t.whole t.at t.asking t.young
row_moves app s now input key row (late {key = k} {load = load} {slot = slot} i at is old) out =
    subst (λ js. Steps app s now input key (view key s) js (view key (idled s k slot))) (sym (late_item key (asked_mark slot load))) (idled_stored app s now input k key slot at)
row_moves app s now input key row (acked {from = from} {to = to} {inc = inc} {epoch = epoch} {upto = upto} {key = k} {load = load} {slot = slot} m i at of) out =
    acked_stored app s now input k key slot from to inc epoch upto load (let here : inc ≡ s.inc = eqb-true inc s.inc i in rw here refl) m at of (same_key k key) refl
row_moves app s now input key row (round_done {from = from} {to = to} {inc = inc} {epoch = epoch} {upto = upto} {bound = bound} {key = k} {load = load} {slot = slot} {r = r} m i at of is n) out =
    round_stored app s now input k key slot from to epoch upto bound load r (let here : inc ≡ s.inc = eqb-true inc s.inc i in rw here refl) m at of is n
row_moves app s now input key row (denied {key = k} {slot = slot} i at of) out = idled_stored app s now input k key slot at
row_moves app s now input key row (busied {mark = mark} {key = k} {slot = slot} i at is m) out = forgotten app s now input k key slot mark at
row_moves app s now input key row (adopted above) out = none
row_moves app s now input key row resends out = absurd (out refl)
