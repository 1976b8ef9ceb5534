-- What a switch's step releases is shown by the serial list after it, and this list goes on at its end.
use Rattle.std.proofs.Common.{◌≡◌, ℕ, ◌+◌, ◌≤◌, List, [], ◌∷◌, ◌++◌, length, Option, Some, None, arith, refl, sym, ◌∙◌, ap, subst, append-nil, true, false, Bool, inl, inr, slice_get}
use Rattle.std.specs.Prelude.{option_map, option_and_then, filter}
use Rattle.std.proofs.lemmas.List.{length-replicate}
use Rattle.rp_base.specs.declared.node.Node.{Node}
use Rattle.rp_base.specs.declared.node.Packet.{Packet}
use Rattle.rp_base.specs.declared.node.Output.{Output}
use Rattle.proto_data.specs.declared.message.Msg.{Msg}
use Rattle.proto_data.specs.declared.message.Body.{Body}
use Rattle.proto_data.specs.declared.message.Entry.{Entry}
use Rattle.proto_data.specs.declared.message.Input.{Input}
use Rattle.proto_data.specs.declared.message.Carried.{Carried}
use Rattle.rp_app.specs.Application.{Application, Delta, IsApplication, IsOutputOf, after, zeros}
use Rattle.proto_data.specs.Carrying.{packet_of, carried_output, output_of}
use Rattle.proto_model.specs.Effects.{added, made_output}
use Rattle.key_table.specs.Table.{Key, same_key}
use Rattle.proto_model.specs.Feeds.{packet_at, key_at}
use Rattle.proto_model.specs.Committed.{committed_book, closing_of, is_closed}
use Rattle.proto_model.specs.Slot.{Slot}
use Rattle.proto_model.specs.SwitchState.{Switch, SwitchDid, Item, lapsed, head_node, has_copies}
use Rattle.proto_model.specs.SwitchRow.{SwitchRow, Direct, Late, asked_mark, switch_row}
use Rattle.proto_model.specs.SwitchOutcomes.{perform, item_of, late_did}
use Rattle.proto_model.specs.SwitchRows.{switch_step}
use Rattle.proto_model.specs.World.{World, SwitchNode, Journaled}
use Rattle.rp_base.specs.declared.legality.Fed.{Fed}
use Rattle.proto_safety.specs.Books.{In, IsPrefix, committed_of}
use Rattle.proto_safety.specs.Flows.{AckedIn}
use Rattle.proto_safety.specs.Loads.{IsItemOutput}
use Rattle.proto_safety.proofs.Store.BookEpochs.{WasGranted, was_granted}
use Rattle.proto_safety.proofs.Serial.CellFacts.{CellFacts, CellsHold, closing_entries}
use Rattle.proto_safety.proofs.Serial.CellsStep.{Brought, live_from, row_facts, before, made_direct, made_put}
use Rattle.proto_safety.proofs.Store.EpochNumbers.{Reaches, closing_reaches, number_epoch}
use Rattle.rp_app.proofs.Deltas.{length-written}
use Rattle.proto_safety.proofs.Leasing.FlowCopies.{not_strict}
use Rattle.proto_safety.proofs.Inductions.FlowMoves.{ready_held}
use Rattle.proto_safety.proofs.Serial.FlowSerial.{ran, packs}
use Rattle.proto_safety.proofs.Legality.ReleasesStep.{Shown, keyless, of_item, serial_member, held_is}
use Rattle.proto_safety.proofs.Serial.SerialLists.{closing_in, epochs_in, closed_in, serial_in, closes}
use Rattle.proto_safety.proofs.Serial.SwitchCells.{ready_from}
use Rattle.proto_safety.proofs.Serial.SwitchItems.{own_serial}
use Rattle.proto_safety.proofs.Serial.FlowCells.{other_journal, not_in_key}
use Rattle.proto_safety.proofs.Nodes.SwitchTable.{RowTaken, Ready, msg, direct, mirrored, snapped, acked, late, row_taken, late_item}
use Rattle.proto_safety.proofs.Nodes.SwitchTable.{keyless as row_keyless}
use Rattle.key_table.proofs.Tables.{same_key-true}
use Rattle.proto_safety.proofs.Messages.WorldOutputs.{output_mark}
use Rattle.proto_safety.proofs.Basics.Members.{flat_map_same, in_last}
use Rattle.proto_safety.proofs.Basics.Prefixes.{prefix_same}

length-after : (app : Application) (ps : List Packet) (cells : List ℕ) → length (after app cells ps) ≡ length cells
length-after app [] cells = refl
length-after app (p ∷ ps) cells = length-after app ps _ ∙ length-written cells (app.plain cells p).0

length-ran : (app : Application) (feeds : List Fed) (js : List Journaled) → length (ran app feeds js) ≡ app.cell_count
length-ran app feeds js = length-after app (packs feeds js) (zeros app.cell_count) ∙ length-replicate app.cell_count 0

key_found : (app : Application) (feeds : List Fed) (m : ℕ) (p : Packet) → packet_at feeds m ≡ Some p → key_at app feeds m ≡ app.key_of p
key_found app feeds m p at = ap (λ o. option_and_then app.key_of o) at

module _ (app : Application) (w : World) (feeds : List Fed) (n : ℕ) (node : SwitchNode) (input : Input) (facts : CellFacts app w) (hold : CellsHold app feeds w) (at : slice_get w.switches n ≡ Some node) (up : node.runs ≡ true)
    (brought : Brought w feeds n input) (carried : (c : Carried) (key : Key) → ((from to : Node) (inc nonce epoch : ℕ) (cells : List ℕ) → input ≡ msg from to (Body.Grant inc nonce epoch key cells (Some c)) → (packet_at feeds c.mark ≡ Some (packet_of c)) × (app.key_of (packet_of c) ≡ Some key)))
    (is : IsApplication app)
    (answered : (from to : Node) (inc epoch upto : ℕ) (key : Key) (c : Carried) → input ≡ msg from to (Body.Ack inc epoch upto key (Some c)) →
    AckedIn (committed_of w.replicas) epoch upto key × ((number : ℕ) × ((number ≤ upto) × (IsItemOutput w.history.items key epoch number c × (key_at app feeds c.mark ≡ Some key))))) where
  abbrev es : List Entry
  es = committed_of w.replicas

  abbrev items : List Journaled
  items = w.history.items

  abbrev s : Switch
  s = lapsed node.clock node.state

  abbrev more : ℕ → SwitchDid → List Journaled
  more event did = items ++ added (λ (x : Item). record { event = event; item = x; output = made_output did.released did.sent }) did.item

  -- ---- releases

  direct_shown : (event : ℕ) (i : Input) (key : Key) (slot : Slot) (epoch : ℕ) (p : Packet) (made : Delta × Option Output) → Ready app s node.clock i key slot epoch p → input ≡ i → app.plain slot.cells p ≡ made → has_copies s key ≡ false →
      (o : Output) → made.1 ≡ Some o → Shown app feeds es (more event (perform s node.clock (Direct key slot epoch p.mark made.0 made.1)).1) o
  direct_shown event i key slot epoch p made r came e alone o out =
      let live = live_from app w feeds n node input facts hold at up brought carried i key slot epoch p r came in
      let ready = ready_from app feeds es items s node.clock input (row_facts app w feeds n node input facts hold at up brought carried) (before app w feeds n node input facts hold at up brought carried) i key slot epoch p r came in
      let mark : o.mark ≡ p.mark = output_mark app slot.cells p made is (ap length ready.stands.cells ∙ length-ran app feeds _) e o out in
      let j : Journaled = record { event = event; item = item_of key epoch p.mark slot.last node.clock made.0; output = made_output made.1 [] } in
      of_item key j
      (serial_member key es (items ++ j ∷ []) live.item.flow.epoch live.item.flow.last n node.state.inc live.owner.nonce j (subst (λ x. In es (Entry.Grant key x n node.state.inc live.owner.nonce)) (sym live.item.epoch_is) live.owner.there)
      ((closes app.cell_count key es (facts.fits key)).last live.item.flow live.item.flow_is) (live.item.acked alone) (in_last items j) refl (sym live.item.epoch_is))
      (sym mark) (made_direct app w feeds n node input facts hold at up brought carried made.1 ∙ out)
      (key_found app feeds o.mark p (ap (λ m. packet_at feeds m) mark ∙ live.item.fed_at) ∙ live.item.key_is)

  -- the closing of an epoch that an Ack speaks of
  acked_shown : (key : Key) (epoch upto number : ℕ) (c : Carried) (o : Output) → AckedIn es epoch upto key → number ≤ upto → IsItemOutput items key epoch number c → key_at app feeds c.mark ≡ Some key → output_of c ≡ o → Shown app feeds es items o
  acked_shown key epoch upto number c o a le x key_is out =
      let r : Reaches (closing_of key epoch (committed_book w)) a.number = closing_reaches key epoch a.number (committed_book w) a.entry a.there a.number_is in
      let closing : closing_in key epoch es ≡ Some r.0 = sym (closing_entries key epoch (committed_book w)) ∙ r.1.0 in
      granted_case (was_granted app.cell_count key None es a.entry epoch (facts.fits key) a.there (number_epoch key epoch a.number a.entry a.number_is)) r.0 closing (omega (arith, r.1.1, a.reaches, x.number_is))
    where
      mark : c.mark ≡ o.mark
      mark = ap (λ (y : Output). y.mark) out

      granted_case : WasGranted key None es epoch → (d : ℕ) → closing_in key epoch es ≡ Some d → x.item.item.number ≤ d → Shown app feeds es items o
      granted_case (inl g) d closing low =
          of_item key x.item (serial_member key es items epoch d g.0 g.1.0 g.1.1.0 x.item g.1.1.1 closing low x.there x.key_is x.epoch_is) (x.mark_is ∙ mark) (x.output_is ∙ ap Some out) (ap (λ m. key_at app feeds m) (sym mark) ∙ key_is)
      granted_case (inr f) d closing low = let no : None ≡ Some f.0 = f.1.0 in cc

  row_shown : (event : ℕ) (i : Input) (row : SwitchRow) → RowTaken app s node.clock i row → input ≡ i → (o : Output) → (perform s node.clock row).1.released ≡ Some o → Shown app feeds es (more event (perform s node.clock row).1) o
  row_shown event i row (row_keyless {p = p} of) came o out =
      let fed_at : packet_at feeds p.mark ≡ Some p = subst (λ x. Brought w feeds n x) came brought in
      let h : IsOutputOf p (Some o) = subst (λ m. IsOutputOf p m) out (is.outputs (zeros app.cell_count) p (length-replicate app.cell_count 0)) in
      keyless p (ap (λ m. packet_at feeds m) h.0 ∙ fed_at) of out
  row_shown event i row (direct {key = key} {slot = slot} {epoch = epoch} {p = p} {made = made} r m e clean alone) came o out = direct_shown event i key slot epoch p made r came e alone o out
  row_shown event i row (mirrored r m e room t) came o out = cc
  row_shown event i row (snapped {bound = bound} r m e young) came o out = absurd (not_strict s.terms.mode bound (facts.strict n node at) m)
  row_shown event i row (acked {from = from} {to = to} {inc = inc} {epoch = epoch} {upto = upto} {key = key} {load = load} {slot = slot} m here found of) came o out =
      let c = held_is slot.held load o out in
      let a = answered from to inc epoch upto key c.0 (came ∙ ap (λ l. msg from to (Body.Ack inc epoch upto key l)) c.1.0) in
      subst (λ l. Shown app feeds es l o) (sym (append-nil items)) (acked_shown key epoch upto a.1.0 c.0 o a.0 a.1.1.0 a.1.1.1.0 a.1.1.1.1 c.1.1)
  row_shown event i row (late {load = load} {slot = slot} here found is_asking old) came o out = absurd (late_none (asked_mark slot load) o out)
    where
      late_none : (m : Option ℕ) (o : Output) → (late_did m).released ≡ Some o → ⊥
      late_none None o out = cc
      late_none (Some x) o out = cc
  row_shown event i row a came o out = cc

  pub step_shown : (event : ℕ) (o : Output) → (switch_step app node.state node.clock input).1.released ≡ Some o → Shown app feeds es (more event (switch_step app node.state node.clock input).1) o
  step_shown event o out = row_shown event input (switch_row app s node.clock input) (row_taken app s node.clock input) refl o out

  -- ---- the serial list

  idle_serial : (event : ℕ) (row : SwitchRow) (key : Key) → (perform s node.clock row).1.item ≡ None → IsPrefix (serial_in key es items) (serial_in key es (more event (perform s node.clock row).1))
  idle_serial event row key none =
      subst (λ o. IsPrefix (serial_in key es items) (serial_in key es (items ++ added (λ (x : Item). record { event = event; item = x; output = made_output (perform s node.clock row).1.released (perform s node.clock row).1.sent }) o))) (sym none)
      (subst (λ l. IsPrefix (serial_in key es items) (serial_in key es l)) (sym (append-nil items)) (prefix_same (serial_in key es items)))

  item_serial : (i : Input) (key : Key) (slot : Slot) (epoch : ℕ) (p : Packet) (made : Delta × Option Output) → Ready app s node.clock i key slot epoch p → input ≡ i → app.plain slot.cells p ≡ made → (j : Journaled) (number : ℕ) →
      j.item ≡ item_of key epoch p.mark number node.clock made.0 → j.output ≡ made.1 → slot.last ≤ number → (x : Key) → IsPrefix (serial_in x es items) (serial_in x es (items ++ j ∷ []))
  item_serial i key slot epoch p made r came e j number item out next x = key_case (same_key key x) refl
    where
      key_case : (b : Bool) → same_key key x ≡ b → IsPrefix (serial_in x es items) (serial_in x es (items ++ j ∷ []))
      key_case true same =
          let k : key ≡ x = same_key-true key x same in
          let held = ready_held r in
          subst (λ y. IsPrefix (serial_in y es items) (serial_in y es (items ++ j ∷ []))) k
          (own_serial app feeds es items s node.clock key slot held.0 epoch held.1.0 p made j number (facts.fits key) (facts.known key) (hold.flows key)
          (ready_from app feeds es items s node.clock input (row_facts app w feeds n node input facts hold at up brought carried) (before app w feeds n node input facts hold at up brought carried) i key slot epoch p r came)
          (live_from app w feeds n node input facts hold at up brought carried i key slot epoch p r came).item held.1.1 e item out next)
      key_case false ne =
          let other : same_key j.item.key x ≡ false = ap (λ (y : Item). same_key y.key x) item ∙ ne in
          let same : serial_in x es (items ++ j ∷ []) ≡ serial_in x es items =
          flat_map_same (closed_in x es (items ++ j ∷ [])) (closed_in x es items) (epochs_in x es) (λ d i. ap (λ l. filter (is_closed (closing_in x d es)) l) (other_journal app feeds es items j x d (not_in_key app feeds es items j x d other))) in
          subst (λ l. IsPrefix (serial_in x es items) l) (sym same) (prefix_same (serial_in x es items))

  row_serial : (event : ℕ) (i : Input) (row : SwitchRow) → RowTaken app s node.clock i row → input ≡ i → (x : Key) → IsPrefix (serial_in x es items) (serial_in x es (more event (perform s node.clock row).1))
  row_serial event i row (direct {key = key} {slot = slot} {epoch = epoch} {p = p} {made = made} r m e clean alone) came x =
      item_serial i key slot epoch p made r came e (record { event = event; item = item_of key epoch p.mark slot.last node.clock made.0; output = made_output made.1 [] }) slot.last refl
      (made_direct app w feeds n node input facts hold at up brought carried made.1) (omega arith) x
  row_serial event i row (mirrored {key = key} {slot = slot} {epoch = epoch} {p = p} {made = made} r m e room t) came x =
      let put : Msg = record { from = Node.Switch s.me; to = head_node s.config.chain; body = Body.Put s.inc epoch (slot.last + 1) key made.0 (option_map carried_output made.1) } in
      item_serial i key slot epoch p made r came e (record { event = event; item = item_of key epoch p.mark (slot.last + 1) node.clock made.0; output = made_output None (put ∷ []) }) (slot.last + 1) refl
      (made_put app w feeds n node input facts hold at up brought carried (Node.Switch s.me) (head_node s.config.chain) s.inc epoch (slot.last + 1) key made.0 made.1) (omega arith) x
  row_serial event i row (snapped {bound = bound} r m e young) came x = absurd (not_strict s.terms.mode bound (facts.strict n node at) m)
  row_serial event i row (late {key = key} {load = load} {slot = slot} here found is_asking old) came x = idle_serial event (Late key slot (asked_mark slot load)) x (late_item (asked_mark slot load))
  row_serial event i row a came x = idle_serial event row x refl

  pub step_serial : (event : ℕ) (x : Key) → IsPrefix (serial_in x es items) (serial_in x es (more event (switch_step app node.state node.clock input).1))
  step_serial event x = row_serial event input (switch_row app s node.clock input) (row_taken app s node.clock input) refl x
