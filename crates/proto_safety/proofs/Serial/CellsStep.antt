-- One step of a switch keeps the cells: each flow, its slots and copies, and what its Puts write.
use Rattle.std.proofs.Common.{◌≡◌, ◌≢◌, ◌⊎◌, ℕ, ◌+◌, ◌≤◌, List, [], ◌∷◌, ◌++◌, Option, Some, None, arith, refl, sym, ◌∙◌, ap, subst, append-nil, length, true, false, Bool, inl, inr, set, slice_get, eqb-true, filter}
use Rattle.std.specs.Prelude.{option_map}
use Rattle.std.proofs.lemmas.Bool.{both_ways}
use Rattle.rp_base.specs.declared.node.Node.{Node}
use Rattle.rp_base.specs.declared.node.Packet.{Packet}
use Rattle.rp_base.specs.declared.node.Output.{Output}
use Rattle.proto_data.specs.declared.message.Msg.{Msg}
use Rattle.proto_data.specs.declared.message.Body.{Body}
use Rattle.proto_data.specs.declared.message.Entry.{Entry}
use Rattle.proto_data.specs.declared.message.Input.{Input}
use Rattle.proto_data.specs.declared.message.Carried.{Carried}
use Rattle.proto_data.specs.declared.terms.Mode.{Mode}
use Rattle.rp_app.specs.Application.{Application, Delta}
use Rattle.proto_data.specs.Carrying.{packet_of, carried_output}
use Rattle.key_table.specs.Table.{Key, same_key}
use Rattle.proto_model.specs.Effects.{added, made_output}
use Rattle.proto_model.specs.Feeds.{Each, packet_at}
use Rattle.proto_model.specs.Committed.{committed_book, is_closed}
use Rattle.proto_model.specs.Slot.{Slot, Asking, Held, epoch_of}
use Rattle.proto_model.specs.SwitchState.{Switch, SwitchDid, Copy, Item, slot_at, lapsed, has_copies, head_node}
use Rattle.proto_model.specs.SwitchRow.{SwitchRow, Direct, Mirrored, Late, switch_row, asked_mark}
use Rattle.proto_model.specs.SwitchOutcomes.{perform, item_of}
use Rattle.proto_model.specs.SwitchRows.{switch_step}
use Rattle.proto_model.specs.World.{World, SwitchNode, Journaled}
use Rattle.rp_base.specs.declared.legality.Fed.{Fed}
use Rattle.proto_safety.specs.Books.{In, committed_of}
use Rattle.proto_safety.specs.Flows.{FlowRecord, AckedIn, flow_of}
use Rattle.proto_safety.specs.LeaseLaws.{HasEpoch}
use Rattle.proto_safety.specs.Origins.{Origin, SnapSent, ChunkSent}
use Rattle.proto_safety.specs.SwitchSent.{SentNow, PutsNow, SaysNow}
use Rattle.proto_safety.proofs.Store.BookEpochs.{one_grant}
use Rattle.proto_safety.proofs.Serial.CellFacts.{CellFacts, CellsHold, OwnGrant, SentPut, GrantSaid, number_low, was_slot, was_held}
use Rattle.proto_safety.specs.Sizes.{is_leased}
use Rattle.proto_safety.proofs.Leasing.Copies.{HasSlot}
use Rattle.proto_safety.proofs.Store.EpochNumbers.{IsNumber, number_epoch, number_value}
use Rattle.proto_safety.proofs.Store.FlowBooks.{Numbered, last_numbered}
use Rattle.proto_safety.proofs.Serial.FlowCells.{CellsOf, other_flow_item}
use Rattle.proto_safety.proofs.Leasing.FlowCopies.{not_strict}
use Rattle.proto_safety.proofs.Inductions.FlowMoves.{none_of, ready_held}
use Rattle.proto_safety.proofs.Serial.FlowSerial.{PutIs, ran}
use Rattle.proto_safety.proofs.Leasing.NoSnaps.{NoSnap}
use Rattle.proto_safety.proofs.Serial.SerialLists.{closing_in, closed_in, journal_in, front_in}
use Rattle.proto_safety.proofs.Serial.SerialFronts.{serial_parts}
use Rattle.proto_safety.proofs.Leasing.SlotFirsts.{lapsed_asking}
use Rattle.proto_safety.proofs.Serial.SwitchCells.{row_from, RowFacts, ReadyFacts, SwitchStands, lapsed_stands, ready_from, cells_in}
use Rattle.proto_safety.proofs.Serial.SwitchItems.{clean_delta, ItemFacts, own_flow, put_kept, direct_stands, mirrored_stands, elsewhere_stands}
use Rattle.proto_safety.proofs.Nodes.SwitchNodes.{AllAt}
use Rattle.proto_safety.proofs.Nodes.SwitchSays.{Tidy, step_says, tidy_lapsed}
use Rattle.proto_safety.proofs.Nodes.SwitchTable.{RowTaken, Ready, Timely, msg, fed, at_grant, at_grant_again, direct, mirrored, snapped, late, row_taken, late_item}
use Rattle.key_table.proofs.Tables.{same_key-true, same_some}
use Rattle.proto_safety.proofs.Inductions.Induction.{Comes}
use Rattle.proto_safety.proofs.Basics.Eachs.{each_in}
use Rattle.proto_safety.proofs.Basics.Lists.{at_set}
use Rattle.proto_safety.proofs.Basics.Members.{in_append}

pub no_snap : (frames : List Msg) (key : Key) (e round : ℕ) (cells : List ℕ) → Each (λ (m : Msg). NoSnap m.body) frames → SnapSent frames key e round cells → ⊥
no_snap frames key e round cells none o = parts_case o.parts o.some (λ part is. o.sent 0 part is)
  where
    chunk_case : (chunk chunks : ℕ) (part : List ℕ) → ChunkSent frames key e round chunk chunks part → ⊥
    chunk_case chunk chunks part c = subst NoSnap c.body_is (each_in (λ (m : Msg). NoSnap m.body) frames c.msg none c.there)

    parts_case : (parts : List (List ℕ)) → 1 ≤ length parts → ((part : List ℕ) → slice_get parts 0 ≡ Some part → ChunkSent frames key e round 0 (length o.parts) part) → ⊥
    parts_case [] l h = absurd (omega arith)
    parts_case (p ∷ ps) l h = chunk_case 0 (length o.parts) p (h p refl)

-- where an input comes from at switch n: a packet that was fed, a frame that was sent to it, or nowhere
abbrev pub Brought : World → List Fed → ℕ → Input → Type 0
Brought w feeds n (Input.Packet p) = packet_at feeds p.mark ≡ Some p
Brought w feeds n (Input.Msg m) = Comes w (Node.Switch n) (Input.Msg m)
Brought w feeds n Input.Alarm = Unit {0}

module _ (app : Application) (w : World) (feeds : List Fed) (n : ℕ) (node : SwitchNode) (input : Input) (facts : CellFacts app w) (hold : CellsHold app feeds w) (at : slice_get w.switches n ≡ Some node) (up : node.runs ≡ true)
    (brought : Brought w feeds n input) (carried : (c : Carried) (key : Key) → ((from to : Node) (inc nonce epoch : ℕ) (cells : List ℕ) → input ≡ msg from to (Body.Grant inc nonce epoch key cells (Some c)) → (packet_at feeds c.mark ≡ Some (packet_of c)) × (app.key_of (packet_of c) ≡ Some key))) where
  abbrev pub es : List Entry
  es = committed_of w.replicas

  abbrev pub items : List Journaled
  items = w.history.items

  abbrev pub s : Switch
  s = lapsed node.clock node.state

  tidy : Tidy s
  tidy = tidy_lapsed node.state node.clock (facts.says n node at).tidy

  strict : s.terms.mode ≡ Mode.Strict
  strict = facts.strict n node at

  pub before : SwitchStands app feeds es items s
  before = lapsed_stands app feeds es items node.state node.clock (hold.slots n node at)

  -- copies stand in leased slots, with numbers up to the last
  low_copy : (key : Key) (slot : Slot) (c : Copy) → slot_at s key ≡ Some slot → In s.copies c → c.key ≡ key → (c.number ≤ slot.last) × (is_leased slot.lease ≡ true)
  low_copy key slot c found i of =
      let k : HasSlot s.slots c = each_in (HasSlot s.slots) s.copies c tidy.copies i in
      let same : k.slot ≡ slot = same_some (slot_at s key) k.slot slot (subst (λ x. slot_at s x ≡ Some k.slot) of k.found) found in
      (omega (arith, k.number, ap (λ (x : Slot). x.last) same), ap (λ (x : Slot). is_leased x.lease) (sym same) ∙ k.leased)

  -- ---- Grants that are taken in time

  came_here : (i : Input) (from to : Node) (inc nonce epoch : ℕ) (key : Key) (cells : List ℕ) (load : Option Carried) → i ≡ msg from to (Body.Grant inc nonce epoch key cells load) → Brought w feeds n i →
      Comes w (Node.Switch n) (msg from to (Body.Grant inc nonce epoch key cells load))
  came_here i from to inc nonce epoch key cells load is b = subst (λ x. Brought w feeds n x) is b

  said : (from to : Node) (inc nonce epoch first : ℕ) (key : Key) (cells : List ℕ) (load : Option Carried) (slot : Slot) → input ≡ msg from to (Body.Grant inc nonce epoch key cells load) → Timely app s node.clock inc nonce key cells slot first →
      GrantSaid app w n node.state.inc key epoch cells
  said from to inc nonce epoch first key cells load slot is t =
      let o = was_slot node.state node.clock key slot t.at in
      let own : inc ≡ node.state.inc = eqb-true inc node.state.inc t.here in
      let asking : o.old.lease ≡ Asking nonce first = lapsed_asking node.clock nonce first o.old.lease (ap (λ (x : Slot). x.lease) o.is ∙ t.asking) in
      facts.grants n nonce first epoch from to key cells load node o.old at up o.found asking t.young
      (subst (λ i. Comes w (Node.Switch n) (msg from to (Body.Grant i nonce epoch key cells load))) own (came_here input from to inc nonce epoch key cells load is brought))

  grant_cells : (key : Key) (epoch : ℕ) (cells : List ℕ) → GrantSaid app w n node.state.inc key epoch cells → cells ≡ cells_in app feeds es items key epoch
  grant_cells key epoch cells g =
      let none : journal_in key items g.flow.epoch ≡ [] = rw g.epoch_is g.no_items in
      let closed : closed_in key es items g.flow.epoch ≡ [] = ap (λ l. filter (is_closed (closing_in key g.flow.epoch es)) l) none in
      sym g.cells_are
      ∙ ((hold.flows key).committed g.flow g.flow_is
      ∙ (ap (λ l. ran app feeds l) (serial_parts app.cell_count key es items g.flow (facts.fits key) g.flow_is ∙ (ap (λ l. front_in key es items g.flow.epoch ++ l) closed ∙ ap (λ l. front_in key es items g.flow.epoch ++ l) (sym none)))
      ∙ ap (λ e. cells_in app feeds es items key e) g.epoch_is))

  pub row_facts : RowFacts app feeds es items s node.clock input
  row_facts =
      record {
        strict = strict;
        granted = λ from to inc nonce epoch first key cells load slot is t.
            let g = said from to inc nonce epoch first key cells load slot is t in
            record {
              cells_are = grant_cells key epoch cells g;
              no_items = g.no_items;
              no_copies = λ c i of. let l = (low_copy key slot c t.at i of).1 in both_ways _ (rw t.asking refl) l;
            };
        copies_low = λ key slot c found i of. (low_copy key slot c found i of).0;
      }

  -- ---- what is known where a packet is processed

  pub record LiveFacts (key : Key) (slot : Slot) (epoch : ℕ) (p : Packet) : Type 0 where
    pub item : ItemFacts app feeds es s key slot epoch p
    pub owner : OwnGrant es key epoch n node.state.inc
    pub reached : (k : ℕ) (delta : Delta) → SentPut w.frames key epoch k delta → k ≤ slot.last

  -- an entry of the flow's epoch has a number that a Put reached
  low_entry : (key : Key) (f : FlowRecord) (last : ℕ) → flow_of app.cell_count key es ≡ Some f → ((k : ℕ) (delta : Delta) → SentPut w.frames key f.epoch k delta → k ≤ last) → f.last ≤ last
  low_entry key f last flow reached =
      let x : Numbered key f.epoch f.last es = last_numbered app.cell_count key es f (facts.fits key) flow in
      entry_case x.entry (facts.entries x.entry x.there) (number_epoch key f.epoch f.last x.entry x.number_is) (number_value key f.epoch f.last x.entry x.number_is)
    where
      entry_case : (x : Entry) → Origin w.frames x → HasEpoch key f.epoch x → IsNumber x f.last → f.last ≤ last
      entry_case (Entry.Grant k e switch inc nonce) o h m = omega arith
      entry_case (Entry.Put k e number delta) o h m =
          let sent : SentPut w.frames key f.epoch number delta = record { msg = o.msg; there = o.there; inc = o.inc; load = o.load; body_is = o.body_is ∙ rw (h.0, h.1) refl } in
          omega (arith, reached number delta sent)
      entry_case (Entry.Snap k e round values) o h m = absurd (no_snap w.frames k e round values facts.snapless o)

  -- a leased slot that is live
  held_live : (key : Key) (slot : Slot) (nonce epoch expiry : ℕ) (p : Packet) → slot_at s key ≡ Some slot → slot.lease ≡ Held nonce epoch expiry → packet_at feeds p.mark ≡ Some p → app.key_of p ≡ Some key → LiveFacts key slot epoch p
  held_live key slot nonce epoch expiry p found is fed_at key_is =
      let o = was_slot node.state node.clock key slot found in
      let held = was_held node.clock o.old.lease nonce epoch expiry (ap (λ (x : Slot). x.lease) o.is ∙ is) in
      let leased : epoch_of o.old.lease ≡ Some epoch = ap epoch_of held.0 in
      let g = facts.slots_granted n epoch key node o.old at o.found leased in
      let below : g.0.flow.epoch ≤ epoch = facts.live n nonce epoch expiry key node o.old g.0.flow at up o.found held.0 held.1 g.0.flow_is in
      let same : g.0.flow.epoch ≡ epoch = omega (arith, below, g.0.reached) in
      let last : o.old.last ≡ slot.last = ap (λ (x : Slot). x.last) o.is in
      let reached : (k : ℕ) (delta : Delta) → SentPut w.frames key epoch k delta → k ≤ slot.last = λ k delta q. omega (arith, facts.puts_reached n epoch k key node o.old delta at o.found leased q, last) in
      record {
        item =
            record {
              flow = g.0.flow;
              flow_is = g.0.flow_is;
              epoch_is = same;
              fed_at = fed_at;
              key_is = key_is;
              low = low_entry key g.0.flow slot.last g.0.flow_is (λ k delta q. reached k delta (subst (λ e. SentPut w.frames key e k delta) same q));
              acked = λ alone.
                  let a : AckedIn es epoch o.old.last key = facts.acked n epoch key node o.old at o.found leased (none_of key node.state.copies alone) in
                  omega (arith, a.reaches, last, number_low app.cell_count key (committed_book w) g.0.flow a.entry a.number (facts.fits key) g.0.flow_is a.there (rw same a.number_is));
            };
        owner = g.1;
        reached = reached;
      }

  pub live_from : (i : Input) (key : Key) (slot : Slot) (epoch : ℕ) (p : Packet) → Ready app s node.clock i key slot epoch p → input ≡ i → LiveFacts key slot epoch p
  live_from i key slot epoch p (fed {nonce = nonce} {expiry = expiry} of found is) came = held_live key slot nonce epoch expiry p found is (subst (λ x. Brought w feeds n x) came brought) of
  live_from i key slot epoch p (at_grant {from = from} {to = to} {inc = inc} {nonce = nonce} {first = first} {cells = cells} {c = c} {slot = old} t m) came =
      let g = said from to inc nonce epoch first key cells (Some c) old came t in
      let b = carried c key from to inc nonce epoch cells came in
      record {
        item = record { flow = g.flow; flow_is = g.flow_is; epoch_is = g.epoch_is; fed_at = b.0; key_is = b.1; low = omega (arith, g.last_is); acked = λ alone. omega arith };
        owner = g.owner;
        reached = λ k delta q. absurd (g.no_puts k delta q);
      }
  live_from i key slot epoch p (at_grant_again {from = from} {to = to} {inc = inc} {nonce = nonce} {expiry = expiry} {cells = cells} {c = c} {slot = old} here found is m) came =
      let b = carried c key from to inc nonce epoch cells came in
      let l = held_live key old nonce epoch expiry (packet_of c) found is b.0 b.1 in
      record {
        item = record { flow = l.item.flow; flow_is = l.item.flow_is; epoch_is = l.item.epoch_is; fed_at = l.item.fed_at; key_is = l.item.key_is; low = l.item.low; acked = l.item.acked };
        owner = l.owner;
        reached = l.reached;
      }

  -- ---- what the step leaves

  pub record Left (new : List Journaled) (state : Switch) (sent : List Msg) : Type 0 where
    pub flows : (key : Key) → CellsOf app feeds es new key
    pub slots : AllAt (λ m (x : SwitchNode). SwitchStands app feeds es new x.state) (set w.switches n (record node { state = state }))
    pub puts : (e k : ℕ) (key : Key) (delta : Delta) → SentPut (w.frames ++ sent) key e k delta → PutIs app feeds (front_in key es new e) (journal_in key new e) k delta

  -- a Put that is sent has a copy
  new_put : (new : List Journaled) (state : Switch) (sent : List Msg) → Each (SentNow state) sent → SwitchStands app feeds es new state → (e k : ℕ) (key : Key) (delta : Delta) → SentPut sent key e k delta →
      PutIs app feeds (front_in key es new e) (journal_in key new e) k delta
  new_put new state sent says st e k key delta q =
      let m : SentNow state q.msg = each_in (SentNow state) sent q.msg says q.there in
      let now : PutsNow state q.inc e k key delta = subst (λ b. SaysNow state b) q.body_is m.1 in
      let p : PutIs app feeds (front_in key es new e) (journal_in key new e) now.copy.number now.copy.delta = (st.at key now.slot e now.found now.leased).copies now.copy now.there now.key_is in
      subst (λ x. PutIs app feeds (front_in key es new e) (journal_in key new e) x delta) now.number_is (subst (λ d. PutIs app feeds (front_in key es new e) (journal_in key new e) now.copy.number d) now.delta_is p)

  all_puts : (new : List Journaled) (state : Switch) (sent : List Msg) → Each (SentNow state) sent → SwitchStands app feeds es new state →
      ((e k : ℕ) (key : Key) (delta : Delta) → SentPut w.frames key e k delta → PutIs app feeds (front_in key es new e) (journal_in key new e) k delta) →
      (e k : ℕ) (key : Key) (delta : Delta) → SentPut (w.frames ++ sent) key e k delta → PutIs app feeds (front_in key es new e) (journal_in key new e) k delta
  all_puts new state sent says st old e k key delta q = part_case (in_append w.frames sent q.msg q.there)
    where
      part_case : In w.frames q.msg ⊎ In sent q.msg → PutIs app feeds (front_in key es new e) (journal_in key new e) k delta
      part_case (inl i) = old e k key delta (record { msg = q.msg; there = i; inc = q.inc; load = q.load; body_is = q.body_is })
      part_case (inr i) = new_put new state sent says st e k key delta (record { msg = q.msg; there = i; inc = q.inc; load = q.load; body_is = q.body_is })

  all_slots : (new : List Journaled) (state : Switch) → SwitchStands app feeds es new state → ((m : ℕ) (x : SwitchNode) → m ≢ n → slice_get w.switches m ≡ Some x → SwitchStands app feeds es new x.state) →
      AllAt (λ m (x : SwitchNode). SwitchStands app feeds es new x.state) (set w.switches n (record node { state = state }))
  all_slots new state own others m x is = node_case (at_set w.switches n m (record node { state = state }) x is)
    where
      node_case : ((m ≡ n) × (x ≡ record node { state = state })) ⊎ ((m ≢ n) × (slice_get w.switches m ≡ Some x)) → SwitchStands app feeds es new x.state
      node_case (inl same) = rw same.1 own
      node_case (inr there) = others m x there.0 there.1

  -- nothing is processed
  idle_left : (i : Input) (row : SwitchRow) → RowTaken app s node.clock i row → input ≡ i → (perform s node.clock row).1.item ≡ None → Each (SentNow (perform s node.clock row).0) (perform s node.clock row).1.sent →
      Left items (perform s node.clock row).0 (perform s node.clock row).1.sent
  idle_left i row a came none says =
      let st : SwitchStands app feeds es items (perform s node.clock row).0 = row_from app feeds es items s node.clock input row_facts before i row a came none in
      record {
        flows = hold.flows;
        slots = all_slots items (perform s node.clock row).0 st (λ m x ne there. hold.slots m x there);
        puts = all_puts items (perform s node.clock row).0 (perform s node.clock row).1.sent says st hold.puts;
      }

  -- a packet is processed: `number` is the item's
  module _ (i : Input) (key : Key) (slot : Slot) (epoch : ℕ) (p : Packet) (made : Delta × Option Output) (r : Ready app s node.clock i key slot epoch p) (came : input ≡ i) (plain : app.plain slot.cells p ≡ made) (j : Journaled) (number : ℕ)
      (item : j.item ≡ item_of key epoch p.mark number node.clock made.0) (output : j.output ≡ made.1) (next : slot.last ≤ number) where
    abbrev live : LiveFacts key slot epoch p
    live = live_from i key slot epoch p r came

    abbrev ready : ReadyFacts app feeds es items s key slot epoch p
    ready = ready_from app feeds es items s node.clock input row_facts before i key slot epoch p r came

    abbrev made_clean : Type 0
    made_clean = number ≤ live.item.flow.last → made.0 ≡ []

    more_flows : (number ≤ live.item.flow.last → made.0 ≡ []) → (x : Key) → CellsOf app feeds es (items ++ j ∷ []) x
    more_flows clean x = key_case (same_key key x) refl
      where
        held : (nonce : ℕ) × ((expiry : ℕ) × (slot.lease ≡ Held nonce epoch expiry))
        held = ready_held r

        key_case : (b : Bool) → same_key key x ≡ b → CellsOf app feeds es (items ++ j ∷ []) x
        key_case true is =
            let same : key ≡ x = same_key-true key x is in
            subst (λ y. CellsOf app feeds es (items ++ j ∷ []) y) same
            (own_flow app feeds es items s node.clock key slot held.0 epoch held.1.0 p made j number (facts.fits key) (facts.known key) (hold.flows key) ready live.item held.1.1 plain item output next clean)
        key_case false ne = other_flow_item app feeds es items j x (ap (λ y. same_key y x) (ap (λ (z : Item). z.key) item) ∙ ne) (hold.flows x)

    other_switch : (m : ℕ) (x : SwitchNode) → m ≢ n → slice_get w.switches m ≡ Some x → SwitchStands app feeds es (items ++ j ∷ []) x.state
    other_switch m x ne there =
        let held = ready_held r in
        elsewhere_stands app feeds es items s node.clock key slot held.0 epoch held.1.0 p made j number (facts.fits key) (facts.known key) (hold.flows key) ready live.item held.1.1 plain item output next x.state
        (λ sl e found leased.
        let g = facts.slots_granted m e key x sl there found leased in
        let same : g.0.flow ≡ live.item.flow = cc (sym g.0.flow_is ∙ live.item.flow_is) in (
          λ q.
              let own : In es (Entry.Grant key e n node.state.inc live.owner.nonce) = subst (λ y. In es (Entry.Grant key y n node.state.inc live.owner.nonce)) (sym live.item.epoch_is ∙ sym q) live.owner.there in
              ne (one_grant app.cell_count key None es e m x.state.inc g.1.nonce n node.state.inc live.owner.nonce (facts.fits key) g.1.there own).switch,
          omega (arith, g.0.reached, ap (λ (f : FlowRecord). f.epoch) same),
        ))
        (hold.slots m x there)

    old_puts : (number ≤ live.item.flow.last → made.0 ≡ []) → (number ≡ slot.last → has_copies s key ≡ false × (made.0 ≡ [])) → (e k : ℕ) (x : Key) (delta : Delta) → SentPut w.frames x e k delta →
        PutIs app feeds (front_in x es (items ++ j ∷ []) e) (journal_in x (items ++ j ∷ []) e) k delta
    old_puts clean last e k x delta q =
        let held = ready_held r in
        put_kept app feeds es items s node.clock key slot held.0 epoch held.1.0 p made j number (facts.fits key) (facts.known key) (hold.flows key) ready live.item held.1.1 plain item output next clean last x e k delta
        (λ same present. live.reached k delta (subst (λ y. SentPut w.frames y epoch k delta) same (subst (λ y. SentPut w.frames x y k delta) (present ∙ live.item.epoch_is) q)))
        (λ same.
        let g = facts.puts_granted e k x delta q in
        let flow : g.flow ≡ live.item.flow = cc (sym g.flow_is ∙ (ap (λ y. flow_of app.cell_count y es) same ∙ live.item.flow_is)) in
        omega (arith, g.reached, ap (λ (f : FlowRecord). f.epoch) flow))
        (hold.puts e k x delta q)

  -- ---- every row

  pub made_direct : (o : Option Output) → made_output o [] ≡ o
  made_direct None = refl
  made_direct (Some x) = refl

  pub made_put : (from to : Node) (inc epoch number : ℕ) (key : Key) (delta : Delta) (o : Option Output) → made_output None (record { from = from; to = to; body = Body.Put inc epoch number key delta (option_map carried_output o) } ∷ []) ≡ o
  made_put from to inc epoch number key delta None = refl
  made_put from to inc epoch number key delta (Some x) = refl

  -- the items after a step
  abbrev pub more_items : ℕ → SwitchDid → List Journaled
  more_items event did = items ++ added (λ (x : Item). record { event = event; item = x; output = made_output did.released did.sent }) did.item

  idle_row : (event : ℕ) (i : Input) (row : SwitchRow) → RowTaken app s node.clock i row → input ≡ i → (perform s node.clock row).1.item ≡ None → Each (SentNow (perform s node.clock row).0) (perform s node.clock row).1.sent →
      Left (more_items event (perform s node.clock row).1) (perform s node.clock row).0 (perform s node.clock row).1.sent
  idle_row event i row a came none says =
      subst (λ o. Left (items ++ added (λ (x : Item). record { event = event; item = x; output = made_output (perform s node.clock row).1.released (perform s node.clock row).1.sent }) o) (perform s node.clock row).0 (perform s node.clock row).1.sent) (sym none)
      (subst (λ l. Left l (perform s node.clock row).0 (perform s node.clock row).1.sent) (sym (append-nil items)) (idle_left i row a came none says))

  row_left : (event : ℕ) (i : Input) (row : SwitchRow) → RowTaken app s node.clock i row → input ≡ i → Each (SentNow (perform s node.clock row).0) (perform s node.clock row).1.sent →
      Left (more_items event (perform s node.clock row).1) (perform s node.clock row).0 (perform s node.clock row).1.sent
  row_left event i row (direct {key = key} {slot = slot} {epoch = epoch} {p = p} {made = made} r m e clean alone) came says =
      let j : Journaled = record { event = event; item = item_of key epoch p.mark slot.last node.clock made.0; output = made_output made.1 [] } in
      let held = ready_held r in
      let le : slot.last ≤ slot.last = omega arith in
      let empty : made.0 ≡ [] = clean_delta made.0 clean in
      let st : SwitchStands app feeds es (items ++ j ∷ []) (perform s node.clock (Direct key slot epoch p.mark made.0 made.1)).0 =
      direct_stands app feeds es items s node.clock key slot held.0 epoch held.1.0 p made j slot.last (facts.fits key) (facts.known key) (hold.flows key) (ready_from app feeds es items s node.clock input row_facts before i key slot epoch p r came)
      (live_from i key slot epoch p r came).item held.1.1 e refl (made_direct made.1) le refl clean alone before in
      record {
        flows = more_flows i key slot epoch p made r came e j slot.last refl (made_direct made.1) le (λ q. empty);
        slots = all_slots (items ++ j ∷ []) _ st (other_switch i key slot epoch p made r came e j slot.last refl (made_direct made.1) le);
        puts = all_puts (items ++ j ∷ []) _ [] says st (old_puts i key slot epoch p made r came e j slot.last refl (made_direct made.1) le (λ q. empty) (λ q. (alone, empty)));
      }
  row_left event i row (mirrored {key = key} {slot = slot} {epoch = epoch} {p = p} {made = made} r m e room t) came says =
      let put : Msg = record { from = Node.Switch s.me; to = head_node s.config.chain; body = Body.Put s.inc epoch (slot.last + 1) key made.0 (option_map carried_output made.1) } in
      let j : Journaled = record { event = event; item = item_of key epoch p.mark (slot.last + 1) node.clock made.0; output = made_output None (put ∷ []) } in
      let held = ready_held r in
      let le : slot.last ≤ slot.last + 1 = omega arith in
      let out : j.output ≡ made.1 = made_put (Node.Switch s.me) (head_node s.config.chain) s.inc epoch (slot.last + 1) key made.0 made.1 in
      let low : (live_from i key slot epoch p r came).item.flow.last ≤ slot.last = (live_from i key slot epoch p r came).item.low in
      let st : SwitchStands app feeds es (items ++ j ∷ []) (perform s node.clock (Mirrored key slot epoch p.mark made.0 made.1)).0 =
      mirrored_stands app feeds es items s node.clock key slot held.0 epoch held.1.0 p made j (slot.last + 1) (facts.fits key) (facts.known key) (hold.flows key) (ready_from app feeds es items s node.clock input row_facts before i key slot epoch p r came)
      (live_from i key slot epoch p r came).item held.1.1 e refl out le refl before in
      record {
        flows = more_flows i key slot epoch p made r came e j (slot.last + 1) refl out le (λ q. absurd (omega arith));
        slots = all_slots (items ++ j ∷ []) _ st (other_switch i key slot epoch p made r came e j (slot.last + 1) refl out le);
        puts = all_puts (items ++ j ∷ []) _ (put ∷ []) says st (old_puts i key slot epoch p made r came e j (slot.last + 1) refl out le (λ q. absurd (omega arith)) (λ q. absurd (omega arith)));
      }
  row_left event i row (snapped {bound = bound} r m e young) came says = absurd (not_strict s.terms.mode bound strict m)
  row_left event i row (late {key = key} {load = load} {slot = slot} here found is old) came says = idle_row event i (Late key slot (asked_mark slot load)) (late here found is old) came (late_item (asked_mark slot load)) says
  row_left event i row a came says = idle_row event i row a came refl says

  pub step_left : (event : ℕ) → Left (more_items event (switch_step app node.state node.clock input).1) (switch_step app node.state node.clock input).0 (switch_step app node.state node.clock input).1.sent
  step_left event =
      row_left event input (switch_row app s node.clock input) (row_taken app s node.clock input) refl (step_says app node.state node.clock input (facts.says n node at).tidy)
