-- In snapshot mode one step of a switch keeps the cells: of its slots, of rounds and chunks, and what each item saw.
use Rattle.std.proofs.Common.{length-append, ◌≡◌, ◌≢◌, ◌⊎◌, inl, inr, ℕ, ◌≤◌, List, [], ◌∷◌, ◌++◌, map, length, Option, Some, None, arith, refl, sym, ◌∙◌, ap, subst, append-nil, append_assoc, true, false, Bool, set, slice_get, eqb-true, eq-eqb, filter}
use Rattle.std.specs.Prelude.{◌/◌, not, option_and_then, if◌then◌else◌}
use Rattle.std.proofs.lemmas.Bool.{and_parts, and_from, both_ways}
use Rattle.rp_base.specs.declared.node.Node.{Node}
use Rattle.rp_base.specs.declared.node.Packet.{Packet}
use Rattle.rp_base.specs.declared.node.Output.{Output}
use Rattle.proto_data.specs.declared.message.Msg.{Msg}
use Rattle.proto_data.specs.declared.message.Body.{Body}
use Rattle.proto_data.specs.declared.message.Entry.{Entry}
use Rattle.proto_data.specs.declared.message.Input.{Input}
use Rattle.proto_data.specs.declared.message.Carried.{Carried}
use Rattle.proto_data.specs.declared.terms.Mode.{Mode}
use Rattle.rp_app.specs.Application.{Application, IsApplication, IsOutputOf, Delta, written, zeros}
use Rattle.proto_data.specs.Carrying.{packet_of}
use Rattle.key_table.specs.Table.{Key, Table, same_key, put}
use Rattle.proto_model.specs.Effects.{added, made_output}
use Rattle.proto_model.specs.Feeds.{Each, Pairwise, packet_at}
use Rattle.proto_model.specs.Committed.{is_in}
use Rattle.proto_model.specs.Slot.{Slot, Lease, Round, Idle, Asking, Held, Lapsed, epoch_of, is_young, updated}
use Rattle.proto_model.specs.SwitchState.{Switch, SwitchDid, Copy, Item, Begun, slot_at, lapsed}
use Rattle.proto_model.specs.SwitchAlarm.{Walk, resent, resent_put, repeated_ask, repeated_asks, due_copies, other_copies, walk_order, walked_slots}
use Rattle.proto_model.specs.SwitchRow.{SwitchRow, asked_mark, Keyless, NoRoom, NewAsk, AskAgain, Drops, Granted, Late, RoundDone, Denied, Busied, Adopts, Resends, Stale, switch_row, is_clean, without_asked, Direct, Mirrored, Acked}
use Rattle.proto_model.specs.SwitchOutcomes.{perform, item_of, late_did}
use Rattle.proto_model.specs.SwitchRows.{switch_step}
use Rattle.proto_model.specs.World.{World, SwitchNode, Journaled, RoundBegun}
use Rattle.rp_base.specs.declared.legality.Fed.{Fed}
use Rattle.proto_safety.specs.Books.{In, committed_of}
use Rattle.proto_safety.specs.Flows.{FitsFrom, flow_of}
use Rattle.proto_safety.specs.LossLaws.{round_at, kept_front, cells_over, SnapStands, RoundTurn, ReleasedBy, keyless, by_item}
use Rattle.proto_safety.specs.Origins.{PutSent}
use Rattle.proto_safety.specs.SwitchSent.{SentNow, SaysNow}
use Rattle.proto_safety.proofs.Inductions.AlarmInduction.{walk_kept}
use Rattle.proto_safety.proofs.Store.BookEpochs.{one_grant}
use Rattle.proto_safety.proofs.Serial.CellFacts.{GrantedTo, GrantSaid, OwnGrant, was_slot, was_held}
use Rattle.proto_safety.proofs.Serial.CellsGround.{OverLate, granted_to, known, items_known, entry_origin, live_epoch, told_grant, grant_said}
use Rattle.proto_safety.proofs.Serial.CellsStep.{Brought}
use Rattle.proto_safety.proofs.Leasing.FirstsKept.{Settled}
use Rattle.proto_safety.proofs.Serial.SlotCells.{CellsCounted, ready_counted, lapsed_switch_counted}
use Rattle.std.proofs.lemmas.List.{length-replicate}
use Rattle.proto_safety.proofs.Leasing.FlowCopies.{not_strict}
use Rattle.proto_safety.proofs.Inductions.FlowInduction.{step_same}
use Rattle.proto_safety.proofs.Inductions.FlowMoves.{ready_held}
use Rattle.proto_safety.proofs.Serial.FlowSerial.{MadeIn, EachMade, ran-push, made-push}
use Rattle.proto_safety.proofs.Snapshots.KeptFronts.{find_in, found_same, BookRounds, kept_zero, committed_cells_are}
use Rattle.proto_safety.proofs.Serial.SerialLists.{closing_in, closes}
use Rattle.proto_safety.proofs.Leasing.SlotFirsts.{acked_epoch, lapsed_asking, lapsed_epoch}
use Rattle.proto_model.specs.Ring.{remember}
use Rattle.proto_model.specs.Kept.{is_round}
use Rattle.proto_safety.proofs.Snapshots.SnapAges.{ages_rounds, AgesAt, AgesTable, WalkAges, ages_put, ages_fresh, ages_clean, ages_updated, ages_other, ages_done, walk_ages}
use Rattle.proto_safety.proofs.Snapshots.SnapRounds.{SnapHold, snap_round}
use Rattle.proto_safety.proofs.Snapshots.SnapSlots.{SnapTable, SnapSays, Top, WalkSnaps, RoundSent, made_round, put_snap, kept_snap, unleased_snap, item_onto, item_front, item_stands, journal_other, journal_own, rounds_front, rounds_stand, rounds_say, walk_snaps, round_onto, chunk_onto}
use Rattle.proto_safety.proofs.Nodes.SwitchNodes.{AllAt}
use Rattle.proto_safety.proofs.Nodes.SwitchSays.{step_says}
use Rattle.proto_safety.proofs.Nodes.SwitchTable.{RowTaken, Ready, Timely, msg, fed, at_grant, at_grant_again, ask_again, no_copy_room, direct, mirrored, snapped, too_old, granted_only, late, acked, round_done, busied, keyless as row_keyless, row_taken}
use Rattle.key_table.proofs.Tables.{same_key-true, same_key-refl}
use Rattle.proto_safety.proofs.Leasing.WorldPuts.{NumberIn, NumberFrame}
use Rattle.proto_safety.proofs.Nodes.SwitchWas.{step_item}
use Rattle.proto_safety.proofs.Inductions.Induction.{Comes}
use Rattle.proto_safety.proofs.Basics.Eachs.{each_all, each_append, each_if, each_in, each_take, each_weaker}
use Rattle.proto_safety.proofs.Basics.Lists.{at_set}
use Rattle.proto_safety.proofs.Basics.Members.{in_append, in_filter, in_front, in_map, to_append}

module _ (app : Application) (w : World) (feeds : List Fed) (n bound : ℕ) (node : SwitchNode) (input : Input) (b : Settled app.cell_count w) (o : OverLate w) (copyless : node.state.copies ≡ []) (mode : node.state.terms.mode ≡ Mode.Snapshot bound)
    (hold : SnapHold app feeds (committed_of w.replicas) w.history.items w.history.rounds w.frames w.switches) (at : slice_get w.switches n ≡ Some node) (up : node.runs ≡ true) (brought : Brought w feeds n input)
    (carried : (c : Carried) (key : Key) (from to : Node) (inc nonce epoch : ℕ) (cells : List ℕ) → input ≡ msg from to (Body.Grant inc nonce epoch key cells (Some c)) → (packet_at feeds c.mark ≡ Some (packet_of c)) × (app.key_of (packet_of c) ≡ Some key)) where
  abbrev es : List Entry
  es = committed_of w.replicas

  abbrev items : List Journaled
  items = w.history.items

  abbrev rounds : List RoundBegun
  rounds = w.history.rounds

  abbrev s : Switch
  s = lapsed node.clock node.state

  fits : (key : Key) → FitsFrom app.cell_count key None es
  fits = (known app w b o).committed_fits

  -- ---- slots, before the step

  before : SnapTable app feeds es items rounds s.slots
  before key slot e found leased =
      let x = was_slot node.state node.clock key slot found in
      let k = hold.slots n node at key x.old e x.found (sym (lapsed_epoch node.clock x.old.lease) ∙ (ap (λ (y : Slot). epoch_of y.lease) x.is ∙ leased)) in
      record { cells = ap (λ (y : Slot). y.cells) (sym x.is) ∙ k.cells; round = λ r is. k.round r (ap (λ (y : Slot). y.round) x.is ∙ is) }

  owner_at : (key : Key) (slot : Slot) (e : ℕ) → slot_at s key ≡ Some slot → epoch_of slot.lease ≡ Some e → OwnGrant es key e n node.state.inc
  owner_at key slot e found leased =
      let x = was_slot node.state node.clock key slot found in
      let g = (known app w b o).leased n node key x.old e at x.found (sym (lapsed_epoch node.clock x.old.lease) ∙ (ap (λ (y : Slot). epoch_of y.lease) x.is ∙ leased)) in
      record { nonce = g.nonce; there = g.there }

  granted_at : (key : Key) (slot : Slot) (e : ℕ) → slot_at s key ≡ Some slot → epoch_of slot.lease ≡ Some e → GrantedTo app.cell_count es key e
  granted_at key slot e found leased = let g = owner_at key slot e found leased in granted_to app.cell_count key es e n node.state.inc g.nonce (fits key) g.there

  live_at : (key : Key) (slot : Slot) (nonce e expiry : ℕ) → slot_at s key ≡ Some slot → slot.lease ≡ Held nonce e expiry → Top app feeds es items key e
  live_at key slot nonce e expiry found is =
      let x = was_slot node.state node.clock key slot found in
      let held = was_held node.clock x.old.lease nonce e expiry (ap (λ (y : Slot). y.lease) x.is ∙ is) in
      let g = granted_at key slot e found (ap epoch_of is) in
      let below : g.flow.epoch ≤ e = live_epoch app w b o n nonce e expiry key node x.old g.flow at up x.found held.0 held.1 g.flow_is in
      record { flow = g.flow; flow_is = g.flow_is; epoch_is = omega (arith, below, g.reached) }

  -- ---- Grants that are taken in time

  said : (from to : Node) (inc nonce epoch first : ℕ) (key : Key) (cells : List ℕ) (load : Option Carried) (slot : Slot) → input ≡ msg from to (Body.Grant inc nonce epoch key cells load) → Timely app s node.clock inc nonce key cells slot first →
      GrantSaid app w n node.state.inc key epoch cells
  said from to inc nonce epoch first key cells load slot is t =
      let x = was_slot node.state node.clock key slot t.at in
      let own : inc ≡ node.state.inc = eqb-true inc node.state.inc t.here in
      let asking : x.old.lease ≡ Asking nonce first = lapsed_asking node.clock nonce first x.old.lease (ap (λ (y : Slot). y.lease) x.is ∙ t.asking) in
      let comes : Comes w (Node.Switch n) (msg from to (Body.Grant node.state.inc nonce epoch key cells load)) =
      subst (λ i. Comes w (Node.Switch n) (msg from to (Body.Grant i nonce epoch key cells load))) own (came input is brought) in
      grant_said app w b o n nonce first epoch key cells node x.old at up x.found asking t.young (told_grant app w b o n node.state.inc nonce epoch from to key cells load comes)
    where
      came : (i : Input) → i ≡ msg from to (Body.Grant inc nonce epoch key cells load) → Brought w feeds n i → Comes w (Node.Switch n) (msg from to (Body.Grant inc nonce epoch key cells load))
      came i e h = subst (λ x. Brought w feeds n x) e h

  book : (key : Key) → BookRounds app feeds es items rounds key
  book key =
      record {
        snaps = λ e number cells i. snap_round app feeds es items rounds w.frames hold.says key e number cells (entry_origin app w b o (Entry.Snap key e number cells) i);
        puts = λ e number delta i.
            let p : PutSent w.frames key e number delta = entry_origin app w b o (Entry.Put key e number delta) i in
            subst (λ (x : Body). SnapSays app feeds es items rounds x) p.body_is (each_in (λ (m : Msg). SnapSays app feeds es items rounds m.body) w.frames p.msg hold.says p.there);
        begun = each_all (λ (r : RoundBegun). 1 ≤ r.begun.round) rounds (λ r i. (hold.begun r i).0);
      }

  grant_cells : (key : Key) (epoch : ℕ) (cells : List ℕ) → GrantSaid app w n node.state.inc key epoch cells → cells ≡ cells_over app feeds (kept_front key es items rounds epoch ++ filter (is_in key epoch) items)
  grant_cells key epoch cells g =
      let none : filter (is_in key g.flow.epoch) items ≡ [] = rw g.epoch_is g.no_items in
      let closed : closing_in key g.flow.epoch es ≡ Some 0 = (closes app.cell_count key es (fits key)).last g.flow g.flow_is ∙ ap (λ (x : ℕ). Some x) g.last_is in
      sym g.cells_are
      ∙ (committed_cells_are app feeds es items rounds key (fits key) (book key) g.flow g.flow_is
      ∙ (ap (λ l. cells_over app feeds (kept_front key es items rounds g.flow.epoch ++ l)) (kept_zero app feeds es items rounds key (fits key) (book key) g.flow.epoch (closing_in key g.flow.epoch es) closed ∙ sym none)
      ∙ ap (λ e. cells_over app feeds (kept_front key es items rounds e ++ filter (is_in key e) items)) g.epoch_is))

  -- ---- packets that are about to be processed

  record Live (key : Key) (slot : Slot) (epoch : ℕ) (p : Packet) : Type 0 where
    stands : SnapStands app feeds es items rounds key slot epoch
    top : Top app feeds es items key epoch
    owner : OwnGrant es key epoch n node.state.inc
    fed_at : packet_at feeds p.mark ≡ Some p
    key_is : app.key_of p ≡ Some key

  no_round : (r : Round) → None ≡ Some r → ⊥
  no_round r is = cc

  live_from : (i : Input) (key : Key) (slot : Slot) (epoch : ℕ) (p : Packet) → Ready app s node.clock i key slot epoch p → input ≡ i → Live key slot epoch p
  live_from i key slot epoch p (fed {nonce = nonce} {expiry = expiry} of found is) came =
      record {
        stands = before key slot epoch found (ap epoch_of is);
        top = live_at key slot nonce epoch expiry found is;
        owner = owner_at key slot epoch found (ap epoch_of is);
        fed_at = subst (λ x. Brought w feeds n x) came brought;
        key_is = of;
      }
  live_from i key slot epoch p (at_grant {from = from} {to = to} {inc = inc} {nonce = nonce} {first = first} {cells = cells} {c = c} {slot = old} t m) came =
      let g = said from to inc nonce epoch first key cells (Some c) old came t in
      let x = carried c key from to inc nonce epoch cells came in
      record {
        stands = record { cells = grant_cells key epoch cells g; round = λ r is. absurd (no_round r is) };
        top = record { flow = g.flow; flow_is = g.flow_is; epoch_is = g.epoch_is };
        owner = g.owner;
        fed_at = x.0;
        key_is = x.1;
      }
  live_from i key slot epoch p (at_grant_again {from = from} {to = to} {inc = inc} {nonce = nonce} {expiry = expiry} {cells = cells} {c = c} {slot = old} here found is m) came =
      let x = carried c key from to inc nonce epoch cells came in
      let k = before key old epoch found (ap epoch_of is) in
      record {
        stands = record { cells = k.cells; round = k.round };
        top = live_at key old nonce epoch expiry found is;
        owner = owner_at key old epoch found (ap epoch_of is);
        fed_at = x.0;
        key_is = x.1;
      }

  -- ---- what a step leaves

  abbrev moved : Switch → List SwitchNode
  moved state = set w.switches n (record node { state = state })

  all_slots : (more : List Journaled) (on : List RoundBegun) (state : Switch) → SnapTable app feeds es more on state.slots → ((m : ℕ) (x : SwitchNode) → m ≢ n → slice_get w.switches m ≡ Some x → SnapTable app feeds es more on x.state.slots) →
      AllAt (λ m (x : SwitchNode). SnapTable app feeds es more on x.state.slots) (moved state)
  all_slots more on state own others m x is = node_case (at_set w.switches n m (record node { state = state }) x is)
    where
      node_case : ((m ≡ n) × (x ≡ record node { state = state })) ⊎ ((m ≢ n) × (slice_get w.switches m ≡ Some x)) → SnapTable app feeds es more on x.state.slots
      node_case (inl same) = rw same.1 own
      node_case (inr there) = others m x there.0 there.1

  more_begun : (sent : List Msg) (r : RoundBegun) → (1 ≤ r.begun.round) × ((m : ℕ) × ((inc : ℕ) × NumberFrame w.frames m inc r.begun.key r.begun.epoch r.begun.round)) →
      (1 ≤ r.begun.round) × ((m : ℕ) × ((inc : ℕ) × NumberFrame (w.frames ++ sent) m inc r.begun.key r.begun.epoch r.begun.round))
  more_begun sent r h = let p = h.1.1.1 in (h.0, (h.1.0, (h.1.1.0, record { msg = p.msg; there = in_front w.frames sent p.msg p.there; from_is = p.from_is; number_in = p.number_in })))

  -- nothing is processed, and no round begins
  quiet : (state : Switch) (sent : List Msg) → SnapTable app feeds es items rounds state.slots → Each (λ (m : Msg). SnapSays app feeds es items rounds m.body) sent → SnapHold app feeds es items rounds (w.frames ++ sent) (moved state)
  quiet state sent own says =
      record {
        slots = all_slots items rounds state own (λ m x ne there. hold.slots m x there);
        says = each_append (λ (m : Msg). SnapSays app feeds es items rounds m.body) w.frames sent hold.says says;
        made = hold.made;
        turns = hold.turns;
        within = hold.within;
        begun = λ r i. more_begun sent r (hold.begun r i);
      }

  -- ---- a packet is processed

  module _ (i : Input) (key : Key) (slot : Slot) (epoch : ℕ) (p : Packet) (made : Delta × Option Output) (r : Ready app s node.clock i key slot epoch p) (came : input ≡ i) (plain : app.plain slot.cells p ≡ made) (j : Journaled) (number : ℕ)
      (item : j.item ≡ item_of key epoch p.mark number node.clock made.0) (output : j.output ≡ made.1) (new : Slot) (lease : new.lease ≡ slot.lease) (round : new.round ≡ slot.round) (cells : new.cells ≡ written slot.cells made.0) where
    live : Live key slot epoch p
    live = live_from i key slot epoch p r came

    abbrev more : List Journaled
    more = items ++ j ∷ []

    key_same : j.item.key ≡ key
    key_same = ap (λ (x : Item). x.key) item

    epoch_same : j.item.epoch ≡ epoch
    epoch_same = ap (λ (x : Item). x.epoch) item

    mark_same : j.item.mark ≡ p.mark
    mark_same = ap (λ (x : Item). x.mark) item

    flow_at : flow_of app.cell_count j.item.key es ≡ Some live.top.flow
    flow_at = ap (λ k. flow_of app.cell_count k es) key_same ∙ live.top.flow_is

    flow_epoch : live.top.flow.epoch ≡ j.item.epoch
    flow_epoch = live.top.epoch_is ∙ sym epoch_same

    own_granted : GrantedTo app.cell_count es key epoch
    own_granted = record { flow = live.top.flow; flow_is = live.top.flow_is; reached = omega (arith, live.top.epoch_is) }

    own : is_in key epoch j ≡ true
    own = rw (key_same, epoch_same) (and_from _ _ (same_key-refl key) (eq-eqb epoch epoch refl))

    abbrev front : List Journaled
    front = kept_front key es items rounds epoch

    abbrev journal : List Journaled
    journal = filter (is_in key epoch) items

    made_now : MadeIn app feeds key (front ++ journal) j
    made_now =
        let plain_now : app.plain (cells_over app feeds (front ++ journal)) p ≡ made = ap (λ l. app.plain l p) (sym live.stands.cells) ∙ plain in
        record {
          packet = p;
          fed_at = ap (λ m. packet_at feeds m) mark_same ∙ live.fed_at;
          key_is = live.key_is;
          output_is = output ∙ ap (λ x. x.1) (sym plain_now);
          dirty_is = ap (λ (x : Item). x.dirty) item ∙ ap (λ x. not (is_clean x.0)) (sym plain_now);
        }

    new_stands : SnapStands app feeds es more rounds key new epoch
    new_stands =
        let plain_now : app.plain (cells_over app feeds (front ++ journal)) p ≡ made = ap (λ l. app.plain l p) (sym live.stands.cells) ∙ plain in
        record {
          cells =
              cells
              ∙ (ap (λ l. written l made.0) live.stands.cells
              ∙ (ap (λ x. written (cells_over app feeds (front ++ journal)) x.0) (sym plain_now)
              ∙ (sym (ran-push app feeds (front ++ journal) j p (ap (λ m. packet_at feeds m) mark_same ∙ live.fed_at))
              ∙ (ap (λ l. cells_over app feeds l) (append_assoc front journal (j ∷ []))
              ∙ (ap (λ l. cells_over app feeds (front ++ l)) (sym (journal_own app feeds es items key epoch j own))
              ∙ ap (λ l. cells_over app feeds (l ++ filter (is_in key epoch) more)) (sym (item_front app feeds es items rounds j live.top.flow key epoch own_granted flow_at flow_epoch)))))));
          round = λ q is. round_onto app feeds feeds es es items more rounds rounds key epoch (item_onto app feeds es items rounds j live.top.flow key epoch own_granted flow_at flow_epoch) q.number q.cells (live.stands.round q (sym round ∙ is));
        }

    out_of : (k : Key) (e : ℕ) → ((k ≡ key) → (e ≡ epoch) → ⊥) → is_in k e j ≡ false
    out_of k e ne = in_case (is_in k e j) refl
      where
        in_case : (t : Bool) → is_in k e j ≡ t → t ≡ false
        in_case false is = refl
        in_case true is =
            let q = and_parts _ _ is in
            absurd (ne (sym (same_key-true j.item.key k q.0) ∙ key_same) (sym (eqb-true j.item.epoch e q.1) ∙ epoch_same))

    other_stands : (k : Key) (v : Slot) (e : ℕ) → GrantedTo app.cell_count es k e → ((k ≡ key) → (e ≡ epoch) → ⊥) → SnapStands app feeds es items rounds k v e → SnapStands app feeds es more rounds k v e
    other_stands k v e g ne h = item_stands app feeds es items rounds j live.top.flow k v e g flow_at flow_epoch (out_of k e ne) h

    own_table : SnapTable app feeds es more rounds (put s.slots key new)
    own_table =
        put_snap app feeds es more rounds s.slots key new
        (λ k v e ne found of. other_stands k v e (granted_at k v e found of) (λ q x. both_ways _ ne (subst (λ y. same_key key y ≡ true) (sym q) (same_key-refl key))) (before k v e found of))
        (λ e of.
        let held = ready_held r in
        let same : epoch ≡ e = cc (ap epoch_of (sym held.1.1) ∙ (ap epoch_of (sym lease) ∙ of)) in
        subst (λ x. SnapStands app feeds es more rounds key new x) same new_stands)

    other_table : (m : ℕ) (x : SwitchNode) → m ≢ n → slice_get w.switches m ≡ Some x → SnapTable app feeds es more rounds x.state.slots
    other_table m x ne there k v e found of =
        let g = (known app w b o).leased m x k v e there found of in
        other_stands k v e (granted_to app.cell_count k es e m x.state.inc g.nonce (fits k) g.there)
        (λ q y.
        let mine : In es (Entry.Grant k e n node.state.inc live.owner.nonce) = subst (λ z. In es (Entry.Grant z e n node.state.inc live.owner.nonce)) (sym q) (subst (λ z. In es (Entry.Grant key z n node.state.inc live.owner.nonce)) (sym y) live.owner.there) in
        ne (one_grant app.cell_count k None es e m x.state.inc g.nonce n node.state.inc live.owner.nonce (fits k) g.there mine).switch)
        (hold.slots m x there k v e found of)

    says_more : (x : Body) → SnapSays app feeds es items rounds x → SnapSays app feeds es more rounds x
    says_more (Body.Snap inc e k q chunk chunks part) h = (chunk_onto app feeds feeds es es items more rounds rounds q e (item_onto app feeds es items rounds j live.top.flow q e h.1 flow_at flow_epoch) k chunk chunks part h.0, h.1)
    says_more (Body.Put inc e k q delta load) h = absurd h
    says_more (Body.Ask inc nonce q load) h = tt
    says_more (Body.Grant inc nonce e q values load) h = tt
    says_more (Body.Busy inc nonce q mark) h = tt
    says_more (Body.Ack inc e upto q load) h = tt
    says_more (Body.Deny inc e q) h = tt
    says_more (Body.Forward c x entry load) h = tt
    says_more (Body.Have x) h = tt
    says_more (Body.Echo of load) h = tt
    says_more (Body.Config c) h = tt

    all_made : (k : Key) (e : ℕ) → EachMade app feeds k (kept_front k es more rounds e) (filter (is_in k e) more)
    all_made k e = in_case (is_in k e j) refl
      where
        granted_of : (x : Journaled) → In (filter (is_in k e) items) x → GrantedTo app.cell_count es k e
        granted_of x i =
            let f = in_filter (is_in k e) items x i in
            let q = and_parts _ _ f.1 in
            let g = (items_known app w b o k).granted x f.0 (same_key-true x.item.key k q.0) in
            record { flow = g.0; flow_is = g.1.0; reached = omega (arith, g.1.1, eqb-true x.item.epoch e q.1) }

        in_case : (t : Bool) → is_in k e j ≡ t → EachMade app feeds k (kept_front k es more rounds e) (filter (is_in k e) more)
        in_case true is =
            let q = and_parts _ _ is in
            let kk : key ≡ k = sym key_same ∙ same_key-true j.item.key k q.0 in
            let ee : epoch ≡ e = sym epoch_same ∙ eqb-true j.item.epoch e q.1 in
            subst (λ z. EachMade app feeds z (kept_front z es more rounds e) (filter (is_in z e) more)) kk
            (subst (λ z. EachMade app feeds key (kept_front key es more rounds z) (filter (is_in key z) more)) ee
            (subst (λ l. EachMade app feeds key l (filter (is_in key epoch) more)) (sym (item_front app feeds es items rounds j live.top.flow key epoch own_granted flow_at flow_epoch))
            (subst (λ l. EachMade app feeds key front l) (sym (journal_own app feeds es items key epoch j own)) (made-push app feeds key front journal j (hold.made key epoch) made_now))))
        in_case false is =
            record {
              at = λ pre x post whole.
                  let old : filter (is_in k e) items ≡ pre ++ x ∷ post = sym (journal_other app feeds es items k e j is) ∙ whole in
                  let g = granted_of x (subst (λ l. In l x) (sym old) (to_append pre (x ∷ post) x (inr (inl refl)))) in
                  subst (λ l. MadeIn app feeds k (l ++ pre) x) (sym (item_front app feeds es items rounds j live.top.flow k e g flow_at flow_epoch)) ((hold.made k e).at pre x post old);
            }

    processed : (state : Switch) → state.slots ≡ put s.slots key new → SnapHold app feeds es more rounds (w.frames ++ []) (moved state)
    processed state slots =
        record {
          slots = all_slots more rounds state (subst (λ t. SnapTable app feeds es more rounds t) (sym slots) own_table) other_table;
          says = each_append (λ (m : Msg). SnapSays app feeds es more rounds m.body) w.frames [] (each_weaker (λ (m : Msg). SnapSays app feeds es items rounds m.body) (λ (m : Msg). SnapSays app feeds es more rounds m.body) w.frames (λ m h. says_more m.body h) hold.says) tt;
          made = all_made;
          turns = hold.turns;
          within = each_weaker (λ (q : RoundBegun). q.items_before ≤ length items) (λ (q : RoundBegun). q.items_before ≤ length more) rounds (λ q le. omega (arith, le, length-append items (j ∷ []))) hold.within;
          begun = λ q x. more_begun [] q (hold.begun q x);
        }

  -- ---- an Alarm

  ask_says : (on : List RoundBegun) (key : Key) (lease : Lease) → Each (λ (m : Msg). SnapSays app feeds es items on m.body) (repeated_ask s node.clock key lease)
  ask_says on key (Asking nonce first) = each_if (λ (m : Msg). SnapSays app feeds es items on m.body) (is_young s.terms.t_switch first node.clock) _ [] (tt, tt) tt
  ask_says on key Idle = tt
  ask_says on key (Held nonce epoch expiry) = tt
  ask_says on key (Lapsed nonce epoch expiry) = tt

  asks_say : (on : List RoundBegun) (slots : Table Slot) → Each (λ (m : Msg). SnapSays app feeds es items on m.body) (repeated_asks s node.clock slots)
  asks_say on [] = tt
  asks_say on (e ∷ slots) = each_append (λ (m : Msg). SnapSays app feeds es items on m.body) (repeated_ask s node.clock e.0 e.1.lease) _ (ask_says on e.0 e.1.lease) (asks_say on slots)

  -- without copies no Put goes again
  none_again : (on : List RoundBegun) (age : ℕ) (cs : List Copy) → cs ≡ [] → Each (λ (m : Msg). SnapSays app feeds es items on m.body) (map (resent_put s) (due_copies node.clock age 64 cs))
  none_again on age cs none = subst (λ l. Each (λ (m : Msg). SnapSays app feeds es items on m.body) (map (resent_put s) (due_copies node.clock age 64 l))) (sym none) tt

  abbrev Resent : Walk
  Resent = resent s node.clock (due_copies node.clock (s.terms.t_switch / 4) 64 s.copies) (other_copies node.clock (s.terms.t_switch / 4) 64 s.copies)

  -- a begun round's number is at most the last of a slot that is leased in its epoch
  low_round : (key : Key) (slot : Slot) (e : ℕ) (q : RoundBegun) → slot_at s key ≡ Some slot → epoch_of slot.lease ≡ Some e → In rounds q → q.begun.key ≡ key → q.begun.epoch ≡ e → q.begun.round ≤ slot.last
  low_round key slot e q found leased i k d =
      let x = was_slot node.state node.clock key slot found in
      let was : epoch_of x.old.lease ≡ Some e = sym (lapsed_epoch node.clock x.old.lease) ∙ (ap (λ (y : Slot). epoch_of y.lease) x.is ∙ leased) in
      let h = hold.begun q i in
      let f = (b.1.numbers h.1.0 h.1.1.0 q.begun.epoch q.begun.round q.begun.key h.1.1.1).reached n node x.old at (ap (λ y. slot_at node.state y) k ∙ x.found) (was ∙ ap (λ (y : ℕ). Some y) (sym d)) in
      let last : x.old.last ≡ slot.last = ap (λ (y : Slot). y.last) x.is in
      omega (arith, f, last)

  module _ (event : ℕ) where
    abbrev mark_round : Begun → RoundBegun
    mark_round = made_round app feeds es items event bound rounds

    start : WalkSnaps app feeds es items event bound rounds Resent
    start =
        record {
          snapshot = mode;
          slots = subst (λ rs. SnapTable app feeds es items rs s.slots) (sym (append-nil rounds)) before;
          sent = subst (λ rs. Each (λ (m : Msg). SnapSays app feeds es items rs m.body) Resent.sent) (sym (append-nil rounds))
              (each_take (λ (m : Msg). SnapSays app feeds es items rounds m.body) 64 _
              (each_append (λ (m : Msg). SnapSays app feeds es items rounds m.body) _ (repeated_asks s node.clock s.slots) (none_again rounds (s.terms.t_switch / 4) s.copies copyless) (asks_say rounds s.slots)));
          granted = λ key slot e found leased. granted_at key slot e found leased;
          live = λ key slot nonce e expiry found is. live_at key slot nonce e expiry found is;
          last = λ key slot e q found leased i k d. low_round key slot e q found leased (subst (λ rs. In rs q) (append-nil rounds) i) k d;
          tops = λ q i. absurd i;
          turns = subst (Pairwise RoundTurn) (sym (append-nil rounds)) hold.turns;
          within = subst (Each (λ (q : RoundBegun). q.items_before ≤ length items)) (sym (append-nil rounds)) hold.within;
          begun = λ c i. absurd i;
        }

    abbrev walked : Walk
    walked = walked_slots Resent node.clock (walk_order s.walked (map (λ (e : Key × Slot). e.0) s.slots))

    after : WalkSnaps app feeds es items event bound rounds walked
    after = walk_kept node.clock (WalkSnaps app feeds es items event bound rounds) (walk_snaps app feeds es items event bound rounds node.clock) (walk_order s.walked (map (λ (e : Key × Slot). e.0) s.slots)) Resent start

    abbrev on : List RoundBegun
    on = rounds ++ map mark_round walked.begun

    other_rounds : (m : ℕ) (x : SwitchNode) → m ≢ n → slice_get w.switches m ≡ Some x → SnapTable app feeds es items on x.state.slots
    other_rounds m x ne there k v e found of =
        let g = (known app w b o).leased m x k v e there found of in
        rounds_stand app feeds es items rounds (map mark_round walked.begun) k v e (granted_to app.cell_count k es e m x.state.inc g.nonce (fits k) g.there) after.tops (hold.slots m x there k v e found of)

    made_on : (k : Key) (e : ℕ) → EachMade app feeds k (kept_front k es items on e) (filter (is_in k e) items)
    made_on k e =
        record {
          at = λ pre x post whole.
              let g = granted_of x (subst (λ l. In l x) (sym whole) (to_append pre (x ∷ post) x (inr (inl refl)))) in
              subst (λ l. MadeIn app feeds k (l ++ pre) x) (sym (rounds_front app feeds es items rounds (map mark_round walked.begun) k e g after.tops)) ((hold.made k e).at pre x post whole);
        }
      where
        granted_of : (x : Journaled) → In (filter (is_in k e) items) x → GrantedTo app.cell_count es k e
        granted_of x i =
            let f = in_filter (is_in k e) items x i in
            let q = and_parts _ _ f.1 in
            let g = (items_known app w b o k).granted x f.0 (same_key-true x.item.key k q.0) in
            record { flow = g.0; flow_is = g.1.0; reached = omega (arith, g.1.1, eqb-true x.item.epoch e q.1) }

    alarmed : Each (SentNow walked.state) walked.sent → walked.state.me ≡ n → SnapHold app feeds es items on (w.frames ++ walked.sent) (moved walked.state)
    alarmed says me =
        record {
          slots = all_slots items on walked.state after.slots other_rounds;
          says = each_append (λ (m : Msg). SnapSays app feeds es items on m.body) w.frames walked.sent
              (each_weaker (λ (m : Msg). SnapSays app feeds es items rounds m.body) (λ (m : Msg). SnapSays app feeds es items on m.body) w.frames (λ m h. rounds_say app feeds es items rounds (map mark_round walked.begun) m.body after.tops h) hold.says)
              after.sent;
          made = made_on;
          turns = after.turns;
          within = after.within;
          begun = λ q i. begun_case q (in_append rounds (map mark_round walked.begun) q i);
        }
      where
        begun_case : (q : RoundBegun) → In rounds q ⊎ In (map mark_round walked.begun) q → (1 ≤ q.begun.round) × ((m : ℕ) × ((inc : ℕ) × NumberFrame (w.frames ++ walked.sent) m inc q.begun.key q.begun.epoch q.begun.round))
        begun_case q (inl i) = more_begun walked.sent q (hold.begun q i)
        begun_case q (inr i) =
            let c = in_map mark_round walked.begun q i in
            let r : RoundSent app feeds es items event bound rounds walked.sent c.0 = after.begun c.0 c.1.0 in
            subst (λ (y : RoundBegun). (1 ≤ y.begun.round) × ((m : ℕ) × ((inc : ℕ) × NumberFrame (w.frames ++ walked.sent) m inc y.begun.key y.begun.epoch y.begun.round))) c.1.1
            (r.some, (n, (r.inc, record { msg = r.msg; there = to_append w.frames walked.sent r.msg (inr r.there); from_is = (each_in (SentNow walked.state) walked.sent r.msg says r.there).0 ∙ ap (λ x. Node.Switch x) me; number_in = r.number_in })))

    -- ---- every row

    abbrev item_on : SwitchDid → List Journaled
    item_on did = items ++ added (λ (x : Item). record { event = event; item = x; output = made_output did.released did.sent }) did.item

    abbrev Left : SwitchDid → Switch → Type 0
    Left did state = SnapHold app feeds es (item_on did) (rounds ++ map mark_round did.begun) (w.frames ++ did.sent) (moved state)

    quiet_as : (did : SwitchDid) (state : Switch) → did.item ≡ None → did.begun ≡ [] → SnapTable app feeds es items rounds state.slots → Each (λ (m : Msg). SnapSays app feeds es items rounds m.body) did.sent → Left did state
    quiet_as did state none idle table says =
        let same_items : items ≡ item_on did = sym (ap (λ o. items ++ added (λ (x : Item). record { event = event; item = x; output = made_output did.released did.sent }) o) none ∙ append-nil items) in
        let same_rounds : rounds ≡ rounds ++ map mark_round did.begun = sym (ap (λ l. rounds ++ map mark_round l) idle ∙ append-nil rounds) in
        subst (λ l. SnapHold app feeds es (item_on did) l (w.frames ++ did.sent) (moved state)) same_rounds
        (subst (λ l. SnapHold app feeds es l rounds (w.frames ++ did.sent) (moved state)) same_items (quiet state did.sent table says))

    late_quiet : (mark : Option ℕ) → ((late_did mark).item ≡ None) × ((late_did mark).begun ≡ []) × Each (λ (m : Msg). SnapSays app feeds es items rounds m.body) (late_did mark).sent
    late_quiet None = (refl, refl, tt)
    late_quiet (Some m) = (refl, refl, tt)

    made_direct : (out : Option Output) → made_output out [] ≡ out
    made_direct None = refl
    made_direct (Some x) = refl

    -- a slot that is about to be processed is stored as it is
    ready_table : (i : Input) (key : Key) (slot : Slot) (epoch : ℕ) (p : Packet) → Ready app s node.clock i key slot epoch p → input ≡ i → SnapTable app feeds es items rounds (put s.slots key slot)
    ready_table i key slot epoch p r came =
        put_snap app feeds es items rounds s.slots key slot (λ k v e ne found of. before k v e found of)
        (λ e of. let held = ready_held r in let same : epoch ≡ e = cc (ap epoch_of (sym held.1.1) ∙ of) in subst (λ x. SnapStands app feeds es items rounds key slot x) same (live_from i key slot epoch p r came).stands)

    row_hold : (i : Input) (row : SwitchRow) → RowTaken app s node.clock i row → input ≡ i → Each (SentNow (perform s node.clock row).0) (perform s node.clock row).1.sent → (perform s node.clock row).0.me ≡ n → Left (perform s node.clock row).1 (perform s node.clock row).0
    row_hold i (Keyless out) a came says me = quiet_as (perform s node.clock (Keyless out)).1 s refl refl before tt
    row_hold i (NoRoom mark) a came says me = quiet_as (perform s node.clock (NoRoom mark)).1 s refl refl before tt
    row_hold i (NewAsk key slot packet) a came says me =
        quiet_as (perform s node.clock (NewAsk key slot packet)).1 (perform s node.clock (NewAsk key slot packet)).0 refl refl (unleased_snap app feeds es items rounds s.slots key _ refl before) (tt, tt)
    row_hold i (AskAgain key slot nonce packet) (ask_again of found is young) came says me =
        quiet_as (perform s node.clock (AskAgain key slot nonce packet)).1 (perform s node.clock (AskAgain key slot nonce packet)).0 refl refl (kept_snap app feeds es items rounds s.slots key slot _ found refl (λ e x. x) (λ r x. x) before) (tt, tt)
    row_hold i (Drops key slot mark cause) (no_copy_room {epoch = epoch} {p = p} r m full) came says me = quiet_as (perform s node.clock (Drops key slot mark cause)).1 (perform s node.clock (Drops key slot mark cause)).0 refl refl (ready_table i key slot epoch p r came) tt
    row_hold i (Drops key slot mark cause) (too_old {epoch = epoch} {p = p} r m old) came says me = quiet_as (perform s node.clock (Drops key slot mark cause)).1 (perform s node.clock (Drops key slot mark cause)).0 refl refl (ready_table i key slot epoch p r came) tt
    row_hold i row (direct r m e clean alone) came says me = absurd (not_strict s.terms.mode bound m mode)
    row_hold i row (mirrored r m e room dirty) came says me = absurd (not_strict s.terms.mode bound m mode)
    row_hold i row (snapped {key = key} {slot = slot} {epoch = epoch} {p = p} {made = made} r m e young) came says me =
        let j : Journaled = record { event = event; item = item_of key epoch p.mark slot.last node.clock made.0; output = made_output made.1 [] } in
        subst (λ l. SnapHold app feeds es (items ++ j ∷ []) l (w.frames ++ []) (moved (perform s node.clock row).0)) (sym (append-nil rounds))
        (processed i key slot epoch p made r came e j slot.last refl (made_direct made.1) _ refl refl refl (perform s node.clock row).0 refl)
    row_hold i (Granted key slot) (granted_only {from = from} {to = to} {inc = inc} {nonce = nonce} {epoch = epoch} {first = first} {cells = cells} {load = load} {slot = old} t none) came says me =
        quiet_as (perform s node.clock (Granted key slot)).1 (perform s node.clock (Granted key slot)).0 refl refl
        (put_snap app feeds es items rounds s.slots key slot (λ k v e ne found of. before k v e found of)
        (λ e of.
        let same : epoch ≡ e = cc in
        subst (λ x. SnapStands app feeds es items rounds key slot x) same (record { cells = grant_cells key epoch cells (said from to inc nonce epoch first key cells load old came t); round = λ r is. absurd (no_round r is) }))) tt
    row_hold i (Late key slot mark) a came says me =
        let q = late_quiet mark in quiet_as (late_did mark) (perform s node.clock (Late key slot mark)).0 q.0 q.1 (unleased_snap app feeds es items rounds s.slots key _ refl before) q.2
    row_hold i row (acked m here found e) came says me = absurd (not_strict s.terms.mode bound m mode)
    row_hold i (RoundDone key slot r) (round_done m here found e runs number) came says me =
        quiet_as (perform s node.clock (RoundDone key slot r)).1 (perform s node.clock (RoundDone key slot r)).0 refl refl
        (kept_snap app feeds es items rounds s.slots key slot _ found refl (λ x of. sym (acked_epoch s.terms.t_switch node.clock slot.lease (Some (0, r.begun))) ∙ of) (λ q y. absurd (no_round q y)) before) tt
    row_hold i (Denied key slot) a came says me = quiet_as (perform s node.clock (Denied key slot)).1 (perform s node.clock (Denied key slot)).0 refl refl (unleased_snap app feeds es items rounds s.slots key _ refl before) tt
    row_hold i (Busied key slot mark) (busied here found is m) came says me =
        quiet_as (perform s node.clock (Busied key slot mark)).1 (perform s node.clock (Busied key slot mark)).0 refl refl (kept_snap app feeds es items rounds s.slots key slot _ found refl (λ e x. x) (λ r x. x) before) tt
    row_hold i (Adopts config) a came says me = quiet_as (perform s node.clock (Adopts config)).1 (perform s node.clock (Adopts config)).0 refl refl before tt
    row_hold i Resends a came says me = subst (λ l. SnapHold app feeds es l on (w.frames ++ walked.sent) (moved walked.state)) (sym (append-nil items)) (alarmed says me)
    row_hold i Stale a came says me = quiet_as (perform s node.clock Stale).1 s refl refl before tt

    pub step_hold : Left (switch_step app node.state node.clock input).1 (switch_step app node.state node.clock input).0
    step_hold =
        row_hold input (switch_row app s node.clock input) (row_taken app s node.clock input) refl (step_says app node.state node.clock input ((known app w b o).tidy n node at)) ((step_same app node.state node.clock input).me ∙ (known app w b o).me n node at)

  -- ---- what is processed and released

  -- a processed item is of the present epoch of its flow, and its packet was fed
  pub record Processed (x : Item) : Type 0 where
    pub top : Top app feeds es items x.key x.epoch
    pub packet : Packet
    pub fed_at : packet_at feeds x.mark ≡ Some packet

  row_item : (i : Input) (row : SwitchRow) → RowTaken app s node.clock i row → input ≡ i → (x : Item) → (perform s node.clock row).1.item ≡ Some x → Processed x
  row_item i row (direct r m e clean alone) came x out = absurd (not_strict s.terms.mode bound m mode)
  row_item i row (mirrored r m e room dirty) came x out = absurd (not_strict s.terms.mode bound m mode)
  row_item i row (snapped {key = key} {slot = slot} {epoch = epoch} {p = p} {made = made} r m e young) came x out =
      let l = live_from i key slot epoch p r came in
      let same : item_of key epoch p.mark slot.last node.clock made.0 ≡ x = cc in
      subst (λ (y : Item). Processed y) same (record { top = l.top; packet = p; fed_at = l.fed_at })
  row_item i row (late {load = load} {slot = slot} here found is old) came x out = absurd (none_some (asked_mark slot load) x out)
    where
      none_some : (m : Option ℕ) (x : Item) → (late_did m).item ≡ Some x → ⊥
      none_some None x out = cc
      none_some (Some m) x out = cc
  row_item i row a came x out = cc

  pub step_processed : (x : Item) → (switch_step app node.state node.clock input).1.item ≡ Some x → Processed x
  step_processed x out = row_item input (switch_row app s node.clock input) (row_taken app s node.clock input) refl x out

  row_released : IsApplication app → (event : ℕ) (i : Input) (row : SwitchRow) → RowTaken app s node.clock i row → input ≡ i → (x : Output) → (perform s node.clock row).1.released ≡ Some x →
      ((slot : Slot) (key : Key) (epoch : ℕ) (p : Packet) → Ready app s node.clock i key slot epoch p → length slot.cells ≡ app.cell_count) → ReleasedBy app feeds (item_on event (perform s node.clock row).1) (record { event = event; output = x })
  row_released is event i row (row_keyless {p = p} of) came x out counted =
      let fed_at : packet_at feeds p.mark ≡ Some p = subst (λ y. Brought w feeds n y) came brought in
      let h : IsOutputOf p (Some x) = subst (λ m. IsOutputOf p m) out (is.outputs (zeros app.cell_count) p (length-replicate app.cell_count 0)) in
      let found : packet_at feeds x.mark ≡ Some p = ap (λ m. packet_at feeds m) h.0 ∙ fed_at in
      keyless (ap (λ o. option_and_then app.key_of o) found ∙ of) (p, found, out)
  row_released is event i row (direct r m e clean alone) came x out counted = absurd (not_strict s.terms.mode bound m mode)
  row_released is event i row (mirrored r m e room dirty) came x out counted = absurd (not_strict s.terms.mode bound m mode)
  row_released is event i row (acked m here found e) came x out counted = absurd (not_strict s.terms.mode bound m mode)
  row_released is event i row (snapped {key = key} {slot = slot} {epoch = epoch} {p = p} {made = made} r m e young) came x out counted =
      let j : Journaled = record { event = event; item = item_of key epoch p.mark slot.last node.clock made.0; output = made_output made.1 [] } in
      let made_is : (app.plain slot.cells p).1 ≡ Some x = ap (λ y. y.1) e ∙ out in
      let h : IsOutputOf p (Some x) = subst (λ m. IsOutputOf p m) made_is (is.outputs slot.cells p (counted slot key epoch p r)) in
      by_item j (to_append items (j ∷ []) j (inr (inl refl))) (sym h.0) (made_direct event made.1 ∙ out) refl
  row_released is event i row (late {load = load} {slot = slot} here found is_asking old) came x out counted = absurd (none_some (asked_mark slot load) x out)
    where
      none_some : (m : Option ℕ) (x : Output) → (late_did m).released ≡ Some x → ⊥
      none_some None x out = cc
      none_some (Some m) x out = cc
  row_released is event i row a came x out counted = cc

  pub step_released : IsApplication app → (event : ℕ) (x : Output) → ((key : Key) → CellsCounted app.cell_count (slot_at node.state key)) → (switch_step app node.state node.clock input).1.released ≡ Some x →
      ReleasedBy app feeds (item_on event (switch_step app node.state node.clock input).1) (record { event = event; output = x })
  step_released is event x counted out =
      row_released is event input (switch_row app s node.clock input) (row_taken app s node.clock input) refl x out
      (λ slot key epoch p r. ready_counted r (lapsed_switch_counted app node.state node.clock counted))

  -- ---- ages

  module _ (ages : AllAt (λ m (x : SwitchNode). AgesTable items rounds x.clock x.state.slots) w.switches) (event : ℕ) where
    ages_before : AgesTable items rounds node.clock s.slots
    ages_before key slot e found leased =
        let x = was_slot node.state node.clock key slot found in
        subst (λ (y : Slot). AgesAt items rounds node.clock key e y.last y.ages y.round) x.is (ages n node at key x.old e x.found (sym (lapsed_epoch node.clock x.old.lease) ∙ (ap (λ (y : Slot). epoch_of y.lease) x.is ∙ leased)))

    within_round : (key : Key) (e m : ℕ) (q : RoundBegun) → round_at key e m rounds ≡ Some q → q.items_before ≤ length items
    within_round key e m q is = each_in (λ (q : RoundBegun). q.items_before ≤ length items) rounds q hold.within (find_in (is_round key e m) rounds q is)

    ready_ages : (i : Input) (key : Key) (slot : Slot) (epoch : ℕ) (p : Packet) → Ready app s node.clock i key slot epoch p → input ≡ i → AgesAt items rounds node.clock key epoch slot.last slot.ages slot.round
    ready_ages i key slot epoch p (fed of found is) came = ages_before key slot epoch found (ap epoch_of is)
    ready_ages i key slot epoch p (at_grant {from = from} {to = to} {inc = inc} {nonce = nonce} {first = first} {cells = cells} {c = c} {slot = old} t m) came =
        ages_fresh items rounds node.clock key epoch 0 (said from to inc nonce epoch first key cells (Some c) old came t).no_items
    ready_ages i key slot epoch p (at_grant_again {slot = old} here found is m) came = ages_before key old epoch found (ap epoch_of is)

    ready_same : {i : Input} {key : Key} {slot : Slot} {epoch : ℕ} {p : Packet} → Ready app s node.clock i key slot epoch p → (e : ℕ) → epoch_of slot.lease ≡ Some e → epoch ≡ e
    ready_same r e of = let held = ready_held r in cc (ap epoch_of (sym held.1.1) ∙ of)

    abbrev AgesLeft : SwitchDid → Switch → Type 0
    AgesLeft did state = AgesTable (item_on event did) (rounds ++ map (mark_round event) did.begun) node.clock state.slots

    still : (did : SwitchDid) (state : Switch) → did.item ≡ None → did.begun ≡ [] → AgesTable items rounds node.clock state.slots → AgesLeft did state
    still did state none idle table =
        let same_items : items ≡ item_on event did = sym (ap (λ o. items ++ added (λ (x : Item). record { event = event; item = x; output = made_output did.released did.sent }) o) none ∙ append-nil items) in
        let same_rounds : rounds ≡ rounds ++ map (mark_round event) did.begun = sym (ap (λ l. rounds ++ map (mark_round event) l) idle ∙ append-nil rounds) in
        subst (λ l. AgesTable (item_on event did) l node.clock state.slots) same_rounds (subst (λ l. AgesTable l rounds node.clock state.slots) same_items table)

    put_ages : (key : Key) (new : Slot) → ((e : ℕ) → epoch_of new.lease ≡ Some e → AgesAt items rounds node.clock key e new.last new.ages new.round) → AgesTable items rounds node.clock (put s.slots key new)
    put_ages key new own = ages_put items rounds node.clock s.slots key new own (λ k v e ne found of. ages_before k v e found of)

    unleased_ages : (key : Key) (new : Slot) → epoch_of new.lease ≡ None → AgesTable items rounds node.clock (put s.slots key new)
    unleased_ages key new none = put_ages key new (λ e of. let no_epoch : None ≡ Some e = sym none ∙ of in cc)

    -- an item of the slot, clean or not
    item_ages : (key : Key) (epoch : ℕ) (slot : Slot) (j : Journaled) (clean : Bool) → is_in key epoch j ≡ true → j.item.moment ≡ node.clock → j.item.dirty ≡ not clean → AgesAt items rounds node.clock key epoch slot.last slot.ages slot.round →
        AgesAt (items ++ j ∷ []) rounds node.clock key epoch slot.last (if clean then slot.ages else updated node.clock slot.round slot.ages) slot.round
    item_ages key epoch slot j true own moment dirty h = ages_clean items rounds node.clock key epoch slot.last slot.ages slot.round j own dirty (λ m q is. within_round key epoch m q is) h
    item_ages key epoch slot j false own moment dirty h = ages_updated items rounds node.clock key epoch slot.last slot.ages slot.round j own moment (λ m q is. within_round key epoch m q is) h

    row_ages : (i : Input) (row : SwitchRow) → RowTaken app s node.clock i row → input ≡ i → AgesLeft (perform s node.clock row).1 (perform s node.clock row).0
    row_ages i (Keyless out) a came = still (perform s node.clock (Keyless out)).1 s refl refl ages_before
    row_ages i (NoRoom mark) a came = still (perform s node.clock (NoRoom mark)).1 s refl refl ages_before
    row_ages i (NewAsk key slot packet) a came = still (perform s node.clock (NewAsk key slot packet)).1 (perform s node.clock (NewAsk key slot packet)).0 refl refl (unleased_ages key _ refl)
    row_ages i (AskAgain key slot nonce packet) (ask_again of found is young) came =
        still (perform s node.clock (AskAgain key slot nonce packet)).1 (perform s node.clock (AskAgain key slot nonce packet)).0 refl refl (put_ages key (record slot { asked = remember slot.asked packet.mark }) (λ e x. ages_before key slot e found x))
    row_ages i (Drops key slot mark cause) (no_copy_room {epoch = epoch} {p = p} r m full) came = absurd (not_strict s.terms.mode bound m mode)
    row_ages i (Drops key slot mark cause) (too_old {epoch = epoch} {p = p} r m old) came =
        still (perform s node.clock (Drops key slot mark cause)).1 (perform s node.clock (Drops key slot mark cause)).0 refl refl
        (put_ages key slot (λ e of. subst (λ d. AgesAt items rounds node.clock key d slot.last slot.ages slot.round) (ready_same r e of) (ready_ages i key slot epoch p r came)))
    row_ages i row (direct r m e clean alone) came = absurd (not_strict s.terms.mode bound m mode)
    row_ages i row (mirrored r m e room dirty) came = absurd (not_strict s.terms.mode bound m mode)
    row_ages i row (snapped {key = key} {slot = slot} {epoch = epoch} {p = p} {made = made} r m x young) came =
        let j : Journaled = record { event = event; item = item_of key epoch p.mark slot.last node.clock made.0; output = made_output made.1 [] } in
        let own : is_in key epoch j ≡ true = and_from _ _ (same_key-refl key) (eq-eqb epoch epoch refl) in
        subst (λ l. AgesTable (items ++ j ∷ []) l node.clock (perform s node.clock row).0.slots) (sym (append-nil rounds))
        (ages_put (items ++ j ∷ []) rounds node.clock s.slots key _
        (λ e of. subst (λ d. AgesAt (items ++ j ∷ []) rounds node.clock key d slot.last (if is_clean made.0 then slot.ages else updated node.clock slot.round slot.ages) slot.round) (ready_same r e of) (item_ages key epoch slot j (is_clean made.0) own refl refl (ready_ages i key slot epoch p r came)))
        (λ k v e ne found of. ages_other items rounds node.clock k e v.last v.ages v.round j (rw ne refl) (ages_before k v e found of)))
    row_ages i (Granted key slot) (granted_only {from = from} {to = to} {inc = inc} {nonce = nonce} {epoch = epoch} {first = first} {cells = cells} {load = load} {slot = old} t none) came =
        still (perform s node.clock (Granted key slot)).1 (perform s node.clock (Granted key slot)).0 refl refl
        (put_ages key slot (λ e of. let same : epoch ≡ e = cc in subst (λ d. AgesAt items rounds node.clock key d slot.last slot.ages slot.round) same (ages_fresh items rounds node.clock key epoch 0 (said from to inc nonce epoch first key cells load old came t).no_items)))
    row_ages i (Late key slot mark) a came = let q = late_quiet event mark in still (late_did mark) (perform s node.clock (Late key slot mark)).0 q.0 q.1 (unleased_ages key _ refl)
    row_ages i row (acked m here found e) came = absurd (not_strict s.terms.mode bound m mode)
    row_ages i (RoundDone key slot r) (round_done m here found x runs number) came =
        still (perform s node.clock (RoundDone key slot r)).1 (perform s node.clock (RoundDone key slot r)).0 refl refl
        (put_ages key _
        (λ e of.
        ages_done items rounds node.clock key e slot.last slot.ages r
        (subst (λ q. AgesAt items rounds node.clock key e slot.last slot.ages q) runs (ages_before key slot e found (sym (acked_epoch s.terms.t_switch node.clock slot.lease (Some (0, r.begun))) ∙ of)))))
    row_ages i (Denied key slot) a came = still (perform s node.clock (Denied key slot)).1 (perform s node.clock (Denied key slot)).0 refl refl (unleased_ages key _ refl)
    row_ages i (Busied key slot mark) (busied here found is m) came = still (perform s node.clock (Busied key slot mark)).1 (perform s node.clock (Busied key slot mark)).0 refl refl (put_ages key (without_asked slot mark) (λ e x. ages_before key slot e found x))
    row_ages i (Adopts config) a came = still (perform s node.clock (Adopts config)).1 (perform s node.clock (Adopts config)).0 refl refl ages_before
    row_ages i Resends a came =
        let start_ages : AgesTable items (rounds ++ []) node.clock s.slots = subst (λ l. AgesTable items l node.clock s.slots) (sym (append-nil rounds)) ages_before in
        subst (λ l. AgesTable l (rounds ++ map (mark_round event) (walked event).begun) node.clock (walked event).state.slots) (sym (append-nil items))
        (walk_kept node.clock (WalkAges app feeds es items event bound rounds node.clock) (walk_ages app feeds es items event bound rounds node.clock) (walk_order s.walked (map (λ (e : Key × Slot). e.0) s.slots)) Resent (start event, start_ages)).1
    row_ages i Stale a came = still (perform s node.clock Stale).1 s refl refl ages_before

    pub step_ages : AgesLeft (switch_step app node.state node.clock input).1 (switch_step app node.state node.clock input).0
    step_ages = row_ages input (switch_row app s node.clock input) (row_taken app s node.clock input) refl

  -- ---- whose the begun rounds are

  -- a leased slot of a flow's epoch
  pub record LeasedIn (t : Switch) (key : Key) (e : ℕ) : Type 0 where
    pub slot : Slot
    pub found : slot_at t key ≡ Some slot
    pub leased : epoch_of slot.lease ≡ Some e

  number_slot : (t : Switch) (x : Body) (inc e k : ℕ) (key : Key) → SaysNow t x → NumberIn inc e k key x → LeasedIn t key e
  number_slot t (Body.Put i f m q delta load) inc e k key h is = rw (← is.1, ← is.3) (record { slot = h.slot; found = h.found; leased = h.leased })
  number_slot t (Body.Snap i f m q chunk chunks cells) inc e k key h is = rw (← is.1, ← is.3) (record { slot = h.slot; found = h.found; leased = h.leased })
  number_slot t (Body.Ask i m q load) inc e k key h is = absurd is
  number_slot t (Body.Grant i m f q cells load) inc e k key h is = absurd is
  number_slot t (Body.Busy i m q mark) inc e k key h is = absurd is
  number_slot t (Body.Ack i f u q load) inc e k key h is = absurd is
  number_slot t (Body.Deny i f q) inc e k key h is = absurd is
  number_slot t (Body.Forward c i entry load) inc e k key h is = absurd is
  number_slot t (Body.Have i) inc e k key h is = absurd is
  number_slot t (Body.Echo of load) inc e k key h is = absurd is
  number_slot t (Body.Config c) inc e k key h is = absurd is

  late_begins : (mark : Option ℕ) (c : Begun) → In (late_did mark).begun c → ⊥
  late_begins None c i = i
  late_begins (Some m) c i = i

  row_begun : (event : ℕ) (row : SwitchRow) → Each (SentNow (perform s node.clock row).0) (perform s node.clock row).1.sent → (c : Begun) → In (perform s node.clock row).1.begun c → LeasedIn (perform s node.clock row).0 c.key c.epoch
  row_begun event Resends says c i =
      let r : RoundSent app feeds es items event bound rounds (walked event).sent c = (after event).begun c i in
      number_slot (walked event).state r.msg.body r.inc c.epoch c.round c.key (each_in (SentNow (walked event).state) (walked event).sent r.msg says r.there).1 r.number_in
  row_begun event (Late key slot mark) says c i = absurd (late_begins mark c i)
  row_begun event (Keyless out) says c i = absurd i
  row_begun event (NoRoom mark) says c i = absurd i
  row_begun event (NewAsk key slot packet) says c i = absurd i
  row_begun event (AskAgain key slot nonce packet) says c i = absurd i
  row_begun event (Drops key slot mark cause) says c i = absurd i
  row_begun event (Direct key slot epoch mark delta out) says c i = absurd i
  row_begun event (Mirrored key slot epoch mark delta out) says c i = absurd i
  row_begun event (Granted key slot) says c i = absurd i
  row_begun event (Acked key slot upto load) says c i = absurd i
  row_begun event (RoundDone key slot r) says c i = absurd i
  row_begun event (Denied key slot) says c i = absurd i
  row_begun event (Busied key slot mark) says c i = absurd i
  row_begun event (Adopts config) says c i = absurd i
  row_begun event Stale says c i = absurd i

  pub step_begun : (event : ℕ) (c : Begun) → In (switch_step app node.state node.clock input).1.begun c → LeasedIn (switch_step app node.state node.clock input).0 c.key c.epoch
  step_begun event c i = row_begun event (switch_row app s node.clock input) (step_says app node.state node.clock input ((known app w b o).tidy n node at)) c i

  -- what other switches' ages cover, where the step's slots are this switch's in the world after
  module _ (event : ℕ) (ages : AllAt (λ m (x : SwitchNode). AgesTable items rounds x.clock x.state.slots) w.switches)
      (mine : (key : Key) (e : ℕ) → LeasedIn (switch_step app node.state node.clock input).0 key e → OwnGrant es key e n node.state.inc) where
    abbrev did : SwitchDid
    did = (switch_step app node.state node.clock input).1

    never_theirs : (m : ℕ) (x : SwitchNode) (k : Key) (v : Slot) (e : ℕ) → m ≢ n → slice_get w.switches m ≡ Some x → slot_at x.state k ≡ Some v → epoch_of v.lease ≡ Some e → LeasedIn (switch_step app node.state node.clock input).0 k e → ⊥
    never_theirs m x k v e ne there found leased l =
        let g = (known app w b o).leased m x k v e there found leased in
        let own = mine k e l in
        ne (one_grant app.cell_count k None es e m x.state.inc g.nonce n node.state.inc own.nonce (fits k) g.there own.there).switch

    their_rounds : (m : ℕ) (x : SwitchNode) (k : Key) (v : Slot) (e : ℕ) → m ≢ n → slice_get w.switches m ≡ Some x → slot_at x.state k ≡ Some v → epoch_of v.lease ≡ Some e → (i : ℕ) → round_at k e i (rounds ++ map (mark_round event) did.begun) ≡ round_at k e i rounds
    their_rounds m x k v e ne there found leased i = found_same (is_round k e i) rounds (map (mark_round event) did.begun) (λ q j. never q j (is_round k e i q) refl)
      where
        never : (q : RoundBegun) → In (map (mark_round event) did.begun) q → (t : Bool) → is_round k e i q ≡ t → t ≡ false
        never q j false is = refl
        never q j true is =
            let c = in_map (mark_round event) did.begun q j in
            let y = and_parts _ _ is in
            let key_is : c.0.key ≡ k = ap (λ (z : RoundBegun). z.begun.key) c.1.1 ∙ same_key-true q.begun.key k y.0 in
            let epoch_is : c.0.epoch ≡ e = ap (λ (z : RoundBegun). z.begun.epoch) c.1.1 ∙ eqb-true q.begun.epoch e (and_parts _ _ y.1).0 in
            absurd (never_theirs m x k v e ne there found leased (subst (λ z. LeasedIn (switch_step app node.state node.clock input).0 z e) key_is (subst (λ z. LeasedIn (switch_step app node.state node.clock input).0 c.0.key z) epoch_is (step_begun event c.0 c.1.0))))

    their_items : (on : List RoundBegun) (m : ℕ) (x : SwitchNode) (k : Key) (v : Slot) (e : ℕ) → m ≢ n → slice_get w.switches m ≡ Some x → slot_at x.state k ≡ Some v → epoch_of v.lease ≡ Some e → (o : Option Item) → did.item ≡ o → AgesAt items on x.clock k e v.last v.ages v.round →
        AgesAt (items ++ added (λ (y : Item). record { event = event; item = y; output = made_output did.released did.sent }) o) on x.clock k e v.last v.ages v.round
    their_items on m x k v e ne there found leased None is h = subst (λ l. AgesAt l on x.clock k e v.last v.ages v.round) (sym (append-nil items)) h
    their_items on m x k v e ne there found leased (Some y) is h =
        ages_other items on x.clock k e v.last v.ages v.round (record { event = event; item = y; output = made_output did.released did.sent }) (out_case (is_in k e (record { event = event; item = y; output = made_output did.released did.sent })) refl) h
      where
        out_case : (t : Bool) → is_in k e (record { event = event; item = y; output = made_output did.released did.sent }) ≡ t → t ≡ false
        out_case false q = refl
        out_case true q =
            let z = step_item app node.state node.clock input y is in
            let p = and_parts _ _ q in
            let l : LeasedIn (switch_step app node.state node.clock input).0 y.key y.epoch = record { slot = z.slot; found = z.found; leased = z.leased } in
            absurd (never_theirs m x k v e ne there found leased (subst (λ r. LeasedIn (switch_step app node.state node.clock input).0 r e) (same_key-true y.key k p.0) (subst (λ r. LeasedIn (switch_step app node.state node.clock input).0 y.key r) (eqb-true y.epoch e p.1) l)))

    pub all_ages : AllAt (λ m (x : SwitchNode). AgesTable (item_on event did) (rounds ++ map (mark_round event) did.begun) x.clock x.state.slots) (moved (switch_step app node.state node.clock input).0)
    all_ages m x is = node_case (at_set w.switches n m (record node { state = (switch_step app node.state node.clock input).0 }) x is)
      where
        node_case : ((m ≡ n) × (x ≡ record node { state = (switch_step app node.state node.clock input).0 })) ⊎ ((m ≢ n) × (slice_get w.switches m ≡ Some x)) → AgesTable (item_on event did) (rounds ++ map (mark_round event) did.begun) x.clock x.state.slots
        node_case (inl same) = rw same.1 (step_ages ages event)
        node_case (inr there) = λ k v e found leased.
            their_items (rounds ++ map (mark_round event) did.begun) m x k v e there.0 there.1 found leased did.item refl
            (ages_rounds items rounds (rounds ++ map (mark_round event) did.begun) x.clock k e v.last v.ages v.round (their_rounds m x k v e there.0 there.1 found leased) (ages m x there.1 k v e found leased))
