-- An Ask on a straight path: at the Grant its packet is processed, or there is no room for another copy.
use Rattle.std.proofs.Common.{◌≡◌, inl, inr, ℕ, ◌+◌, ◌-◌, ◌≤◌, ◌<◌, List, [], ◌∷◌, ◌++◌, length, Option, Some, None, arith, refl, sym, ap, ◌∙◌, subst, true, false, Bool, slice_get, take, zero, suc, eq-eqb, eqb-true}
use Rattle.std.specs.Prelude.{◌==◌, ◌&&◌, not, nat_le, option_map, unwrap_or, if◌then◌else◌}
use Rattle.std.proofs.lemmas.Bool.{and_parts, and_from, false≢true, leb-true}
use Rattle.std.proofs.lemmas.List.{length-replicate}
use Rattle.rp_base.specs.declared.node.Node.{Node}
use Rattle.rp_base.specs.declared.node.Packet.{Packet}
use Rattle.rp_base.specs.declared.node.Output.{Output}
use Rattle.rp_base.specs.declared.event.DropCause.{DropCause}
use Rattle.proto_data.specs.declared.message.Msg.{Msg}
use Rattle.proto_data.specs.declared.message.Body.{Body}
use Rattle.proto_data.specs.declared.message.Entry.{Entry}
use Rattle.proto_data.specs.declared.message.Input.{Input}
use Rattle.proto_data.specs.declared.message.Record.{Record}
use Rattle.proto_data.specs.declared.message.Carried.{Carried}
use Rattle.proto_data.specs.declared.terms.Mode.{Mode}
use Rattle.rp_app.specs.Application.{Application, Delta, written}
use Rattle.proto_data.specs.Carrying.{carried_packet, packet_of}
use Rattle.proto_model.specs.Effects.{added, made_output, frame_passed, switch_lines}
use Rattle.proto_model.specs.Feeds.{Each}
use Rattle.proto_model.specs.Lines.{Dropped}
use Rattle.proto_model.specs.ReplicaRows.{Appends, store_row, owner_answer, with_entry}
use Rattle.proto_model.specs.ReplicaState.{Replica, record_at}
use Rattle.proto_model.specs.Ring.{remembers}
use Rattle.proto_model.specs.Runs.{Run, before, act_at, lines_at}
use Rattle.proto_model.specs.Slot.{Slot, Lease, Idle, Asking, Held, Lapsed, is_young, lapsed_slot}
use Rattle.proto_model.specs.Stands.{entries_of}
use Rattle.proto_model.specs.Straight.{Hop, StraightAsk, AskAnswered, AsksAnswered, is_calm, reached, row_of, awaits, awaits_at, awaits_lease}
use Rattle.proto_model.specs.SwitchRow.{Drops, Direct, Mirrored, is_clean, message_row, process_row, granted, without_asked, switch_row}
use Rattle.proto_model.specs.SwitchOutcomes.{perform}
use Rattle.proto_model.specs.SwitchRows.{switch_step}
use Rattle.proto_model.specs.SwitchState.{Switch, Item, slot_at, lapsed, has_copies, only_dropped}
use Rattle.key_table.specs.Table.{Key, same_key}
use Rattle.proto_model.specs.World.{World, SwitchNode, ReplicaNode, Journaled, opened}
use Rattle.proto_model.specs.WorldStep.{Act, Delivers, next_event, perform_act, node_takes, switch_takes, world_step}
use Rattle.proto_safety.specs.Books.{In}
use Rattle.proto_safety.specs.Flows.{FlowRecord, flow_from, flow_step, flow_cells}
use Rattle.proto_safety.specs.Origins.{Origin}
use Rattle.proto_safety.specs.SwitchSent.{SaysNow}
use Rattle.proto_safety.proofs.Serial.CellsGround.{Based, based_kept}
use Rattle.proto_safety.proofs.Serial.CellsStep.{no_snap}
use Rattle.proto_safety.proofs.Leasing.CopyRoom.{few_copies}
use Rattle.rp_app.proofs.Deltas.{length-written}
use Rattle.proto_safety.proofs.Inductions.FlowInduction.{step_same}
use Rattle.proto_safety.proofs.Inductions.Induction.{run_kept}
use Rattle.proto_safety.proofs.Legality.LegalRun.{opened_laid}
use Rattle.proto_safety.proofs.Leasing.NoSnaps.{NoSnap}
use Rattle.proto_safety.proofs.Inductions.RunSteps.{event_at, event_number, ended, at_between, CameTo, rests, steps, came_to}
use Rattle.proto_safety.proofs.Paths.StraightHops.{Answered, appending, reaches_tail, next_hop}
use Rattle.proto_safety.proofs.Paths.StraightStart.{requested}
use Rattle.proto_safety.proofs.Paths.StraightTail.{record_says, node_there, entries_are, hop_delivered, answer_taken, strict_there}
use Rattle.proto_safety.proofs.Paths.StraightWaits.{hops_later}
use Rattle.proto_safety.proofs.Nodes.SwitchSends.{IsRequest}
use Rattle.key_table.proofs.Tables.{get-map_values}
use Rattle.proto_safety.proofs.Messages.WorldOrigins.{NodeOrigins}
use Rattle.proto_safety.proofs.Basics.Eachs.{each_at}
use Rattle.proto_safety.proofs.Basics.Members.{in_among, to_append}

-- ---- how many cells a flow has

abbrev NotSnap : Entry → Type 0
NotSnap (Entry.Snap key epoch round values) = ⊥
NotSnap _ = Unit {0}

step_counted : (n : ℕ) (key : Key) (o : Option FlowRecord) (x : Entry) → NotSnap x → length (flow_cells n o) ≡ n → length (flow_cells n (flow_step n key o x)) ≡ n
step_counted n key o (Entry.Grant k epoch switch inc nonce) snapless h = key_case (same_key k key)
  where
    key_case : (b : Bool) → length (flow_cells n (if b then Some (record { epoch = epoch; switch = switch; inc = inc; nonce = nonce; last = 0; cells = flow_cells n o }) else o)) ≡ n
    key_case true = h
    key_case false = h
step_counted n key o (Entry.Put k epoch number delta) snapless h = key_case (same_key k key)
  where
    put_case : (o : Option FlowRecord) → length (flow_cells n o) ≡ n → length (flow_cells n (option_map (λ (f : FlowRecord). record f { last = number; cells = written f.cells delta }) o)) ≡ n
    put_case None h = h
    put_case (Some f) h = length-written f.cells delta ∙ h

    key_case : (b : Bool) → length (flow_cells n (if b then option_map (λ (f : FlowRecord). record f { last = number; cells = written f.cells delta }) o else o)) ≡ n
    key_case true = put_case o h
    key_case false = h
step_counted n key o (Entry.Snap k epoch round values) snapless h = absurd snapless

flow_counted : (n : ℕ) (key : Key) (o : Option FlowRecord) (es : List Entry) → ((x : Entry) → In es x → NotSnap x) → length (flow_cells n o) ≡ n → length (flow_cells n (flow_from n key o es)) ≡ n
flow_counted n key o [] snapless h = h
flow_counted n key o (x ∷ xs) snapless h = flow_counted n key (flow_step n key o x) xs (λ y i. snapless y (inr i)) (step_counted n key o x (snapless x (inl refl)) h)

not_snap : (frames : List Msg) → Each (λ (m : Msg). NoSnap m.body) frames → (x : Entry) → Origin frames x → NotSnap x
not_snap frames none (Entry.Grant key epoch switch inc nonce) o = tt
not_snap frames none (Entry.Put key epoch number delta) o = tt
not_snap frames none (Entry.Snap key epoch round values) o = absurd (no_snap frames key epoch round values none o)

-- ---- a Grant that meets the slot

-- the packet is processed, or there is no room for another copy
data GrantDid (app : Application) (s : Switch) (now : ℕ) (m : Msg) (key : Key) (epoch mark : ℕ) : Type 0 where
  processes : (i : Item) → (switch_step app s now (Input.Msg m)).1.item ≡ Some i → i.key ≡ key → i.epoch ≡ epoch → i.mark ≡ mark → GrantDid app s now m key epoch mark
  drops : 1024 ≤ length s.copies → (switch_step app s now (Input.Msg m)).1 ≡ only_dropped mark DropCause.Mirror → GrantDid app s now m key epoch mark

process_did : (app : Application) (s : Switch) (now : ℕ) (m : Msg) (key : Key) (epoch mark : ℕ) (slot : Slot) (made : Delta × Option Output) → switch_row app (lapsed now s) now (Input.Msg m) ≡ process_row Mode.Strict (lapsed now s) now key slot epoch mark made →
    GrantDid app s now m key epoch mark
process_did app s now m key epoch mark slot made row = room_case (nat_le 1024 (length s.copies)) refl row
  where
    clean_case : (b : Bool) → switch_row app (lapsed now s) now (Input.Msg m) ≡ (if b then Direct key slot epoch mark made.0 made.1 else Mirrored key slot epoch mark made.0 made.1) → GrantDid app s now m key epoch mark
    clean_case true is = processes _ (ap (λ x. (perform (lapsed now s) now x).1.item) is) refl refl refl
    clean_case false is = processes _ (ap (λ x. (perform (lapsed now s) now x).1.item) is) refl refl refl

    room_case : (b : Bool) → nat_le 1024 (length s.copies) ≡ b →
        switch_row app (lapsed now s) now (Input.Msg m)
        ≡ (if b then Drops key slot mark DropCause.Mirror else (if is_clean made.0 && not (has_copies (lapsed now s) key) then Direct key slot epoch mark made.0 made.1 else Mirrored key slot epoch mark made.0 made.1)) → GrantDid app s now m key epoch mark
    room_case true full is = drops (leb-true 1024 (length s.copies) full) (ap (λ x. (perform (lapsed now s) now x).1) is)
    room_case false room is = clean_case (is_clean made.0 && not (has_copies (lapsed now s) key)) is

grant_did : (app : Application) (s : Switch) (now : ℕ) (m : Msg) (inc nonce epoch first : ℕ) (key : Key) (cells : List ℕ) (c : Carried) (slot : Slot) → s.terms.mode ≡ Mode.Strict → m.body ≡ Body.Grant inc nonce epoch key cells (Some c) → inc ≡ s.inc → length cells ≡ app.cell_count →
    slot_at s key ≡ Some slot → slot.lease ≡ Asking nonce first → is_young s.terms.t_switch first now ≡ true → remembers slot.asked c.mark ≡ true → GrantDid app s now m key epoch c.mark
grant_did app s now m inc nonce epoch first key cells c slot strict body here whole found asking young there =
    let at : slot_at (lapsed now s) key ≡ Some (lapsed_slot now slot) = get-map_values (lapsed_slot now) s.slots key ∙ ap (option_map (lapsed_slot now)) found in
    let test : ((inc == s.inc) && (length cells == app.cell_count)) ≡ true = and_from _ _ (eq-eqb inc s.inc here) (eq-eqb (length cells) app.cell_count whole) in
    let new : Slot = without_asked (granted (lapsed_slot now slot) nonce epoch (first + s.terms.t_switch) cells) c.mark in
    process_did app s now m key epoch c.mark new (app.plain new.cells (packet_of c))
    (ap (λ (b : Body). message_row app (lapsed now s) now b) body ∙ rw (test, at, asking, eq-eqb nonce nonce refl, young, there, strict) refl)

-- ---- what the switch awaits

record AwaitsAt (node : SwitchNode) (key : Key) (nonce mark : ℕ) : Type 0 where
  slot : Slot
  found : slot_at node.state key ≡ Some slot
  first : ℕ
  asking : slot.lease ≡ Asking nonce first
  young : is_young node.state.terms.t_switch first node.clock ≡ true
  there : remembers slot.asked mark ≡ true

awaits_there : (node : SwitchNode) (key : Key) (nonce mark : ℕ) → awaits_at (Some node) key nonce mark ≡ true → AwaitsAt node key nonce mark
awaits_there node key nonce mark h = slot_case (slot_at node.state key) refl h
  where
    lease_case : (slot : Slot) → slot_at node.state key ≡ Some slot → (l : Lease) → slot.lease ≡ l → awaits_lease node.state.terms.t_switch node.clock nonce l ≡ true → remembers slot.asked mark ≡ true → AwaitsAt node key nonce mark
    lease_case slot at (Asking own first) is young there =
        let p = and_parts (own == nonce) (is_young node.state.terms.t_switch first node.clock) young in
        record { slot = slot; found = at; first = first; asking = is ∙ ap (λ k. Asking k first) (eqb-true own nonce p.0); young = p.1; there = there }
    lease_case slot at Idle is young there = absurd (false≢true young)
    lease_case slot at (Held own epoch expiry) is young there = absurd (false≢true young)
    lease_case slot at (Lapsed own epoch expiry) is young there = absurd (false≢true young)

    slot_case : (o : Option Slot) → slot_at node.state key ≡ o → awaits node nonce mark o ≡ true → AwaitsAt node key nonce mark
    slot_case None at h = absurd (false≢true h)
    slot_case (Some slot) at h =
        let p = and_parts (awaits_lease node.state.terms.t_switch node.clock nonce slot.lease) (remembers slot.asked mark) h in lease_case slot at slot.lease refl p.0 p.1

-- ---- the incarnation

-- switch s stands there with this incarnation
record Stays (w : World) (s inc : ℕ) : Type 0 where
  node : SwitchNode
  at : slice_get w.switches s ≡ Some node
  inc_is : node.state.inc ≡ inc

stays_on : (app : Application) (w x : World) (s inc : ℕ) (h : Stays w s inc) → CameTo app w x s h.node → Stays x s inc
stays_on app w x s inc h (rests other at same on) = record { node = other; at = at; inc_is = ap (λ t. t.inc) same ∙ h.inc_is }
stays_on app w x s inc h (steps input at frames released) = record { node = _; at = at; inc_is = (step_same app h.node.state h.node.clock input).inc ∙ h.inc_is }

-- the Grant that the tail sends
grant_of : (t : Replica) (epoch s inc nonce : ℕ) (key : Key) (c : Carried) (m : Msg) (o : Option Record) → record_at t key ≡ o → In (owner_answer t (Entry.Grant key epoch s inc nonce) (Some c) o) m →
    (rec : Record) × ((record_at t key ≡ Some rec) × (m.body ≡ Body.Grant inc nonce epoch key rec.cells (Some c)))
grant_of t epoch s inc nonce key c m None at i = absurd i
grant_of t epoch s inc nonce key c m (Some rec) at (inl e) = (rec, (at, ap (λ (x : Msg). x.body) (sym e)))
grant_of t epoch s inc nonce key c m (Some rec) at (inr i) = absurd i

-- ---- the path

module _ (r : Run) (place s : ℕ) (key : Key) (inc nonce epoch : ℕ) (packet : Packet) (first : Hop) (forwards : List Hop) (last : Hop) (p : StraightAsk r place s key inc nonce epoch packet first forwards last) where
  abbrev c : Carried
  c = carried_packet packet

  abbrev entry : Entry
  entry = Entry.Grant key epoch s inc nonce

  abbrev end : World
  end = before r last.place

  later : place < last.place
  later = hops_later r c place (first ∷ forwards) last p.goes.hops

  head_there : (o : Option ReplicaNode) → row_of o first.msg ≡ Some (Appends entry (Some c)) → (node : ReplicaNode) × ((o ≡ Some node) × (store_row node.state node.clock (Input.Msg first.msg) ≡ Appends entry (Some c)))
  head_there None h = cc
  head_there (Some node) h = (node, (refl, cc))

  answered : Answered r c entry last
  answered =
      let head = head_there (reached r first) p.grants in
      let next = next_hop r c first.place forwards last p.goes.hops.1 in
      reaches_tail r c entry s first forwards last p.goes.hops.1 (appending r c first next.0 head.0 entry p.goes.hops.0.delivered head.1.0 next.1 (inl head.1.1)) p.goes.answered_to p.goes.in_order

  begins : Stays (before r (place + 1)) s inc
  begins =
      let q = requested r c place s first p.goes.hops.0 p.goes.asked_by (subst (λ (b : Body). IsRequest b) (sym p.ask) tt) in
      let says : SaysNow (switch_step r.app q.node.state q.node.clock q.input).0 (Body.Ask inc nonce key (Some c)) = subst (λ (b : Body). SaysNow (switch_step r.app q.node.state q.node.clock q.input).0 b) p.ask q.says.1 in
      record { node = record q.node { state = (switch_step r.app q.node.state q.node.clock q.input).0 }; at = q.switch_is; inc_is = sym says.here }

  goes_on : (i : ℕ) → place < i → i < last.place → Stays (before r i) s inc → Stays (before r (i + 1)) s inc
  goes_on i lo hi h = act_case (act_at r i) refl
    where
      act_case : (o : Option Act) → act_at r i ≡ o → Stays (before r (i + 1)) s inc
      act_case None is = subst (λ w. Stays w s inc) (sym (ended r i is)) h
      act_case (Some act) is =
          let e = event_at r i act is in
          let calm : is_calm (Some act) ≡ true = subst (λ o. is_calm o ≡ true) is (at_between (λ j. is_calm (act_at r j) ≡ true) place last.place i p.goes.calm lo hi) in
          stays_on r.app (before r i) (before r (i + 1)) s inc h (subst (λ x. CameTo r.app (before r i) x s h.node) (sym e.then) (came_to r.app (before r i) s h.node h.at act calm))

  along : (d : ℕ) → place + 1 + d ≤ last.place → Stays (before r (place + 1 + d)) s inc
  along zero le = let same : place + 1 ≡ place + 1 + 0 = omega arith in subst (λ i. Stays (before r i) s inc) same begins
  along (suc d) le =
      let same : place + 1 + d + 1 ≡ place + 1 + suc d = omega arith in
      subst (λ i. Stays (before r i) s inc) same (goes_on (place + 1 + d) (omega arith) (omega (arith, le)) (along d (omega (arith, le))))

  there : Stays end s inc
  there = let same : place + 1 + (last.place - (place + 1)) ≡ last.place = omega (arith, later) in subst (λ i. Stays (before r i) s inc) same (along (last.place - (place + 1)) (omega (arith, later)))

  awaiting : AwaitsAt there.node key nonce packet.mark
  awaiting = awaits_there there.node key nonce packet.mark (ap (λ o. awaits_at o key nonce packet.mark) (sym there.at) ∙ p.meets)

  grant : (rec : Record) × ((record_at (with_entry answered.here.node.state entry answered.here.node.clock) key ≡ Some rec) × (last.msg.body ≡ Body.Grant inc nonce epoch key rec.cells (Some c)))
  grant = grant_of (with_entry answered.here.node.state entry answered.here.node.clock) epoch s inc nonce key c last.msg _ refl answered.there

  -- a strict run has no Snap in its books
  snapless : (x : Entry) → In (entries_of answered.here.node.book ++ entry ∷ []) x → NotSnap x
  snapless x i =
      let b : Based r.app (before r (answered.hop.place + 1)) = run_kept r.app (Based r.app) (based_kept r.app) (take (answered.hop.place + 1) r.events) (opened r.app.cell_count r.setup) (opened_laid r.app r.setup p.goes.strict).0 in
      not_snap (before r (answered.hop.place + 1)).frames b.1.1.1 x
      (each_at (NodeOrigins (before r (answered.hop.place + 1)).frames) (before r (answered.hop.place + 1)).replicas answered.here.n _ b.0.0.0.1.1.books (node_there r c entry last answered) x (subst (λ l. In l x) (sym (entries_are r c entry last answered)) i))

  whole : length grant.0.cells ≡ r.app.cell_count
  whole =
      let flow = record_says r c entry last answered key grant.0 grant.1.0 in
      ap (λ o. length (flow_cells r.app.cell_count o)) (sym flow) ∙ flow_counted r.app.cell_count key None (entries_of answered.here.node.book ++ entry ∷ []) snapless (length-replicate r.app.cell_count 0)

  did : GrantDid r.app there.node.state there.node.clock last.msg key epoch packet.mark
  did =
      grant_did r.app there.node.state there.node.clock last.msg inc nonce epoch awaiting.first key grant.0.cells c awaiting.slot (strict_there r last.place s there.node p.goes.strict there.at) grant.1.1 (sym there.inc_is) whole awaiting.found awaiting.asking awaiting.young awaiting.there

  delivered : act_at r last.place ≡ Some (Delivers last.frame last.msg)
  delivered = hop_delivered r c place (first ∷ forwards) last p.goes.hops

  number_is : end.event + 1 ≡ last.place + 1
  number_is = let e = event_at r last.place (Delivers last.frame last.msg) delivered in ap (λ k. k + 1) (event_number r last.place e.event e.at)

  lines_are : lines_at r last.place ≡ switch_lines (end.event + 1) (length end.frames) (switch_step r.app there.node.state there.node.clock (Input.Msg last.msg)).1
  lines_are =
      let e = event_at r last.place (Delivers last.frame last.msg) delivered in
      ap (λ o. unwrap_or (option_map (λ x. (world_step r.app end x).1) o) []) e.at
      ∙ (ap (λ a. (perform_act r.app (next_event end) a).1) e.act_is
      ∙ (ap (λ (k : Node). (node_takes r.app (frame_passed (next_event end) last.frame) k (Input.Msg last.msg)).1) p.goes.answered_to ∙ ap (λ o. (switch_takes r.app (frame_passed (next_event end) last.frame) s (Input.Msg last.msg) o).1) there.at))

  did_case : GrantDid r.app there.node.state there.node.clock last.msg key epoch packet.mark → AskAnswered r s key epoch packet last
  did_case (processes i is of present mark) =
      let made : Option Output = made_output (switch_step r.app there.node.state there.node.clock (Input.Msg last.msg)).1.released (switch_step r.app there.node.state there.node.clock (Input.Msg last.msg)).1.sent in
      let j : Journaled = record { event = end.event + 1; item = i; output = made } in
      let list : (before r (last.place + 1)).history.items ≡ end.history.items ++ j ∷ [] =
      ap (λ (w : World). w.history.items) (answer_taken r s last there.node delivered p.goes.answered_to there.at) ∙ ap (λ o. end.history.items ++ added (λ (x : Item). record { event = end.event + 1; item = x; output = made }) o) is in
      inl (j, in_among (before r (last.place + 1)).history.items j (subst (λ l. In l j) (sym list) (to_append end.history.items (j ∷ []) j (inr (inl refl)))), number_is, of, present, mark)
  did_case (drops full is) =
      let few : length there.node.state.copies ≤ 1024 = few_copies r.app r.setup (take last.place r.events) s there.node there.at in
      let list : lines_at r last.place ≡ switch_lines (last.place + 1) (length end.frames) (only_dropped packet.mark DropCause.Mirror) =
      lines_are ∙ (ap (λ d. switch_lines (end.event + 1) (length end.frames) d) is ∙ ap (λ k. switch_lines k (length end.frames) (only_dropped packet.mark DropCause.Mirror)) number_is) in
      inr (
        (there.node, there.at, omega (arith, full, few)),
        in_among (lines_at r last.place) (Dropped (last.place + 1) packet.mark DropCause.Mirror) (subst (λ l. In l (Dropped (last.place + 1) packet.mark DropCause.Mirror)) (sym list) (inl refl)),
      )

  pub ask_answered : AskAnswered r s key epoch packet last
  ask_answered = did_case did

pub asks_answered : (r : Run) → AsksAnswered r
asks_answered r place s key inc nonce epoch packet first forwards last p = ask_answered r place s key inc nonce epoch packet first forwards last p
