-- In snapshot mode each change of the world keeps the cells of slots, rounds, chunks and items.
use Rattle.std.proofs.Common.{◌≡◌, ◌⊎◌, inl, inr, ℕ, ◌+◌, List, [], ◌∷◌, ◌++◌, map, length, drop, Some, None, arith, refl, sym, ◌∙◌, ap, subst, true, append-nil, slice_get, filter}
use Rattle.std.specs.Prelude.{take, zero, suc, not}
use Rattle.proto_model.specs.SwitchRow.{is_clean}
use Rattle.rp_base.specs.declared.node.Node.{Node}
use Rattle.rp_base.specs.declared.node.Packet.{Packet}
use Rattle.proto_data.specs.declared.message.Msg.{Msg}
use Rattle.proto_data.specs.declared.message.Body.{Body}
use Rattle.proto_data.specs.declared.message.Entry.{Entry}
use Rattle.proto_data.specs.declared.message.Input.{Input}
use Rattle.proto_data.specs.declared.message.Carried.{Carried}
use Rattle.proto_data.specs.declared.terms.Mode.{Mode}
use Rattle.rp_app.specs.Application.{Application}
use Rattle.key_table.specs.Table.{Key}
use Rattle.proto_model.specs.Slot.{Slot, epoch_of}
use Rattle.proto_model.specs.SwitchState.{slot_at}
use Rattle.proto_model.specs.SwitchRows.{switch_step}
use Rattle.proto_model.specs.ReplicaState.{Replica}
use Rattle.proto_model.specs.ReplicaRows.{store_step}
use Rattle.proto_model.specs.Feeds.{Each}
use Rattle.proto_model.specs.Committed.{is_in}
use Rattle.proto_model.specs.Effects.{switch_moved, replica_moved}
use Rattle.proto_model.specs.Stands.{entries_of}
use Rattle.proto_model.specs.World.{World, SwitchNode, Journaled, RoundBegun, running_switches, running_replicas}
use Rattle.rp_base.specs.declared.legality.Fed.{Fed}
use Rattle.proto_model.specs.WorldStep.{advanced, advanced_replicas, stopped, announcements, config_msg}
use Rattle.proto_safety.specs.Books.{In, IsPrefix, committed_of}
use Rattle.proto_safety.specs.Flows.{FitsFrom}
use Rattle.proto_safety.specs.Loads.{OnPacket, WasFed}
use Rattle.proto_safety.specs.LossLaws.{kept_front, cells_over}
use Rattle.proto_safety.proofs.Store.BooksStep.{moved_committed, step_sent}
use Rattle.proto_safety.proofs.Serial.CellFacts.{GrantedTo}
use Rattle.proto_safety.proofs.Serial.CellsFed.{SameFound, ran_same}
use Rattle.proto_safety.proofs.Serial.CellsGround.{OverLate, granted_to, known, items_known}
use Rattle.proto_safety.proofs.Serial.CellsGrow.{flow_later}
use Rattle.proto_safety.proofs.Serial.CellsStep.{Brought}
use Rattle.proto_safety.proofs.Packets.FedMarks.{FedOnce}
use Rattle.proto_safety.proofs.Leasing.FirstsKept.{Settled}
use Rattle.proto_safety.proofs.Serial.FlowSerial.{MadeIn}
use Rattle.proto_safety.proofs.Messages.FramesCarry.{FramesCarry, found_still, found_new}
use Rattle.proto_safety.proofs.Snapshots.KeptFronts.{front_entries, front_in_items}
use Rattle.proto_safety.proofs.Store.LastBook.{advanced_last}
use Rattle.proto_safety.proofs.Leasing.NoCopies.{AllCopyless, no_copies_at}
use Rattle.proto_safety.proofs.Snapshots.SnapRounds.{SnapHold}
use Rattle.proto_safety.proofs.Snapshots.SnapSlots.{Onto, SnapTable, SnapSays, stands_onto, chunk_onto}
use Rattle.proto_safety.proofs.Snapshots.SnapStep.{step_hold}
use Rattle.proto_safety.proofs.Store.StoreBooks.{SentBooks}
use Rattle.proto_model.proofs.StoreStands.{book_after}
use Rattle.proto_safety.proofs.Nodes.SwitchNodes.{AllAt, all_changed, all_advanced}
use Rattle.proto_safety.proofs.Nodes.SwitchTable.{msg, no_message}
use Rattle.key_table.proofs.Tables.{same_key-refl, same_key-true}
use Rattle.proto_safety.proofs.Store.WorldBooks.{known_input, stopped_grows}
use Rattle.proto_safety.proofs.Inductions.Induction.{Keeps, KeepsGiven, Comes, with_fed}
use Rattle.std.proofs.lemmas.Bool.{and_parts, and_from}
use Rattle.std.proofs.Common.{eqb-true, eq-eqb}
use Rattle.proto_safety.proofs.Basics.Eachs.{each_append, each_at, each_map, each_weaker}
use Rattle.proto_safety.proofs.Basics.Members.{in_append, in_filter, in_front, somewhere, to_append, to_filter}

-- what is known of a snapshot run's world
pub record SnapFacts (app : Application) (bound : ℕ) (w : World) : Type 0 where
  pub settled : Settled app.cell_count w
  pub ends : OverLate w
  pub copyless : AllCopyless app w
  pub modes : AllAt (λ n (node : SwitchNode). node.state.terms.mode ≡ Mode.Snapshot bound) w.switches
  pub once : FedOnce w
  pub carried : FramesCarry app w

-- the cells of a world
abbrev pub Snaps : Application → World → Type 0
Snaps app w = SnapHold app w.history.fed (committed_of w.replicas) w.history.items w.history.rounds w.frames w.switches

module _ (app : Application) (bound : ℕ) (w : World) (f : SnapFacts app bound w) where
  abbrev es : List Entry
  es = committed_of w.replicas

  abbrev items : List Journaled
  items = w.history.items

  abbrev rounds : List RoundBegun
  rounds = w.history.rounds

  fits : (key : Key) → FitsFrom app.cell_count key None es
  fits = (known app w f.settled f.ends).committed_fits

  item_granted : (key : Key) (e : ℕ) (x : Journaled) → In (filter (is_in key e) items) x → GrantedTo app.cell_count es key e
  item_granted key e x i =
      let k = in_filter (is_in key e) items x i in
      let q = and_parts _ _ k.1 in
      let g = (items_known app w f.settled f.ends key).granted x k.0 (same_key-true x.item.key key q.0) in
      record { flow = g.0; flow_is = g.1.0; reached = omega (arith, g.1.1, eqb-true x.item.epoch e q.1) }

  slot_granted : (n : ℕ) (node : SwitchNode) (key : Key) (slot : Slot) (e : ℕ) → slice_get w.switches n ≡ Some node → slot_at node.state key ≡ Some slot → epoch_of slot.lease ≡ Some e → GrantedTo app.cell_count es key e
  slot_granted n node key slot e at found leased = let g = (known app w f.settled f.ends).leased n node key slot e at found leased in granted_to app.cell_count key es e n node.state.inc g.nonce (fits key) g.there

  -- ---- a packet is fed

  module _ (p : Packet) (h : Snaps app w) where
    abbrev feeds : List Fed
    feeds = w.history.fed ++ record { event = w.event + 1; packet = p } ∷ []

    found : SameFound w.history.fed feeds items
    found j i =
        let there : In (filter (is_in j.item.key j.item.epoch) items) j = to_filter (is_in j.item.key j.item.epoch) items j i (and_from _ _ (same_key-refl j.item.key) (eq-eqb j.item.epoch j.item.epoch refl)) in
        let x = somewhere (filter (is_in j.item.key j.item.epoch) items) j there in
        let m = (h.made j.item.key j.item.epoch).at x.before j x.behind x.is in
        found_still w.history.fed (record { event = w.event + 1; packet = p }) j.item.mark m.packet m.fed_at ∙ sym m.fed_at

    same_cells : (js : List Journaled) → ((j : Journaled) → In js j → In items j) → cells_over app feeds js ≡ cells_over app w.history.fed js
    same_cells js sub = ran_same app w.history.fed feeds js (λ j i. found j (sub j i))

    in_taken : (k : ℕ) (xs : List Journaled) (j : Journaled) → In (take k xs) j → In xs j
    in_taken k [] j i = absurd (nil_case k i)
      where
        nil_case : (k : ℕ) → In (take k []) j → ⊥
        nil_case zero i = i
        nil_case (suc k) i = i
    in_taken zero (x ∷ xs) j i = absurd i
    in_taken (suc k) (x ∷ xs) j (inl e) = inl e
    in_taken (suc k) (x ∷ xs) j (inr i) = inr (in_taken k xs j i)

    front_part : (key : Key) (e : ℕ) (xs : List Journaled) → ((j : Journaled) → In xs j → In items j) → cells_over app feeds (kept_front key es items rounds e ++ xs) ≡ cells_over app w.history.fed (kept_front key es items rounds e ++ xs)
    front_part key e xs sub = same_cells (kept_front key es items rounds e ++ xs) (λ j i. part_case j (in_append (kept_front key es items rounds e) xs j i))
      where
        part_case : (j : Journaled) → In (kept_front key es items rounds e) j ⊎ In xs j → In items j
        part_case j (inl i) = front_in_items key es items rounds e j i
        part_case j (inr i) = sub j i

    fed_onto : (key : Key) (e : ℕ) → Onto app w.history.fed feeds es es items items rounds rounds key e
    fed_onto key e =
        record {
          found = λ number b is. is;
          longer = omega arith;
          same = λ b le. front_part key e (filter (is_in key e) (take b.items_before items)) (λ j i. in_taken b.items_before items j (in_filter (is_in key e) (take b.items_before items) j i).0);
        }

    fed_says : (x : Body) → SnapSays app w.history.fed es items rounds x → SnapSays app feeds es items rounds x
    fed_says (Body.Snap inc e k q chunk chunks part) s = (chunk_onto app w.history.fed feeds es es items items rounds rounds q e (fed_onto q e) k chunk chunks part s.0, s.1)
    fed_says (Body.Put inc e k q delta load) s = absurd s
    fed_says (Body.Ask inc nonce q load) s = tt
    fed_says (Body.Grant inc nonce e q values load) s = tt
    fed_says (Body.Busy inc nonce q mark) s = tt
    fed_says (Body.Ack inc e upto q load) s = tt
    fed_says (Body.Deny inc e q) s = tt
    fed_says (Body.Forward c x entry load) s = tt
    fed_says (Body.Have x) s = tt
    fed_says (Body.Echo of load) s = tt
    fed_says (Body.Config c) s = tt

    made_fed : (key : Key) (pre : List Journaled) (j : Journaled) (e : ℕ) → ((x : Journaled) → In pre x → In items x) → MadeIn app w.history.fed key (kept_front key es items rounds e ++ pre) j → MadeIn app feeds key (kept_front key es items rounds e ++ pre) j
    made_fed key pre j e sub m =
        let same = front_part key e pre sub in
        record {
          packet = m.packet;
          fed_at = found_still w.history.fed (record { event = w.event + 1; packet = p }) j.item.mark m.packet m.fed_at;
          key_is = m.key_is;
          output_is = m.output_is ∙ ap (λ l. (app.plain l m.packet).1) (sym same);
          dirty_is = m.dirty_is ∙ ap (λ l. not (is_clean (app.plain l m.packet).0)) (sym same);
        }

    pub fed_hold : SnapHold app feeds es items rounds w.frames w.switches
    fed_hold =
        record {
          slots = λ n node at key slot e at_slot leased.
              stands_onto app w.history.fed feeds es es items items rounds rounds key e (fed_onto key e) slot (front_part key e (filter (is_in key e) items) (λ j i. (in_filter (is_in key e) items j i).0)) (h.slots n node at key slot e at_slot leased);
          says = each_weaker (λ (m : Msg). SnapSays app w.history.fed es items rounds m.body) (λ (m : Msg). SnapSays app feeds es items rounds m.body) w.frames (λ m s. fed_says m.body s) h.says;
          made = λ key e.
              record {
                at = λ pre j post is.
                    made_fed key pre j e (λ x i. (in_filter (is_in key e) items x (subst (λ l. In l x) (sym is) (to_append pre (j ∷ post) x (inl i)))).0) ((h.made key e).at pre j post is);
              };
          turns = h.turns;
          within = h.within;
          begun = h.begun;
        }

  -- ---- the committed book goes on

  module _ (h : Snaps app w) (later : List Entry) (ms : List Msg) (prefix : IsPrefix es later) (later_fits : (key : Key) → FitsFrom app.cell_count key None later)
      (quiet : Each (λ (m : Msg). (on : List Entry) → SnapSays app w.history.fed on items rounds m.body) ms) where
    front_later : (key : Key) (e : ℕ) → GrantedTo app.cell_count es key e → kept_front key later items rounds e ≡ kept_front key es items rounds e
    front_later key e g =
        ap (λ l. kept_front key l items rounds e) (sym prefix.is)
        ∙ front_entries key app.cell_count es prefix.rest items rounds g.flow e (subst (λ l. FitsFrom app.cell_count key None l) (sym prefix.is) (later_fits key)) g.flow_is g.reached

    granted_later : (key : Key) (e : ℕ) → GrantedTo app.cell_count es key e → GrantedTo app.cell_count later key e
    granted_later key e g =
        let x = flow_later app.cell_count key es prefix.rest g.flow (subst (λ l. FitsFrom app.cell_count key None l) (sym prefix.is) (later_fits key)) g.flow_is in
        subst (λ l. GrantedTo app.cell_count l key e) prefix.is (record { flow = x.0; flow_is = x.1.0; reached = omega (arith, g.reached, x.1.1) })

    later_onto : (key : Key) (e : ℕ) → GrantedTo app.cell_count es key e → Onto app w.history.fed w.history.fed es later items items rounds rounds key e
    later_onto key e g =
        record {
          found = λ number b is. is;
          longer = omega arith;
          same = λ b le. ap (λ l. cells_over app w.history.fed (l ++ filter (is_in key e) (take b.items_before items))) (front_later key e g);
        }

    later_says : (x : Body) → SnapSays app w.history.fed es items rounds x → SnapSays app w.history.fed later items rounds x
    later_says (Body.Snap inc e k q chunk chunks part) s = (chunk_onto app w.history.fed w.history.fed es later items items rounds rounds q e (later_onto q e s.1) k chunk chunks part s.0, granted_later q e s.1)
    later_says (Body.Put inc e k q delta load) s = absurd s
    later_says (Body.Ask inc nonce q load) s = tt
    later_says (Body.Grant inc nonce e q values load) s = tt
    later_says (Body.Busy inc nonce q mark) s = tt
    later_says (Body.Ack inc e upto q load) s = tt
    later_says (Body.Deny inc e q) s = tt
    later_says (Body.Forward c x entry load) s = tt
    later_says (Body.Have x) s = tt
    later_says (Body.Echo of load) s = tt
    later_says (Body.Config c) s = tt

    grown : SnapHold app w.history.fed later items rounds (w.frames ++ ms) w.switches
    grown =
        record {
          slots = λ n node at key slot e found leased.
              let g = slot_granted n node key slot e at found leased in
              stands_onto app w.history.fed w.history.fed es later items items rounds rounds key e (later_onto key e g) slot (ap (λ l. cells_over app w.history.fed (l ++ filter (is_in key e) items)) (front_later key e g)) (h.slots n node at key slot e found leased);
          says = each_append (λ (m : Msg). SnapSays app w.history.fed later items rounds m.body) w.frames ms
              (each_weaker (λ (m : Msg). SnapSays app w.history.fed es items rounds m.body) (λ (m : Msg). SnapSays app w.history.fed later items rounds m.body) w.frames (λ m s. later_says m.body s) h.says)
              (each_weaker (λ (m : Msg). (on : List Entry) → SnapSays app w.history.fed on items rounds m.body) (λ (m : Msg). SnapSays app w.history.fed later items rounds m.body) ms (λ m s. s later) quiet);
          made = λ key e.
              record {
                at = λ pre j post is.
                    let g = item_granted key e j (subst (λ l. In l j) (sym is) (to_append pre (j ∷ post) j (inr (inl refl)))) in
                    subst (λ l. MadeIn app w.history.fed key (l ++ pre) j) (sym (front_later key e g)) ((h.made key e).at pre j post is);
              };
          turns = h.turns;
          within = h.within;
          begun = λ q i.
              let x = h.begun q i in
              let y = x.1.1.1 in (x.0, (x.1.0, (x.1.1.0, record { msg = y.msg; there = in_front w.frames ms y.msg y.there; from_is = y.from_is; number_in = y.number_in })));
        }

  -- ---- a switch takes an input

  pub brought_by : (n : ℕ) (input : Input) → Comes w (Node.Switch n) input → Brought w w.history.fed n input
  brought_by n (Input.Packet p) comes = absurd comes
  brought_by n (Input.Msg m) comes = comes
  brought_by n Input.Alarm comes = tt

  pub packet_carried : (i : Input) (n : ℕ) → Comes w (Node.Switch n) i → (c : Carried) (key : Key) (from to : Node) (inc nonce epoch : ℕ) (cells : List ℕ) → i ≡ msg from to (Body.Grant inc nonce epoch key cells (Some c)) → WasFed app w.history.fed key c
  packet_carried i n comes c key from to inc nonce epoch cells is =
      let there : Comes w (Node.Switch n) (msg from to (Body.Grant inc nonce epoch key cells (Some c))) = subst (λ x. Comes w (Node.Switch n) x) is comes in
      each_at (λ (m : Msg). OnPacket (WasFed app w.history.fed) m.body) w.frames there.1.0 _ f.carried there.1.1

  switch_snaps : (n : ℕ) (node : SwitchNode) (input : Input) → slice_get w.switches n ≡ Some node → node.runs ≡ true → Comes w (Node.Switch n) input → Snaps app w → Snaps app (switch_moved w n node (switch_step app node.state node.clock input))
  switch_snaps n node input at up comes h =
      step_hold app w w.history.fed n bound node input f.settled f.ends (no_copies_at app w n bound node f.copyless at (f.modes n node at)) (f.modes n node at) h at up (brought_by n input comes)
      (λ c key from to inc nonce epoch cells is. packet_carried input n comes c key from to inc nonce epoch cells is) w.event

  fed_snaps : (n : ℕ) (node : SwitchNode) (p : Packet) → slice_get w.switches n ≡ Some node → node.runs ≡ true → p.mark ≡ w.event + 1 → Snaps app w → Snaps app (switch_moved (with_fed w p) n node (switch_step app node.state node.clock (Input.Packet p)))
  fed_snaps n node p at up mark h =
      step_hold app w (w.history.fed ++ record { event = w.event + 1; packet = p } ∷ []) n bound node (Input.Packet p) f.settled f.ends (no_copies_at app w n bound node f.copyless at (f.modes n node at)) (f.modes n node at) (fed_hold p h) at up
      (found_new w.history.fed (record { event = w.event + 1; packet = p }) w.event mark f.once.within) (λ c key from to inc nonce epoch cells is. absurd (no_message p from to is)) (w.event + 1)

-- ---- messages that say nothing of cells

abbrev Silent : Application → List Fed → List Journaled → List RoundBegun → Msg → Type 0
Silent app feeds items rounds m = (on : List Entry) → SnapSays app feeds on items rounds m.body

store_silent : (app : Application) (feeds : List Fed) (items : List Journaled) (rounds : List RoundBegun) (r : Replica) (es : List Entry) (from to : Node) (body : Body) → SentBooks r es from to body → (on : List Entry) → SnapSays app feeds on items rounds body
store_silent app feeds items rounds r es from to (Body.Snap inc e k q chunk chunks part) s on = absurd s
store_silent app feeds items rounds r es from to (Body.Put inc e k q delta load) s on = absurd s
store_silent app feeds items rounds r es from to (Body.Ask inc nonce q load) s on = tt
store_silent app feeds items rounds r es from to (Body.Grant inc nonce e q values load) s on = tt
store_silent app feeds items rounds r es from to (Body.Busy inc nonce q mark) s on = tt
store_silent app feeds items rounds r es from to (Body.Ack inc e upto q load) s on = tt
store_silent app feeds items rounds r es from to (Body.Deny inc e q) s on = tt
store_silent app feeds items rounds r es from to (Body.Forward c x entry load) s on = tt
store_silent app feeds items rounds r es from to (Body.Have x) s on = tt
store_silent app feeds items rounds r es from to (Body.Echo of load) s on = tt
store_silent app feeds items rounds r es from to (Body.Config c) s on = tt

announced_silent : (app : Application) (feeds : List Fed) (items : List Journaled) (rounds : List RoundBegun) (w : World) → Each (Silent app feeds items rounds) (announcements w)
announced_silent app feeds items rounds w =
    each_append (Silent app feeds items rounds) (map (λ n. config_msg w (Node.Switch n)) (running_switches w)) _
    (each_map (Silent app feeds items rounds) (λ n. config_msg w (Node.Switch n)) (running_switches w) (λ n on. tt))
    (each_map (Silent app feeds items rounds) (λ n. config_msg w (Node.Replica n)) (running_replicas w) (λ n on. tt))

-- ---- every change

module _ (app : Application) (bound : ℕ) (I : World → Type 0) (k : Keeps app I) (facts : (w : World) → I w → SnapFacts app bound w) where
  abbrev Tables : World → ℕ → SwitchNode → Type 0
  Tables w n node = SnapTable app w.history.fed (committed_of w.replicas) w.history.items w.history.rounds node.state.slots

  pub snaps_kept : KeepsGiven app I (Snaps app)
  snaps_kept =
      record {
        counts = λ w i h. h;
        passes = λ w n i h. h;
        feeds = λ w n node p at up mark i h. fed_snaps app bound w (facts w i) n node p at up mark h;
        switches = λ w n node input at up from i h. switch_snaps app bound w (facts w i) n node input at up from h;
        replicas = λ w n node input at up from i h.
            let f = facts w i in
            let books = f.settled.0.0.0.0.0.0 in
            let x = facts (replica_moved w n node (store_step node.state node.clock input)) (k.replicas w n node input at up from i) in
            grown app bound w f h (committed_of (replica_moved w n node (store_step node.state node.clock input)).replicas) (store_step node.state node.clock input).1.sent
            (moved_committed books.0 w.config w.replicas n node w.event input at up books.1.configs books.1.nodes (known_input books.0 w n input from books.1))
            ((known app (replica_moved w n node (store_step node.state node.clock input)) x.settled x.ends).committed_fits)
            (each_weaker (λ (m : Msg). SentBooks (store_step node.state node.clock input).0 (entries_of (book_after node.clock w.event node.book (store_step node.state node.clock input).1.applied)) m.from m.to m.body) (Silent app w.history.fed w.history.items w.history.rounds) (store_step node.state node.clock input).1.sent
            (λ m s. store_silent app w.history.fed w.history.items w.history.rounds (store_step node.state node.clock input).0 (entries_of (book_after node.clock w.event node.book (store_step node.state node.clock input).1.applied)) m.from m.to m.body s)
            (step_sent node.state node.book node.clock w.event input (books.1.nodes n node at).stands));
        advances = λ w by fits i h.
            let same : committed_of (advanced_replicas w.replicas (drop (length w.switches) by)) ≡ committed_of w.replicas = ap entries_of (advanced_last w.replicas (drop (length w.switches) by) []) in
            subst (λ es. SnapHold app w.history.fed es w.history.items w.history.rounds w.frames (advanced w by).switches) (sym same)
            (record { slots = all_advanced (Tables w) w.switches by (λ m d x s. s) h.slots; says = h.says; made = h.made; turns = h.turns; within = h.within; begun = h.begun });
        stops_switch = λ w n fits i h. record { slots = all_changed (Tables w) w.switches n _ (λ m x s. s) h.slots; says = h.says; made = h.made; turns = h.turns; within = h.within; begun = h.begun };
        stops_replica = λ w n fits i h.
            let f = facts w i in
            let books = f.settled.0.0.0.0.0.0 in
            let x = facts (stopped w (Node.Replica n)) (k.stops_replica w n fits i) in
            subst (λ l. SnapHold app w.history.fed (committed_of (stopped w (Node.Replica n)).replicas) w.history.items w.history.rounds l w.switches) (append-nil w.frames)
            (grown app bound w f h (committed_of (stopped w (Node.Replica n)).replicas) [] (stopped_grows books.0 w n fits books.1) ((known app (stopped w (Node.Replica n)) x.settled x.ends).committed_fits) tt);
        boots = λ w n fits i h. record { slots = all_changed (Tables w) w.switches n _ (λ m x s key slot e found leased. let none : None ≡ Some slot = found in cc) h.slots; says = h.says; made = h.made; turns = h.turns; within = h.within; begun = h.begun };
        detects_switch = λ w n fits i h. record { slots = all_changed (Tables w) w.switches n _ (λ m x s. s) h.slots; says = h.says; made = h.made; turns = h.turns; within = h.within; begun = h.begun };
        detects_replica = λ w n fits i h. h;
        announces = λ w i h.
            let f = facts w i in
            grown app bound w f h (committed_of w.replicas) (announcements w) (record { rest = []; is = append-nil (committed_of w.replicas) }) ((known app w f.settled f.ends).committed_fits) (announced_silent app w.history.fed w.history.items w.history.rounds w);
      }
