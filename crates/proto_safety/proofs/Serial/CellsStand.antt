-- What the protocol promises of cells, of one world and over every run in strict mode whose terms hold.
use Rattle.std.proofs.Common.{◌≡◌, inl, inr, ℕ, ◌+◌, List, [], ◌∷◌, ◌++◌, map, filter, Option, Some, None, arith, refl, sym, ap, ◌∙◌, subst, false, slice_get, zero, suc, append_assoc, eqb-true}
use Rattle.std.specs.Prelude.{◌==◌, nat_lt, nat_le, flat_map, option_and_then}
use Rattle.std.proofs.lemmas.Bool.{and_parts}
use Rattle.std.proofs.lemmas.List.{map-append}
use Rattle.rp_base.specs.Clocks.{TermsHold}
use Rattle.rp_base.specs.declared.event.Event.{Event}
use Rattle.rp_base.specs.declared.node.Node.{Node}
use Rattle.proto_data.specs.declared.message.Body.{Body}
use Rattle.proto_data.specs.declared.message.Entry.{Entry}
use Rattle.proto_data.specs.declared.message.Carried.{Carried}
use Rattle.proto_data.specs.declared.terms.Mode.{Mode}
use Rattle.rp_app.specs.Application.{Application, IsApplication, Delta}
use Rattle.key_table.specs.Table.{Key}
use Rattle.proto_model.specs.Feeds.{Each, key_at}
use Rattle.proto_model.specs.Committed.{committed_book, serial_marks, is_closed, is_in, closing_of}
use Rattle.proto_model.specs.Legal.{StandsIn}
use Rattle.proto_model.specs.Stands.{entries_of}
use Rattle.proto_model.specs.Slot.{Slot, Asking}
use Rattle.proto_model.specs.SwitchState.{Copy, is_of}
use Rattle.proto_model.specs.World.{World, Setup, SwitchNode, ReplicaNode, Journaled, opened}
use Rattle.rp_base.specs.declared.legality.Fed.{Fed}
use Rattle.rp_base.specs.declared.legality.Released.{Released}
use Rattle.proto_model.specs.WorldStep.{world_after}
use Rattle.proto_safety.specs.Books.{In, Runs, committed_of}
use Rattle.proto_safety.specs.CellLaws.{CellsStand, CopiesHaveLast, CopiesHaveLastAt, IsDelta, no_item, of_items, ItemAt, MadeAs, LeasedAt, SerialStays, copies_of, serial_before, cells_after}
use Rattle.proto_safety.specs.LeaseLaws.{First, SlotAt}
use Rattle.proto_safety.specs.Origins.{PutSent}
use Rattle.proto_safety.proofs.Serial.CellFacts.{CellFacts, SentPut, closing_entries}
use Rattle.proto_safety.proofs.Serial.CellsGround.{OverLate, put_frame}
use Rattle.proto_safety.proofs.Leasing.FlowCopies.{copies_have_last}
use Rattle.proto_safety.proofs.Serial.FlowSerial.{PutIs, MadeIn, ran, first_delta, packet_delta, rest_of}
use Rattle.proto_safety.proofs.Leasing.GroundsKept.{Standing}
use Rattle.proto_safety.proofs.Leasing.HandedKept.{Ending, ending_kept, ends_leases, opened_ending}
use Rattle.proto_safety.proofs.Leasing.LeasesRest.{within_closing}
use Rattle.proto_safety.proofs.Legality.LegalNow.{epochs_same, serial_same}
use Rattle.proto_safety.proofs.Legality.LegalRun.{Laid, opened_laid, laid_stands, some_firsts, firsts_given, known_after, serial_stays}
use Rattle.proto_safety.proofs.Basics.NumberSplits.{NumbersRise, up_to, below, at_number, past, below_next, split_at_number, up_to_next, le_not, lt_not, eq_not}
use Rattle.proto_safety.proofs.Legality.ReleasesStep.{Shown, keyless, of_item}
use Rattle.proto_safety.proofs.Serial.SerialLists.{epochs_in, journal_in, closed_in, serial_in, front_in}
use Rattle.proto_safety.proofs.Serial.SerialOnce.{serial_place}
use Rattle.proto_safety.proofs.Serial.SwitchCells.{SlotStands}
use Rattle.key_table.proofs.Tables.{same_key-true}
use Rattle.proto_safety.proofs.Messages.WorldOrigins.{NodeOrigins}
use Rattle.proto_safety.proofs.Leasing.WorldPuts.{Awaited}
use Rattle.proto_safety.proofs.Legality.WorldShown.{ShownFacts, ShownIn}
use Rattle.proto_safety.proofs.Basics.Eachs.{each_at}
use Rattle.proto_safety.proofs.Basics.Members.{at_behind, filter_like, filter_no, flat_map_same, in_filter, nobody}

-- ---- lists

-- items below a number, at it and past it
split_three : (k : ℕ) (js : List Journaled) → NumbersRise js → js ≡ below k js ++ (at_number k js ++ past k js)
split_three zero js rise =
    let none : below 0 js ≡ [] = filter_no (λ (j : Journaled). nat_lt j.item.number 0) js (λ j i. lt_not j.item.number 0 (omega arith)) in
    let same : up_to 0 js ≡ at_number 0 js = filter_like (λ (j : Journaled). nat_le j.item.number 0) (λ (j : Journaled). j.item.number == 0) js (λ j i. zero_case j.item.number) in
    sym (split_at_number 0 js rise) ∙ (ap (λ l. l ++ past 0 js) same ∙ ap (λ l. l ++ (at_number 0 js ++ past 0 js)) (sym none))
  where
    zero_case : (a : ℕ) → nat_le a 0 ≡ (a == 0)
    zero_case zero = refl
    zero_case (suc a) = le_not (suc a) 0 (omega arith) ∙ sym (eq_not (suc a) 0 (λ e. absurd (omega (arith, e))))
split_three (suc m) js rise =
    let next : m + 1 ≡ suc m = omega arith in
    subst (λ k. js ≡ below k js ++ (at_number k js ++ past k js)) next
    (sym (split_at_number (m + 1) js rise)
    ∙ (ap (λ l. l ++ past (m + 1) js) (up_to_next m js rise ∙ ap (λ l. l ++ at_number (m + 1) js) (sym (below_next m js)))
    ∙ append_assoc (below (m + 1) js) (at_number (m + 1) js) (past (m + 1) js)))

-- ---- one world

module _ (app : Application) (w : World) (l : Laid app w) (o : OverLate w) (s : ShownFacts app w) (shown : ShownIn app w) (copied : (n : ℕ) (key : Key) (node : SwitchNode) → slice_get w.switches n ≡ Some node → CopiesHaveLast node key) where
  abbrev es : List Entry
  es = committed_of w.replicas

  abbrev items : List Journaled
  items = w.history.items

  abbrev fed : List Fed
  fed = w.history.fed

  abbrev f : CellFacts app w
  f = s.cells

  front_same : (key : Key) (e : ℕ) → serial_before w key e ≡ front_in key es items e
  front_same key e =
      ap (λ ds. flat_map (λ d. filter (is_closed (closing_of key d (committed_book w))) (filter (is_in key d) items)) (filter (λ d. nat_lt d e) ds)) (epochs_same key (committed_book w))
      ∙ flat_map_same (λ d. filter (is_closed (closing_of key d (committed_book w))) (filter (is_in key d) items)) (closed_in key es items) (filter (λ d. nat_lt d e) (epochs_in key es))
      (λ d i. ap (λ c. filter (is_closed c) (journal_in key items d)) (closing_entries key d (committed_book w)))

  cells_same : (key : Key) (e : ℕ) (js : List Journaled) → cells_after app w key e js ≡ ran app fed (front_in key es items e ++ js)
  cells_same key e js = ap (λ l. ran app fed (l ++ js)) (front_same key e)

  made_as : (epoch : ℕ) (key : Key) (front : List Journaled) (item : Journaled) → ItemAt w key epoch front item → MadeAs app w key epoch front item
  made_as epoch key front item at =
      let m : MadeIn app fed key (front_in key es items epoch ++ front) item = ((s.hold.flows key).made epoch).at front item at.behind at.journal_is in
      record { packet = m.packet; fed = m.fed_at; output_is = m.output_is ∙ ap (λ c. (app.plain c m.packet).1) (sym (cells_same key epoch front)) }

  is_delta : (key : Key) (epoch k : ℕ) (delta : Delta) → PutIs app fed (front_in key es items epoch) (journal_in key items epoch) k delta → IsDelta app w key epoch k delta
  is_delta key epoch k delta p = items_case (at_number k (journal_in key items epoch)) refl
    where
      items_case : (xs : List Journaled) → at_number k (journal_in key items epoch) ≡ xs → IsDelta app w key epoch k delta
      items_case [] none = no_item none (p.delta_is ∙ ap (λ xs. first_delta app fed (ran app fed (front_in key es items epoch ++ below k (journal_in key items epoch))) xs) none)
      items_case (x ∷ xs) some =
          let whole : journal_in key items epoch ≡ below k (journal_in key items epoch) ++ (x ∷ (xs ++ past k (journal_in key items epoch))) =
          split_three k (journal_in key items epoch) ((f.known key).rise epoch) ∙ ap (λ ys. below k (journal_in key items epoch) ++ (ys ++ past k (journal_in key items epoch))) some in
          let m : MadeIn app fed key (front_in key es items epoch ++ below k (journal_in key items epoch)) x =
          ((s.hold.flows key).made epoch).at (below k (journal_in key items epoch)) x (xs ++ past k (journal_in key items epoch)) whole in
          let first : delta ≡ (app.plain (ran app fed (front_in key es items epoch ++ below k (journal_in key items epoch))) m.packet).0 =
          p.delta_is
          ∙ (ap (λ ys. first_delta app fed (ran app fed (front_in key es items epoch ++ below k (journal_in key items epoch))) ys) some
          ∙ ap (λ o. packet_delta app (ran app fed (front_in key es items epoch ++ below k (journal_in key items epoch))) o) m.fed_at) in
          of_items (below k (journal_in key items epoch)) x xs m.packet (record { behind = xs ++ past k (journal_in key items epoch); journal_is = whole }) some m.fed_at
          (ap (λ c. (app.plain c m.packet).0) (cells_same key epoch (below k (journal_in key items epoch))) ∙ sym first)
          (subst (λ ys. Each (λ (j : Journaled). j.item.dirty ≡ false) (rest_of ys)) some p.clean)

  slot_stands : (n epoch : ℕ) (key : Key) (node : SwitchNode) (slot : Slot) → LeasedAt w n key epoch node slot → SlotStands app fed es items key slot node.state.copies epoch
  slot_stands n epoch key node slot at = (s.hold.slots n node at.slot_is.at).at key slot epoch at.slot_is.found at.leased

  copy_of : (key : Key) (node : SwitchNode) (c : Copy) → In (copies_of node key) c → In node.state.copies c × (c.key ≡ key)
  copy_of key node c i = let p = in_filter (is_of key) node.state.copies c i in (p.0, same_key-true c.key key p.1)

  awaited : (n r epoch nonce first : ℕ) (key : Key) (node : SwitchNode) (slot : Slot) (replica : ReplicaNode) → SlotAt w n key node slot → slot.lease ≡ Asking nonce first → Runs w r replica →
      In (entries_of replica.book) (Entry.Grant key epoch n node.state.inc nonce) → Awaited w.switches w.replicas key epoch
  awaited n r epoch nonce first key node slot replica at is runs granted =
      record { n = n; node = node; slot = slot; nonce = nonce; first = first; r = r; replica = replica; at = at.at; found = at.found; asking = is; here = runs.at; up = runs.up; granted = granted }

  item_of : (key : Key) (epoch : ℕ) (j : Journaled) → In (journal_in key items epoch) j → In items j × ((j.item.key ≡ key) × (j.item.epoch ≡ epoch))
  item_of key epoch j i = let p = in_filter (is_in key epoch) items j i in let q = and_parts _ _ p.1 in (p.0, (same_key-true j.item.key key q.0, eqb-true j.item.epoch epoch q.1))

  untouched : (key : Key) (epoch : ℕ) → Awaited w.switches w.replicas key epoch → journal_in key items epoch ≡ []
  untouched key epoch a =
      nobody (journal_in key items epoch)
      (λ j i.
      let o = item_of key epoch j i in
      (l.0.0.1.item_numbers j o.0).awaited (subst (λ x. Awaited w.switches w.replicas x j.item.epoch) (sym o.1.0) (subst (λ x. Awaited w.switches w.replicas key x) (sym o.1.1) a)))

  unsent : (key : Key) (epoch k : ℕ) (delta : Delta) → Awaited w.switches w.replicas key epoch → SentPut w.frames key epoch k delta → ⊥
  unsent key epoch k delta a q = let p = put_frame app w l.0.0 o epoch k key delta q in (l.0.0.1.numbers p.0 p.1.0 epoch k key p.1.1).awaited a

  last_copied : (n epoch : ℕ) (key : Key) (node : SwitchNode) (slot : Slot) (c : Copy) → LeasedAt w n key epoch node slot → In (copies_of node key) c → (d : Copy) × (In (copies_of node key) d × (d.number ≡ slot.last))
  last_copied n epoch key node slot c at i = last_case (subst (λ o. CopiesHaveLastAt o (copies_of node key)) at.slot_is.found (copied n key node at.slot_is.at))
    where
      last_case : CopiesHaveLastAt (Some slot) (copies_of node key) → (d : Copy) × (In (copies_of node key) d × (d.number ≡ slot.last))
      last_case (inl none) = absurd (subst (λ cs. In cs c) none i)
      last_case (inr h) = h.1.1

  stands_in : (key : Key) (j : Journaled) (m : ℕ) → In (serial_in key es items) j → j.item.mark ≡ m → StandsIn (serial_marks w key) m
  stands_in key j m i is =
      let p = serial_place app fed key es items j (f.fits key) (f.known key).rise (s.hold.flows key) i in (
        map (λ (x : Journaled). x.item.mark) p.pre,
        (
          map (λ (x : Journaled). x.item.mark) p.post,
          ap (λ n. map (λ (x : Journaled). x.item.mark) p.pre ++ n ∷ map (λ (x : Journaled). x.item.mark) p.post) (sym is)
              ∙ (sym (map-append (λ (x : Journaled). x.item.mark) p.pre (j ∷ p.post)) ∙ ap (λ l. map (λ (x : Journaled). x.item.mark) l) (sym p.is ∙ sym (serial_same w key))),
        ),
      )

  released_in : (r : Released) (key : Key) → key_at app fed r.output.mark ≡ Some key → Shown app fed es items r.output → StandsIn (serial_marks w key) r.output.mark
  released_in r key is (keyless p at of out) = let no : None ≡ Some key = sym of ∙ (ap (λ o. option_and_then app.key_of o) (sym at) ∙ is) in cc
  released_in r key is (of_item k j i m out at) =
      let same : Some k ≡ Some key = sym at ∙ is in
      let e : k ≡ key = cc in stands_in key j r.output.mark (subst (λ x. In (serial_in x es items) j) e i) m

  sent_put : (key : Key) (epoch k : ℕ) (delta : Delta) → PutSent w.frames key epoch k delta → SentPut w.frames key epoch k delta
  sent_put key epoch k delta p = record { msg = p.msg; there = p.there; inc = p.inc; load = p.load; body_is = p.body_is }

  frame_put : (i inc epoch k : ℕ) (from to : Node) (key : Key) (delta : Delta) (load : Option Carried) → slice_get w.frames i ≡ Some (record { from = from; to = to; body = Body.Put inc epoch k key delta load }) → SentPut w.frames key epoch k delta
  frame_put i inc epoch k from to key delta load at =
      record { msg = record { from = from; to = to; body = Body.Put inc epoch k key delta load }; there = at_behind [] w.frames i _ at (omega arith); inc = inc; load = load; body_is = refl }

  pub cells_now : CellsStand app w
  cells_now =
      record {
        granted = λ j i. let o = l.0.0.1.item_granted j i in (o.n, (o.inc, (o.grant.nonce, o.grant.there)));
        rise = λ key epoch. (f.known key).rise epoch;
        within_last = λ n epoch key node slot at. (slot_stands n epoch key node slot at).numbers;
        cells_are = λ n epoch key node slot at. (slot_stands n epoch key node slot at).cells ∙ sym (cells_same key epoch (journal_in key items epoch));
        outputs_are = made_as;
        frames_are = λ i inc epoch number from to key delta load at. is_delta key epoch number delta (s.hold.puts epoch number key delta (frame_put i inc epoch number from to key delta load at));
        copies_are = λ n epoch key node slot c at i. let o = copy_of key node c i in is_delta key epoch c.number c.delta ((slot_stands n epoch key node slot at).copies c o.0 o.1);
        entries_are = λ r epoch number node key delta at i.
            is_delta key epoch number delta (s.hold.puts epoch number key delta (sent_put key epoch number delta (each_at (NodeOrigins w.frames) w.replicas r node l.0.0.0.0.1.1.books at (Entry.Put key epoch number delta) i)));
        untouched = λ n r epoch nonce first key node slot replica at is runs granted. untouched key epoch (awaited n r epoch nonce first key node slot replica at is runs granted);
        unsent = λ n r epoch nonce first i inc number key node slot replica from to delta load at is runs granted there.
            unsent key epoch number delta (awaited n r epoch nonce first key node slot replica at is runs granted) (frame_put i inc epoch number from to key delta load there);
        last_copied = last_copied;
        none_copied = λ n epoch key node slot at none. within_closing w key epoch slot.last (f.acked n epoch key node slot at.slot_is.at at.slot_is.found at.leased none);
        released_in = λ r key i is. released_in r key is (shown.at r i);
      }

-- ---- every run

module _ (app : Application) (is : IsApplication app) (setup : Setup) (strict : setup.terms.mode ≡ Mode.Strict) (hold : TermsHold setup.terms.t_switch setup.terms.t_store setup.terms.ratio) where
  pub cells_stand : (events : List Event) → CellsStand app (world_after app (opened app.cell_count setup) events)
  cells_stand events =
      let k =
      known_after app is (λ w. (fs : List First) × Ending fs w) (some_firsts app (Laid app) Ending (firsts_given app (Laid app) (Standing app) Ending (laid_stands app) (ending_kept app))) (λ w l h. ends_leases app w h.0 l h.1) setup events
      (opened_laid app setup strict, ([], opened_ending app setup hold)) in
      cells_now app (world_after app (opened app.cell_count setup) events) k.0.0 k.0.1 k.1.0 k.1.1
      (λ n key node at. each_at (λ (x : SwitchNode). (key : Key) → x.state.terms.mode ≡ Mode.Strict → CopiesHaveLast x key) (world_after app (opened app.cell_count setup) events).switches n node (copies_have_last app setup events) at key (k.1.0.cells.strict n node at))

  pub lists_stay : (events more : List Event) → SerialStays app (world_after app (opened app.cell_count setup) events) (world_after app (world_after app (opened app.cell_count setup) events) more)
  lists_stay events more =
      serial_stays app is (λ w. (fs : List First) × Ending fs w) (some_firsts app (Laid app) Ending (firsts_given app (Laid app) (Standing app) Ending (laid_stands app) (ending_kept app))) (λ w l h. ends_leases app w h.0 l h.1) setup events more
      (opened_laid app setup strict, ([], opened_ending app setup hold))
