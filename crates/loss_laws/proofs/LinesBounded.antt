-- The lines of a snapshot run's report lose boundedly, from what its history keeps to.
use Rattle.std.proofs.Common.{◌≡◌, ◌≢◌, ◌⊎◌, inl, inr, ℕ, ◌+◌, ◌≤◌, ◌<◌, zero, suc, List, [], ◌∷◌, ◌++◌, Option, Some, None, Bool, map, length, arith, refl, sym, ◌∙◌, ap, subst, eq-eqb, slice_get}
use Rattle.std.specs.Prelude.{flat_map, option_map, take}
use Rattle.std.specs.List.{range_with_len}
use Rattle.std.proofs.lemmas.Bool.{and_from}
use Rattle.std.proofs.lemmas.List.{map-append}
use Rattle.rp_base.specs.Clocks.{TermsHold}
use Rattle.rp_base.specs.declared.event.Event.{Event}
use Rattle.rp_base.specs.declared.legality.Fed.{Fed}
use Rattle.rp_base.specs.declared.legality.Released.{Released}
use Rattle.rp_base.specs.declared.line.Line.{Line}
use Rattle.proto_data.specs.declared.message.Body.{Body}
use Rattle.proto_data.specs.declared.message.Entry.{Entry}
use Rattle.proto_data.specs.declared.message.Msg.{Msg}
use Rattle.proto_data.specs.declared.message.Record.{Record}
use Rattle.proto_data.specs.declared.terms.Mode.{Mode}
use Rattle.rp_app.specs.Application.{Application, IsApplication, after}
use Rattle.key_table.specs.Table.{Key, get}
use Rattle.key_table.proofs.Tables.{same_key-refl, same_some}
use Rattle.proto_model.specs.Committed.{is_in, cells_at, committed_book, committed_records, epoch_granted, epochs_of, journal}
use Rattle.proto_model.specs.EndLines.{report}
use Rattle.proto_model.specs.Feeds.{Each, Pairwise, key_at, packets_at}
use Rattle.proto_model.specs.Kept.{EpochLine, base, epoch_lines, kept, kept_marks, marks_in}
use Rattle.proto_model.specs.Legal.{IsOutputIn, ReleasedBefore}
use Rattle.proto_model.specs.Lines.{printed}
use Rattle.proto_model.specs.Pumping.{Received, linked_run}
use Rattle.proto_model.specs.Loss.{ItemAt}
use Rattle.proto_model.specs.World.{World, Setup, Journaled, opened}
use Rattle.proto_model.specs.WorldStep.{world_after}
use Rattle.proto_safety.specs.Books.{In, committed_of}
use Rattle.proto_safety.specs.EpochOrder.{EpochsRise}
use Rattle.proto_safety.specs.LegalLines.{feeds_in, linked_report, releases_in}
use Rattle.proto_safety.specs.Flows.{FitsFrom, FlowRecord, flow_in, flow_of}
use Rattle.proto_safety.specs.LossLaws.{HistoryStands, ReleasedBy, keyless, by_item}
use Rattle.proto_safety.proofs.Basics.Eachs.{each_all, each_mapped}
use Rattle.proto_safety.proofs.Basics.Lists.{length_map}
use Rattle.proto_safety.proofs.Basics.Members.{in_flat_parts, in_map, to_filter, to_map}
use Rattle.proto_safety.proofs.Basics.Pairs.{pairwise_flat, pairwise_mapped, pairwise_with}
use Rattle.proto_safety.proofs.Basics.TableKeys.{KeysDiffer, member_found}
use Rattle.proto_safety.proofs.Legality.LegalNow.{epochs_same, records_differ}
use Rattle.proto_safety.proofs.Inductions.Induction.{run_kept}
use Rattle.proto_safety.proofs.Legality.ReleasedLate as late
use Rattle.proto_safety.proofs.Legality.ReportLegal.{report_feeds, report_releases}
use Rattle.proto_safety.proofs.Link.LinkedKept.{linked_kept}
use Rattle.proto_safety.proofs.Link.LinkedTold.{linked_feeds, linked_releases}
use Rattle.proto_safety.proofs.Serial.CellsGround.{known, items_known}
use Rattle.proto_safety.proofs.Serial.SerialLists.{closes}
use Rattle.proto_safety.proofs.Snapshots.SnapRun.{Celled, snap_facts}
use Rattle.proto_safety.proofs.Snapshots.SnapShown.{Shows}
use Rattle.proto_safety.proofs.Snapshots.WorldSnaps.{SnapFacts}
use Rattle.proto_safety.proofs.Store.EpochsCount as count
use Rattle.proto_safety.proofs.Store.FlowBooks.{book_flow}
use Rattle.loss_laws.specs.BoundedLines.{BoundedFlows, BoundedLines, EpochFlow, epoch_flows, FromEpochs, OutputOf, cells_along, committed_epochs, kept_told, marks_told}
use Rattle.loss_laws.proofs.EpochRanges.{along_append, at_map, base_along, flat_map_map, found_member, pairwise_places, place_of, range_last, range_rises, range_split, range_within, to_filter_map}
use Rattle.loss_laws.proofs.EpochsTold.{linked_told, report_told}
use Rattle.loss_laws.proofs.LossKept.{Losing, history_of, losing_kept, opened_losing, released_apart}

module _ (app : Application) (bound : ℕ) (w : World) (c : Celled app bound w) (s : Shows app w) (h : HistoryStands app w) (counts : (key : Key) → EpochsRise key (committed_book w)) where
  abbrev f : SnapFacts app bound w
  f = snap_facts app bound w c.0

  abbrev es : List Entry
  es = committed_of w.replicas

  abbrev fed : List Fed
  fed = w.history.fed

  abbrev released : List Released
  released = w.history.released

  abbrev items : List Journaled
  items = w.history.items

  abbrev records : List (Key × Record)
  records = committed_records app.cell_count w

  abbrev flows : List EpochFlow
  flows = map (committed_epochs w) records

  fits : (key : Key) → FitsFrom app.cell_count key None es
  fits = (known app w f.settled f.ends).committed_fits

  abbrev mark : Journaled → ℕ
  mark j = j.item.mark

  -- the epochs of a flow
  abbrev granted : Key → List ℕ
  granted key = epochs_of key (committed_book w)

  -- the line of an epoch
  abbrev line : Key → ℕ → EpochLine
  line key e = record { key = key; epoch = e; kept = kept w key e; marks = marks_in (journal w key e) }

  marks_are : (key : Key) → marks_told (epoch_lines w key) ≡ flat_map (λ e. marks_in (journal w key e)) (granted key)
  marks_are key = flat_map_map (λ (x : EpochLine). x.marks) (line key) (granted key)

  kept_are : (key : Key) (ds : List ℕ) → kept_told (map (line key) ds) ≡ flat_map (kept_marks w key) ds
  kept_are key ds = flat_map_map (λ (x : EpochLine). take x.kept x.marks) (line key) ds

  -- ---- marks

  keyed : (key : Key) (d : ℕ) (j : Journaled) → In (journal w key d) j → key_at app fed j.item.mark ≡ Some key
  keyed key d j i = let p = place_of (journal w key d) j i in (h.marks key).fed_with_key d p.0 j p.1

  told_keyed : (key : Key) (m : ℕ) → In (marks_told (epoch_lines w key)) m → key_at app fed m ≡ Some key
  told_keyed key m i =
      let p = in_flat_parts (λ e. marks_in (journal w key e)) (granted key) m (subst (λ l. In l m) (marks_are key) i) in
      let q = in_map mark (journal w key p.0) m p.1.1 in
      subst (λ x. key_at app fed x ≡ Some key) q.1.1 (keyed key p.0 q.0 q.1.0)

  -- of two marks of a flow in their order
  abbrev InTurn : ℕ → ℕ → Type 0
  InTurn q m = (q ≢ m) × (¬ ReleasedBefore fed released m q)

  in_turn : (key : Key) (d e n m : ℕ) (a b : Journaled) → ItemAt w key d n a → ItemAt w key e m b → (d < e) ⊎ ((d ≡ e) × (n < m)) → InTurn a.item.mark b.item.mark
  in_turn key d e n m a b at bt turn = (λ same. apart turn ((h.marks key).once d e n m a b at bt same), λ before. behind turn (h.order key e d m n b a bt at before))
    where
      apart : (d < e) ⊎ ((d ≡ e) × (n < m)) → (d ≡ e) × (n ≡ m) → ⊥
      apart (inl lt) same = omega (arith, lt, same.0)
      apart (inr lt) same = omega (arith, lt.1, same.1)

      behind : (d < e) ⊎ ((d ≡ e) × (n < m)) → (e < d) ⊎ ((e ≡ d) × (m < n)) → ⊥
      behind (inl lt) (inl gt) = omega (arith, lt, gt)
      behind (inl lt) (inr gt) = omega (arith, lt, gt.0)
      behind (inr lt) (inl gt) = omega (arith, lt.0, gt)
      behind (inr lt) (inr gt) = omega (arith, lt.1, gt.1)

  marks_turn : (key : Key) → Pairwise InTurn (marks_told (epoch_lines w key))
  marks_turn key =
      subst (Pairwise InTurn) (sym (marks_are key))
      (pairwise_flat (λ d e. d < e) InTurn (λ e. marks_in (journal w key e)) (granted key) (subst (Pairwise (λ d e. d < e)) (sym (counts key)) (range_rises 1 (length (granted key))))
      (λ e i. pairwise_mapped InTurn mark (journal w key e) (pairwise_places _ (journal w key e) (λ n m a b at bt lt. in_turn key e e n m a b at bt (inr (refl, lt)))))
      (λ d e x y lt i j.
      let a = in_map mark (journal w key d) x i in
      let b = in_map mark (journal w key e) y j in
      let p = place_of (journal w key d) a.0 a.1.0 in
      let q = place_of (journal w key e) b.0 b.1.0 in
      subst (λ z. InTurn z y) a.1.1 (subst (λ z. InTurn a.0.item.mark z) b.1.1 (in_turn key d e p.0 q.0 a.0 b.0 p.1 q.1 (inl lt)))))

  differ : KeysDiffer records
  differ = records_differ app.cell_count (committed_book w) [] tt

  marks_once : Pairwise (λ a b. a ≢ b) (flat_map (λ (x : EpochFlow). marks_told x.epochs) flows)
  marks_once =
      subst (Pairwise (λ a b. a ≢ b)) (sym (flat_map_map (λ (x : EpochFlow). marks_told x.epochs) (committed_epochs w) records))
      (pairwise_flat (λ (a b : Key × Record). a.0 ≢ b.0) (λ a b. a ≢ b) (λ (r : Key × Record). marks_told (epoch_lines w r.0)) records differ
      (λ r i. pairwise_with InTurn (λ a b. a ≢ b) (marks_told (epoch_lines w r.0)) (marks_turn r.0) (λ a b i j turn. turn.0))
      (λ r q a b ne i j same.
      ne (same_some (key_at app fed a) r.0 q.0 (told_keyed r.0 a i) (subst (λ x. key_at app fed x ≡ Some q.0) (sym same) (told_keyed q.0 b j)))))

  -- ---- cells

  record_flow : (key : Key) (o : Option Record) → get records key ≡ o → flow_of app.cell_count key es ≡ option_map flow_in o
  record_flow key o at = sym (book_flow app.cell_count key (committed_book w) []) ∙ ap (λ x. option_map flow_in x) at

  -- a flow has as many epochs as its last one's number
  epochs_are : (key : Key) (x : FlowRecord) → flow_of app.cell_count key es ≡ Some x → granted key ≡ range_with_len 1 x.epoch
  epochs_are key x flow =
      let last = (closes app.cell_count key es (fits key)).epochs x flow in
      let n = range_last 1 (length (granted key)) x.epoch last.0 (sym (counts key) ∙ (epochs_same key (committed_book w) ∙ last.1.0)) in
      let many : length (granted key) ≡ x.epoch = omega (arith, n) in counts key ∙ ap (range_with_len 1) many

  cells_are : (key : Key) (r : Record) → get records key ≡ Some r → r.cells ≡ cells_along app fed (kept_told (epoch_lines w key))
  cells_are key r at =
      sym (ap cells_at at)
      ∙ (h.cells key r at
      ∙ (base_along app w key r.epoch
      ∙ ap (cells_along app fed) (ap (flat_map (kept_marks w key)) (sym (epochs_are key (flow_in r) (record_flow key (Some r) at))) ∙ sym (kept_are key (granted key)))))

  -- ---- releases

  -- an item's output, among the epochs of its flow
  item_output : (key : Key) (e n : ℕ) (j : Journaled) (r : Released) → In (granted key) e → slice_get (journal w key e) n ≡ Some j → In released r → r.output.mark ≡ j.item.mark → OutputOf app fed (epoch_lines w key) r.output
  item_output key e n j r i at there same = epoch_case e (range_within 1 (length (granted key)) e (subst (λ l. In l e) (counts key) i)) at
    where
      epoch_case : (e : ℕ) → (1 ≤ e) × (e < 1 + length (granted key)) → slice_get (journal w key e) n ≡ Some j → OutputOf app fed (epoch_lines w key) r.output
      epoch_case zero within at = absurd (omega (arith, within.0))
      epoch_case (suc d) within at =
          let split = range_split 1 d (length (granted key)) (omega (arith, within.1)) in
          let next : 1 + d ≡ suc d = omega arith in
          let marks : List ℕ = take n (marks_in (journal w key (suc d))) in
          let along : after app (base app w key d) (packets_at fed (take n (marks_in (journal w key (suc d))))) ≡ cells_along app fed (kept_told (map (line key) (range_with_len 1 d)) ++ take n (marks_in (journal w key (suc d)))) =
          ap (λ l. after app l (packets_at fed (take n (marks_in (journal w key (suc d)))))) (base_along app w key d)
          ∙ (sym (along_append app fed (flat_map (kept_marks w key) (range_with_len 1 d)) (take n (marks_in (journal w key (suc d)))))
          ∙ ap (λ l. cells_along app fed (l ++ take n (marks_in (journal w key (suc d))))) (sym (kept_are key (range_with_len 1 d)))) in
          record {
            before = map (line key) (range_with_len 1 d);
            epoch = line key (suc d);
            behind = map (line key) split.0;
            epochs_are = ap (map (line key)) (counts key ∙ (split.1 ∙ ap (λ x. range_with_len 1 d ++ x ∷ split.0) next)) ∙ map-append (line key) (range_with_len 1 d) (suc d ∷ split.0);
            place = n;
            mark_is = at_map mark (journal w key (suc d)) n j at ∙ ap Some (sym same);
            output_is = subst (λ l. IsOutputIn app fed l r.output) along (h.outputs key d n j r at there same);
          }

  from_epochs : (r : Released) → In released r → FromEpochs app fed flows r
  from_epochs r there key is = shown_case (s.shown r there)
    where
      shown_case : ReleasedBy app fed items r → (x : EpochFlow) × (In flows x × (x.key ≡ key) × OutputOf app fed x.epochs r.output)
      shown_case (keyless none out) = let no_key : None ≡ Some key = sym none ∙ is in absurd cc
      shown_case (by_item j j_in same out event) = subst (λ k. (x : EpochFlow) × (In flows x × (x.key ≡ k) × OutputOf app fed x.epochs r.output)) key_is (record_case (get records j.item.key) refl)
        where
          own : In (journal w j.item.key j.item.epoch) j
          own = to_filter (is_in j.item.key j.item.epoch) items j j_in (and_from _ _ (same_key-refl j.item.key) (eq-eqb j.item.epoch j.item.epoch refl))

          key_is : j.item.key ≡ key
          key_is = same_some (key_at app fed j.item.mark) j.item.key key (keyed j.item.key j.item.epoch j own) (ap (λ m. key_at app fed m) same ∙ is)

          epoch_in : In (granted j.item.key) j.item.epoch
          epoch_in =
              let o = f.settled.1.item_granted j j_in in
              subst (λ l. In l j.item.epoch) (sym (epochs_same j.item.key (committed_book w)))
              (to_filter_map (epoch_granted j.item.key) es (Entry.Grant j.item.key j.item.epoch o.n o.inc o.grant.nonce) j.item.epoch o.grant.there (rw (same_key-refl j.item.key) refl))

          record_case : (o : Option Record) → get records j.item.key ≡ o → (x : EpochFlow) × (In flows x × (x.key ≡ j.item.key) × OutputOf app fed x.epochs r.output)
          record_case None at =
              let g = (items_known app w f.settled f.ends j.item.key).granted j j_in refl in
              let no_flow : None ≡ Some g.0 = sym (record_flow j.item.key None at) ∙ g.1.0 in absurd cc
          record_case (Some rec) at =
              let p = place_of (journal w j.item.key j.item.epoch) j own in
              (committed_epochs w (j.item.key, rec), (to_map (committed_epochs w) records (j.item.key, rec) (found_member records j.item.key rec at), refl, item_output j.item.key j.item.epoch p.0 j r epoch_in p.1 there (sym same)))

  -- ---- all of it

  epochs_back : (key : Key) (ds : List ℕ) → map (λ (x : EpochLine). x.epoch) (map (line key) ds) ≡ ds
  epochs_back key [] = refl
  epochs_back key (d ∷ ds) = ap (λ l. d ∷ l) (epochs_back key ds)

  each_flow : (P : EpochFlow → Type 0) → ((r : Key × Record) → get records r.0 ≡ Some r.1 → P (committed_epochs w r)) → Each P flows
  each_flow P k = each_mapped P (committed_epochs w) records (each_all (λ (r : Key × Record). P (committed_epochs w r)) records (λ r i. k r (member_found records r differ i)))

  pub bounded_flows : Pairwise (λ (a b : Released). a.output.mark ≢ b.output.mark) released → ((m : ℕ) → ¬ ReleasedBefore fed released m m) → BoundedFlows app fed released flows
  bounded_flows once never =
      record {
        epochs_count = each_flow _ (λ r at. epochs_back r.0 (granted r.0) ∙ (counts r.0 ∙ ap (range_with_len 1) (sym (length_map (line r.0) (granted r.0)))));
        fed_with_key = each_flow _ (λ r at. each_all (λ m. key_at app fed m ≡ Some r.0) (marks_told (epoch_lines w r.0)) (λ m i. told_keyed r.0 m i));
        each_once = marks_once;
        from_epochs = each_all (FromEpochs app fed flows) released from_epochs;
        released_once = once;
        in_order = each_flow _ (λ r at. pairwise_with InTurn (λ q m. ¬ ReleasedBefore fed released m q) (marks_told (epoch_lines w r.0)) (marks_turn r.0) (λ a b i j turn. turn.1));
        none_early = each_flow _ (λ r at. each_all (λ m. ¬ ReleasedBefore fed released m m) (marks_told (epoch_lines w r.0)) (λ m i. never m));
        cells_kept = each_flow _ (λ r at. cells_are r.0 r.1 at);
        released_without_key = h.keyless.outputs;
      }

-- feeds, releases and flows that are the same lose alike
same_loss : (app : Application) {a b : List Fed} {p q : List Released} {x y : List EpochFlow} → a ≡ b → p ≡ q → x ≡ y → BoundedFlows app b q y → BoundedFlows app a p x
same_loss app {a} {b} {p} {q} {x} {y} feeds releases flows h =
    subst (λ l. BoundedFlows app l p x) (sym feeds) (subst (λ l. BoundedFlows app b l x) (sym releases) (subst (λ l. BoundedFlows app b q l) (sym flows) h))

-- lines that say the feeds, releases and flows of a world lose boundedly where what its losses rest on holds
said_boundedly : (app : Application) (is : IsApplication app) (bound : ℕ) (events : List Event) (lines : List Line) (w : World) → Losing app is bound w → ((key : Key) → EpochsRise key (committed_book w)) →
    feeds_in events lines ≡ w.history.fed → releases_in lines ≡ w.history.released → epoch_flows lines ≡ map (committed_epochs w) (committed_records app.cell_count w) → BoundedLines app events lines
said_boundedly app is bound events lines w h counts feeds releases flows =
    same_loss app feeds releases flows (bounded_flows app bound w h.1.0.0.0 h.1.0.1 (history_of app is bound w h) counts (released_apart app is bound w h) (λ m. late.none_early_in w h.1.1.1 m))

module _ (kind : Body → ℕ) (spelled : Msg → List ℕ) (app : Application) (is : IsApplication app) (setup : Setup) (bound : ℕ) (mode : setup.terms.mode ≡ Mode.Snapshot bound) (hold : TermsHold setup.terms.t_switch setup.terms.t_store setup.terms.ratio) where
  pub reports_lose : (events : List Event) (frames : Bool) → BoundedLines app events (printed kind spelled (report frames app setup events))
  reports_lose events frames =
      let start : World = opened app.cell_count setup in
      said_boundedly app is bound events (printed kind spelled (report frames app setup events)) (world_after app (opened app.cell_count setup) events)
      (run_kept app (Losing app is bound) (losing_kept app is bound) events start (opened_losing app is bound setup mode hold)) (λ key. count.committed_counts app setup events key)
      (report_feeds kind spelled app setup events frames) (report_releases kind spelled app setup events frames) (report_told kind spelled app setup bound mode events frames)

  pub linked_reports_lose : (events : List Event) (received : List Received) (frames : Bool) → BoundedLines app events (printed kind spelled (linked_report spelled frames app setup events received))
  linked_reports_lose events received frames =
      said_boundedly app is bound events (printed kind spelled (linked_report spelled frames app setup events received)) (linked_run spelled app setup events received).world
      (linked_kept spelled app (Losing app is bound) (losing_kept app is bound) setup events received (opened_losing app is bound setup mode hold)) (λ key. count.linked_committed_counts spelled app setup events received key)
      (linked_feeds spelled app kind setup events received frames) (linked_releases spelled app kind setup events received frames) (linked_told kind spelled app setup bound mode events received frames)
