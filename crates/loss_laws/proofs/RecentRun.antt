-- How recent the losses are, over every snapshot run whose terms hold.
use Rattle.std.proofs.Common.{◌≡◌, ℕ, ◌+◌, ◌≤◌, ◌<◌, List, [], Option, Some, None, refl, sym, subst, map, length, drop}
use Rattle.rp_base.specs.Clocks.{TermsHold}
use Rattle.rp_base.specs.declared.event.Event.{Event}
use Rattle.proto_data.specs.declared.message.Input.{Input}
use Rattle.proto_data.specs.declared.message.Record.{Record}
use Rattle.proto_data.specs.declared.terms.Mode.{Mode}
use Rattle.rp_app.specs.Application.{Application}
use Rattle.key_table.specs.Table.{Key}
use Rattle.proto_model.specs.Committed.{is_in, closing, journal, committed_book, committed_records}
use Rattle.proto_model.specs.Effects.{made_output, replica_moved, switch_moved}
use Rattle.proto_model.specs.Feeds.{Each}
use Rattle.proto_model.specs.Kept.{BoundedLoss, kept_at, items_before, past_kept, dirty_ones, last_dirty}
use Rattle.proto_model.specs.Loss.{IsBounded}
use Rattle.proto_model.specs.ReplicaRows.{store_step}
use Rattle.proto_model.specs.SwitchState.{SwitchDid, Item, Begun}
use Rattle.proto_model.specs.SwitchRows.{switch_step}
use Rattle.proto_model.specs.World.{World, Setup, Journaled, RoundBegun, opened}
use Rattle.proto_model.specs.WorldStep.{world_after, advanced, stopped}
use Rattle.rp_base.specs.declared.node.Node.{Node}
use Rattle.proto_safety.specs.LossLaws.{AgesStand, HistoryStands, Recent, items_behind, kept_round, round_at}
use Rattle.proto_safety.proofs.Basics.Eachs.{each_all}
use Rattle.proto_safety.proofs.Basics.Members.{among_in}
use Rattle.proto_safety.proofs.Basics.TableKeys.{member_found}
use Rattle.proto_safety.proofs.Inductions.Induction.{Comes, Keeps, KeepsGiven, keeps_both, run_kept, with_fed}
use Rattle.proto_safety.proofs.Legality.LegalNow.{records_differ}
use Rattle.proto_safety.proofs.Nodes.SwitchTable.{no_message}
use Rattle.proto_safety.proofs.Snapshots.AgesRun.{AgesHold, ages_kept, ages_after}
use Rattle.proto_safety.proofs.Snapshots.SnapRun.{Celled, celled_kept, celled_after, cells_of_snaps, snap_facts}
use Rattle.proto_safety.proofs.Store.BooksStep.{moved_committed}
use Rattle.proto_safety.proofs.Store.WorldBooks.{known_input, advanced_committed, stopped_grows}
use Rattle.loss_laws.proofs.Behind.{all_end, drop_filter, pairwise_end}
use Rattle.loss_laws.proofs.Bounded.{recent_last}
use Rattle.loss_laws.proofs.RecentStep.{Recents, later_end, step_recent}

-- cells, with ages
abbrev pub Aged : Application → ℕ → World → Type 0
Aged app bound w = Celled app bound w × AgesHold w

aged_kept : (app : Application) (bound : ℕ) → Keeps app (Aged app bound)
aged_kept app bound = keeps_both app (Celled app bound) AgesHold (celled_kept app bound) (ages_kept app bound)

-- ---- every change

-- what a step adds to the history
abbrev made_item : ℕ → SwitchDid → Item → Journaled
made_item event did x = record { event = event; item = x; output = made_output did.released did.sent }

abbrev begun_at : ℕ → ℕ → Begun → RoundBegun
begun_at event before b = record { event = event; begun = b; items_before = before }

recents_kept : (app : Application) (bound : ℕ) → KeepsGiven app (Aged app bound) (Recents bound)
recents_kept app bound =
    record {
      counts = λ w i h. h;
      passes = λ w n i h. h;
      feeds = λ w n node p at up mark i h.
          let step = switch_step app node.state node.clock (Input.Packet p) in
          let on = (celled_kept app bound).feeds w n node p at up mark i.0 in
          step_recent app bound w i.0 i.1 h n node (Input.Packet p) at up (λ from to body is. absurd (no_message p from to is)) (made_item (w.event + 1) step.1) (λ x. refl)
          (map (begun_at (w.event + 1) (length w.history.items)) step.1.begun) (cells_of_snaps app bound (switch_moved (with_fed w p) n node step) on.0 on.1).begun;
      switches = λ w n node input at up from i h.
          let step = switch_step app node.state node.clock input in
          let on = (celled_kept app bound).switches w n node input at up from i.0 in
          step_recent app bound w i.0 i.1 h n node input at up (λ a b body is. subst (λ x. Comes w (Node.Switch n) x) is from) (made_item w.event step.1) (λ x. refl)
          (map (begun_at w.event (length w.history.items)) step.1.begun) (cells_of_snaps app bound (switch_moved w n node step) on.0 on.1).begun;
      replicas = λ w n node input at up from i h e key.
          let books = (snap_facts app bound w i.0.0).settled.0.0.0.0.0.0 in
          let x = replica_moved w n node (store_step node.state node.clock input) in
          pairwise_end _ _ _
          (later_end app bound (replica_moved w n node (store_step node.state node.clock input)) ((celled_kept app bound).replicas w n node input at up from i.0) (committed_book w)
          (moved_committed books.0 w.config w.replicas n node w.event input at up books.1.configs books.1.nodes (known_input books.0 w n input from books.1)) key e) (h e key);
      advances = λ w by fits i h e key.
          pairwise_end _ _ _ (later_end app bound (advanced w by) ((celled_kept app bound).advances w by fits i.0) (committed_book w) (advanced_committed w.replicas (drop (length w.switches) by)) key e) (h e key);
      stops_switch = λ w n fits i h. h;
      stops_replica = λ w n fits i h e key.
          let books = (snap_facts app bound w i.0.0).settled.0.0.0.0.0.0 in
          pairwise_end _ _ _ (later_end app bound (stopped w (Node.Replica n)) ((celled_kept app bound).stops_replica w n fits i.0) (committed_book w) (stopped_grows books.0 w n fits books.1) key e) (h e key);
      boots = λ w n fits i h. h;
      detects_switch = λ w n fits i h. h;
      detects_replica = λ w n fits i h. h;
      announces = λ w i h. h;
    }

pub recent_kept : (app : Application) (bound : ℕ) → Keeps app (λ w. Aged app bound w × Recents bound w)
recent_kept app bound = keeps_both app (Aged app bound) (Recents bound) (aged_kept app bound) (recents_kept app bound)

-- the ages of leased slots, of one world
pub ages_stand_at : (bound : ℕ) (w : World) → AgesHold w → Recents bound w → AgesStand bound w
ages_stand_at bound w ages recent =
    record { slots = λ n epoch key node slot l. ages n node l.slot_is.at key slot epoch l.slot_is.found l.leased; recent = recent }

module _ (app : Application) (setup : Setup) (bound : ℕ) (mode : setup.terms.mode ≡ Mode.Snapshot bound) (hold : TermsHold setup.terms.t_switch setup.terms.t_store setup.terms.ratio) where
  pub opened_recent : Aged app bound (opened app.cell_count setup) × Recents bound (opened app.cell_count setup)
  opened_recent =
      ((celled_after app setup bound mode hold [], ages_after app setup bound mode hold []), λ e key. none_at key e (closing (opened app.cell_count setup) key e))
    where
      none_at : (key : Key) (e : ℕ) (o : Option ℕ) → Recent bound (items_behind key e [] (kept_round key e [] o))
      none_at key e None = tt
      none_at key e (Some m) = tt

  pub ages_are : (events : List Event) → AgesStand bound (world_after app (opened app.cell_count setup) events)
  ages_are events =
      let h = run_kept app (λ w. Aged app bound w × Recents bound w) (recent_kept app bound) events (opened app.cell_count setup) opened_recent in
      ages_stand_at bound (world_after app (opened app.cell_count setup) events) h.0.1 h.1

-- ---- bounded losses

-- what is past the kept items is what stands behind the closing's round
past_is : (w : World) (key : Key) (e : ℕ) → past_kept w key e ≡ items_behind key e w.history.items (kept_round key e w.history.rounds (closing w key e))
past_is w key e = closing_case (closing w key e)
  where
    round_case : (o : Option RoundBegun) → drop (items_before w key e o) (journal w key e) ≡ items_behind key e w.history.items o
    round_case None = refl
    round_case (Some b) = drop_filter (is_in key e) b.items_before w.history.items

    closing_case : (o : Option ℕ) → drop (kept_at w key e o) (journal w key e) ≡ items_behind key e w.history.items (kept_round key e w.history.rounds o)
    closing_case None = refl
    closing_case (Some m) = round_case (round_at key e m w.history.rounds)

module _ (app : Application) (bound : ℕ) (some : 1 ≤ bound) (w : World) (h : HistoryStands app w) (ages : AgesStand bound w) where
  recent_at : (key : Key) (e : ℕ) → Each (λ (a : Journaled). Each (λ (z : Journaled). z.item.moment < a.item.moment + bound) (last_dirty w key e)) (dirty_ones (past_kept w key e))
  recent_at key e =
      subst (λ l. Each (λ (a : Journaled). Each (λ (z : Journaled). z.item.moment < a.item.moment + bound) (last_dirty w key e)) (dirty_ones l)) (sym (past_is w key e))
      (recent_last bound some (journal w key e) _ (all_end key e w.history.items (kept_round key e w.history.rounds (closing w key e))) (ages.recent e key))

  pub bounded_now : IsBounded app bound w
  bounded_now =
      record {
        flows = each_all (λ (r : Key × Record). BoundedLoss app bound w r.0 r.1.epoch) (committed_records app.cell_count w)
            (λ r i.
            record {
              cells = h.cells r.0 r.1 (member_found (committed_records app.cell_count w) r (records_differ app.cell_count (committed_book w) [] tt) i);
              outputs = λ e n j released at there same. h.outputs r.0 e n j released at (among_in w.history.released released there) same;
              recent = recent_at r.0;
            });
        marks = h.marks;
        order = h.order;
        keyless = h.keyless;
      }
