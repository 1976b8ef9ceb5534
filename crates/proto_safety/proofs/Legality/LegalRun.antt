-- Legal histories over a run: what is kept from event to event, given what ends leases.
use Rattle.std.proofs.Common.{◌≡◌, ◌≢◌, ℕ, List, [], ◌∷◌, ◌++◌, Some, None, map, refl, sym, ap, subst, ◌∙◌, append_assoc}
use Rattle.rp_base.specs.declared.event.Event.{Event}
use Rattle.rp_app.specs.Application.{Application, IsApplication}
use Rattle.proto_model.specs.Legal.{IsLegal}
use Rattle.proto_model.specs.World.{World, Setup, SwitchNode, Journaled, opened, open_replica_node, below}
use Rattle.rp_base.specs.declared.legality.Released.{Released}
use Rattle.proto_model.specs.Committed.{last_running_book, serial_marks}
use Rattle.std.proofs.lemmas.List.{map-append}
use Rattle.proto_safety.specs.CellLaws.{SerialStays}
use Rattle.proto_safety.proofs.Serial.WorldSerial.{Onward, serial_kept}
use Rattle.proto_safety.proofs.Serial.SerialLists.{serial_in}
use Rattle.proto_model.specs.Stands.{entries_of}
use Rattle.key_table.specs.Table.{Key}
use Rattle.proto_data.specs.declared.message.Entry.{Entry}
use Rattle.proto_safety.specs.Flows.{flow_of}
use Rattle.proto_safety.proofs.Serial.FlowCells.{CellsOf}
use Rattle.proto_safety.proofs.Serial.SwitchCells.{SwitchStands}
use Rattle.proto_safety.proofs.Nodes.SwitchNodes.{all_opened}
use Rattle.proto_model.specs.WorldStep.{world_after}
use Rattle.proto_safety.specs.Books.{committed_of}
use Rattle.proto_safety.specs.LeaseLaws.{First}
use Rattle.proto_safety.proofs.Serial.CellFacts.{CellFacts}
use Rattle.proto_safety.proofs.Leasing.CopyNumbers.{Positive, AllPositive, positive, positive_kept}
use Rattle.proto_safety.proofs.Inductions.FlowInduction.{flows_hold}
use Rattle.proto_safety.proofs.Leasing.GroundsKept.{Standing}
use Rattle.proto_safety.proofs.Serial.CellsGround.{Based, based_kept, OverLate, cell_facts}
use Rattle.proto_safety.proofs.Inductions.FirstsInduction.{KeepsFirsts}
use Rattle.proto_safety.proofs.Serial.SlotCells.{AllCounted, counted_kept, all_counted}
use Rattle.proto_safety.proofs.Inductions.Induction.{Keeps, KeepsGiven, keeps_all, keeps_both, run_kept}
use Rattle.proto_safety.proofs.Legality.LegalNow.{legal_now, serial_same}
use Rattle.proto_safety.proofs.Legality.ReleasedLate.{Late, none_early_in}
use Rattle.proto_safety.proofs.Packets.WorldMarks.{MarksOf}
use Rattle.proto_safety.proofs.Serial.WorldCells.{Cells, cells_kept}
use Rattle.proto_safety.proofs.Leasing.WorldFlows.{Replied, replied_kept, flows_rest}
use Rattle.proto_safety.proofs.Store.WorldBooks.{books_hold}
use Rattle.proto_safety.proofs.Store.WorldFits.{opened_fits}
use Rattle.proto_safety.proofs.Store.WorldGathers.{opened_gathers}
use Rattle.proto_safety.proofs.Messages.WorldOrigins.{origins_hold}
use Rattle.proto_safety.proofs.Nodes.WorldSays.{all_say}
use Rattle.proto_safety.proofs.Messages.WorldNonces.{all_nonces}
use Rattle.proto_safety.proofs.Leasing.Ground.{Ground}
use Rattle.proto_safety.proofs.Leasing.FlowRounds.{rounds_rest}
use Rattle.proto_safety.proofs.Leasing.RoundNumbers.{all_numbered}
use Rattle.proto_safety.proofs.Leasing.WorldPutsKept.{opened_puts}
use Rattle.proto_data.specs.declared.terms.Mode.{Mode}
use Rattle.proto_safety.proofs.Legality.WorldOrder.{OrderIn, order_kept}
use Rattle.proto_safety.proofs.Messages.WorldOutputs.{OutputsRide, outputs_kept}
use Rattle.proto_safety.proofs.Legality.WorldShown.{ShownFacts, ShownIn, shown_kept}
use Rattle.proto_safety.proofs.Basics.Lists.{none_before}
use Rattle.proto_safety.proofs.Basics.Pairs.{pairwise_unmapped}
use Rattle.proto_safety.proofs.Basics.Prefixes.{prefix_same}

-- what is kept of the first sendings is kept of some of them
pub some_firsts : (app : Application) (I : World → Type 0) (J : List First → World → Type 0) → KeepsFirsts app I J → KeepsGiven app I (λ w. (fs : List First) × J fs w)
some_firsts app I J k =
    record {
      counts = λ w i h. (h.0, k.counts w h.0 i h.1);
      passes = λ w n i h. (h.0, k.passes w h.0 n i h.1);
      feeds = λ w n node p at up mark i h. (_, k.feeds w h.0 n node p at up mark i h.1);
      switches = λ w n node input at up from i h. (_, k.switches w h.0 n node input at up from i h.1);
      replicas = λ w n node input at up from i h. (h.0, k.replicas w h.0 n node input at up from i h.1);
      advances = λ w by fits i h. (h.0, k.advances w h.0 by fits i h.1);
      stops_switch = λ w n fits i h. (h.0, k.stops_switch w h.0 n fits i h.1);
      stops_replica = λ w n fits i h. (h.0, k.stops_replica w h.0 n fits i h.1);
      boots = λ w n fits i h. (h.0, k.boots w h.0 n fits i h.1);
      detects_switch = λ w n fits i h. (h.0, k.detects_switch w h.0 n fits i h.1);
      detects_replica = λ w n fits i h. (h.0, k.detects_replica w h.0 n fits i h.1);
      announces = λ w i h. (h.0, k.announces w h.0 i h.1);
    }

-- and is kept given more
pub firsts_given : (app : Application) (I K : World → Type 0) (J : List First → World → Type 0) → ((w : World) → I w → K w) → KeepsFirsts app K J → KeepsFirsts app I J
firsts_given app I K J f k =
    record {
      counts = λ w fs i h. k.counts w fs (f w i) h;
      passes = λ w fs n i h. k.passes w fs n (f w i) h;
      feeds = λ w fs n node p at up mark i h. k.feeds w fs n node p at up mark (f w i) h;
      switches = λ w fs n node input at up from i h. k.switches w fs n node input at up from (f w i) h;
      replicas = λ w fs n node input at up from i h. k.replicas w fs n node input at up from (f w i) h;
      advances = λ w fs by fits i h. k.advances w fs by fits (f w i) h;
      stops_switch = λ w fs n fits i h. k.stops_switch w fs n fits (f w i) h;
      stops_replica = λ w fs n fits i h. k.stops_replica w fs n fits (f w i) h;
      boots = λ w fs n fits i h. k.boots w fs n fits (f w i) h;
      detects_switch = λ w fs n fits i h. k.detects_switch w fs n fits (f w i) h;
      detects_replica = λ w fs n fits i h. k.detects_replica w fs n fits (f w i) h;
      announces = λ w fs i h. k.announces w fs (f w i) h;
    }

-- all but the ends of leases, with replies and the outputs that ride along
abbrev pub Riding : Application → World → Type 0
Riding app w = AllCounted app w × OutputsRide w

abbrev pub Laid : Application → World → Type 0
Laid app w = Based app w × ((Replied app.cell_count w × Riding app w) × AllPositive app w)

pub laid_kept : (app : Application) → IsApplication app → Keeps app (Laid app)
laid_kept app is =
    keeps_all app (Based app) (λ w. (Replied app.cell_count w × Riding app w) × AllPositive app w) (based_kept app)
    (keeps_all app (λ w. Replied app.cell_count w × Riding app w) (AllPositive app)
    (keeps_all app (Replied app.cell_count) (Riding app) (replied_kept app) (keeps_both app (AllCounted app) OutputsRide (counted_kept app) (outputs_kept app is))) (positive_kept app))

-- what is laid stands
pub laid_stands : (app : Application) (w : World) → Laid app w → Standing app w
laid_stands app w l = (l.0.0, l.1.1)

-- ---- the start

opened_book : (cells : ℕ) (setup : Setup) (ns : List ℕ) → last_running_book (map (open_replica_node cells setup) ns) [] ≡ []
opened_book cells setup [] = refl
opened_book cells setup (n ∷ ns) = opened_book cells setup ns

no_cells : (app : Application) (key : Key) (es : List Entry) → es ≡ [] → CellsOf app [] es [] key
no_cells app key es is =
    record {
      committed = λ f flow. let no : None ≡ Some f = subst (λ l. flow_of app.cell_count key l ≡ Some f) is flow in cc;
      made = λ e. record { at = λ pre j post at. absurd (none_before pre post j at) };
    }

pub opened_cells : (app : Application) (setup : Setup) → Cells app (opened app.cell_count setup)
opened_cells app setup =
    record {
      flows = λ key. no_cells app key (committed_of (opened app.cell_count setup).replicas) (ap entries_of (opened_book app.cell_count setup (below setup.replicas)));
      slots = all_opened (λ n (node : SwitchNode). SwitchStands app [] (committed_of (opened app.cell_count setup).replicas) [] node.state) setup (λ n. record { at = λ key slot e found leased. cc });
      puts = λ e k key delta q. absurd q.there;
    }

pub opened_shown : (app : Application) (setup : Setup) → ShownIn app (opened app.cell_count setup)
opened_shown app setup = record { at = λ r i. absurd i }

pub opened_order : (app : Application) (setup : Setup) → OrderIn app (opened app.cell_count setup)
opened_order app setup = record { within = tt; at = λ r i. absurd i }

opened_replied : (app : Application) (setup : Setup) → Replied app.cell_count (opened app.cell_count setup)
opened_replied app setup = ((books_hold app setup [], opened_fits app.cell_count setup), tt)

pub opened_ground : (app : Application) (setup : Setup) → Ground app.cell_count (opened app.cell_count setup)
opened_ground app setup = (
  ((opened_replied app setup, (flows_rest app setup [], (rounds_rest app setup [], all_numbered app setup []))), ((books_hold app setup [], opened_gathers app.cell_count setup), origins_hold app setup [])),
  (((books_hold app setup [], all_say app setup []), all_nonces app setup []), record { switches = all_opened (λ n (node : SwitchNode). node.state.terms ≡ setup.terms) setup (λ n. refl) }),
)

-- in every mode
pub opened_standing : (app : Application) (setup : Setup) → Standing app (opened app.cell_count setup)
opened_standing app setup = ((opened_ground app setup, opened_puts app.cell_count setup), flows_hold app Positive (positive app) setup [])

pub opened_laid : (app : Application) (setup : Setup) → setup.terms.mode ≡ Mode.Strict → Laid app (opened app.cell_count setup)
opened_laid app setup strict = (
  ((opened_ground app setup, opened_puts app.cell_count setup), ((record { within = tt; differ = tt }, tt), ((opened_ground app setup, strict), tt))),
  ((opened_replied app setup, (all_counted app setup [], tt)), flows_hold app Positive (positive app) setup []),
)

-- ---- the run

module _ (app : Application) (is : IsApplication app) (E : World → Type 0) (e : KeepsGiven app (Laid app) E) (ends : (w : World) → Laid app w → E w → OverLate w) where
  abbrev pub Ended : World → Type 0
  Ended w = Laid app w × E w

  ended_kept : Keeps app Ended
  ended_kept = keeps_both app (Laid app) E (laid_kept app is) e

  facts : (w : World) → Ended w → CellFacts app w
  facts w i = cell_facts app w i.0.0 (ends w i.0 i.1)

  abbrev pub Celled : World → Type 0
  Celled w = Ended w × Cells app w

  celled_kept : Keeps app Celled
  celled_kept = keeps_both app Ended (Cells app) ended_kept (cells_kept app Ended ended_kept facts)

  shown_facts : (w : World) → Celled w → ShownFacts app w
  shown_facts w i = record { cells = facts w i.0; hold = i.1; replies = i.0.0.1.0.0.1; rides = i.0.0.1.0.1.1 }

  abbrev pub Showing : World → Type 0
  Showing w = Celled w × ShownIn app w

  showing_kept : Keeps app Showing
  showing_kept = keeps_both app Celled (ShownIn app) celled_kept (shown_kept app is Celled celled_kept shown_facts)

  abbrev pub Lawful : World → Type 0
  Lawful w = Showing w × OrderIn app w

  pub lawful_kept : Keeps app Lawful
  lawful_kept = keeps_both app Showing (OrderIn app) showing_kept (order_kept app is Showing showing_kept (λ w i. shown_facts w i.0))

  -- what is known of the cells after every list of events
  pub known_after : (setup : Setup) (events : List Event) → Ended (opened app.cell_count setup) →
      (Laid app (world_after app (opened app.cell_count setup) events) × OverLate (world_after app (opened app.cell_count setup) events)) × (ShownFacts app (world_after app (opened app.cell_count setup) events) × ShownIn app (world_after app (opened app.cell_count setup) events))
  known_after setup events start =
      let h : Showing (world_after app (opened app.cell_count setup) events) = run_kept app Showing showing_kept events (opened app.cell_count setup) ((start, opened_cells app setup), opened_shown app setup) in
      ((h.0.0.0, ends (world_after app (opened app.cell_count setup) events) h.0.0.0 h.0.0.1), (shown_facts (world_after app (opened app.cell_count setup) events) h.0, h.1))

  -- a serial list goes on at its end, so what stands before a released mark there stays
  pub serial_stays : (setup : Setup) (events more : List Event) → Ended (opened app.cell_count setup) → SerialStays app (world_after app (opened app.cell_count setup) events) (world_after app (world_after app (opened app.cell_count setup) events) more)
  serial_stays setup events more start key front behind r i keyed marks =
      let old = world_after app (opened app.cell_count setup) events in
      let h : Celled (world_after app (opened app.cell_count setup) events) = run_kept app Celled celled_kept events (opened app.cell_count setup) (start, opened_cells app setup) in
      goes_on (world_after app (opened app.cell_count setup) events) (world_after app (world_after app (opened app.cell_count setup) events) more) key front behind r.output.mark
      (run_kept app (λ w. Celled w × Onward (committed_of old.replicas) old.history.items w)
      (keeps_both app Celled (Onward (committed_of old.replicas) old.history.items) celled_kept (serial_kept app is (committed_of old.replicas) old.history.items Celled celled_kept shown_facts)) more old
      (h, record { at = λ k. prefix_same (serial_in k (committed_of old.replicas) old.history.items) })).1 marks
    where
      goes_on : (old new : World) (key : Key) (front behind : List ℕ) (m : ℕ) → Onward (committed_of old.replicas) old.history.items new → serial_marks old key ≡ front ++ m ∷ behind → (rest : List ℕ) × (serial_marks new key ≡ front ++ m ∷ rest)
      goes_on old new key front behind m h is =
          let p = h.at key in (
            behind ++ map (λ (j : Journaled). j.item.mark) p.rest,
            ap (λ l. map (λ (j : Journaled). j.item.mark) l) (serial_same new key ∙ sym p.is)
                ∙ (map-append (λ (j : Journaled). j.item.mark) (serial_in key (committed_of old.replicas) old.history.items) p.rest
                ∙ (ap (λ l. map (λ (j : Journaled). j.item.mark) l ++ map (λ (j : Journaled). j.item.mark) p.rest) (sym (serial_same old key))
                ∙ (ap (λ l. l ++ map (λ (j : Journaled). j.item.mark) p.rest) is ∙ append_assoc front (m ∷ behind) (map (λ (j : Journaled). j.item.mark) p.rest)))),
          )

  -- of one world
  pub legal_at : (w : World) → Lawful w → MarksOf w → Late w → IsLegal app w
  legal_at w h marks l =
      let f = facts w h.0.0.0 in
      legal_now app w
      (record {
        fits = f.fits;
        known = f.known;
        flows = h.0.0.1.flows;
        once = pairwise_unmapped (λ a b. a ≢ b) (λ (j : Journaled). j.item.mark) w.history.items marks.items_once;
        released_once = pairwise_unmapped (λ a b. a ≢ b) (λ (r : Released). r.output.mark) w.history.released marks.released_once;
        shown = h.0.1;
        order = h.1;
        none_early = none_early_in w l;
      })
