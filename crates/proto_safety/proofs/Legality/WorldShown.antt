-- Over a run, what was released is shown by the committed serial lists, which go on at their ends alone.
use Rattle.std.proofs.Common.{◌≡◌, ◌⊎◌, ℕ, ◌+◌, List, [], ◌∷◌, ◌++◌, Option, Some, None, refl, sym, ◌∙◌, ap, subst, true, inl, inr, slice_get, ◌≤◌, length, drop}
use Rattle.std.specs.Prelude.{option_and_then}
use Rattle.rp_base.specs.declared.node.Node.{Node}
use Rattle.rp_base.specs.declared.node.Packet.{Packet}
use Rattle.rp_base.specs.declared.node.Output.{Output}
use Rattle.proto_data.specs.declared.message.Msg.{Msg}
use Rattle.proto_data.specs.declared.message.Body.{Body}
use Rattle.proto_data.specs.declared.message.Entry.{Entry}
use Rattle.proto_data.specs.declared.message.Input.{Input}
use Rattle.proto_data.specs.declared.message.Carried.{Carried}
use Rattle.rp_app.specs.Application.{Application, IsApplication}
use Rattle.proto_data.specs.Carrying.{packet_of}
use Rattle.key_table.specs.Table.{Key}
use Rattle.proto_model.specs.Effects.{added, switch_moved, replica_moved}
use Rattle.proto_model.specs.Feeds.{packet_at, key_at}
use Rattle.proto_model.specs.ReplicaRows.{store_step}
use Rattle.proto_model.specs.Stands.{entries_of}
use Rattle.proto_model.specs.SwitchRows.{switch_step}
use Rattle.proto_model.specs.World.{World, SwitchNode, ReplicaNode, Journaled}
use Rattle.rp_base.specs.declared.legality.Fed.{Fed}
use Rattle.rp_base.specs.declared.legality.Released.{Released}
use Rattle.proto_model.specs.WorldStep.{advanced, advanced_replicas, stopped, Stops}
use Rattle.proto_safety.specs.Books.{In, IsPrefix, committed_of}
use Rattle.proto_safety.specs.Flows.{AckedIn, FitsFrom, Reply}
use Rattle.proto_safety.specs.Loads.{IsItemOutput, OnOutput}
use Rattle.proto_safety.proofs.Inductions.Acts.{Fits}
use Rattle.proto_safety.proofs.Store.BooksStep.{moved_committed}
use Rattle.proto_safety.proofs.Serial.CellFacts.{CellFacts}
use Rattle.proto_safety.proofs.Serial.CellsFed.{items_found}
use Rattle.proto_safety.proofs.Messages.FramesCarry.{found_still, found_new}
use Rattle.proto_safety.proofs.Inductions.Induction.{Keeps, KeepsGiven, Comes, with_fed}
use Rattle.proto_safety.proofs.Store.LastBook.{advanced_last}
use Rattle.proto_safety.proofs.Legality.ReleasesStep.{Shown, keyless, of_item}
use Rattle.proto_safety.proofs.Serial.SerialGrows.{serial_book_grows}
use Rattle.proto_safety.proofs.Serial.SerialLists.{serial_in}
use Rattle.proto_safety.proofs.Legality.ShownStep.{step_shown, step_serial}
use Rattle.proto_safety.proofs.Nodes.SwitchTable.{msg, no_message}
use Rattle.proto_safety.proofs.Store.WorldBooks.{known_input, stopped_grows}
use Rattle.proto_safety.proofs.Serial.WorldCells.{Cells, packet_carried, brought_by, fed_hold}
use Rattle.proto_safety.proofs.Messages.WorldOutputs.{OutputsRide}
use Rattle.proto_safety.proofs.Messages.WorldReplies.{FramesReply}
use Rattle.proto_safety.proofs.Basics.Eachs.{each_at}
use Rattle.proto_safety.proofs.Basics.Members.{in_append}
use Rattle.proto_safety.proofs.Basics.Prefixes.{in_prefix}

pub record Shows (app : Application) (feeds : List Fed) (es : List Entry) (items : List Journaled) (released : List Released) : Type 0 where
  pub at : (r : Released) → In released r → Shown app feeds es items r.output

abbrev pub ShownIn : Application → World → Type 0
ShownIn app w = Shows app w.history.fed (committed_of w.replicas) w.history.items w.history.released

-- ---- more feeds, and longer lists

pub key_still : (app : Application) (fed : List Fed) (f : Fed) (m : ℕ) (key : Key) → key_at app fed m ≡ Some key → key_at app (fed ++ f ∷ []) m ≡ Some key
key_still app fed f m key h = still_case (packet_at fed m) refl h
  where
    still_case : (o : Option Packet) → packet_at fed m ≡ o → option_and_then app.key_of o ≡ Some key → key_at app (fed ++ f ∷ []) m ≡ Some key
    still_case None is at = cc
    still_case (Some p) is at = ap (λ o. option_and_then app.key_of o) (found_still fed f m p is) ∙ at

fed_shown : (app : Application) (fed : List Fed) (f : Fed) (es : List Entry) (items : List Journaled) (o : Output) → Shown app fed es items o → Shown app (fed ++ f ∷ []) es items o
fed_shown app fed f es items o (keyless p at of out) = keyless p (found_still fed f o.mark p at) of out
fed_shown app fed f es items o (of_item key j there mark out key_is) = of_item key j there mark out (key_still app fed f o.mark key key_is)

pub longer_shown : (app : Application) (fed : List Fed) (es later : List Entry) (items more : List Journaled) (o : Output) → ((key : Key) → IsPrefix (serial_in key es items) (serial_in key later more)) → Shown app fed es items o → Shown app fed later more o
longer_shown app fed es later items more o prefix (keyless p at of out) = keyless p at of out
longer_shown app fed es later items more o prefix (of_item key j there mark out key_is) = of_item key j (in_prefix _ _ j (prefix key) there) mark out key_is

-- what is released is shown, with what was released before
more_shown : (app : Application) (fed : List Fed) (es : List Entry) (items more : List Journaled) (released : List Released) (event : ℕ) (out : Option Output) → ((key : Key) → IsPrefix (serial_in key es items) (serial_in key es more)) →
    ((o : Output) → out ≡ Some o → Shown app fed es more o) → Shows app fed es items released → Shows app fed es more (released ++ added (λ (o : Output). record { event = event; output = o }) out)
more_shown app fed es items more released event out prefix new h =
    record { at = λ r i. part_case r (in_append released (added (λ (o : Output). record { event = event; output = o }) out) r i) }
  where
    new_case : (r : Released) (x : Option Output) → out ≡ x → In (added (λ (o : Output). record { event = event; output = o }) x) r → Shown app fed es more r.output
    new_case r None is i = absurd i
    new_case r (Some o) is (inl e) = subst (λ (x : Released). Shown app fed es more x.output) e (new o is)
    new_case r (Some o) is (inr i) = absurd i

    part_case : (r : Released) → In released r ⊎ In (added (λ (o : Output). record { event = event; output = o }) out) r → Shown app fed es more r.output
    part_case r (inl i) = longer_shown app fed es es items more r.output prefix (h.at r i)
    part_case r (inr i) = new_case r out refl i

-- ---- the world

-- what holds of a world in which releases are shown
pub record ShownFacts (app : Application) (w : World) : Type 0 where
  pub cells : CellFacts app w
  pub hold : Cells app w
  pub replies : FramesReply app.cell_count w
  pub rides : OutputsRide w

module _ (app : Application) (is : IsApplication app) (w : World) (f : ShownFacts app w) where
  -- what an Ack brings
  pub answered : (n : ℕ) (input : Input) → Comes w (Node.Switch n) input → (from to : Node) (inc epoch upto : ℕ) (key : Key) (c : Carried) → input ≡ msg from to (Body.Ack inc epoch upto key (Some c)) →
      AckedIn (committed_of w.replicas) epoch upto key × ((number : ℕ) × ((number ≤ upto) × (IsItemOutput w.history.items key epoch number c × (key_at app w.history.fed c.mark ≡ Some key))))
  answered n input comes from to inc epoch upto key c came =
      let there : Comes w (Node.Switch n) (msg from to (Body.Ack inc epoch upto key (Some c))) = subst (λ x. Comes w (Node.Switch n) x) came comes in
      let o = each_at (λ (m : Msg). OnOutput (IsItemOutput w.history.items) m.body) w.frames there.1.0 _ f.rides there.1.1 in
      let j = o.1.1 in
      let p = items_found app w.history.fed (committed_of w.replicas) w.history.items f.hold.flows j.item j.there in
      let keyed : key_at app w.history.fed c.mark ≡ Some key = ap (λ m. key_at app w.history.fed m) (sym j.mark_is) ∙ (ap (λ x. option_and_then app.key_of x) p.1.0 ∙ (p.1.1 ∙ ap Some j.key_is)) in
      (each_at (λ (m : Msg). Reply app.cell_count (committed_of w.replicas) m.to m.body) w.frames there.1.0 _ f.replies there.1.1, (o.0, (o.1.0, (j, keyed))))

  switch_shown : (n : ℕ) (node : SwitchNode) (input : Input) → slice_get w.switches n ≡ Some node → node.runs ≡ true → Comes w (Node.Switch n) input → ShownIn app w → ShownIn app (switch_moved w n node (switch_step app node.state node.clock input))
  switch_shown n node input at up comes h =
      let brought = brought_by app w f.cells n input comes in
      let carried : (c : Carried) (key : Key) → ((from to : Node) (inc nonce epoch : ℕ) (cells : List ℕ) → input ≡ msg from to (Body.Grant inc nonce epoch key cells (Some c)) → (packet_at w.history.fed c.mark ≡ Some (packet_of c)) × (app.key_of (packet_of c) ≡ Some key)) =
      λ c key from to inc nonce epoch cells came. packet_carried app w f.cells input n comes c key from to inc nonce epoch cells came in
      more_shown app w.history.fed (committed_of w.replicas) w.history.items _ w.history.released w.event (switch_step app node.state node.clock input).1.released
      (λ key. step_serial app w w.history.fed n node input f.cells f.hold at up brought carried is (answered n input comes) w.event key)
      (λ o out. step_shown app w w.history.fed n node input f.cells f.hold at up brought carried is (answered n input comes) w.event o out) h

  feed_shown : (n : ℕ) (node : SwitchNode) (p : Packet) → slice_get w.switches n ≡ Some node → node.runs ≡ true → p.mark ≡ w.event + 1 → ShownIn app w →
      ShownIn app (switch_moved (with_fed w p) n node (switch_step app node.state node.clock (Input.Packet p)))
  feed_shown n node p at up mark h =
      let new = found_new w.history.fed (record { event = w.event + 1; packet = p }) w.event mark f.cells.once.within in
      let hold = fed_hold app w f.cells p f.hold in
      more_shown app feeds (committed_of w.replicas) w.history.items _ w.history.released (w.event + 1) (switch_step app node.state node.clock (Input.Packet p)).1.released
      (λ key. step_serial app w feeds n node (Input.Packet p) f.cells hold at up new (λ c key from to inc nonce epoch cells came. absurd (no_message p from to came)) is (λ from to inc epoch upto key c came. absurd (no_message p from to came)) (w.event + 1) key)
      (λ o out. step_shown app w feeds n node (Input.Packet p) f.cells hold at up new (λ c key from to inc nonce epoch cells came. absurd (no_message p from to came)) is (λ from to inc epoch upto key c came. absurd (no_message p from to came)) (w.event + 1) o out)
      (record { at = λ r i. fed_shown app w.history.fed (record { event = w.event + 1; packet = p }) (committed_of w.replicas) w.history.items r.output (h.at r i) })
    where
      feeds : List Fed
      feeds = w.history.fed ++ record { event = w.event + 1; packet = p } ∷ []

  -- the committed book goes on
  pub book_serial : (later : List Entry) → IsPrefix (committed_of w.replicas) later → ((key : Key) → FitsFrom app.cell_count key None later) → (key : Key) → IsPrefix (serial_in key (committed_of w.replicas) w.history.items) (serial_in key later w.history.items)
  book_serial later prefix fits key =
      subst (λ l. IsPrefix (serial_in key (committed_of w.replicas) w.history.items) (serial_in key l w.history.items)) prefix.is
      (serial_book_grows app.cell_count key (committed_of w.replicas) prefix.rest w.history.items (subst (λ l. FitsFrom app.cell_count key None l) (sym prefix.is) (fits key)) (f.cells.known key))

  book_shown : (later : List Entry) → IsPrefix (committed_of w.replicas) later → ((key : Key) → FitsFrom app.cell_count key None later) → ShownIn app w → Shows app w.history.fed later w.history.items w.history.released
  book_shown later prefix fits h =
      record { at = λ r i. longer_shown app w.history.fed (committed_of w.replicas) later w.history.items w.history.items r.output (book_serial later prefix fits) (h.at r i) }

module _ (app : Application) (is : IsApplication app) (I : World → Type 0) (k : Keeps app I) (facts : (w : World) → I w → ShownFacts app w) where
  replica_shown : (w : World) (n : ℕ) (node : ReplicaNode) (input : Input) → slice_get w.replicas n ≡ Some node → node.runs ≡ true → Comes w (Node.Replica n) input → I w → ShownIn app w → ShownIn app (replica_moved w n node (store_step node.state node.clock input))
  replica_shown w n node input at up comes i h =
      let f = facts w i in
      let x = facts (replica_moved w n node (store_step node.state node.clock input)) (k.replicas w n node input at up comes i) in
      let b = f.cells.books in
      let g = book_shown app is w f (committed_of (replica_moved w n node (store_step node.state node.clock input)).replicas)
      (moved_committed b.0 w.config w.replicas n node w.event input at up b.1.configs b.1.nodes (known_input b.0 w n input comes b.1)) x.cells.fits h in
      record { at = g.at }

  stopped_shown : (w : World) (n : ℕ) → Fits w (Stops (Node.Replica n)) → I w → ShownIn app w → ShownIn app (stopped w (Node.Replica n))
  stopped_shown w n fits i h =
      let f = facts w i in
      let x = facts (stopped w (Node.Replica n)) (k.stops_replica w n fits i) in
      let g = book_shown app is w f (committed_of (stopped w (Node.Replica n)).replicas) (stopped_grows f.cells.books.0 w n fits f.cells.books.1) x.cells.fits h in
      record { at = g.at }

  advanced_shown : (w : World) (by : List ℕ) → ShownIn app w → ShownIn app (advanced w by)
  advanced_shown w by h =
      let same : committed_of (advanced_replicas w.replicas (drop (length w.switches) by)) ≡ committed_of w.replicas = ap entries_of (advanced_last w.replicas (drop (length w.switches) by) []) in
      record { at = λ r i. subst (λ es. Shown app w.history.fed es w.history.items r.output) (sym same) (h.at r i) }

  pub shown_kept : KeepsGiven app I (ShownIn app)
  shown_kept =
      record {
        counts = λ w i h. record { at = h.at };
        passes = λ w n i h. record { at = h.at };
        feeds = λ w n node p at up mark i h. feed_shown app is w (facts w i) n node p at up mark h;
        switches = λ w n node input at up from i h. switch_shown app is w (facts w i) n node input at up from h;
        replicas = λ w n node input at up from i h. replica_shown w n node input at up from i h;
        advances = λ w by fits i h. advanced_shown w by h;
        stops_switch = λ w n fits i h. record { at = h.at };
        stops_replica = λ w n fits i h. stopped_shown w n fits i h;
        boots = λ w n fits i h. record { at = h.at };
        detects_switch = λ w n fits i h. record { at = h.at };
        detects_replica = λ w n fits i h. record { at = h.at };
        announces = λ w i h. record { at = h.at };
      }
