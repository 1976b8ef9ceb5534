-- Over a run, serial lists go on at their ends alone.
use Rattle.std.proofs.Common.{◌≡◌, ℕ, ◌+◌, List, [], ◌∷◌, ◌++◌, length, drop, Some, sym, ap, subst, true, slice_get}
use Rattle.rp_base.specs.declared.node.Node.{Node}
use Rattle.rp_base.specs.declared.node.Packet.{Packet}
use Rattle.proto_data.specs.declared.message.Body.{Body}
use Rattle.proto_data.specs.declared.message.Entry.{Entry}
use Rattle.proto_data.specs.declared.message.Input.{Input}
use Rattle.proto_data.specs.declared.message.Carried.{Carried}
use Rattle.rp_app.specs.Application.{Application, IsApplication}
use Rattle.proto_data.specs.Carrying.{packet_of}
use Rattle.key_table.specs.Table.{Key}
use Rattle.proto_model.specs.Effects.{switch_moved, replica_moved}
use Rattle.proto_model.specs.Feeds.{packet_at}
use Rattle.proto_model.specs.ReplicaRows.{store_step}
use Rattle.proto_model.specs.Stands.{entries_of}
use Rattle.proto_model.specs.SwitchRows.{switch_step}
use Rattle.proto_model.specs.World.{World, SwitchNode, ReplicaNode, Journaled}
use Rattle.proto_model.specs.WorldStep.{advanced, advanced_replicas, stopped, Stops}
use Rattle.proto_safety.specs.Books.{IsPrefix, committed_of}
use Rattle.proto_safety.proofs.Inductions.Acts.{Fits}
use Rattle.proto_safety.proofs.Store.BooksStep.{moved_committed}
use Rattle.proto_safety.proofs.Messages.FramesCarry.{found_new}
use Rattle.proto_safety.proofs.Inductions.Induction.{Keeps, KeepsGiven, Comes, with_fed}
use Rattle.proto_safety.proofs.Store.LastBook.{advanced_last}
use Rattle.proto_safety.proofs.Serial.SerialLists.{serial_in}
use Rattle.proto_safety.proofs.Legality.ShownStep.{step_serial}
use Rattle.proto_safety.proofs.Nodes.SwitchTable.{msg, no_message}
use Rattle.proto_safety.proofs.Store.WorldBooks.{known_input, stopped_grows}
use Rattle.proto_safety.proofs.Serial.WorldCells.{packet_carried, brought_by, fed_hold}
use Rattle.proto_safety.proofs.Legality.WorldShown.{ShownFacts, answered, book_serial}
use Rattle.proto_safety.proofs.Basics.Prefixes.{prefix_trans}

-- the serial lists of this book and these items go on in the world's
pub record GoesOn (es : List Entry) (items : List Journaled) (later : List Entry) (more : List Journaled) : Type 0 where
  pub at : (key : Key) → IsPrefix (serial_in key es items) (serial_in key later more)

abbrev pub Onward : List Entry → List Journaled → World → Type 0
Onward es items w = GoesOn es items (committed_of w.replicas) w.history.items

module _ (app : Application) (is : IsApplication app) (es : List Entry) (items : List Journaled) (w : World) (f : ShownFacts app w) where
  switch_serial : (n : ℕ) (node : SwitchNode) (input : Input) → slice_get w.switches n ≡ Some node → node.runs ≡ true → Comes w (Node.Switch n) input → Onward es items w → Onward es items (switch_moved w n node (switch_step app node.state node.clock input))
  switch_serial n node input at up comes h =
      let brought = brought_by app w f.cells n input comes in
      let carried : (c : Carried) (key : Key) → ((from to : Node) (inc nonce epoch : ℕ) (cells : List ℕ) → input ≡ msg from to (Body.Grant inc nonce epoch key cells (Some c)) → (packet_at w.history.fed c.mark ≡ Some (packet_of c)) × (app.key_of (packet_of c) ≡ Some key)) =
      λ c key from to inc nonce epoch cells came. packet_carried app w f.cells input n comes c key from to inc nonce epoch cells came in
      record { at = λ key. prefix_trans (h.at key) (step_serial app w w.history.fed n node input f.cells f.hold at up brought carried is (answered app is w f n input comes) w.event key) }

  feed_serial : (n : ℕ) (node : SwitchNode) (p : Packet) → slice_get w.switches n ≡ Some node → node.runs ≡ true → p.mark ≡ w.event + 1 → Onward es items w →
      Onward es items (switch_moved (with_fed w p) n node (switch_step app node.state node.clock (Input.Packet p)))
  feed_serial n node p at up mark h =
      let new = found_new w.history.fed (record { event = w.event + 1; packet = p }) w.event mark f.cells.once.within in
      record {
        at = λ key.
            prefix_trans (h.at key)
            (step_serial app w (w.history.fed ++ record { event = w.event + 1; packet = p } ∷ []) n node (Input.Packet p) f.cells (fed_hold app w f.cells p f.hold) at up new (λ c key from to inc nonce epoch cells came. absurd (no_message p from to came)) is
            (λ from to inc epoch upto key c came. absurd (no_message p from to came)) (w.event + 1) key);
      }

module _ (app : Application) (is : IsApplication app) (es : List Entry) (items : List Journaled) (I : World → Type 0) (k : Keeps app I) (facts : (w : World) → I w → ShownFacts app w) where
  replica_serial : (w : World) (n : ℕ) (node : ReplicaNode) (input : Input) → slice_get w.replicas n ≡ Some node → node.runs ≡ true → Comes w (Node.Replica n) input → I w → Onward es items w → Onward es items (replica_moved w n node (store_step node.state node.clock input))
  replica_serial w n node input at up comes i h =
      let f = facts w i in
      let x = facts (replica_moved w n node (store_step node.state node.clock input)) (k.replicas w n node input at up comes i) in
      let b = f.cells.books in
      record {
        at = λ key.
            prefix_trans (h.at key)
            (book_serial app is w f (committed_of (replica_moved w n node (store_step node.state node.clock input)).replicas)
            (moved_committed b.0 w.config w.replicas n node w.event input at up b.1.configs b.1.nodes (known_input b.0 w n input comes b.1)) x.cells.fits key);
      }

  stopped_serial : (w : World) (n : ℕ) → Fits w (Stops (Node.Replica n)) → I w → Onward es items w → Onward es items (stopped w (Node.Replica n))
  stopped_serial w n fits i h =
      let f = facts w i in
      let x = facts (stopped w (Node.Replica n)) (k.stops_replica w n fits i) in
      record { at = λ key. prefix_trans (h.at key) (book_serial app is w f (committed_of (stopped w (Node.Replica n)).replicas) (stopped_grows f.cells.books.0 w n fits f.cells.books.1) x.cells.fits key) }

  advanced_serial : (w : World) (by : List ℕ) → Onward es items w → Onward es items (advanced w by)
  advanced_serial w by h =
      let same : committed_of (advanced_replicas w.replicas (drop (length w.switches) by)) ≡ committed_of w.replicas = ap entries_of (advanced_last w.replicas (drop (length w.switches) by) []) in
      record { at = λ key. subst (λ l. IsPrefix (serial_in key es items) (serial_in key l w.history.items)) (sym same) (h.at key) }

  pub serial_kept : KeepsGiven app I (Onward es items)
  serial_kept =
      record {
        counts = λ w i h. record { at = h.at };
        passes = λ w n i h. record { at = h.at };
        feeds = λ w n node p at up mark i h. feed_serial app is es items w (facts w i) n node p at up mark h;
        switches = λ w n node input at up from i h. switch_serial app is es items w (facts w i) n node input at up from h;
        replicas = λ w n node input at up from i h. replica_serial w n node input at up from i h;
        advances = λ w by fits i h. advanced_serial w by h;
        stops_switch = λ w n fits i h. record { at = h.at };
        stops_replica = λ w n fits i h. stopped_serial w n fits i h;
        boots = λ w n fits i h. record { at = h.at };
        detects_switch = λ w n fits i h. record { at = h.at };
        detects_replica = λ w n fits i h. record { at = h.at };
        announces = λ w i h. record { at = h.at };
      }
