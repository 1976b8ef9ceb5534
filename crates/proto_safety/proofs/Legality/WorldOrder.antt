-- Over a run, what stands before a released item in its serial list was fed no later than the item was released.
use Rattle.std.proofs.Common.{◌≡◌, ◌⊎◌, ℕ, ◌+◌, ◌≤◌, List, [], ◌∷◌, ◌++◌, length, drop, append_assoc, Option, Some, None, arith, refl, sym, ◌∙◌, ap, subst, true, inl, inr, slice_get}
use Rattle.std.specs.Prelude.{option_map, find, if◌then◌else◌, ◌==◌, Bool, false}
use Rattle.std.proofs.Common.{eqb-true}
use Rattle.rp_base.specs.declared.node.Node.{Node}
use Rattle.rp_base.specs.declared.node.Packet.{Packet}
use Rattle.rp_base.specs.declared.node.Output.{Output}
use Rattle.proto_data.specs.declared.message.Entry.{Entry}
use Rattle.proto_data.specs.declared.message.Body.{Body}
use Rattle.proto_data.specs.declared.message.Input.{Input}
use Rattle.proto_data.specs.declared.message.Carried.{Carried}
use Rattle.rp_app.specs.Application.{Application, IsApplication}
use Rattle.proto_data.specs.Carrying.{packet_of}
use Rattle.key_table.specs.Table.{Key}
use Rattle.proto_model.specs.Effects.{added, switch_moved, replica_moved}
use Rattle.proto_model.specs.Feeds.{Each, packet_at, key_at}
use Rattle.proto_model.specs.ReplicaRows.{store_step}
use Rattle.proto_model.specs.Stands.{entries_of}
use Rattle.proto_model.specs.SwitchRows.{switch_step}
use Rattle.proto_model.specs.World.{World, SwitchNode, ReplicaNode, Journaled}
use Rattle.rp_base.specs.declared.legality.Fed.{Fed}
use Rattle.rp_base.specs.declared.legality.Released.{Released}
use Rattle.proto_model.specs.WorldStep.{advanced, advanced_replicas, stopped, Stops}
use Rattle.proto_safety.specs.Books.{In, IsPrefix, committed_of}
use Rattle.proto_safety.specs.Flows.{FitsFrom}
use Rattle.proto_safety.proofs.Inductions.Acts.{Fits}
use Rattle.proto_safety.proofs.Store.BooksStep.{moved_committed}
use Rattle.proto_safety.proofs.Serial.CellsFed.{items_found, serial_items}
use Rattle.proto_safety.proofs.Serial.FlowCells.{CellsOf}
use Rattle.proto_safety.proofs.Messages.FramesCarry.{found_still, found_new}
use Rattle.proto_safety.proofs.Inductions.Induction.{Keeps, KeepsGiven, Comes, with_fed}
use Rattle.proto_safety.proofs.Store.LastBook.{advanced_last}
use Rattle.proto_safety.proofs.Legality.ReleasesStep.{Shown, keyless, of_item}
use Rattle.proto_safety.proofs.Serial.SerialLists.{serial_in}
use Rattle.proto_safety.proofs.Legality.ShownStep.{step_shown, step_serial}
use Rattle.proto_safety.proofs.Nodes.SwitchTable.{msg, no_message}
use Rattle.proto_safety.proofs.Store.WorldBooks.{known_input, stopped_grows}
use Rattle.proto_safety.proofs.Serial.WorldCells.{packet_carried, brought_by, fed_hold}
use Rattle.proto_safety.proofs.Legality.WorldShown.{ShownFacts, key_still, answered, book_serial}
use Rattle.proto_safety.proofs.Basics.Eachs.{each_append, each_in, each_weaker}
use Rattle.proto_safety.proofs.Basics.Members.{decomposed, in_append, in_front}

-- an item with this mark, and what stands before it was fed by this event
pub record Placed (feeds : List Fed) (serial : List Journaled) (event m : ℕ) : Type 0 where
  pub pre : List Journaled
  pub post : List Journaled
  pub item : Journaled
  pub is : serial ≡ pre ++ item ∷ post
  pub mark_is : item.item.mark ≡ m
  pub earlier : (q : Journaled) → In pre q → (f : Fed) → In feeds f → f.packet.mark ≡ q.item.mark → f.event ≤ event

pub data Ordered (app : Application) (feeds : List Fed) (es : List Entry) (items : List Journaled) (r : Released) : Type 0 where
  unkeyed : (p : Packet) → packet_at feeds r.output.mark ≡ Some p → app.key_of p ≡ None → Ordered app feeds es items r
  placed : (key : Key) → key_at app feeds r.output.mark ≡ Some key → Placed feeds (serial_in key es items) r.event r.output.mark → Ordered app feeds es items r

pub record Orders (app : Application) (event : ℕ) (feeds : List Fed) (es : List Entry) (items : List Journaled) (released : List Released) : Type 0 where
  pub within : Each (λ (f : Fed). f.event ≤ event) feeds
  pub at : (r : Released) → In released r → Ordered app feeds es items r

abbrev pub OrderIn : Application → World → Type 0
OrderIn app w = Orders app w.event w.history.fed (committed_of w.replicas) w.history.items w.history.released

-- ---- longer lists, and one more feed

longer_placed : {feeds : List Fed} {serial later : List Journaled} {event m : ℕ} → IsPrefix serial later → Placed feeds serial event m → Placed feeds later event m
longer_placed p h =
    record {
      pre = h.pre;
      post = h.post ++ p.rest;
      item = h.item;
      is = sym p.is ∙ (ap (λ l. l ++ p.rest) h.is ∙ append_assoc h.pre (h.item ∷ h.post) p.rest);
      mark_is = h.mark_is;
      earlier = h.earlier;
    }

longer_ordered : (app : Application) (fed : List Fed) (es later : List Entry) (items more : List Journaled) (r : Released) → ((key : Key) → IsPrefix (serial_in key es items) (serial_in key later more)) → Ordered app fed es items r → Ordered app fed later more r
longer_ordered app fed es later items more r prefix (unkeyed p at of) = unkeyed p at of
longer_ordered app fed es later items more r prefix (placed key at h) = placed key at (longer_placed (prefix key) h)

found_within : (feeds : List Fed) (m event : ℕ) (p : Packet) → Each (λ (f : Fed). f.packet.mark ≤ event) feeds → packet_at feeds m ≡ Some p → m ≤ event
found_within [] m event p h at = cc
found_within (f ∷ fs) m event p h at = mark_case (f.packet.mark == m) refl at (found_within fs m event p h.1)
  where
    mark_case : (b : Bool) → (f.packet.mark == m) ≡ b → option_map (λ (g : Fed). g.packet) (if b then Some f else find (λ (g : Fed). g.packet.mark == m) fs) ≡ Some p → (packet_at fs m ≡ Some p → m ≤ event) → m ≤ event
    mark_case true is found rest = let e : f.packet.mark ≡ m = eqb-true f.packet.mark m is in omega (arith, e, h.0)
    mark_case false is found rest = rest found

fed_ordered : (app : Application) (fed : List Fed) (f : Fed) (event : ℕ) (es : List Entry) (items : List Journaled) (r : Released) → f.packet.mark ≡ event + 1 → Each (λ (g : Fed). g.packet.mark ≤ event) fed → ((key : Key) → CellsOf app fed es items key) →
    Ordered app fed es items r → Ordered app (fed ++ f ∷ []) es items r
fed_ordered app fed f event es items r mark within h (unkeyed p at of) = unkeyed p (found_still fed f r.output.mark p at) of
fed_ordered app fed f event es items r mark within h (placed key at p) =
    placed key (key_still app fed f r.output.mark key at)
    (record { pre = p.pre; post = p.post; item = p.item; is = p.is; mark_is = p.mark_is; earlier = λ q i g j same. part_case q i g same (in_append fed (f ∷ []) g j) })
  where
    part_case : (q : Journaled) → In p.pre q → (g : Fed) → g.packet.mark ≡ q.item.mark → In fed g ⊎ In (f ∷ []) g → g.event ≤ r.event
    part_case q i g same (inl j) = p.earlier q i g j same
    part_case q i g same (inr (inl e)) =
        let there : In (serial_in key es items) q = subst (λ l. In l q) (sym p.is) (in_front p.pre (p.item ∷ p.post) q i) in
        let x = items_found app fed es items h q (serial_items key es items q there) in
        let low : q.item.mark ≤ event = found_within fed q.item.mark event x.0 within x.1.0 in
        absurd (omega (arith, low, mark, same, ap (λ (y : Fed). y.packet.mark) e))
    part_case q i g same (inr (inr j)) = absurd j

-- what is released now
new_ordered : (app : Application) (fed : List Fed) (es : List Entry) (items : List Journaled) (event : ℕ) (o : Output) → Each (λ (f : Fed). f.event ≤ event) fed → Shown app fed es items o → Ordered app fed es items (record { event = event; output = o })
new_ordered app fed es items event o within (keyless p at of out) = unkeyed p at of
new_ordered app fed es items event o within (of_item key j there mark out key_is) =
    let d = decomposed (serial_in key es items) j there in
    placed key key_is (record { pre = d.0; post = d.1; item = j; is = d.2; mark_is = mark; earlier = λ q i f k same. each_in (λ (f : Fed). f.event ≤ event) fed f within k })

more_ordered : (app : Application) (fed : List Fed) (es : List Entry) (items more : List Journaled) (released : List Released) (event : ℕ) (out : Option Output) → ((key : Key) → IsPrefix (serial_in key es items) (serial_in key es more)) →
    ((o : Output) → out ≡ Some o → Shown app fed es more o) → Orders app event fed es items released → Orders app event fed es more (released ++ added (λ (o : Output). record { event = event; output = o }) out)
more_ordered app fed es items more released event out prefix new h =
    record { within = h.within; at = λ r i. part_case r (in_append released (added (λ (o : Output). record { event = event; output = o }) out) r i) }
  where
    new_case : (r : Released) (x : Option Output) → out ≡ x → In (added (λ (o : Output). record { event = event; output = o }) x) r → Ordered app fed es more r
    new_case r None is i = absurd i
    new_case r (Some o) is (inl e) = subst (λ (x : Released). Ordered app fed es more x) e (new_ordered app fed es more event o h.within (new o is))
    new_case r (Some o) is (inr i) = absurd i

    part_case : (r : Released) → In released r ⊎ In (added (λ (o : Output). record { event = event; output = o }) out) r → Ordered app fed es more r
    part_case r (inl i) = longer_ordered app fed es es items more r prefix (h.at r i)
    part_case r (inr i) = new_case r out refl i

-- ---- the world

module _ (app : Application) (is : IsApplication app) (w : World) (f : ShownFacts app w) where
  switch_order : (n : ℕ) (node : SwitchNode) (input : Input) → slice_get w.switches n ≡ Some node → node.runs ≡ true → Comes w (Node.Switch n) input → OrderIn app w → OrderIn app (switch_moved w n node (switch_step app node.state node.clock input))
  switch_order n node input at up comes h =
      let brought = brought_by app w f.cells n input comes in
      let carried : (c : Carried) (key : Key) → ((from to : Node) (inc nonce epoch : ℕ) (cells : List ℕ) → input ≡ msg from to (Body.Grant inc nonce epoch key cells (Some c)) → (packet_at w.history.fed c.mark ≡ Some (packet_of c)) × (app.key_of (packet_of c) ≡ Some key)) =
      λ c key from to inc nonce epoch cells came. packet_carried app w f.cells input n comes c key from to inc nonce epoch cells came in
      more_ordered app w.history.fed (committed_of w.replicas) w.history.items _ w.history.released w.event (switch_step app node.state node.clock input).1.released
      (λ key. step_serial app w w.history.fed n node input f.cells f.hold at up brought carried is (answered app is w f n input comes) w.event key)
      (λ o out. step_shown app w w.history.fed n node input f.cells f.hold at up brought carried is (answered app is w f n input comes) w.event o out) h

  feed_order : (n : ℕ) (node : SwitchNode) (p : Packet) → slice_get w.switches n ≡ Some node → node.runs ≡ true → p.mark ≡ w.event + 1 → OrderIn app w →
      OrderIn app (switch_moved (with_fed w p) n node (switch_step app node.state node.clock (Input.Packet p)))
  feed_order n node p at up mark h =
      let new = found_new w.history.fed (record { event = w.event + 1; packet = p }) w.event mark f.cells.once.within in
      let hold = fed_hold app w f.cells p f.hold in
      more_ordered app feeds (committed_of w.replicas) w.history.items _ w.history.released (w.event + 1) (switch_step app node.state node.clock (Input.Packet p)).1.released
      (λ key. step_serial app w feeds n node (Input.Packet p) f.cells hold at up new (λ c key from to inc nonce epoch cells came. absurd (no_message p from to came)) is (λ from to inc epoch upto key c came. absurd (no_message p from to came)) (w.event + 1) key)
      (λ o out. step_shown app w feeds n node (Input.Packet p) f.cells hold at up new (λ c key from to inc nonce epoch cells came. absurd (no_message p from to came)) is (λ from to inc epoch upto key c came. absurd (no_message p from to came)) (w.event + 1) o out)
      (record {
        within =
            each_append (λ (g : Fed). g.event ≤ w.event + 1) w.history.fed _
            (each_weaker (λ (g : Fed). g.event ≤ w.event) (λ (g : Fed). g.event ≤ w.event + 1) w.history.fed (λ g le. omega arith) h.within)
            (omega arith, tt);
        at = λ r i. fed_ordered app w.history.fed (record { event = w.event + 1; packet = p }) w.event (committed_of w.replicas) w.history.items r mark f.cells.once.within f.hold.flows (h.at r i);
      })
    where
      feeds : List Fed
      feeds = w.history.fed ++ record { event = w.event + 1; packet = p } ∷ []

  book_order : (later : List Entry) → IsPrefix (committed_of w.replicas) later → ((key : Key) → FitsFrom app.cell_count key None later) → OrderIn app w → Orders app w.event w.history.fed later w.history.items w.history.released
  book_order later prefix fits h =
      record {
        within = h.within;
        at = λ r i. longer_ordered app w.history.fed (committed_of w.replicas) later w.history.items w.history.items r (book_serial app is w f later prefix fits) (h.at r i);
      }

module _ (app : Application) (is : IsApplication app) (I : World → Type 0) (k : Keeps app I) (facts : (w : World) → I w → ShownFacts app w) where
  replica_order : (w : World) (n : ℕ) (node : ReplicaNode) (input : Input) → slice_get w.replicas n ≡ Some node → node.runs ≡ true → Comes w (Node.Replica n) input → I w → OrderIn app w → OrderIn app (replica_moved w n node (store_step node.state node.clock input))
  replica_order w n node input at up comes i h =
      let f = facts w i in
      let x = facts (replica_moved w n node (store_step node.state node.clock input)) (k.replicas w n node input at up comes i) in
      let b = f.cells.books in
      let g = book_order app is w f (committed_of (replica_moved w n node (store_step node.state node.clock input)).replicas)
      (moved_committed b.0 w.config w.replicas n node w.event input at up b.1.configs b.1.nodes (known_input b.0 w n input comes b.1)) x.cells.fits h in
      record { within = g.within; at = g.at }

  stopped_order : (w : World) (n : ℕ) → Fits w (Stops (Node.Replica n)) → I w → OrderIn app w → OrderIn app (stopped w (Node.Replica n))
  stopped_order w n fits i h =
      let f = facts w i in
      let x = facts (stopped w (Node.Replica n)) (k.stops_replica w n fits i) in
      let g = book_order app is w f (committed_of (stopped w (Node.Replica n)).replicas) (stopped_grows f.cells.books.0 w n fits f.cells.books.1) x.cells.fits h in
      record { within = g.within; at = g.at }

  advanced_order : (w : World) (by : List ℕ) → OrderIn app w → OrderIn app (advanced w by)
  advanced_order w by h =
      let same : committed_of (advanced_replicas w.replicas (drop (length w.switches) by)) ≡ committed_of w.replicas = ap entries_of (advanced_last w.replicas (drop (length w.switches) by) []) in
      record { within = h.within; at = λ r i. subst (λ es. Ordered app w.history.fed es w.history.items r) (sym same) (h.at r i) }

  pub order_kept : KeepsGiven app I (OrderIn app)
  order_kept =
      record {
        counts = λ w i h. record { within = each_weaker (λ (f : Fed). f.event ≤ w.event) (λ (f : Fed). f.event ≤ w.event + 1) w.history.fed (λ f le. omega arith) h.within; at = h.at };
        passes = λ w n i h. record { within = h.within; at = h.at };
        feeds = λ w n node p at up mark i h. feed_order app is w (facts w i) n node p at up mark h;
        switches = λ w n node input at up from i h. switch_order app is w (facts w i) n node input at up from h;
        replicas = λ w n node input at up from i h. replica_order w n node input at up from i h;
        advances = λ w by fits i h. advanced_order w by h;
        stops_switch = λ w n fits i h. record { within = h.within; at = h.at };
        stops_replica = λ w n fits i h. stopped_order w n fits i h;
        boots = λ w n fits i h. record { within = h.within; at = h.at };
        detects_switch = λ w n fits i h. record { within = h.within; at = h.at };
        detects_replica = λ w n fits i h. record { within = h.within; at = h.at };
        announces = λ w i h. record { within = h.within; at = h.at };
      }
