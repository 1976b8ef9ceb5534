-- In strict mode, given what the cells rest on: after every list of events they are the fold of the items.
use Rattle.std.proofs.Common.{◌≡◌, ◌⊎◌, ℕ, ◌+◌, List, [], ◌∷◌, ◌++◌, length, drop, Some, None, sym, ◌∙◌, ap, subst, inl, inr, slice_get, true, append-nil}
use Rattle.rp_base.specs.declared.node.Node.{Node}
use Rattle.rp_base.specs.declared.node.Packet.{Packet}
use Rattle.proto_data.specs.declared.message.Msg.{Msg}
use Rattle.proto_data.specs.declared.message.Body.{Body}
use Rattle.proto_data.specs.declared.message.Entry.{Entry}
use Rattle.proto_data.specs.declared.message.Input.{Input}
use Rattle.proto_data.specs.declared.message.Config.{Config}
use Rattle.proto_data.specs.declared.message.Carried.{Carried}
use Rattle.rp_app.specs.Application.{Application, Delta}
use Rattle.key_table.specs.Table.{Key}
use Rattle.proto_model.specs.Effects.{switch_moved, replica_moved}
use Rattle.proto_model.specs.Feeds.{Each}
use Rattle.proto_model.specs.ReplicaState.{Replica}
use Rattle.proto_model.specs.SwitchRows.{switch_step}
use Rattle.proto_model.specs.ReplicaRows.{store_step}
use Rattle.proto_model.specs.World.{World, SwitchNode, ReplicaNode}
use Rattle.rp_base.specs.declared.legality.Fed.{Fed}
use Rattle.proto_model.specs.WorldStep.{advanced_replicas, announcements, advanced, stopped, changed_at, Stops}
use Rattle.proto_safety.specs.Books.{In, committed_of, IsPrefix}
use Rattle.proto_safety.specs.Loads.{OnPacket, WasFed}
use Rattle.proto_safety.proofs.Store.BooksStep.{moved_committed, step_sent}
use Rattle.proto_safety.proofs.Serial.CellFacts.{CellFacts, CellsHold, GrantedTo, SentPut}
use Rattle.proto_safety.proofs.Serial.FlowCells.{CellsOf}
use Rattle.proto_safety.proofs.Leasing.NoSnaps.{NoSnap}
use Rattle.proto_safety.specs.Flows.{FitsFrom}
use Rattle.proto_safety.specs.Origins.{Origin}
use Rattle.proto_model.specs.Stands.{entries_of}
use Rattle.proto_safety.proofs.Inductions.Acts.{Fits}
use Rattle.proto_safety.proofs.Serial.CellsFed.{SameFound, fed_cells, fed_put, fed_stands, items_found}
use Rattle.proto_safety.proofs.Serial.CellsGrow.{grow_flow, grow_puts, grow_slots}
use Rattle.proto_safety.proofs.Serial.CellsStep.{Brought, step_left}
use Rattle.proto_safety.proofs.Serial.FlowSerial.{PutIs}
use Rattle.proto_safety.proofs.Messages.FramesCarry.{found_still, found_new}
use Rattle.proto_safety.proofs.Store.LastBook.{advanced_last}
use Rattle.proto_safety.proofs.Serial.SerialLists.{journal_in, front_in}
use Rattle.proto_safety.proofs.Store.StoreBooks.{SentBooks, Sent}
use Rattle.proto_safety.proofs.Serial.SwitchCells.{SwitchStands}
use Rattle.proto_safety.proofs.Nodes.SwitchNodes.{AllAt, all_changed, all_advanced}
use Rattle.proto_safety.proofs.Nodes.SwitchTable.{msg, no_message}
use Rattle.proto_safety.proofs.Store.WorldBooks.{known_input, stopped_grows}
use Rattle.proto_safety.proofs.Messages.WorldNonces.{config_msgs}
use Rattle.proto_safety.proofs.Inductions.Induction.{Keeps, KeepsGiven, Comes, with_fed}
use Rattle.proto_safety.proofs.Basics.Eachs.{each_at, each_in}
use Rattle.proto_safety.proofs.Basics.Members.{in_append}

abbrev pub Cells : Application → World → Type 0
Cells app w = CellsHold app w.history.fed w

-- no Put among more frames
old_put : (frames ms : List Msg) (key : Key) (e k : ℕ) (delta : Delta) → (SentPut ms key e k delta → ⊥) → SentPut (frames ++ ms) key e k delta → SentPut frames key e k delta
old_put frames ms key e k delta none q = part_case (in_append frames ms q.msg q.there)
  where
    part_case : In frames q.msg ⊎ In ms q.msg → SentPut frames key e k delta
    part_case (inl i) = record { msg = q.msg; there = i; inc = q.inc; load = q.load; body_is = q.body_is }
    part_case (inr i) = absurd (none (record { msg = q.msg; there = i; inc = q.inc; load = q.load; body_is = q.body_is }))

no_store_put : (r : Replica) (es : List Entry) (ms : List Msg) (key : Key) (e k : ℕ) (delta : Delta) → Sent r es ms → SentPut ms key e k delta → ⊥
no_store_put r es ms key e k delta h q = subst (λ (b : Body). SentBooks r es q.msg.from q.msg.to b) q.body_is (each_in (λ (m : Msg). SentBooks r es m.from m.to m.body) ms q.msg h q.there)

no_announced_put : (w : World) (key : Key) (e k : ℕ) (delta : Delta) → SentPut (announcements w) key e k delta → ⊥
no_announced_put w key e k delta q =
    let c : (c : Config) × (q.msg.body ≡ Body.Config c) = each_in (λ (m : Msg). (c : Config) × (m.body ≡ Body.Config c)) (announcements w) q.msg (config_msgs w) q.there in cc (sym c.1 ∙ q.body_is)

-- ---- a switch takes an input

module _ (app : Application) (w : World) (f : CellFacts app w) where
  pub packet_carried : (i : Input) (n : ℕ) → Comes w (Node.Switch n) i → (c : Carried) (key : Key) (from to : Node) (inc nonce epoch : ℕ) (cells : List ℕ) → i ≡ msg from to (Body.Grant inc nonce epoch key cells (Some c)) → WasFed app w.history.fed key c
  packet_carried i n comes c key from to inc nonce epoch cells is =
      let there : Comes w (Node.Switch n) (msg from to (Body.Grant inc nonce epoch key cells (Some c))) = subst (λ x. Comes w (Node.Switch n) x) is comes in
      each_at (λ (m : Msg). OnPacket (WasFed app w.history.fed) m.body) w.frames there.1.0 _ f.carried there.1.1

  pub brought_by : (n : ℕ) (input : Input) → Comes w (Node.Switch n) input → Brought w w.history.fed n input
  brought_by n (Input.Packet p) comes = absurd comes
  brought_by n (Input.Msg m) comes = comes
  brought_by n Input.Alarm comes = tt

  switch_cells : (n : ℕ) (node : SwitchNode) (input : Input) → slice_get w.switches n ≡ Some node → node.runs ≡ true → Comes w (Node.Switch n) input → Cells app w → Cells app (switch_moved w n node (switch_step app node.state node.clock input))
  switch_cells n node input at up comes h =
      let l = step_left app w w.history.fed n node input f h at up (brought_by n input comes) (λ c key from to inc nonce epoch cells is. packet_carried input n comes c key from to inc nonce epoch cells is) w.event in
      record { flows = l.flows; slots = l.slots; puts = l.puts }

  -- a packet is fed first
  pub fed_hold : (p : Packet) → Cells app w → CellsHold app (w.history.fed ++ record { event = w.event + 1; packet = p } ∷ []) w
  fed_hold p h =
      record {
        flows = λ key. fed_cells app w.history.fed feeds (committed_of w.replicas) w.history.items found key (h.flows key);
        slots = λ n node at. fed_stands app w.history.fed feeds (committed_of w.replicas) w.history.items found node.state (h.slots n node at);
        puts = λ e k key delta q. fed_put app w.history.fed feeds (committed_of w.replicas) w.history.items found key e k delta (h.puts e k key delta q);
      }
    where
      feeds : List Fed
      feeds = w.history.fed ++ record { event = w.event + 1; packet = p } ∷ []

      found : SameFound w.history.fed feeds w.history.items
      found j i = let x = items_found app w.history.fed (committed_of w.replicas) w.history.items h.flows j i in found_still w.history.fed (record { event = w.event + 1; packet = p }) j.item.mark x.0 x.1.0 ∙ sym x.1.0

  fed_cells_kept : (n : ℕ) (node : SwitchNode) (p : Packet) → slice_get w.switches n ≡ Some node → node.runs ≡ true → p.mark ≡ w.event + 1 → Cells app w →
      Cells app (switch_moved (with_fed w p) n node (switch_step app node.state node.clock (Input.Packet p)))
  fed_cells_kept n node p at up mark h =
      let l = step_left app w (w.history.fed ++ record { event = w.event + 1; packet = p } ∷ []) n node (Input.Packet p) f (fed_hold p h) at up
      (found_new w.history.fed (record { event = w.event + 1; packet = p }) w.event mark f.once.within) (λ c key from to inc nonce epoch cells is. absurd (no_message p from to is)) (w.event + 1) in
      record { flows = l.flows; slots = l.slots; puts = l.puts }

-- ---- the committed book goes on

record Grown (app : Application) (w : World) (later : List Entry) (frames : List Msg) : Type 0 where
  flows : (key : Key) → CellsOf app w.history.fed later w.history.items key
  slots : AllAt (λ n (node : SwitchNode). SwitchStands app w.history.fed later w.history.items node.state) w.switches
  puts : (e k : ℕ) (key : Key) (delta : Delta) → SentPut frames key e k delta → PutIs app w.history.fed (front_in key later w.history.items e) (journal_in key w.history.items e) k delta

-- more frames without Puts, and more entries of Puts that were sent
module _ (app : Application) (w : World) (f : CellFacts app w) (h : Cells app w) (later : List Entry) (ms : List Msg) (prefix : IsPrefix (committed_of w.replicas) later) (fits : (key : Key) → FitsFrom app.cell_count key None later)
    (none : (e k : ℕ) (key : Key) (delta : Delta) → SentPut ms key e k delta → ⊥) (entries : (x : Entry) → In later x → Origin (w.frames ++ ms) x) (snapless : Each (λ (m : Msg). NoSnap m.body) (w.frames ++ ms)) where
  granted : (e k : ℕ) (key : Key) (delta : Delta) → SentPut (w.frames ++ ms) key e k delta → GrantedTo app.cell_count (committed_of w.replicas) key e
  granted e k key delta q = f.puts_granted e k key delta (old_put w.frames ms key e k delta (none e k key delta) q)

  puts : (e k : ℕ) (key : Key) (delta : Delta) → SentPut (w.frames ++ ms) key e k delta → PutIs app w.history.fed (front_in key (committed_of w.replicas) w.history.items e) (journal_in key w.history.items e) k delta
  puts e k key delta q = h.puts e k key delta (old_put w.frames ms key e k delta (none e k key delta) q)

  grown : Grown app w later (w.frames ++ ms)
  grown =
      record {
        flows = λ key. grow_flow app w.history.fed w.history.items (w.frames ++ ms) (committed_of w.replicas) later prefix fits granted puts entries snapless key (f.known key) (h.flows key);
        slots = grow_slots app w.history.fed w.history.items (w.frames ++ ms) (committed_of w.replicas) later prefix fits granted puts entries snapless w.switches (λ n e key node slot at found leased. (f.slots_granted n e key node slot at found leased).0) h.slots;
        puts = grow_puts app w.history.fed w.history.items (w.frames ++ ms) (committed_of w.replicas) later prefix fits granted puts entries snapless;
      }

-- ---- the world

module _ (app : Application) (I : World → Type 0) (k : Keeps app I) (facts : (w : World) → I w → CellFacts app w) where
  replica_cells : (w : World) (n : ℕ) (node : ReplicaNode) (input : Input) → slice_get w.replicas n ≡ Some node → node.runs ≡ true → Comes w (Node.Replica n) input → I w → Cells app w → Cells app (replica_moved w n node (store_step node.state node.clock input))
  replica_cells w n node input at up comes i h =
      let f = facts w i in
      let x = facts (replica_moved w n node (store_step node.state node.clock input)) (k.replicas w n node input at up comes i) in
      let prefix = moved_committed f.books.0 w.config w.replicas n node w.event input at up f.books.1.configs f.books.1.nodes (known_input f.books.0 w n input comes f.books.1) in
      let g = grown app w f h (committed_of (replica_moved w n node (store_step node.state node.clock input)).replicas) (store_step node.state node.clock input).1.sent prefix x.fits
      (λ e m key delta q. no_store_put (store_step node.state node.clock input).0 _ (store_step node.state node.clock input).1.sent key e m delta (step_sent node.state node.book node.clock w.event input (f.books.1.nodes n node at).stands) q) x.entries x.snapless in
      record { flows = g.flows; slots = g.slots; puts = g.puts }

  stopped_cells : (w : World) (n : ℕ) → Fits w (Stops (Node.Replica n)) → I w → Cells app w → Cells app (stopped w (Node.Replica n))
  stopped_cells w n fits i h =
      let f = facts w i in
      let x = facts (stopped w (Node.Replica n)) (k.stops_replica w n fits i) in
      let same : w.frames ++ [] ≡ w.frames = append-nil w.frames in
      let g = grown app w f h (committed_of (stopped w (Node.Replica n)).replicas) [] (stopped_grows f.books.0 w n fits f.books.1) x.fits (λ e m key delta q. absurd q.there)
      (λ y j. subst (λ l. Origin l y) (sym same) (x.entries y j)) (subst (λ l. Each (λ (m : Msg). NoSnap m.body) l) (sym same) x.snapless) in
      record { flows = g.flows; slots = g.slots; puts = λ e m key delta q. g.puts e m key delta (subst (λ l. SentPut l key e m delta) (sym same) q) }

  advanced_cells : (w : World) (by : List ℕ) → Cells app w → Cells app (advanced w by)
  advanced_cells w by h =
      let same : committed_of (advanced_replicas w.replicas (drop (length w.switches) by)) ≡ committed_of w.replicas = ap entries_of (advanced_last w.replicas (drop (length w.switches) by) []) in
      record {
        flows = λ key. subst (λ es. CellsOf app w.history.fed es w.history.items key) (sym same) (h.flows key);
        slots =
            all_advanced (λ n (node : SwitchNode). SwitchStands app w.history.fed (committed_of (advanced_replicas w.replicas (drop (length w.switches) by))) w.history.items node.state) w.switches by (λ m d x s. s)
            (λ n node at. subst (λ es. SwitchStands app w.history.fed es w.history.items node.state) (sym same) (h.slots n node at));
        puts = λ e m key delta q. subst (λ es. PutIs app w.history.fed (front_in key es w.history.items e) (journal_in key w.history.items e) m delta) (sym same) (h.puts e m key delta q);
      }

  changed_cells : (w : World) (n : ℕ) (f : SwitchNode → SwitchNode) → ((x : SwitchNode) → SwitchStands app w.history.fed (committed_of w.replicas) w.history.items x.state → SwitchStands app w.history.fed (committed_of w.replicas) w.history.items (f x).state) → Cells app w →
      AllAt (λ n (node : SwitchNode). SwitchStands app w.history.fed (committed_of w.replicas) w.history.items node.state) (changed_at w.switches n f)
  changed_cells w n f g h = all_changed (λ n (node : SwitchNode). SwitchStands app w.history.fed (committed_of w.replicas) w.history.items node.state) w.switches n f (λ m x s. g x s) h.slots

  pub cells_kept : KeepsGiven app I (Cells app)
  cells_kept =
      record {
        counts = λ w i h. record { flows = h.flows; slots = h.slots; puts = h.puts };
        passes = λ w n i h. record { flows = h.flows; slots = h.slots; puts = h.puts };
        feeds = λ w n node p at up mark i h. fed_cells_kept app w (facts w i) n node p at up mark h;
        switches = λ w n node input at up from i h. switch_cells app w (facts w i) n node input at up from h;
        replicas = λ w n node input at up from i h. replica_cells w n node input at up from i h;
        advances = λ w by fits i h. advanced_cells w by h;
        stops_switch = λ w n fits i h. record { flows = h.flows; slots = changed_cells w n _ (λ x s. s) h; puts = h.puts };
        stops_replica = λ w n fits i h. stopped_cells w n fits i h;
        boots = λ w n fits i h. record { flows = h.flows; slots = changed_cells w n _ (λ x s. record { at = λ key slot e found leased. cc }) h; puts = h.puts };
        detects_switch = λ w n fits i h. record { flows = h.flows; slots = changed_cells w n _ (λ x s. s) h; puts = h.puts };
        detects_replica = λ w n fits i h. record { flows = h.flows; slots = h.slots; puts = h.puts };
        announces = λ w i h. record { flows = h.flows; slots = h.slots; puts = λ e m key delta q. h.puts e m key delta (old_put w.frames (announcements w) key e m delta (no_announced_put w key e m delta) q) };
      }
