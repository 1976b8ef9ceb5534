-- What an event does, as one step of at most one node; and that a Grant says what is committed when it is sent.
use Rattle.std.proofs.Common.{◌≡◌, ℕ, ◌≤◌, List, [], length, map, Option, Some, None, arith, refl, sym, ◌∙◌, ap, subst, true, set, slice_get}
use Rattle.std.specs.Prelude.{option_map}
use Rattle.std.proofs.lemmas.Bool.{false≢true}
use Rattle.rp_base.specs.declared.node.Node.{Node}
use Rattle.rp_base.specs.declared.node.Packet.{Packet}
use Rattle.rp_base.specs.declared.event.Event.{Event}
use Rattle.proto_data.specs.declared.message.Msg.{Msg}
use Rattle.proto_data.specs.declared.message.Body.{Body}
use Rattle.proto_data.specs.declared.message.Input.{Input}
use Rattle.proto_data.specs.declared.message.Record.{Record}
use Rattle.proto_data.specs.declared.message.Carried.{Carried}
use Rattle.rp_app.specs.Application.{Application}
use Rattle.proto_model.specs.Effects.{switch_moved, replica_moved, packet_fed, frame_passed, master_sent}
use Rattle.proto_model.specs.Feeds.{Each}
use Rattle.key_table.specs.Table.{Key, get}
use Rattle.proto_model.specs.Committed.{committed_records, committed_book}
use Rattle.proto_model.specs.Stands.{Stands, entries_of}
use Rattle.proto_model.specs.SwitchRows.{switch_step}
use Rattle.proto_model.specs.ReplicaRows.{store_step, store_row}
use Rattle.proto_model.specs.World.{World, Setup, SwitchNode, ReplicaNode, opened, running_switches, running_replicas}
use Rattle.proto_model.specs.WorldStep.{Act, Refuses, Feeds, Delivers, Passes, Advances, Alarms, Stops, Boots, Detects, Announces, Pumps, act_of, perform_act, node_takes, switch_takes, replica_takes, runs_now, runs_at_replica, announcements, config_msg, next_event, world_step, world_after}
use Rattle.proto_safety.specs.Books.{In, BooksHold, committed_of}
use Rattle.proto_safety.specs.Flows.{GrantedNow, SaysRecord, FlowRecord, FitsFrom, ToSwitch, flow_in}
use Rattle.proto_safety.proofs.Inductions.Acts.{Fits, act_fits}
use Rattle.proto_safety.proofs.Store.FlowBooks.{book_flow}
use Rattle.proto_safety.proofs.Store.StoreBooks.{row_cells}
use Rattle.proto_safety.proofs.Messages.StoreReplies.{SentReply, step_replies}
use Rattle.proto_safety.proofs.Store.BooksStep.{node_after, tail_book}
use Rattle.proto_safety.proofs.Nodes.SwitchSends.{IsRequest, RequestMsg, switch_requests}
use Rattle.proto_safety.proofs.Store.WorldBooks.{books_hold, known_input}
use Rattle.proto_safety.proofs.Store.WorldFits.{BooksFit, NodeFits}
use Rattle.proto_safety.proofs.Store.BookEpochLaws.{books_fit}
use Rattle.proto_safety.proofs.Inductions.Induction.{Comes}
use Rattle.proto_safety.proofs.Basics.Eachs.{each_append, each_at, each_in, each_map}
use Rattle.proto_safety.proofs.Basics.Lists.{at_past}
use Rattle.proto_safety.proofs.Basics.Members.{at_behind}

-- the world in which a node takes its input: its nodes and frames are those before the event
pub record SameNodes (w v : World) : Type 0 where
  pub frames : v.frames ≡ w.frames
  pub switches : v.switches ≡ w.switches
  pub replicas : v.replicas ≡ w.replicas

-- what an event came to
pub data EventDid (app : Application) (w : World) : World → Type 0 where
  by_switch :
      (v : World) (n : ℕ) (node : SwitchNode) (input : Input) → SameNodes w v → slice_get w.switches n ≡ Some node → EventDid app w (switch_moved v n node (switch_step app node.state node.clock input))
  by_replica :
      (v : World) (n : ℕ) (node : ReplicaNode) (input : Input) → SameNodes w v → slice_get w.replicas n ≡ Some node → node.runs ≡ true → Comes w (Node.Replica n) input →
      EventDid app w (replica_moved v n node (store_step node.state node.clock input))
  by_master : (v : World) → SameNodes w v → EventDid app w (master_sent v (announcements v))
  no_frames : {x : World} → x.frames ≡ w.frames → EventDid app w x

module _ (app : Application) (w : World) where
  switch_did : (v : World) (n : ℕ) (input : Input) (o : Option SwitchNode) → SameNodes w v → slice_get w.switches n ≡ o → EventDid app w (switch_takes app v n input o).0
  switch_did v n input None same at = no_frames same.frames
  switch_did v n input (Some node) same at = by_switch v n node input same at

  replica_did : (v : World) (n : ℕ) (input : Input) (o : Option ReplicaNode) → SameNodes w v → slice_get w.replicas n ≡ o → runs_at_replica o ≡ true → Comes w (Node.Replica n) input → EventDid app w (replica_takes v n input o).0
  replica_did v n input None same at up from = absurd (false≢true up)
  replica_did v n input (Some node) same at up from = by_replica v n node input same at up from

  node_did : (v : World) (to : Node) (input : Input) → SameNodes w v → runs_now w to ≡ true → Comes w to input → EventDid app w (node_takes app v to input).0
  node_did v (Node.Switch n) input same up from =
      subst (λ o. EventDid app w (switch_takes app v n input o).0) (ap (λ ns. slice_get ns n) (sym same.switches)) (switch_did v n input (slice_get w.switches n) same refl)
  node_did v (Node.Replica n) input same up from =
      subst (λ o. EventDid app w (replica_takes v n input o).0) (ap (λ ns. slice_get ns n) (sym same.replicas)) (replica_did v n input (slice_get w.replicas n) same refl up from)
  node_did v Node.Master input same up from = no_frames same.frames

  fed_did : (n : ℕ) (p : Packet) → EventDid app w (node_takes app (packet_fed (next_event w) p) (Node.Switch n) (Input.Packet p)).0
  fed_did n p = switch_did (packet_fed (next_event w) p) n (Input.Packet p) (slice_get w.switches n) (record { frames = refl; switches = refl; replicas = refl }) refl

  still_runs : (to : Node) → runs_now (next_event w) to ≡ true → runs_now w to ≡ true
  still_runs (Node.Switch n) up = up
  still_runs (Node.Replica n) up = up
  still_runs Node.Master up = up

  act_did : (act : Act) → Fits (next_event w) act → EventDid app w (perform_act app (next_event w) act).0
  act_did (Refuses cause) fits = no_frames refl
  act_did (Feeds n p) fits = fed_did n p
  act_did (Delivers i m) fits =
      node_did (frame_passed (next_event w) i) m.to (Input.Msg m) (record { frames = refl; switches = refl; replicas = refl }) (still_runs m.to fits.1) (refl, (i, fits.0))
  act_did (Passes i) fits = no_frames refl
  act_did (Advances by) fits = no_frames refl
  act_did (Alarms node) fits = node_did (next_event w) node Input.Alarm (record { frames = refl; switches = refl; replicas = refl }) (still_runs node fits) tt
  act_did (Stops (Node.Switch n)) fits = no_frames refl
  act_did (Stops (Node.Replica n)) fits = no_frames refl
  act_did (Stops Node.Master) fits = no_frames refl
  act_did (Boots n) fits = no_frames refl
  act_did (Detects (Node.Switch n)) fits = no_frames refl
  act_did (Detects (Node.Replica n)) fits = no_frames refl
  act_did (Detects Node.Master) fits = no_frames refl
  act_did Announces fits = by_master (next_event w) (record { frames = refl; switches = refl; replicas = refl })
  act_did Pumps fits = no_frames refl

  pub event_did : (e : Event) → EventDid app w (world_step app w e).0
  event_did e = act_did (act_of app (next_event w) e) (act_fits app (next_event w) e)

-- ---- new frames

abbrev IsGrant : Body → Type 0
IsGrant (Body.Grant inc nonce epoch key cells load) = Unit {0}
IsGrant _ = ⊥

no_request : (body : Body) → IsRequest body → IsGrant body → ⊥
no_request (Body.Ask inc nonce key load) r g = g
no_request (Body.Put inc epoch number key delta load) r g = g
no_request (Body.Snap inc epoch round key chunk chunks cells) r g = g
no_request _ r g = r

none_announced : (w : World) → Each (λ (m : Msg). IsGrant m.body → ⊥) (announcements w)
none_announced w =
    each_append (λ (m : Msg). IsGrant m.body → ⊥) (map (λ n. config_msg w (Node.Switch n)) (running_switches w)) _
    (each_map (λ (m : Msg). IsGrant m.body → ⊥) (λ n. config_msg w (Node.Switch n)) (running_switches w) (λ n g. g))
    (each_map (λ (m : Msg). IsGrant m.body → ⊥) (λ n. config_msg w (Node.Replica n)) (running_replicas w) (λ n g. g))

-- what a flow of the committed book says, its record says
record_says : (n : ℕ) (w : World) (switch inc nonce epoch : ℕ) (key : Key) (cells : List ℕ) → GrantedNow n (committed_of w.replicas) switch inc nonce epoch key cells → SaysRecord n w (Node.Switch switch) inc nonce epoch key cells
record_says n w switch inc nonce epoch key cells g = record_case (get (committed_records n w) key) refl (book_flow n key (committed_book w) [] ∙ g.flow_is)
  where
    record_case : (o : Option Record) → get (committed_records n w) key ≡ o → option_map flow_in (get (committed_records n w) key) ≡ Some (record { epoch = epoch; switch = switch; inc = inc; nonce = nonce; last = g.last; cells = cells }) →
        SaysRecord n w (Node.Switch switch) inc nonce epoch key cells
    record_case None at is = let no : None ≡ Some (record { epoch = epoch; switch = switch; inc = inc; nonce = nonce; last = g.last; cells = cells }) = ap (λ o. option_map flow_in o) (sym at) ∙ is in cc
    record_case (Some r) at is =
        let some : Some (flow_in r) ≡ Some (record { epoch = epoch; switch = switch; inc = inc; nonce = nonce; last = g.last; cells = cells }) = ap (λ o. option_map flow_in o) (sym at) ∙ is in
        let same : flow_in r ≡ record { epoch = epoch; switch = switch; inc = inc; nonce = nonce; last = g.last; cells = cells } = cc in
        record {
          rec = r;
          found = at;
          to_owner = ap (λ (f : FlowRecord). Node.Switch f.switch) (sym same);
          inc_is = ap (λ (f : FlowRecord). f.inc) same;
          nonce_is = ap (λ (f : FlowRecord). f.nonce) same;
          epoch_is = ap (λ (f : FlowRecord). f.epoch) same;
          cells_are = ap (λ (f : FlowRecord). f.cells) same;
        }

to_owner : (n : ℕ) (w : World) (to : Node) (inc nonce epoch : ℕ) (key : Key) (cells : List ℕ) → ToSwitch (λ s. GrantedNow n (committed_of w.replicas) s inc nonce epoch key cells) to → SaysRecord n w to inc nonce epoch key cells
to_owner n w (Node.Switch s) inc nonce epoch key cells h = record_says n w s inc nonce epoch key cells h
to_owner n w (Node.Replica r) inc nonce epoch key cells h = absurd h
to_owner n w Node.Master inc nonce epoch key cells h = absurd h

-- a replica's Grant says what is committed after its step
sent_grant : (cells : ℕ) (w v : World) (n : ℕ) (node : ReplicaNode) (input : Input) (from to : Node) (inc nonce epoch : ℕ) (key : Key) (values : List ℕ) (load : Option Carried) → BooksHold w → BooksFit cells w → SameNodes w v →
    slice_get w.replicas n ≡ Some node → node.runs ≡ true → Comes w (Node.Replica n) input → In (store_step node.state node.clock input).1.sent (record { from = from; to = to; body = Body.Grant inc nonce epoch key values load }) →
    SaysRecord cells (replica_moved v n node (store_step node.state node.clock input)) to inc nonce epoch key values
sent_grant cells w v n node input from to inc nonce epoch key values load b f same at up comes i =
    let fits : NodeFits cells node = each_at (NodeFits cells) w.replicas n node f at in
    let st : Stands node.state node.book = (b.1.nodes n node at).stands in
    let after : ReplicaNode = node_after node v.event input in
    let s : SentReply after.state (entries_of after.book) to (Body.Grant inc nonce epoch key values load) =
    each_in (λ (m : Msg). SentReply after.state (entries_of after.book) m.to m.body) (store_step node.state node.clock input).1.sent _
    (step_replies node.state node.book node.clock v.event input st (λ k. subst (λ c. FitsFrom c k None (entries_of node.book)) (sym fits.cells_are) (fits.fits k))) i in
    let committed : committed_of (set w.replicas n after) ≡ entries_of after.book = tail_book b.0 w.config w.replicas n node v.event input at up b.1.configs b.1.nodes (known_input b.0 w n input comes b.1) s.0 in
    let now : committed_of (set v.replicas n after) ≡ entries_of after.book = ap (λ ns. committed_of (set ns n after)) same.replicas ∙ committed in
    let size : after.state.cell_count ≡ cells = row_cells node.state node.clock (store_row node.state node.clock input) ∙ fits.cells_are in
    to_owner cells (replica_moved v n node (store_step node.state node.clock input)) to inc nonce epoch key values
    (subst (λ es. ToSwitch (λ s. GrantedNow cells es s inc nonce epoch key values) to) (sym now) (subst (λ c. ToSwitch (λ s. GrantedNow c (entries_of after.book) s inc nonce epoch key values) to) size s.1))

did_grant : (app : Application) (w x : World) (i : ℕ) (from to : Node) (inc nonce epoch : ℕ) (key : Key) (values : List ℕ) (load : Option Carried) → EventDid app w x → BooksHold w → BooksFit app.cell_count w →
    slice_get x.frames i ≡ Some (record { from = from; to = to; body = Body.Grant inc nonce epoch key values load }) → length w.frames ≤ i → SaysRecord app.cell_count x to inc nonce epoch key values
did_grant app w x i from to inc nonce epoch key values load (no_frames same) b f at le = absurd (at_past w.frames i (record { from = from; to = to; body = Body.Grant inc nonce epoch key values load }) (subst (λ l. slice_get l i ≡ Some (record { from = from; to = to; body = Body.Grant inc nonce epoch key values load })) same at) le)
did_grant app w x i from to inc nonce epoch key values load (by_switch v n node input same is) b f at le =
    let there : In (switch_step app node.state node.clock input).1.sent (record { from = from; to = to; body = Body.Grant inc nonce epoch key values load }) =
    at_behind v.frames (switch_step app node.state node.clock input).1.sent i _ at (omega (arith, ap length same.frames)) in
    let r : RequestMsg (record { from = from; to = to; body = Body.Grant inc nonce epoch key values load }) = each_in RequestMsg (switch_step app node.state node.clock input).1.sent _ (switch_requests app node.state node.clock input) there in
    absurd (no_request (Body.Grant inc nonce epoch key values load) r.0 tt)
did_grant app w x i from to inc nonce epoch key values load (by_replica v n node input same is up comes) b f at le =
    sent_grant app.cell_count w v n node input from to inc nonce epoch key values load b f same is up comes
    (at_behind v.frames (store_step node.state node.clock input).1.sent i _ at (omega (arith, ap length same.frames)))
did_grant app w x i from to inc nonce epoch key values load (by_master v same) b f at le =
    let there : In (announcements v) (record { from = from; to = to; body = Body.Grant inc nonce epoch key values load }) = at_behind v.frames (announcements v) i _ at (omega (arith, ap length same.frames)) in
    absurd (each_in (λ (m : Msg). IsGrant m.body → ⊥) (announcements v) _ (none_announced v) there tt)

pub grant_says : (app : Application) (setup : Setup) (es : List Event) (e : Event) (i : ℕ) (from to : Node) (inc nonce epoch : ℕ) (key : Key) (values : List ℕ) (load : Option Carried) →
    slice_get (world_step app (world_after app (opened app.cell_count setup) es) e).0.frames i ≡ Some (record { from = from; to = to; body = Body.Grant inc nonce epoch key values load }) →
    length (world_after app (opened app.cell_count setup) es).frames ≤ i → SaysRecord app.cell_count (world_step app (world_after app (opened app.cell_count setup) es) e).0 to inc nonce epoch key values
grant_says app setup es e i from to inc nonce epoch key values load at le =
    did_grant app (world_after app (opened app.cell_count setup) es) _ i from to inc nonce epoch key values load (event_did app (world_after app (opened app.cell_count setup) es) e) (books_hold app setup es) (books_fit app setup es) at le
