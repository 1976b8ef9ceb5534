-- After every list of events each Grant and each Ack that was sent says what the committed book has.
use Rattle.std.proofs.Common.{◌≡◌, ℕ, List, [], ◌++◌, map, drop, length, Some, None, sym, subst, ◌∙◌, slice_get, set, true}
use Rattle.proto_data.specs.declared.message.Msg.{Msg}
use Rattle.rp_base.specs.declared.node.Node.{Node}
use Rattle.proto_data.specs.declared.message.Body.{Body}
use Rattle.proto_data.specs.declared.message.Entry.{Entry}
use Rattle.proto_data.specs.declared.message.Input.{Input}
use Rattle.rp_base.specs.declared.event.Event.{Event}
use Rattle.rp_app.specs.Application.{Application}
use Rattle.proto_model.specs.Feeds.{Each}
use Rattle.proto_model.specs.Stands.{entries_of}
use Rattle.proto_model.specs.ReplicaState.{Replica, is_tail}
use Rattle.proto_model.specs.ReplicaRows.{store_step, store_row}
use Rattle.proto_safety.proofs.Store.StoreBooks.{row_cells}
use Rattle.proto_model.specs.World.{World, Setup, ReplicaNode, opened, running_switches, running_replicas}
use Rattle.proto_model.specs.WorldStep.{world_after, announcements, config_msg}
use Rattle.proto_safety.specs.Books.{IsPrefix, BooksHold, committed_of}
use Rattle.proto_safety.specs.Flows.{FitsFrom, GrantedIn, GrantedNow, AckedIn, Reply, ToSwitch}
use Rattle.proto_safety.proofs.Store.BooksStep.{Known, node_after, tail_book, moved_committed}
use Rattle.proto_safety.proofs.Messages.StoreReplies.{SentReply, step_replies}
use Rattle.proto_safety.proofs.Nodes.SwitchSends.{IsRequest, RequestMsg, Requests, switch_requests}
use Rattle.proto_safety.proofs.Store.WorldFits.{NodeFits, BooksFit, fits_kept, opened_fits}
use Rattle.proto_safety.proofs.Store.WorldBooks.{books_kept, books_hold, known_input, advanced_committed, stopped_grows}
use Rattle.proto_safety.proofs.Inductions.Induction.{Keeps, KeepsGiven, keeps_both, run_kept}
use Rattle.proto_safety.proofs.Basics.Eachs.{each_append, each_at, each_map, each_weaker}
use Rattle.proto_safety.proofs.Basics.Prefixes.{in_prefix, prefix_same, prefix_trans}

abbrev pub Given : ℕ → World → Type 0
Given cells w = BooksHold w × BooksFit cells w

abbrev pub FramesReply : ℕ → World → Type 0
FramesReply cells w = Each (λ (m : Msg). Reply cells (committed_of w.replicas) m.to m.body) w.frames

-- ---- the committed book goes on

switch_weaker : (P Q : ℕ → Type 0) (to : Node) → ((n : ℕ) → P n → Q n) → ToSwitch P to → ToSwitch Q to
switch_weaker P Q (Node.Switch n) k h = k n h
switch_weaker P Q (Node.Replica n) k h = absurd h
switch_weaker P Q Node.Master k h = absurd h

reply_later : (cells : ℕ) (old new : List Entry) (to : Node) (body : Body) → IsPrefix old new → Reply cells old to body → Reply cells new to body
reply_later cells old new to (Body.Grant inc nonce epoch key values load) p h =
    switch_weaker (λ s. GrantedIn cells old s inc nonce epoch key values) (λ s. GrantedIn cells new s inc nonce epoch key values) to
    (λ s g. record { front = g.front; prefix = prefix_trans g.prefix p; last = g.last; flow_is = g.flow_is }) h
reply_later cells old new to (Body.Ack inc epoch upto key load) p h =
    record { entry = h.entry; there = in_prefix old new h.entry p h.there; number = h.number; number_is = h.number_is; reaches = h.reaches }
reply_later cells old new to (Body.Ask inc nonce key load) p h = tt
reply_later cells old new to (Body.Busy inc nonce key mark) p h = tt
reply_later cells old new to (Body.Put inc epoch number key delta load) p h = tt
reply_later cells old new to (Body.Deny inc epoch key) p h = tt
reply_later cells old new to (Body.Forward config index entry load) p h = tt
reply_later cells old new to (Body.Have index) p h = tt
reply_later cells old new to (Body.Echo of load) p h = tt
reply_later cells old new to (Body.Config config) p h = tt
reply_later cells old new to (Body.Snap inc epoch round key chunk chunks values) p h = tt

replies_later : (cells : ℕ) (old new : List Entry) (ms : List Msg) → IsPrefix old new → Each (λ (m : Msg). Reply cells old m.to m.body) ms → Each (λ (m : Msg). Reply cells new m.to m.body) ms
replies_later cells old new ms p h = each_weaker (λ (m : Msg). Reply cells old m.to m.body) (λ (m : Msg). Reply cells new m.to m.body) ms (λ m k. reply_later cells old new m.to m.body p k) h

-- ---- what is sent

request_reply : (cells : ℕ) (es : List Entry) (to : Node) (body : Body) → IsRequest body → Reply cells es to body
request_reply cells es to (Body.Ask inc nonce key load) r = tt
request_reply cells es to (Body.Put inc epoch number key delta load) r = tt
request_reply cells es to (Body.Snap inc epoch round key chunk chunks values) r = tt
request_reply cells es to _ r = absurd r

requested : (cells : ℕ) (es : List Entry) (frames ms : List Msg) → Requests ms → Each (λ (m : Msg). Reply cells es m.to m.body) frames → Each (λ (m : Msg). Reply cells es m.to m.body) (frames ++ ms)
requested cells es frames ms r f =
    each_append (λ (m : Msg). Reply cells es m.to m.body) frames ms f
    (each_weaker RequestMsg (λ (m : Msg). Reply cells es m.to m.body) ms (λ m k. request_reply cells es m.to m.body k.0) r)

-- what the tail's book says, the committed book says
sent_reply : (cells : ℕ) (r : Replica) (es committed : List Entry) (to : Node) (body : Body) → r.cell_count ≡ cells → (is_tail r ≡ true → committed ≡ es) → SentReply r es to body → Reply cells committed to body
sent_reply cells r es committed to (Body.Grant inc nonce epoch key values load) n tail h =
    subst (λ c. Reply c committed to (Body.Grant inc nonce epoch key values load)) n
    (switch_weaker (λ s. GrantedNow r.cell_count es s inc nonce epoch key values) (λ s. GrantedIn r.cell_count committed s inc nonce epoch key values) to
    (λ s g. subst (λ l. GrantedIn r.cell_count l s inc nonce epoch key values) (sym (tail h.0)) (record { front = es; prefix = prefix_same es; last = g.last; flow_is = g.flow_is })) h.1)
sent_reply cells r es committed to (Body.Ack inc epoch upto key load) n tail h = subst (λ l. AckedIn l epoch upto key) (sym (tail h.0)) h.1
sent_reply cells r es committed to (Body.Ask inc nonce key load) n tail h = tt
sent_reply cells r es committed to (Body.Busy inc nonce key mark) n tail h = tt
sent_reply cells r es committed to (Body.Put inc epoch number key delta load) n tail h = tt
sent_reply cells r es committed to (Body.Deny inc epoch key) n tail h = tt
sent_reply cells r es committed to (Body.Forward config index entry load) n tail h = tt
sent_reply cells r es committed to (Body.Have index) n tail h = tt
sent_reply cells r es committed to (Body.Echo of load) n tail h = tt
sent_reply cells r es committed to (Body.Config config) n tail h = tt
sent_reply cells r es committed to (Body.Snap inc epoch round key chunk chunks values) n tail h = tt

cells_after : (node : ReplicaNode) (event : ℕ) (input : Input) → (node_after node event input).state.cell_count ≡ node.state.cell_count
cells_after node event input = row_cells node.state node.clock (store_row node.state node.clock input)

moved_replies : (cells : ℕ) (w : World) (n : ℕ) (node : ReplicaNode) (input : Input) → slice_get w.replicas n ≡ Some node → node.runs ≡ true → (b : BooksHold w) → Known b.0 w.replicas n input → BooksFit cells w → FramesReply cells w →
    Each (λ (m : Msg). Reply cells (committed_of (set w.replicas n (node_after node w.event input))) m.to m.body) (w.frames ++ (store_step node.state node.clock input).1.sent)
moved_replies cells w n node input at up b k fits h =
    let f : NodeFits cells node = each_at (NodeFits cells) w.replicas n node fits at in
    let after : ReplicaNode = node_after node w.event input in
    let committed : List Entry = committed_of (set w.replicas n after) in
    each_append (λ (m : Msg). Reply cells committed m.to m.body) w.frames _
    (replies_later cells (committed_of w.replicas) committed w.frames (moved_committed b.0 w.config w.replicas n node w.event input at up b.1.configs b.1.nodes k) h)
    (each_weaker (λ (m : Msg). SentReply after.state (entries_of after.book) m.to m.body) (λ (m : Msg). Reply cells committed m.to m.body) (store_step node.state node.clock input).1.sent
    (λ m s. sent_reply cells after.state (entries_of after.book) committed m.to m.body (cells_after node w.event input ∙ f.cells_are)
    (tail_book b.0 w.config w.replicas n node w.event input at up b.1.configs b.1.nodes k) s)
    (step_replies node.state node.book node.clock w.event input (b.1.nodes n node at).stands (λ key. subst (λ c. FitsFrom c key None (entries_of node.book)) (sym f.cells_are) (f.fits key))))

announced_reply : (cells : ℕ) (es : List Entry) (w : World) → Each (λ (m : Msg). Reply cells es m.to m.body) (announcements w)
announced_reply cells es w =
    each_append (λ (m : Msg). Reply cells es m.to m.body) (map (λ n. config_msg w (Node.Switch n)) (running_switches w)) _
    (each_map (λ (m : Msg). Reply cells es m.to m.body) (λ n. config_msg w (Node.Switch n)) (running_switches w) (λ n. tt))
    (each_map (λ (m : Msg). Reply cells es m.to m.body) (λ n. config_msg w (Node.Replica n)) (running_replicas w) (λ n. tt))

pub replies_kept : (app : Application) → KeepsGiven app (Given app.cell_count) (FramesReply app.cell_count)
replies_kept app =
    record {
      counts = λ w g h. h;
      passes = λ w i g h. h;
      feeds = λ w n node p at up mark g h. requested app.cell_count (committed_of w.replicas) w.frames _ (switch_requests app node.state node.clock (Input.Packet p)) h;
      switches = λ w n node input at up from g h. requested app.cell_count (committed_of w.replicas) w.frames _ (switch_requests app node.state node.clock input) h;
      replicas = λ w n node input at up from g h. moved_replies app.cell_count w n node input at up g.0 (known_input g.0.0 w n input from g.0.1) g.1 h;
      advances = λ w by fits g h. replies_later app.cell_count (committed_of w.replicas) _ w.frames (advanced_committed w.replicas (drop (length w.switches) by)) h;
      stops_switch = λ w n fits g h. h;
      stops_replica = λ w n fits g h. replies_later app.cell_count (committed_of w.replicas) _ w.frames (stopped_grows g.0.0 w n fits g.0.1) h;
      boots = λ w n fits g h. h;
      detects_switch = λ w n fits g h. h;
      detects_replica = λ w n fits g h. h;
      announces = λ w g h. each_append (λ (m : Msg). Reply app.cell_count (committed_of w.replicas) m.to m.body) w.frames _ h (announced_reply app.cell_count (committed_of w.replicas) w);
    }

pub given_kept : (app : Application) → Keeps app (Given app.cell_count)
given_kept app = keeps_both app BooksHold (BooksFit app.cell_count) (books_kept app) (fits_kept app)

pub frames_reply : (app : Application) (setup : Setup) (es : List Event) → FramesReply app.cell_count (world_after app (opened app.cell_count setup) es)
frames_reply app setup es =
    (run_kept app (λ w. Given app.cell_count w × FramesReply app.cell_count w)
    (keeps_both app (Given app.cell_count) (FramesReply app.cell_count) (given_kept app) (replies_kept app)) es (opened app.cell_count setup)
    ((books_hold app setup [], opened_fits app.cell_count setup), tt)).1
