-- After every list of events each Grant and each Put of a book or a Forward was asked for: an Ask or a Put that was sent has its numbers.
use Rattle.std.proofs.Common.{◌⊎◌, append-nil, ◌≡◌, ℕ, List, [], ◌∷◌, ◌++◌, drop, length, map, Option, Some, None, refl, sym, subst, slice_get, inl, inr, false}
use Rattle.proto_data.specs.declared.message.Msg.{Msg}
use Rattle.rp_base.specs.declared.node.Node.{Node}
use Rattle.proto_data.specs.declared.message.Body.{Body}
use Rattle.proto_data.specs.declared.message.Entry.{Entry}
use Rattle.proto_data.specs.declared.message.Input.{Input}
use Rattle.proto_data.specs.declared.message.Carried.{Carried}
use Rattle.rp_base.specs.declared.event.Event.{Event}
use Rattle.rp_app.specs.Application.{Application}
use Rattle.key_table.specs.Table.{Key}
use Rattle.proto_model.specs.Feeds.{Each}
use Rattle.proto_model.specs.Records.{Booked}
use Rattle.proto_model.specs.Stands.{entries_of, Stands}
use Rattle.proto_model.specs.ReplicaState.{Replica}
use Rattle.proto_model.specs.ReplicaRows.{StoreRow, store_step, store_row, switch_of}
use Rattle.proto_model.specs.World.{World, Setup, ReplicaNode, opened, below, open_replica_node, running_switches, running_replicas}
use Rattle.proto_model.specs.WorldStep.{world_after, advanced_replicas, announcements, config_msg}
use Rattle.proto_safety.specs.Books.{In, BooksHold, EntryAt, entries_at}
use Rattle.proto_safety.specs.Origins.{AskSent, ChunkSent, Origin, OnForward, CameOfRequests}
use Rattle.proto_safety.proofs.Nodes.StoreTable.{Taken, first_grant, own_grant, other_grant, next_put, next_snap, forwarded}
use Rattle.proto_safety.proofs.Store.StoreBooks.{Has, row_applies, SentBooks}
use Rattle.proto_model.proofs.StoreStands.{book_after, entries_of-push}
use Rattle.proto_safety.proofs.Store.BooksStep.{RowOf, of_message, of_alarm, of_packet, row_of, step_sent}
use Rattle.proto_safety.proofs.Nodes.SwitchSends.{IsRequest, FromSwitch, RequestMsg, Requests, switch_requests}
use Rattle.proto_safety.proofs.Inductions.Induction.{Keeps, KeepsGiven, keeps_all, keeps_both, run_kept, Comes}
use Rattle.proto_safety.proofs.Store.WorldBooks.{books_kept, books_hold}
use Rattle.proto_safety.proofs.Store.WorldGathers.{Gathering, GathersFrom, AllGathers, whole_origin, gathers_kept, opened_gathers}
use Rattle.proto_safety.proofs.Basics.Eachs.{each_append, each_at, each_changed, each_in, each_map, each_set, each_weaker}
use Rattle.proto_safety.proofs.Basics.Members.{in_append, in_frames, in_front, in_middle}

pub record FrameOrigin (frames : List Msg) (m : Msg) : Type 0 where
  pub from : IsRequest m.body → FromSwitch m.from
  pub entry : OnForward (Origin frames) m.body

abbrev pub NodeOrigins : List Msg → ReplicaNode → Type 0
NodeOrigins frames node = (e : Entry) → In (entries_of node.book) e → Origin frames e

pub record Origins (w : World) : Type 0 where
  pub books : Each (NodeOrigins w.frames) w.replicas
  pub frames : Each (FrameOrigin w.frames) w.frames

-- ---- more frames

chunk_more : (frames ms : List Msg) (key : Key) (epoch round chunk chunks : ℕ) (cells : List ℕ) → ChunkSent frames key epoch round chunk chunks cells → ChunkSent (frames ++ ms) key epoch round chunk chunks cells
chunk_more frames ms key epoch round chunk chunks cells h = record { msg = h.msg; there = in_front frames ms h.msg h.there; inc = h.inc; body_is = h.body_is }

origin_more : (frames ms : List Msg) (e : Entry) → Origin frames e → Origin (frames ++ ms) e
origin_more frames ms (Entry.Grant key epoch switch inc nonce) h = record { msg = h.msg; there = in_front frames ms h.msg h.there; from_is = h.from_is; load = h.load; body_is = h.body_is }
origin_more frames ms (Entry.Put key epoch number delta) h = record { msg = h.msg; there = in_front frames ms h.msg h.there; inc = h.inc; load = h.load; body_is = h.body_is }
origin_more frames ms (Entry.Snap key epoch round cells) h =
    record { parts = h.parts; some = h.some; cells_are = h.cells_are; sent = λ i part at. chunk_more frames ms key epoch round i (length h.parts) part (h.sent i part at) }

forward_more : (frames ms : List Msg) (body : Body) → OnForward (Origin frames) body → OnForward (Origin (frames ++ ms)) body
forward_more frames ms (Body.Forward config index entry load) h = origin_more frames ms entry h
forward_more frames ms _ h = tt

frame_more : (frames ms : List Msg) (m : Msg) → FrameOrigin frames m → FrameOrigin (frames ++ ms) m
frame_more frames ms m h = record { from = h.from; entry = forward_more frames ms m.body h.entry }

frames_more : (frames ms : List Msg) → Each (FrameOrigin frames) frames → Each (FrameOrigin (frames ++ ms)) ms → Each (FrameOrigin (frames ++ ms)) (frames ++ ms)
frames_more frames ms h k = each_append (FrameOrigin (frames ++ ms)) frames ms (each_weaker (FrameOrigin frames) (FrameOrigin (frames ++ ms)) frames (λ m f. frame_more frames ms m f) h) k

books_more : (frames ms : List Msg) (nodes : List ReplicaNode) → Each (NodeOrigins frames) nodes → Each (NodeOrigins (frames ++ ms)) nodes
books_more frames ms nodes h = each_weaker (NodeOrigins frames) (NodeOrigins (frames ++ ms)) nodes (λ node k e i. origin_more frames ms e (k e i)) h

request_forward : (P : Entry → Type 0) (body : Body) → IsRequest body → OnForward P body
request_forward P (Body.Ask inc nonce key load) r = tt
request_forward P (Body.Put inc epoch number key delta load) r = tt
request_forward P (Body.Snap inc epoch round key chunk chunks cells) r = tt
request_forward P _ r = absurd r

requests_origin : (frames ms : List Msg) → Requests ms → Each (FrameOrigin frames) ms
requests_origin frames ms r = each_weaker RequestMsg (FrameOrigin frames) ms (λ m k. record { from = λ _. k.1; entry = request_forward (Origin frames) m.body k.0 }) r

-- ---- a replica's step

pub from_is_switch : (from : Node) → FromSwitch from → from ≡ Node.Switch (switch_of from)
from_is_switch (Node.Switch s) h = refl
from_is_switch (Node.Replica r) h = absurd h
from_is_switch Node.Master h = absurd h

asked_by : (frames : List Msg) (from to : Node) (inc nonce : ℕ) (key : Key) (load : Option Carried) → In frames (record { from = from; to = to; body = Body.Ask inc nonce key load }) → FromSwitch from → AskSent frames (switch_of from) inc nonce key
asked_by frames from to inc nonce key load i f = record { msg = record { from = from; to = to; body = Body.Ask inc nonce key load }; there = i; from_is = from_is_switch from f; load = load; body_is = refl }

taken_origin : {s : Replica} {now : ℕ} {from : Node} {body : Body} {row : StoreRow} (frames : List Msg) (to : Node) (x : Entry) → Taken s now from body row → Has row x → In frames (record { from = from; to = to; body = body }) → (IsRequest body → FromSwitch from) →
    OnForward (Origin frames) body → Gathering frames s.cell_count s.gathered → Origin frames x
taken_origin {from = from} frames to x (first_grant {inc = inc} {nonce = nonce} {key = key} {load = load} head at) is i f k g = subst (λ e. Origin frames e) is (asked_by frames from to inc nonce key load i (f tt))
taken_origin {from = from} frames to x (own_grant {inc = inc} {nonce = nonce} {key = key} {load = load} head at own later) is i f k g = subst (λ e. Origin frames e) is (asked_by frames from to inc nonce key load i (f tt))
taken_origin {from = from} frames to x (other_grant {inc = inc} {nonce = nonce} {key = key} {load = load} head at other old) is i f k g = subst (λ e. Origin frames e) is (asked_by frames from to inc nonce key load i (f tt))
taken_origin {from = from} frames to x (next_put {inc = inc} {epoch = epoch} {number = number} {key = key} {delta = delta} {load = load} head at e n d) is i f k g =
    subst (λ y. Origin frames y) is (record { msg = record { from = from; to = to; body = Body.Put inc epoch number key delta load }; there = i; inc = inc; load = load; body_is = refl })
taken_origin {s = s} {from = from} frames to x (next_snap {inc = inc} {epoch = epoch} {round = round} {chunk = chunk} {chunks = chunks} {key = key} {cells = cells} {whole = whole} {g = h} head at e n w fits) is i f k g =
    subst (λ y. Origin frames y) is (whole_origin frames s from to inc epoch round chunk chunks key cells whole h fits w i g)
taken_origin frames to x (forwarded c n fits) is i f k g = subst (λ y. Origin frames y) is k
taken_origin frames to x _ is i f k g = absurd is

row_origin : (w : World) (n : ℕ) (s : Replica) (now : ℕ) (input : Input) (row : StoreRow) (x : Entry) → RowOf s now input row → Has row x → Comes w (Node.Replica n) input → Each (FrameOrigin w.frames) w.frames → Gathering w.frames s.cell_count s.gathered → Origin w.frames x
row_origin w n s now (Input.Msg m) row x (of_message t) is from h g =
    let f = each_at (FrameOrigin w.frames) w.frames from.1.0 m h from.1.1 in taken_origin w.frames m.to x t is (in_frames w.frames from.1.0 m from.1.1) f.from f.entry g
row_origin w n s now input row x of_alarm is from h g = absurd is
row_origin w n s now input row x of_packet is from h g = absurd is

-- the book after a step
after_origin : (w : World) (n : ℕ) (s : Replica) (book : List Booked) (now event : ℕ) (input : Input) → Comes w (Node.Replica n) input → ((e : Entry) → In (entries_of book) e → Origin w.frames e) → Each (FrameOrigin w.frames) w.frames →
    Gathering w.frames s.cell_count s.gathered → (e : Entry) → In (entries_of (book_after now event book (store_step s now input).1.applied)) e → Origin w.frames e
after_origin w n s book now event input from old h g e i = applied_case (store_step s now input).1.applied refl i
  where
    new_case : (x : Entry) → (store_step s now input).1.applied ≡ Some x → In (entries_of book) e ⊎ In (x ∷ []) e → Origin w.frames e
    new_case x is (inl k) = old e k
    new_case x is (inr (inl same)) = subst (λ y. Origin w.frames y) same (row_origin w n s now input (store_row s now input) x (row_of s now input) (row_applies s now (store_row s now input) x is) from h g)
    new_case x is (inr (inr j)) = absurd j

    applied_case : (o : Option Entry) → (store_step s now input).1.applied ≡ o → In (entries_of (book_after now event book o)) e → Origin w.frames e
    applied_case None is j = old e (subst (λ b. In (entries_of b) e) (append-nil book) j)
    applied_case (Some x) is j =
        new_case x is (in_append (entries_of book) (x ∷ []) e (subst (λ es. In es e) (entries_of-push book (record { entry = x; moment = now; event = event })) j))

-- what stands at a place is there
at_in : (es : List Entry) (place : ℕ) (e : Entry) → EntryAt es place e → In es e
at_in es place e h = subst (λ l. In l e) (sym h.is) (in_middle h.before h.behind e)

sent_origin : (frames : List Msg) (r : Replica) (es : List Entry) (m : Msg) → ((e : Entry) → In es e → Origin frames e) → SentBooks r es m.from m.to m.body → FrameOrigin frames m
sent_origin frames r es m books s = record { from = no_request m.from m.to m.body s; entry = forwarded_of m.from m.to m.body s }
  where
    no_request : (from to : Node) (body : Body) → SentBooks r es from to body → IsRequest body → FromSwitch from
    no_request from to (Body.Ask inc nonce key load) s q = absurd s
    no_request from to (Body.Put inc epoch number key delta load) s q = absurd s
    no_request from to (Body.Snap inc epoch round key chunk chunks cells) s q = absurd s
    no_request from to _ s q = absurd q

    forwarded_of : (from to : Node) (body : Body) → SentBooks r es from to body → OnForward (Origin frames) body
    forwarded_of from to (Body.Forward config index entry load) s = books entry (at_in es index entry s.3)
    forwarded_of from to _ s = tt

-- ---- the world

moved_origins : (w : World) (n : ℕ) (node : ReplicaNode) (input : Input) → slice_get w.replicas n ≡ Some node → Stands node.state node.book → Comes w (Node.Replica n) input → Origins w →
    (books : (e : Entry) → In (entries_of (book_after node.clock w.event node.book (store_step node.state node.clock input).1.applied)) e → Origin (w.frames ++ (store_step node.state node.clock input).1.sent) e) →
    Each (FrameOrigin (w.frames ++ (store_step node.state node.clock input).1.sent)) (w.frames ++ (store_step node.state node.clock input).1.sent)
moved_origins w n node input at st from h books =
    frames_more w.frames (store_step node.state node.clock input).1.sent h.frames
    (each_weaker
    (λ (m : Msg). SentBooks (store_step node.state node.clock input).0 (entries_of (book_after node.clock w.event node.book (store_step node.state node.clock input).1.applied)) m.from m.to m.body)
    (FrameOrigin (w.frames ++ (store_step node.state node.clock input).1.sent)) (store_step node.state node.clock input).1.sent
    (λ m s. sent_origin (w.frames ++ (store_step node.state node.clock input).1.sent) (store_step node.state node.clock input).0 (entries_of (book_after node.clock w.event node.book (store_step node.state node.clock input).1.applied)) m books s)
    (step_sent node.state node.book node.clock w.event input st))

book_origin : (w : World) (n : ℕ) (node : ReplicaNode) (input : Input) → slice_get w.replicas n ≡ Some node → Comes w (Node.Replica n) input → Gathering w.frames node.state.cell_count node.state.gathered → Origins w →
    (e : Entry) → In (entries_of (book_after node.clock w.event node.book (store_step node.state node.clock input).1.applied)) e → Origin (w.frames ++ (store_step node.state node.clock input).1.sent) e
book_origin w n node input at from g h e i =
    origin_more w.frames (store_step node.state node.clock input).1.sent e
    (after_origin w n node.state node.book node.clock w.event input from (each_at (NodeOrigins w.frames) w.replicas n node h.books at) h.frames g e i)

advanced_origins : (frames : List Msg) (nodes : List ReplicaNode) (by : List ℕ) → Each (NodeOrigins frames) nodes → Each (NodeOrigins frames) (advanced_replicas nodes by)
advanced_origins frames [] by h = tt
advanced_origins frames (n ∷ ns) [] h = h
advanced_origins frames (n ∷ ns) (d ∷ ds) h = (h.0, advanced_origins frames ns ds h.1)

announced_origins : (frames : List Msg) (w : World) → Each (FrameOrigin frames) (announcements w)
announced_origins frames w =
    each_append (FrameOrigin frames) (map (λ n. config_msg w (Node.Switch n)) (running_switches w)) _
    (each_map (FrameOrigin frames) (λ n. config_msg w (Node.Switch n)) (running_switches w) (λ n. record { from = λ q. absurd q; entry = tt }))
    (each_map (FrameOrigin frames) (λ n. config_msg w (Node.Replica n)) (running_replicas w) (λ n. record { from = λ q. absurd q; entry = tt }))

asked_more : (w : World) (ms : List Msg) → Requests ms → Origins w → Each (NodeOrigins (w.frames ++ ms)) w.replicas × Each (FrameOrigin (w.frames ++ ms)) (w.frames ++ ms)
asked_more w ms r h = (books_more w.frames ms w.replicas h.books, frames_more w.frames ms h.frames (requests_origin (w.frames ++ ms) ms r))

-- what a replica gathers
gathering_at : (w : World) (n : ℕ) (node : ReplicaNode) → AllGathers w → slice_get w.replicas n ≡ Some node → Gathering w.frames node.state.cell_count node.state.gathered
gathering_at w n node h at = each_at (GathersFrom w.frames) w.replicas n node h at

abbrev pub Stored : World → Type 0
Stored w = BooksHold w × AllGathers w

pub origins_kept : (app : Application) → KeepsGiven app Stored Origins
origins_kept app =
    record {
      counts = λ w b h. record { books = h.books; frames = h.frames };
      passes = λ w i b h. record { books = h.books; frames = h.frames };
      feeds = λ w n node p at up mark b h. let k = asked_more w _ (switch_requests app node.state node.clock (Input.Packet p)) h in record { books = k.0; frames = k.1 };
      switches = λ w n node input at up from b h. let k = asked_more w _ (switch_requests app node.state node.clock input) h in record { books = k.0; frames = k.1 };
      replicas = λ w n node input at up from b h.
          record {
            books = each_set (NodeOrigins (w.frames ++ (store_step node.state node.clock input).1.sent)) w.replicas n _ (books_more w.frames (store_step node.state node.clock input).1.sent w.replicas h.books) (book_origin w n node input at from (gathering_at w n node b.1 at) h);
            frames = moved_origins w n node input at (b.0.1.nodes n node at).stands from h (book_origin w n node input at from (gathering_at w n node b.1 at) h);
          };
      advances = λ w by fits b h. record { books = advanced_origins w.frames w.replicas (drop (length w.switches) by) h.books; frames = h.frames };
      stops_switch = λ w n fits b h. record { books = h.books; frames = h.frames };
      stops_replica = λ w n fits b h. record { books = each_changed (NodeOrigins w.frames) w.replicas n (λ (r : ReplicaNode). record r { runs = false }) (λ x k. k) h.books; frames = h.frames };
      boots = λ w n fits b h. record { books = h.books; frames = h.frames };
      detects_switch = λ w n fits b h. record { books = h.books; frames = h.frames };
      detects_replica = λ w n fits b h. record { books = h.books; frames = h.frames };
      announces = λ w b h.
          record { books = books_more w.frames (announcements w) w.replicas h.books; frames = frames_more w.frames (announcements w) h.frames (announced_origins (w.frames ++ announcements w) w) };
    }

pub stored_kept : (app : Application) → Keeps app Stored
stored_kept app = keeps_all app BooksHold AllGathers (books_kept app) (gathers_kept app)

pub opened_origins : (cells : ℕ) (setup : Setup) → Origins (opened cells setup)
opened_origins cells setup = record { books = each_map (NodeOrigins []) (open_replica_node cells setup) (below setup.replicas) (λ n e i. absurd i); frames = tt }

pub origins_hold : (app : Application) (setup : Setup) (es : List Event) → Origins (world_after app (opened app.cell_count setup) es)
origins_hold app setup es =
    (run_kept app (λ w. Stored w × Origins w) (keeps_both app Stored Origins (stored_kept app) (origins_kept app)) es (opened app.cell_count setup)
    ((books_hold app setup [], opened_gathers app.cell_count setup), opened_origins app.cell_count setup)).1

-- ---- what is promised

book_came : (w : World) (n : ℕ) (e : Entry) (o : Option ReplicaNode) → slice_get w.replicas n ≡ o → Origins w → In (entries_at o) e → Origin w.frames e
book_came w n e None at h i = absurd i
book_came w n e (Some node) at h i = each_at (NodeOrigins w.frames) w.replicas n node h.books at e i

pub came_of_requests : (w : World) → Origins w → CameOfRequests w
came_of_requests w h =
    record {
      books = λ n e i. book_came w n e (slice_get w.replicas n) refl h i;
      forwards = λ m i. (each_in (FrameOrigin w.frames) w.frames m h.frames i).entry;
    }
