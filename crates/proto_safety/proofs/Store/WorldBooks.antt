-- After every list of events books are prefixes along each configuration, and the committed book only grows.
use Rattle.std.proofs.Common.{◌≡◌, ◌≢◌, ◌⊎◌, ℕ, ◌+◌, ◌≤◌, ◌<◌, List, [], ◌∷◌, ◌++◌, length, drop, map, Some, arith, refl, sym, ap, subst, ◌∙◌, slice_get, inl, inr, true, false, Bool, zero, suc, eqb-true}
use Rattle.std.specs.Prelude.{◌==◌, ◌&&◌}
use Rattle.std.specs.List.{list_any, range_with_len}
use Rattle.std.proofs.lemmas.Bool.{both_ways, false≢true, leb-false, and_from, eqb-false}
use Rattle.proto_data.specs.declared.message.Msg.{Msg}
use Rattle.proto_data.specs.declared.message.Body.{Body}
use Rattle.rp_base.specs.declared.node.Node.{Node}
use Rattle.proto_data.specs.declared.message.Entry.{Entry}
use Rattle.proto_data.specs.declared.message.Input.{Input}
use Rattle.proto_data.specs.declared.message.Config.{Config}
use Rattle.rp_base.specs.declared.event.Event.{Event}
use Rattle.rp_app.specs.Application.{Application}
use Rattle.proto_model.specs.Feeds.{Each}
use Rattle.proto_model.specs.Stands.{entries_of}
use Rattle.proto_model.specs.World.{World, Setup, ReplicaNode, opened, below, open_replica_node, first_config, running_switches, running_replicas}
use Rattle.proto_model.specs.WorldStep.{world_after, advanced_replicas, changed_at, announcements, config_msg, Stops, Detects, runs_now, believed_up}
use Rattle.proto_safety.specs.Books.{In, IsPrefix, Rising, lives, book_of, committed_of, FrameBooks, Configs, NodeBooks, Books, BooksHold}
use Rattle.proto_safety.proofs.Inductions.Acts.{Fits}
use Rattle.proto_safety.proofs.Store.Chains.{without, in_without, stays_in, rising_without, in_any, rising_from, in_from}
use Rattle.proto_safety.proofs.Store.LastBook.{IsLast, last_book, NoneLives, Found, find_last, advanced_books, advanced_last, advanced_at, stopped_books, few_ran}
use Rattle.proto_safety.proofs.Store.BooksLater.{Later, frames_later, node_later, configs_later, to_weaker}
use Rattle.proto_safety.proofs.Store.BooksStep.{Known, moved_nodes, moved_frames, moved_configs, moved_committed}
use Rattle.proto_safety.proofs.Nodes.SwitchSends.{IsRequest, RequestMsg, Requests, switch_requests}
use Rattle.key_table.proofs.Tables.{same_some}
use Rattle.proto_safety.proofs.Inductions.Induction.{Keeps, keeps_same, KeepsGiven, keeps_both, run_kept, Comes}
use Rattle.proto_safety.proofs.Basics.Eachs.{each_append, each_at, each_in, each_map, each_weaker}
use Rattle.proto_safety.proofs.Basics.Lists.{at_changed}
use Rattle.proto_safety.proofs.Basics.Prefixes.{prefix_same, prefix_trans}

-- ---- switches, and the master's frames

request_books : (confs : List Config) (nodes : List ReplicaNode) (from to : Node) (body : Body) → IsRequest body → FrameBooks confs nodes from to body
request_books confs nodes from to (Body.Ask inc nonce key load) r = tt
request_books confs nodes from to (Body.Put inc epoch number key delta load) r = tt
request_books confs nodes from to (Body.Snap inc epoch round key chunk chunks cells) r = tt
request_books confs nodes from to _ r = absurd r

requested : (confs : List Config) (nodes : List ReplicaNode) (frames ms : List Msg) → Requests ms → Each (λ (m : Msg). FrameBooks confs nodes m.from m.to m.body) frames → Each (λ (m : Msg). FrameBooks confs nodes m.from m.to m.body) (frames ++ ms)
requested confs nodes frames ms r f =
    each_append (λ (m : Msg). FrameBooks confs nodes m.from m.to m.body) frames ms f
    (each_weaker RequestMsg (λ (m : Msg). FrameBooks confs nodes m.from m.to m.body) ms (λ m k. request_books confs nodes m.from m.to m.body k.0) r)

announced : (confs : List Config) (w : World) → Books confs w → Each (λ (m : Msg). FrameBooks confs w.replicas m.from m.to m.body) (w.frames ++ announcements w)
announced confs w h =
    each_append (λ (m : Msg). FrameBooks confs w.replicas m.from m.to m.body) w.frames _ h.frames
    (each_append (λ (m : Msg). FrameBooks confs w.replicas m.from m.to m.body) (map (λ n. config_msg w (Node.Switch n)) (running_switches w)) _
    (each_map (λ (m : Msg). FrameBooks confs w.replicas m.from m.to m.body) (λ n. config_msg w (Node.Switch n)) (running_switches w) (λ n. h.configs.present))
    (each_map (λ (m : Msg). FrameBooks confs w.replicas m.from m.to m.body) (λ n. config_msg w (Node.Replica n)) (running_replicas w) (λ n. h.configs.present)))

-- ---- clocks

advanced_later : (nodes : List ReplicaNode) (by : List ℕ) → Later nodes (advanced_replicas nodes by)
advanced_later nodes by =
    record {
      books = λ a. rw (advanced_books nodes by a) (prefix_same (book_of nodes a));
      committed = rw (advanced_last nodes by []) (prefix_same (committed_of nodes));
      living = λ a node at up. let o = advanced_at nodes by a node at in (o.0, (o.1.0, sym (ap (λ (x : ReplicaNode). x.runs) o.1.1) ∙ up));
    }

advanced_nodes : (confs : List Config) (nodes : List ReplicaNode) (by : List ℕ) → ((n : ℕ) (node : ReplicaNode) → slice_get nodes n ≡ Some node → NodeBooks confs nodes n node) →
    (n : ℕ) (node : ReplicaNode) → slice_get (advanced_replicas nodes by) n ≡ Some node → NodeBooks confs (advanced_replicas nodes by) n node
advanced_nodes confs nodes by h n node at =
    let o = advanced_at nodes by n node at in
    let k : NodeBooks confs (advanced_replicas nodes by) n o.0 = node_later confs nodes (advanced_replicas nodes by) n o.0 (advanced_later nodes by) (h n o.0 o.1.0) in
    rw o.1.1 (record { me = k.me; config = k.config; stands = k.stands; behind = k.behind; known = k.known })

advanced_books_hold : (confs : List Config) (w : World) (by : List ℕ) → Books confs w → Books confs (record w { replicas = advanced_replicas w.replicas by })
advanced_books_hold confs w by h =
    record {
      configs = configs_later confs w.config w.replicas (advanced_replicas w.replicas by) (advanced_later w.replicas by) h.configs;
      nodes = advanced_nodes confs w.replicas by h.nodes;
      frames = frames_later confs w.replicas (advanced_replicas w.replicas by) w.frames (advanced_later w.replicas by) h.frames;
    }

-- ---- a replica stops

abbrev after_stop : List ReplicaNode → ℕ → List ReplicaNode
after_stop nodes n = changed_at nodes n (λ (r : ReplicaNode). record r { runs = false })

-- who runs after the stop is another, and ran
pub still : (nodes : List ReplicaNode) (n m : ℕ) (node : ReplicaNode) → slice_get (after_stop nodes n) m ≡ Some node → lives node ≡ true → (m ≢ n) × (slice_get nodes m ≡ Some node)
still nodes n m node at up = still_case (at_changed nodes n m (λ (r : ReplicaNode). record r { runs = false }) node at)
  where
    still_case : ((m ≡ n) × ((x : ReplicaNode) × ((slice_get nodes m ≡ Some x) × (node ≡ record x { runs = false })))) ⊎ ((m ≢ n) × (slice_get nodes m ≡ Some node)) → (m ≢ n) × (slice_get nodes m ≡ Some node)
    still_case (inl p) = absurd (both_ways node.runs (ap (λ (x : ReplicaNode). x.runs) p.1.1.1) up)
    still_case (inr p) = p

-- the committed book after a stop, where another replica runs
stopped_committed : (confs : List Config) (nodes : List ReplicaNode) (now : Config) (n : ℕ) → Configs confs now nodes → ((m : ℕ) (node : ReplicaNode) → slice_get nodes m ≡ Some node → NodeBooks confs nodes m node) →
    (NoneLives (after_stop nodes n) → ⊥) → IsPrefix (committed_of nodes) (committed_of (after_stop nodes n))
stopped_committed confs nodes now n c h some = last_case (find_last (after_stop nodes n)) (find_last nodes)
  where
    grown_case : (old : ReplicaNode) (l : ℕ) (m : ℕ) (new : ReplicaNode) → IsLast nodes l old → IsLast (after_stop nodes n) m new → (t : Bool) → (m == l) ≡ t → IsPrefix (entries_of old.book) (entries_of new.book)
    grown_case old l m new i j true is =
        let same : m ≡ l = eqb-true m l is in
        let node : new ≡ old = same_some (slice_get nodes m) new old (still nodes n m new j.at j.up).1 (ap (λ k. slice_get nodes k) same ∙ i.at) in
        rw node (prefix_same (entries_of old.book))
    grown_case old l m new i j false is =
        let s = still nodes n m new j.at j.up in
        let ne : (m ≡ l → ⊥) = eqb-false m l is in
        let le : m ≤ l = i.last m new s.1 j.up in
        let old_books : NodeBooks confs nodes l old = h l old i.at in
        let there : book_of nodes m ≡ entries_of new.book = rw s.1 refl in
        subst (λ es. IsPrefix (entries_of old.book) es) there
        (old_books.behind i.up m (c.members old.state.config old_books.config m new s.1 j.up) (omega (arith, ne)))

    last_case : Found (after_stop nodes n) → Found nodes → IsPrefix (committed_of nodes) (committed_of (after_stop nodes n))
    last_case (inr none) f = absurd (some none)
    last_case (inl j) (inr none) = let s = still nodes n j.0 j.1.0 j.1.1.at j.1.1.up in absurd (none j.0 j.1.0 s.1 j.1.1.up)
    last_case (inl j) (inl i) =
        rw (last_book nodes [] i.0 i.1.0 i.1.1, last_book (after_stop nodes n) [] j.0 j.1.0 j.1.1)
        (grown_case i.1.0 i.0 j.0 j.1.0 i.1.1 j.1.1 (j.0 == i.0) refl)

stopped_later : (confs : List Config) (nodes : List ReplicaNode) (now : Config) (n : ℕ) → Configs confs now nodes → ((m : ℕ) (node : ReplicaNode) → slice_get nodes m ≡ Some node → NodeBooks confs nodes m node) →
    (NoneLives (after_stop nodes n) → ⊥) → Later nodes (after_stop nodes n)
stopped_later confs nodes now n c h some =
    record {
      books = λ a. rw (stopped_books nodes n a) (prefix_same (book_of nodes a));
      committed = stopped_committed confs nodes now n c h some;
      living = λ a node at up. let s = still nodes n a node at up in (node, (s.1, up));
    }

stopped_nodes : (confs : List Config) (nodes : List ReplicaNode) (n : ℕ) → Later nodes (after_stop nodes n) → ((m : ℕ) (node : ReplicaNode) → slice_get nodes m ≡ Some node → NodeBooks confs nodes m node) →
    (m : ℕ) (node : ReplicaNode) → slice_get (after_stop nodes n) m ≡ Some node → NodeBooks confs (after_stop nodes n) m node
stopped_nodes confs nodes n l h m node at = node_case (at_changed nodes n m (λ (r : ReplicaNode). record r { runs = false }) node at)
  where
    node_case : ((m ≡ n) × ((x : ReplicaNode) × ((slice_get nodes m ≡ Some x) × (node ≡ record x { runs = false })))) ⊎ ((m ≢ n) × (slice_get nodes m ≡ Some node)) → NodeBooks confs (after_stop nodes n) m node
    node_case (inl p) =
        let k : NodeBooks confs (after_stop nodes n) m p.1.0 = node_later confs nodes (after_stop nodes n) m p.1.0 l (h m p.1.0 p.1.1.0) in
        rw p.1.1.1 (record { me = k.me; config = k.config; stands = k.stands; behind = λ up a i below. absurd (false≢true up); known = k.known })
    node_case (inr p) = node_later confs nodes (after_stop nodes n) m node l (h m node p.1)

-- the last running one may not stop
pub some_left : (w : World) (n : ℕ) → Fits w (Stops (Node.Replica n)) → NoneLives (after_stop w.replicas n) → ⊥
some_left w n fits none = let few = few_ran w.replicas n 0 none in let many = leb-false (length (running_replicas w)) 1 fits.1 in absurd (omega arith)

stopped_hold : (confs : List Config) (w : World) (n : ℕ) → Fits w (Stops (Node.Replica n)) → Books confs w → Books confs (record w { replicas = after_stop w.replicas n })
stopped_hold confs w n fits h =
    let l : Later w.replicas (after_stop w.replicas n) = stopped_later confs w.replicas w.config n h.configs h.nodes (some_left w n fits) in
    record {
      configs = configs_later confs w.config w.replicas (after_stop w.replicas n) l h.configs;
      nodes = stopped_nodes confs w.replicas n l h.nodes;
      frames = frames_later confs w.replicas (after_stop w.replicas n) w.frames l h.frames;
    }

-- ---- a failed replica is detected

abbrev next_config : World → ℕ → Config
next_config w n = record { number = w.config.number + 1; chain = without w.config.chain n }

body_more : (c : Config) (confs : List Config) (nodes : List ReplicaNode) (from to : Node) (body : Body) → FrameBooks confs nodes from to body → FrameBooks (c ∷ confs) nodes from to body
body_more c confs nodes from to (Body.Forward config index entry load) h = to_weaker _ _ to (λ b f. record { config = f.config; was = inr f.was; number_is = f.number_is; have = f.have; sender = f.sender; from_is = f.from_is; sender_in = f.sender_in; sender_before = f.sender_before }) h
body_more c confs nodes from to (Body.Have index) h = h
body_more c confs nodes from to (Body.Config config) h = inr h
body_more c confs nodes from to (Body.Ask inc nonce key load) h = tt
body_more c confs nodes from to (Body.Grant inc nonce epoch key cells load) h = tt
body_more c confs nodes from to (Body.Busy inc nonce key mark) h = tt
body_more c confs nodes from to (Body.Put inc epoch number key delta load) h = tt
body_more c confs nodes from to (Body.Ack inc epoch upto key load) h = tt
body_more c confs nodes from to (Body.Deny inc epoch key) h = tt
body_more c confs nodes from to (Body.Echo of load) h = tt
body_more c confs nodes from to (Body.Snap inc epoch round key chunk chunks cells) h = tt

-- a replica that is detected doesn't run, unless nothing changes for it
down : (confs : List Config) (w : World) (n : ℕ) → Books confs w → ((runs_now w (Node.Replica n) && believed_up w (Node.Replica n)) ≡ false) → (node : ReplicaNode) → slice_get w.replicas n ≡ Some node → lives node ≡ true → ⊥
down confs w n h fits node at up =
    let member : list_any (λ m. m == n) w.config.chain ≡ true = in_any w.config.chain n (h.configs.members w.config h.configs.present n node at up) in
    let runs : runs_now w (Node.Replica n) ≡ true = rw at up in
    both_ways (runs_now w (Node.Replica n) && believed_up w (Node.Replica n)) fits (and_from _ _ runs member)

detected_configs : (confs : List Config) (w : World) (n : ℕ) → Books confs w → ((runs_now w (Node.Replica n) && believed_up w (Node.Replica n)) ≡ false) → Configs (next_config w n ∷ confs) (next_config w n) w.replicas
detected_configs confs w n h fits =
    record {
      present = inl refl;
      numbers = (omega arith, each_weaker (λ (c : Config). c.number ≤ w.config.number) (λ (c : Config). c.number ≤ w.config.number + 1) confs (λ c l. omega arith) h.configs.numbers);
      rising = (rising_without w.config.chain n (each_in (λ (c : Config). Rising c.chain) confs w.config h.configs.rising h.configs.present), h.configs.rising);
      members = λ c was a node at up. member c was a node at up (a == n) refl;
      later = λ c d i j le a b in_c in_d below. order c d i j le a b in_c in_d below;
    }
  where
    new_member : (a : ℕ) (node : ReplicaNode) → slice_get w.replicas a ≡ Some node → lives node ≡ true → (t : Bool) → (a == n) ≡ t → In (without w.config.chain n) a
    new_member a node at up true is = let same : a ≡ n = eqb-true a n is in absurd (down confs w n h fits node (ap (λ k. slice_get w.replicas k) (sym same) ∙ at) up)
    new_member a node at up false is = stays_in w.config.chain n a (h.configs.members w.config h.configs.present a node at up) is

    member : (c : Config) → In (next_config w n ∷ confs) c → (a : ℕ) (node : ReplicaNode) → slice_get w.replicas a ≡ Some node → lives node ≡ true → (t : Bool) → (a == n) ≡ t → In c.chain a
    member c (inl e) a node at up t is = subst (λ (d : Config). In d.chain a) e (new_member a node at up t is)
    member c (inr i) a node at up t is = h.configs.members c i a node at up

    within : (c : Config) → In confs c → c.number ≤ w.config.number
    within c i = each_in (λ (c : Config). c.number ≤ w.config.number) confs c h.configs.numbers i

    order : (c d : Config) → In (next_config w n ∷ confs) c → In (next_config w n ∷ confs) d → c.number ≤ d.number → (a b : ℕ) → In c.chain b → In d.chain a → a < b → In c.chain a
    order c d (inl e) (inl f) le a b in_c in_d below = subst (λ (x : Config). In x.chain a) (sym f ∙ e) in_d
    order c d (inl e) (inr j) le a b in_c in_d below = absurd (too_high c d e (within d j) le)
      where
        too_high : (c d : Config) → next_config w n ≡ c → d.number ≤ w.config.number → c.number ≤ d.number → ⊥
        too_high c d e l le = let same : w.config.number + 1 ≡ c.number = ap (λ (x : Config). x.number) e in absurd (omega arith)
    order c d (inr i) (inl f) le a b in_c in_d below =
        h.configs.later c w.config i h.configs.present (within c i) a b in_c (in_without w.config.chain n a (subst (λ (x : Config). In x.chain a) (sym f) in_d)) below
    order c d (inr i) (inr j) le a b in_c in_d below = h.configs.later c d i j le a b in_c in_d below

detected_hold : (confs : List Config) (w : World) (n : ℕ) → Fits w (Detects (Node.Replica n)) → Books confs w → Books (next_config w n ∷ confs) (record w { config = next_config w n })
detected_hold confs w n fits h =
    record {
      configs = detected_configs confs w n h fits.0;
      nodes = λ m node at. let k : NodeBooks confs w.replicas m node = h.nodes m node at in record { me = k.me; config = inr k.config; stands = k.stands; behind = k.behind; known = k.known };
      frames = each_weaker (λ (m : Msg). FrameBooks confs w.replicas m.from m.to m.body) (λ (m : Msg). FrameBooks (next_config w n ∷ confs) w.replicas m.from m.to m.body) w.frames
          (λ m f. body_more (next_config w n) confs w.replicas m.from m.to m.body f) h.frames;
    }

-- ---- a replica takes an input

pub known_input : (confs : List Config) (w : World) (n : ℕ) (input : Input) → Comes w (Node.Replica n) input → Books confs w → Known confs w.replicas n input
known_input confs w n (Input.Msg m) from h = (from.0, each_at (λ (m : Msg). FrameBooks confs w.replicas m.from m.to m.body) w.frames from.1.0 m h.frames from.1.1)
known_input confs w n Input.Alarm from h = tt
known_input confs w n (Input.Packet p) from h = absurd from

-- books in order, for configurations with these among them
abbrev pub BooksSince : List Config → World → Type 0
BooksSince was w = (confs : List Config) × (Books confs w × ((c : Config) → In was c → In confs c))

pub since_kept : (app : Application) (was : List Config) → Keeps app (BooksSince was)
since_kept app was =
    record {
      counts = λ w h. (h.0, (record { configs = h.1.0.configs; nodes = h.1.0.nodes; frames = h.1.0.frames }, h.1.1));
      passes = λ w i h. (h.0, (record { configs = h.1.0.configs; nodes = h.1.0.nodes; frames = h.1.0.frames }, h.1.1));
      feeds = λ w n node p at up mark h. (
        h.0,
        (record { configs = h.1.0.configs; nodes = h.1.0.nodes; frames = requested h.0 w.replicas w.frames _ (switch_requests app node.state node.clock (Input.Packet p)) h.1.0.frames }, h.1.1),
      );
      switches = λ w n node input at up from h. (
        h.0,
        (record { configs = h.1.0.configs; nodes = h.1.0.nodes; frames = requested h.0 w.replicas w.frames _ (switch_requests app node.state node.clock input) h.1.0.frames }, h.1.1),
      );
      replicas = λ w n node input at up from h. (
        h.0,
        (
          record {
            configs = moved_configs h.0 w.config w.replicas n node w.event input at up h.1.0.configs h.1.0.nodes (known_input h.0 w n input from h.1.0);
            nodes = moved_nodes h.0 w.config w.replicas n node w.event input at up h.1.0.configs h.1.0.nodes (known_input h.0 w n input from h.1.0);
            frames = moved_frames h.0 w.config w.replicas n node w.event input at up h.1.0.configs h.1.0.nodes (known_input h.0 w n input from h.1.0) w.frames h.1.0.frames;
          },
          h.1.1,
        ),
      );
      advances = λ w by fits h. let k = advanced_books_hold h.0 w (drop (length w.switches) by) h.1.0 in (h.0, (record { configs = k.configs; nodes = k.nodes; frames = k.frames }, h.1.1));
      stops_switch = λ w n fits h. (h.0, (record { configs = h.1.0.configs; nodes = h.1.0.nodes; frames = h.1.0.frames }, h.1.1));
      stops_replica = λ w n fits h. let k = stopped_hold h.0 w n fits h.1.0 in (h.0, (record { configs = k.configs; nodes = k.nodes; frames = k.frames }, h.1.1));
      boots = λ w n fits h. (h.0, (record { configs = h.1.0.configs; nodes = h.1.0.nodes; frames = h.1.0.frames }, h.1.1));
      detects_switch = λ w n fits h. (h.0, (record { configs = h.1.0.configs; nodes = h.1.0.nodes; frames = h.1.0.frames }, h.1.1));
      detects_replica = λ w n fits h. (next_config w n ∷ h.0, (detected_hold h.0 w n fits h.1.0, λ c i. inr (h.1.1 c i)));
      announces = λ w h. (h.0, (record { configs = h.1.0.configs; nodes = h.1.0.nodes; frames = announced h.0 w h.1.0 }, h.1.1));
    }

since_none : (w : World) → BooksHold w → BooksSince [] w
since_none w h = (h.0, (h.1, λ c i. absurd i))

since_some : (was : List Config) (w : World) → BooksSince was w → BooksHold w
since_some was w h = (h.0, h.1.0)

pub books_kept : (app : Application) → Keeps app BooksHold
books_kept app = keeps_same app (BooksSince []) BooksHold (λ w h. since_some [] w h) (λ w h. since_none w h) (since_kept app [])

-- ---- at the start

open_is : (cells : ℕ) (setup : Setup) {node : ReplicaNode} (a b : ℕ) → b ≡ a → open_replica_node cells setup a ≡ node → open_replica_node cells setup b ≡ node
open_is cells setup a b e h = rw e h

nodes_from : (cells : ℕ) (setup : Setup) (k from n : ℕ) (node : ReplicaNode) → slice_get (map (open_replica_node cells setup) (range_with_len from k)) n ≡ Some node → (n < k) × (open_replica_node cells setup (from + n) ≡ node)
nodes_from cells setup zero from n node at = cc
nodes_from cells setup (suc k) from zero node at = (omega arith, open_is cells setup from (from + 0) (omega arith) cc)
nodes_from cells setup (suc k) from (suc n) node at =
    let r = nodes_from cells setup k (from + 1) n node at in (omega (arith, r.0), open_is cells setup (from + 1 + n) (from + suc n) (omega arith) r.1)

empty_book : (cells : ℕ) (setup : Setup) (ns : List ℕ) (a : ℕ) → book_of (map (open_replica_node cells setup) ns) a ≡ []
empty_book cells setup [] a = refl
empty_book cells setup (n ∷ ns) zero = refl
empty_book cells setup (n ∷ ns) (suc a) = empty_book cells setup ns a

opened_books : (cells : ℕ) (setup : Setup) → Books (first_config setup.replicas ∷ []) (opened cells setup)
opened_books cells setup =
    record {
      configs =
          record {
            present = inl refl;
            numbers = (omega arith, tt);
            rising = (rising_from setup.replicas 0, tt);
            members = λ c was a node at up. member c was a node at;
            later = λ c d i j le a b in_c in_d below. only c d i j a in_d;
          };
      nodes = λ n node at. subst (λ (x : ReplicaNode). NodeBooks (first_config setup.replicas ∷ []) (opened cells setup).replicas n x) (nodes_from cells setup setup.replicas 0 n node at).1 (open_node n);
      frames = tt;
    }
  where
    member : (c : Config) → In (first_config setup.replicas ∷ []) c → (a : ℕ) (node : ReplicaNode) → slice_get (opened cells setup).replicas a ≡ Some node → In c.chain a
    member c (inl e) a node at = subst (λ (d : Config). In d.chain a) e (in_from setup.replicas 0 a (omega arith) (omega (arith, (nodes_from cells setup setup.replicas 0 a node at).0)))
    member c (inr i) a node at = absurd i

    only : (c d : Config) → In (first_config setup.replicas ∷ []) c → In (first_config setup.replicas ∷ []) d → (a : ℕ) → In d.chain a → In c.chain a
    only c d (inl e) (inl f) a in_d = subst (λ (x : Config). In x.chain a) (sym f ∙ e) in_d
    only c d (inl e) (inr j) a in_d = absurd j
    only c d (inr i) j a in_d = absurd i

    open_node : (n : ℕ) → NodeBooks (first_config setup.replicas ∷ []) (opened cells setup).replicas n (open_replica_node cells setup (0 + n))
    open_node n =
        record {
          me = omega arith;
          config = inl refl;
          stands = record { records_along = refl; count = refl; pending_past = refl; known_within = omega arith; known_at_tail = λ _. refl };
          behind = λ up a i below. record { rest = book_of (opened cells setup).replicas a; is = refl };
          known = omega arith;
        }

pub books_hold : (app : Application) (setup : Setup) (es : List Event) → BooksHold (world_after app (opened app.cell_count setup) es)
books_hold app setup es = run_kept app BooksHold (books_kept app) es (opened app.cell_count setup) (first_config setup.replicas ∷ [], opened_books app.cell_count setup)

-- ---- the committed book only grows

pub advanced_committed : (nodes : List ReplicaNode) (by : List ℕ) → IsPrefix (committed_of nodes) (committed_of (advanced_replicas nodes by))
advanced_committed nodes by = (advanced_later nodes by).committed

pub stopped_grows : (confs : List Config) (w : World) (n : ℕ) → Fits w (Stops (Node.Replica n)) → Books confs w → IsPrefix (committed_of w.replicas) (committed_of (changed_at w.replicas n (λ (r : ReplicaNode). record r { runs = false })))
stopped_grows confs w n fits h = (stopped_later confs w.replicas w.config n h.configs h.nodes (some_left w n fits)).committed

-- what is committed stays at the front
pub committed_kept : (app : Application) (front : List Entry) → KeepsGiven app BooksHold (λ w. IsPrefix front (committed_of w.replicas))
committed_kept app front =
    record {
      counts = λ w b h. h;
      passes = λ w i b h. h;
      feeds = λ w n node p at up mark b h. h;
      switches = λ w n node input at up from b h. h;
      replicas = λ w n node input at up from b h. prefix_trans h (moved_committed b.0 w.config w.replicas n node w.event input at up b.1.configs b.1.nodes (known_input b.0 w n input from b.1));
      advances = λ w by fits b h. prefix_trans h (advanced_later w.replicas (drop (length w.switches) by)).committed;
      stops_switch = λ w n fits b h. h;
      stops_replica = λ w n fits b h. prefix_trans h (stopped_later b.0 w.replicas w.config n b.1.configs b.1.nodes (some_left w n fits)).committed;
      boots = λ w n fits b h. h;
      detects_switch = λ w n fits b h. h;
      detects_replica = λ w n fits b h. h;
      announces = λ w b h. h;
    }

pub committed_grows : (app : Application) (es : List Event) (w : World) → BooksHold w → IsPrefix (committed_of w.replicas) (committed_of (world_after app w es).replicas)
committed_grows app es w b =
    (run_kept app (λ v. BooksHold v × IsPrefix (committed_of w.replicas) (committed_of v.replicas))
    (keeps_both app BooksHold (λ v. IsPrefix (committed_of w.replicas) (committed_of v.replicas)) (books_kept app) (committed_kept app (committed_of w.replicas))) es w
    (b, prefix_same (committed_of w.replicas))).1
