-- In strict mode, after every list of events: a leased slot's Grant is committed; with copies the greatest of their numbers is its last, and without any its last number is committed.
use Rattle.std.proofs.Common.{◌≡◌, ◌≢◌, ◌⊎◌, ℕ, ◌+◌, List, [], ◌∷◌, drop, length, Some, None, refl, sym, subst, slice_get, set, inl, inr, false, zero, suc, arith}
use Rattle.proto_data.specs.declared.message.Msg.{Msg}
use Rattle.rp_base.specs.declared.node.Node.{Node}
use Rattle.proto_data.specs.declared.message.Entry.{Entry}
use Rattle.proto_data.specs.declared.message.Input.{Input}
use Rattle.proto_data.specs.declared.terms.Terms.{Terms}
use Rattle.rp_base.specs.declared.event.Event.{Event}
use Rattle.rp_app.specs.Application.{Application}
use Rattle.key_table.specs.Table.{Key}
use Rattle.proto_model.specs.SwitchState.{Item}
use Rattle.proto_model.specs.SwitchRows.{switch_step}
use Rattle.proto_model.specs.World.{World, Setup, SwitchNode, opened, below, open_switch_node}
use Rattle.proto_model.specs.WorldStep.{world_after, advanced_switches, advanced_replicas, changed_at}
use Rattle.proto_safety.specs.Books.{IsPrefix, committed_of}
use Rattle.proto_safety.specs.Flows.{Reply}
use Rattle.proto_safety.proofs.Inductions.FlowMoves.{View, view, Moves, none, more}
use Rattle.proto_safety.proofs.Inductions.FlowAlarm.{step_moves}
use Rattle.proto_safety.proofs.Inductions.FlowInduction.{step_same}
use Rattle.proto_safety.proofs.Messages.FlowReplies.{FlowRests, Told, flow_move, flow_later}
use Rattle.proto_safety.proofs.Messages.WorldReplies.{Given, FramesReply, given_kept, replies_kept}
use Rattle.proto_safety.proofs.Store.WorldFits.{opened_fits}
use Rattle.proto_safety.proofs.Store.WorldBooks.{books_hold, known_input, advanced_committed, stopped_grows}
use Rattle.proto_safety.proofs.Store.BooksStep.{moved_committed}
use Rattle.proto_safety.proofs.Inductions.Induction.{Keeps, KeepsGiven, keeps_both, run_kept, Comes}
use Rattle.proto_safety.proofs.Basics.Eachs.{each_at, each_map}
use Rattle.proto_safety.proofs.Basics.Lists.{at_changed, at_set}

abbrev pub NodeRests : List Entry → ℕ → SwitchNode → Type 0
NodeRests es n node = (key : Key) → FlowRests es n node.state.inc node.state.terms key (view key node.state)

abbrev pub AllRest : List Entry → List SwitchNode → Type 0
AllRest es nodes = (n : ℕ) (node : SwitchNode) → slice_get nodes n ≡ Some node → NodeRests es n node

moves_rest : (app : Application) (es : List Entry) (n inc : ℕ) (terms : Terms) (now : ℕ) (input : Input) (key : Key) (v u : View) (items : List Item) → Told app.cell_count es n input → Moves app inc terms now input key v items u →
    FlowRests es n inc terms key v → FlowRests es n inc terms key u
moves_rest app es n inc terms now input key v _ _ told none h = h
moves_rest app es n inc terms now input key v u _ told (more {js = js} {ks = ks} {w = w} ms m) h = flow_move app es n inc terms now input key w u ks told m (moves_rest app es n inc terms now input key v w js told ms h)

step_rests : (app : Application) (es : List Entry) (n : ℕ) (node : SwitchNode) (input : Input) → Told app.cell_count es n input → NodeRests es n node → NodeRests es n (record node { state = (switch_step app node.state node.clock input).0 })
step_rests app es n node input told h key =
    let same = step_same app node.state node.clock input in
    subst (λ i. FlowRests es n i (switch_step app node.state node.clock input).0.terms key (view key (switch_step app node.state node.clock input).0)) (sym same.inc)
    (subst (λ t. FlowRests es n node.state.inc t key (view key (switch_step app node.state node.clock input).0)) (sym same.terms)
    (moves_rest app es n node.state.inc node.state.terms node.clock input key (view key node.state) (view key (switch_step app node.state node.clock input).0) _ told (step_moves app node.state node.clock input key) (h key)))

-- one switch takes an input
moved_rest : (app : Application) (es : List Entry) (nodes : List SwitchNode) (n : ℕ) (node : SwitchNode) (input : Input) → slice_get nodes n ≡ Some node → Told app.cell_count es n input → AllRest es nodes →
    AllRest es (set nodes n (record node { state = (switch_step app node.state node.clock input).0 }))
moved_rest app es nodes n node input at told h m other is = node_case (at_set nodes n m _ other is)
  where
    node_case : ((m ≡ n) × (other ≡ record node { state = (switch_step app node.state node.clock input).0 })) ⊎ ((m ≢ n) × (slice_get nodes m ≡ Some other)) → NodeRests es m other
    node_case (inl same) = rw (same.0, same.1) (step_rests app es n node input told (h n node at))
    node_case (inr there) = h m other there.1

later_rest : (old new : List Entry) (nodes : List SwitchNode) → IsPrefix old new → AllRest old nodes → AllRest new nodes
later_rest old new nodes p h n node at key = flow_later old new n node.state.inc node.state.terms key (view key node.state) p (h n node at key)

-- a switch changes in other ways, or starts anew
changed_rest : (es : List Entry) (nodes : List SwitchNode) (n : ℕ) (f : SwitchNode → SwitchNode) → ((m : ℕ) (x : SwitchNode) → NodeRests es m x → NodeRests es m (f x)) → AllRest es nodes → AllRest es (changed_at nodes n f)
changed_rest es nodes n f k h m node at = node_case (at_changed nodes n m f node at)
  where
    node_case : ((m ≡ n) × ((x : SwitchNode) × ((slice_get nodes m ≡ Some x) × (node ≡ f x)))) ⊎ ((m ≢ n) × (slice_get nodes m ≡ Some node)) → NodeRests es m node
    node_case (inl p) = rw p.1.1.1 (k m p.1.0 (h m p.1.0 p.1.1.0))
    node_case (inr p) = h m node p.1

fresh_rests : (es : List Entry) (n inc : ℕ) (terms : Terms) (key : Key) → FlowRests es n inc terms key (record { nonces = 0; slot = None; copies = [] })
fresh_rests es n inc terms key = record { copies = record { of = λ c i. absurd i; stand = λ m. refl }; rests = λ m. tt }

advanced_rest : (es : List Entry) (k : ℕ) (nodes : List SwitchNode) (by : List ℕ) → ((n : ℕ) (node : SwitchNode) → slice_get nodes n ≡ Some node → NodeRests es (k + n) node) → (n : ℕ) (node : SwitchNode) → slice_get (advanced_switches nodes by) n ≡ Some node → NodeRests es (k + n) node
advanced_rest es k [] by h n node at = cc
advanced_rest es k (x ∷ xs) [] h n node at = h n node at
advanced_rest es k (x ∷ xs) (d ∷ ds) h zero node at = let same : record x { clock = x.clock + d } ≡ node = cc in subst (λ y. NodeRests es (k + 0) y) same (h zero x refl)
advanced_rest es k (x ∷ xs) (d ∷ ds) h (suc n) node at =
    let e : k + suc n ≡ k + 1 + n = omega arith in
    rw e (advanced_rest es (k + 1) xs ds (λ m y is. let f : k + 1 + m ≡ k + suc m = omega arith in rw f (h (suc m) y is)) n node at)

pub told_input : (cells : ℕ) (w : World) (n : ℕ) (input : Input) → Comes w (Node.Switch n) input → FramesReply cells w → Told cells (committed_of w.replicas) n input
told_input cells w n (Input.Msg m) from h = (from.0, each_at (λ (m : Msg). Reply cells (committed_of w.replicas) m.to m.body) w.frames from.1.0 m h from.1.1)
told_input cells w n Input.Alarm from h = tt
told_input cells w n (Input.Packet p) from h = tt

abbrev pub Replied : ℕ → World → Type 0
Replied cells w = Given cells w × FramesReply cells w

pub replied_kept : (app : Application) → Keeps app (Replied app.cell_count)
replied_kept app = keeps_both app (Given app.cell_count) (FramesReply app.cell_count) (given_kept app) (replies_kept app)

pub rests_kept : (app : Application) → KeepsGiven app (Replied app.cell_count) (λ w. AllRest (committed_of w.replicas) w.switches)
rests_kept app =
    record {
      counts = λ w g h. h;
      passes = λ w i g h. h;
      feeds = λ w n node p at up mark g h. moved_rest app (committed_of w.replicas) w.switches n node (Input.Packet p) at tt h;
      switches = λ w n node input at up from g h. moved_rest app (committed_of w.replicas) w.switches n node input at (told_input app.cell_count w n input from g.1) h;
      replicas = λ w n node input at up from g h.
          later_rest (committed_of w.replicas) _ w.switches (moved_committed g.0.0.0 w.config w.replicas n node w.event input at up g.0.0.1.configs g.0.0.1.nodes (known_input g.0.0.0 w n input from g.0.0.1)) h;
      advances = λ w by fits g h n node at.
          let l = later_rest (committed_of w.replicas) _ w.switches (advanced_committed w.replicas (drop (length w.switches) by)) h in
          let k : NodeRests (committed_of (advanced_replicas w.replicas (drop (length w.switches) by))) (0 + n) node = advanced_rest _ 0 w.switches by (λ m y is. let f : 0 + m ≡ m = omega arith in rw f (l m y is)) n node at in
          let e : 0 + n ≡ n = omega arith in subst (λ i. NodeRests (committed_of (advanced_replicas w.replicas (drop (length w.switches) by))) i node) e k;
      stops_switch = λ w n fits g h. changed_rest (committed_of w.replicas) w.switches n (λ (s : SwitchNode). record s { runs = false }) (λ m x k. k) h;
      stops_replica = λ w n fits g h. later_rest (committed_of w.replicas) _ w.switches (stopped_grows g.0.0.0 w n fits g.0.0.1) h;
      boots = λ w n fits g h. changed_rest (committed_of w.replicas) w.switches n _ (λ m x k key. fresh_rests (committed_of w.replicas) m (x.state.inc + 1) w.terms key) h;
      detects_switch = λ w n fits g h. changed_rest (committed_of w.replicas) w.switches n (λ (s : SwitchNode). record s { believed = s.runs }) (λ m x k. k) h;
      detects_replica = λ w n fits g h. h;
      announces = λ w g h. h;
    }

pub flows_rest : (app : Application) (setup : Setup) (es : List Event) → AllRest (committed_of (world_after app (opened app.cell_count setup) es).replicas) (world_after app (opened app.cell_count setup) es).switches
flows_rest app setup es =
    (run_kept app (λ w. Replied app.cell_count w × AllRest (committed_of w.replicas) w.switches)
    (keeps_both app (Replied app.cell_count) (λ w. AllRest (committed_of w.replicas) w.switches) (replied_kept app) (rests_kept app)) es (opened app.cell_count setup) (
      ((books_hold app setup [], opened_fits app.cell_count setup), tt),
      λ n node at.
          each_at (λ (x : SwitchNode). (m : ℕ) → NodeRests (committed_of (opened app.cell_count setup).replicas) m x) (opened app.cell_count setup).switches n node
          (each_map (λ (x : SwitchNode). (m : ℕ) → NodeRests (committed_of (opened app.cell_count setup).replicas) m x) (open_switch_node setup) (below setup.switches)
          (λ i m key. fresh_rests (committed_of (opened app.cell_count setup).replicas) m 1 setup.terms key)) at n,
    )).1
