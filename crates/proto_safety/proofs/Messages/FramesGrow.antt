-- Frames only grow, by at most 64 in one event.
use Rattle.std.proofs.Common.{◌≡◌, ℕ, ◌≤◌, List, [], length, Option, Some, None, arith, refl, ◌∙◌, drop, length-append, length-set, slice_get, map, ◌∷◌}
use Rattle.std.proofs.lemmas.List.{length-map}
use Rattle.std.proofs.lemmas.List.FromFn.{length-range_with_len}
use Rattle.std.proofs.lemmas.Grind.{common_steps}
use Rattle.proto_data.specs.declared.message.Msg.{Msg}
use Rattle.rp_base.specs.declared.node.Node.{Node}
use Rattle.proto_data.specs.declared.message.Input.{Input}
use Rattle.rp_base.specs.declared.event.Event.{Event}
use Rattle.rp_app.specs.Application.{Application}
use Rattle.proto_model.specs.SwitchRow.{switch_row}
use Rattle.proto_model.specs.SwitchRows.{switch_step}
use Rattle.proto_model.specs.SwitchState.{lapsed}
use Rattle.proto_model.specs.ReplicaRows.{store_step, store_row}
use Rattle.proto_model.specs.Handing.{hand, handed}
use Rattle.proto_safety.specs.Frames.{Grows}
use Rattle.proto_model.specs.World.{World, Setup, SwitchNode, ReplicaNode, running_switches, running_replicas, opened, below, open_switch_node, open_replica_node}
use Rattle.proto_model.specs.Effects.{packet_fed, frame_passed}
use Rattle.proto_model.specs.WorldStep.{node_takes, switch_takes, replica_takes, perform_act, Act, Feeds, Delivers, Alarms, Stops, Detects, Announces, world_step, next_event, act_of, announcements, config_msg, world_after, advanced_switches, advanced_replicas}
use Rattle.proto_safety.proofs.Basics.Lists.{numbers_few, length_map, length_changed_at}
use Rattle.proto_safety.proofs.Inductions.Induction.{Keeps, run_kept}
use Rattle.proto_safety.proofs.Nodes.SentLimits.{row_sends}
use Rattle.proto_safety.proofs.Nodes.StoreSends.{store_row_sends}

-- the same frames
same : (frames : List Msg) → Grows frames frames
same frames = record { new = []; behind = grind (arith, common_steps); few = omega arith }

switch_grows : (app : Application) (w : World) (n : ℕ) (input : Input) (o : Option SwitchNode) → Grows w.frames (switch_takes app w n input o).0.frames
switch_grows app w n input None = same w.frames
switch_grows app w n input (Some node) =
    record {
      new = (switch_step app node.state node.clock input).1.sent;
      behind = refl;
      few = row_sends _ _ (switch_row app (lapsed node.clock node.state) node.clock input);
    }

replica_grows : (w : World) (n : ℕ) (input : Input) (o : Option ReplicaNode) → Grows w.frames (replica_takes w n input o).0.frames
replica_grows w n input None = same w.frames
replica_grows w n input (Some node) =
    record {
      new = (store_step node.state node.clock input).1.sent;
      behind = refl;
      few = store_row_sends _ _ (store_row node.state node.clock input);
    }

node_grows : (app : Application) (w : World) (to : Node) (input : Input) → Grows w.frames (node_takes app w to input).0.frames
node_grows app w (Node.Switch n) input = switch_grows app w n input (slice_get w.switches n)
node_grows app w (Node.Replica n) input = replica_grows w n input (slice_get w.replicas n)
node_grows app w Node.Master input = same w.frames

handed_grows : (app : Application) (w : World) (i : ℕ) (o : Option Msg) → Grows w.frames (handed app w i o).0.frames
handed_grows app w i None = same w.frames
handed_grows app w i (Some m) = node_grows app (frame_passed w i) m.to (Input.Msg m)

pub hand_grows : (app : Application) (w : World) (i : ℕ) → Grows w.frames (hand app w i).0.frames
hand_grows app w i = handed_grows app w i (slice_get w.frames i)

-- at most 8 switches and 5 replicas
pub record FewNodes (w : World) : Type 0 where
  pub switches : length w.switches ≤ 8
  pub replicas : length w.replicas ≤ 5

announced_few : (w : World) → FewNodes w → length (announcements w) ≤ 64
announced_few w few =
    omega (
      arith,
      length-append (map (λ n. config_msg w (Node.Switch n)) (running_switches w)) (map (λ n. config_msg w (Node.Replica n)) (running_replicas w)),
      length_map (λ n. config_msg w (Node.Switch n)) (running_switches w),
      length_map (λ n. config_msg w (Node.Replica n)) (running_replicas w),
      numbers_few (λ (n : SwitchNode). n.runs) 0 w.switches,
      numbers_few (λ (n : ReplicaNode). n.runs) 0 w.replicas,
      few.switches,
      few.replicas,
    )

act_grows : (app : Application) (w : World) (act : Act) → FewNodes w → Grows w.frames (perform_act app w act).0.frames
act_grows app w (Feeds n p) few = node_grows app (packet_fed w p) (Node.Switch n) (Input.Packet p)
act_grows app w (Delivers i m) few = node_grows app (frame_passed w i) m.to (Input.Msg m)
act_grows app w (Alarms node) few = node_grows app w node Input.Alarm
act_grows app w Announces few = record { new = announcements w; behind = refl; few = announced_few w few }
act_grows app w (Stops (Node.Switch n)) few = same w.frames
act_grows app w (Stops (Node.Replica n)) few = same w.frames
act_grows app w (Stops Node.Master) few = same w.frames
act_grows app w (Detects (Node.Switch n)) few = same w.frames
act_grows app w (Detects (Node.Replica n)) few = same w.frames
act_grows app w (Detects Node.Master) few = same w.frames
act_grows app w _ few = same w.frames

pub event_grows : (app : Application) (w : World) (e : Event) → FewNodes w → Grows w.frames (world_step app w e).0.frames
event_grows app w e few = act_grows app (next_event w) (act_of app (next_event w) e) (record { switches = few.switches; replicas = few.replicas })

-- ---- the number of nodes stays

abbrev pub SoManyNodes : ℕ → ℕ → World → Type 0
SoManyNodes switches replicas w = (length w.switches ≡ switches) × (length w.replicas ≡ replicas)

pub length_advanced_switches : (nodes : List SwitchNode) (by : List ℕ) → length (advanced_switches nodes by) ≡ length nodes
length_advanced_switches [] by = refl
length_advanced_switches (n ∷ ns) [] = refl
length_advanced_switches (n ∷ ns) (d ∷ ds) = omega (arith, length_advanced_switches ns ds)

pub length_advanced_replicas : (nodes : List ReplicaNode) (by : List ℕ) → length (advanced_replicas nodes by) ≡ length nodes
length_advanced_replicas [] by = refl
length_advanced_replicas (n ∷ ns) [] = refl
length_advanced_replicas (n ∷ ns) (d ∷ ds) = omega (arith, length_advanced_replicas ns ds)

pub nodes_kept : (app : Application) (s r : ℕ) → Keeps app (SoManyNodes s r)
nodes_kept app s r =
    record {
      counts = λ w h. h;
      passes = λ w i h. h;
      feeds = λ w n node p at up mark h. (length-set w.switches n _ ∙ h.0, h.1);
      switches = λ w n node input at up from h. (length-set w.switches n _ ∙ h.0, h.1);
      replicas = λ w n node input at up from h. (h.0, length-set w.replicas n _ ∙ h.1);
      advances = λ w by fits h. (length_advanced_switches w.switches by ∙ h.0, length_advanced_replicas w.replicas (drop (length w.switches) by) ∙ h.1);
      stops_switch = λ w n fits h. (length_changed_at w.switches n _ ∙ h.0, h.1);
      stops_replica = λ w n fits h. (h.0, length_changed_at w.replicas n _ ∙ h.1);
      boots = λ w n down h. (length_changed_at w.switches n _ ∙ h.0, h.1);
      detects_switch = λ w n fits h. (length_changed_at w.switches n _ ∙ h.0, h.1);
      detects_replica = λ w n fits h. h;
      announces = λ w h. h;
    }

pub so_many_nodes : (app : Application) (setup : Setup) (es : List Event) → SoManyNodes setup.switches setup.replicas (world_after app (opened app.cell_count setup) es)
so_many_nodes app setup es =
    run_kept app (SoManyNodes setup.switches setup.replicas) (nodes_kept app setup.switches setup.replicas) es (opened app.cell_count setup) (
      length-map (below setup.switches) (open_switch_node setup) ∙ length-range_with_len 0 setup.switches,
      length-map (below setup.replicas) (open_replica_node app.cell_count setup) ∙ length-range_with_len 0 setup.replicas,
    )

pub frames_grow : (app : Application) (setup : Setup) (es : List Event) (e : Event) → setup.switches ≤ 8 → setup.replicas ≤ 5 →
    Grows (world_after app (opened app.cell_count setup) es).frames (world_step app (world_after app (opened app.cell_count setup) es) e).0.frames
frames_grow app setup es e s r =
    let many = so_many_nodes app setup es in
    event_grows app (world_after app (opened app.cell_count setup) es) e (record { switches = omega (arith, many.0); replicas = omega (arith, many.1) })
