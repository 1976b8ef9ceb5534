-- After every list of events each replica is where its book leaves it.
use Rattle.std.proofs.Common.{ℕ, List, [], ◌∷◌, refl, false, length, drop, arith}
use Rattle.rp_base.specs.declared.event.Event.{Event}
use Rattle.rp_app.specs.Application.{Application}
use Rattle.proto_model.specs.Feeds.{Each}
use Rattle.proto_model.specs.World.{World, Setup, ReplicaNode, opened, below, open_replica_node}
use Rattle.proto_model.specs.WorldStep.{world_after, advanced_replicas}
use Rattle.proto_model.specs.Stands.{Stands}
use Rattle.proto_safety.proofs.Inductions.Induction.{Keeps, run_kept}
use Rattle.proto_model.proofs.StoreStands.{step_stands}
use Rattle.proto_safety.proofs.Basics.Eachs.{each_at, each_changed, each_map, each_set}

abbrev pub NodeStands : ReplicaNode → Type 0
NodeStands node = Stands node.state node.book

abbrev pub AllStand : World → Type 0
AllStand w = Each NodeStands w.replicas

advanced_stand : (nodes : List ReplicaNode) (by : List ℕ) → Each NodeStands nodes → Each NodeStands (advanced_replicas nodes by)
advanced_stand [] by h = tt
advanced_stand (n ∷ ns) [] h = h
advanced_stand (n ∷ ns) (d ∷ ds) h = (h.0, advanced_stand ns ds h.1)

stand_kept : (app : Application) → Keeps app AllStand
stand_kept app =
    record {
      counts = λ w h. h;
      passes = λ w i h. h;
      feeds = λ w n node p at up mark h. h;
      switches = λ w n node input at up from h. h;
      replicas = λ w n node input at up from h.
          each_set NodeStands w.replicas n _ h
          (step_stands node.state node.book node.clock w.event input (each_at NodeStands w.replicas n node h at));
      advances = λ w by rates h. advanced_stand w.replicas (drop (length w.switches) by) h;
      stops_switch = λ w n fits h. h;
      stops_replica = λ w n fits h. each_changed NodeStands w.replicas n (λ (r : ReplicaNode). record r { runs = false }) (λ x k. k) h;
      boots = λ w n down h. h;
      detects_switch = λ w n fits h. h;
      detects_replica = λ w n fits h. h;
      announces = λ w h. h;
    }

opened_stand : (cells : ℕ) (setup : Setup) → AllStand (opened cells setup)
opened_stand cells setup =
    each_map NodeStands (open_replica_node cells setup) (below setup.replicas)
    (λ n. record { records_along = refl; count = refl; pending_past = refl; known_within = omega arith; known_at_tail = λ _. refl })

pub all_stand : (app : Application) (setup : Setup) (es : List Event) → AllStand (world_after app (opened app.cell_count setup) es)
all_stand app setup es = run_kept app AllStand (stand_kept app) es (opened app.cell_count setup) (opened_stand app.cell_count setup)
