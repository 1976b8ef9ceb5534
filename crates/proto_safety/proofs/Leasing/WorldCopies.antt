-- After every list of events each switch's copies stand in leased slots.
use Rattle.std.proofs.Common.{◌≡◌, ℕ, List, [], ◌∷◌, Some, slice_get, set}
use Rattle.proto_data.specs.declared.message.Input.{Input}
use Rattle.rp_base.specs.declared.event.Event.{Event}
use Rattle.rp_app.specs.Application.{Application}
use Rattle.proto_model.specs.Feeds.{Each}
use Rattle.proto_model.specs.World.{World, Setup, SwitchNode, opened, below, open_switch_node}
use Rattle.proto_model.specs.WorldStep.{world_after, advanced_switches}
use Rattle.proto_safety.proofs.Inductions.Induction.{Keeps, run_kept}
use Rattle.proto_safety.proofs.Leasing.Copies.{Fit, step_copies}
use Rattle.proto_safety.proofs.Basics.Eachs.{each_at, each_changed, each_map, each_set}

abbrev pub NodeFits : SwitchNode → Type 0
NodeFits node = Fit node.state

abbrev pub AllFit : World → Type 0
AllFit w = Each NodeFits w.switches

advanced_fit : (nodes : List SwitchNode) (by : List ℕ) → Each NodeFits nodes → Each NodeFits (advanced_switches nodes by)
advanced_fit [] by h = tt
advanced_fit (n ∷ ns) [] h = h
advanced_fit (n ∷ ns) (d ∷ ds) h = (h.0, advanced_fit ns ds h.1)

-- a switch that takes an input
taken : (app : Application) (switches : List SwitchNode) (n : ℕ) (node : SwitchNode) (input : Input) → slice_get switches n ≡ Some node → Each NodeFits switches →
    Each NodeFits (set switches n (record node { state = (Rattle.proto_model.specs.SwitchRows.switch_step app node.state node.clock input).0 }))
taken app switches n node input at h =
    each_set NodeFits switches n _ h (step_copies app node.state node.clock input (each_at NodeFits switches n node h at))

fit_kept : (app : Application) → Keeps app AllFit
fit_kept app =
    record {
      counts = λ w h. h;
      passes = λ w i h. h;
      feeds = λ w n node p at up mark h. taken app w.switches n node (Input.Packet p) at h;
      switches = λ w n node input at up from h. taken app w.switches n node input at h;
      replicas = λ w n node input at up from h. h;
      advances = λ w by fits h. advanced_fit w.switches by h;
      stops_switch = λ w n fits h. each_changed NodeFits w.switches n _ (λ x k. k) h;
      stops_replica = λ w n fits h. h;
      boots = λ w n down h. each_changed NodeFits w.switches n _ (λ x k. tt) h;
      detects_switch = λ w n fits h. each_changed NodeFits w.switches n _ (λ x k. k) h;
      detects_replica = λ w n fits h. h;
      announces = λ w h. h;
    }

pub all_fit : (app : Application) (setup : Setup) (es : List Event) → AllFit (world_after app (opened app.cell_count setup) es)
all_fit app setup es =
    run_kept app AllFit (fit_kept app) es (opened app.cell_count setup) (each_map NodeFits (open_switch_node setup) (below setup.switches) (λ n. tt))
