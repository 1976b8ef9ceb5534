-- A world has the nodes and the terms of its setup, whatever happens in it.
use Rattle.std.proofs.Common.{◌≡◌, ℕ, Option, Some, None, refl, slice_get, true, IfSome}
use Rattle.rp_base.specs.declared.event.Event.{Event}
use Rattle.rp_app.specs.Application.{Application}
use Rattle.proto_data.specs.declared.message.Input.{Input}
use Rattle.proto_data.specs.declared.message.Msg.{Msg}
use Rattle.proto_model.specs.Effects.{frame_passed}
use Rattle.proto_model.specs.Handing.{hand, handed}
use Rattle.proto_model.specs.World.{World, Setup}
use Rattle.proto_model.specs.WorldStep.{world_step, runs_now}
use Rattle.proto_safety.specs.Changes.{Keeps}
use Rattle.proto_safety.proofs.Inductions.Induction.{event_kept, keeps_all, keeps_same, node_kept, running_after}
use Rattle.proto_safety.proofs.Messages.FramesGrow.{SoManyNodes, nodes_kept}
use Rattle.proto_safety.proofs.Time.ClockSums.{terms_kept}
use Rattle.rp_world.specs.Begun.{IsFrom}

from_kept : (app : Application) (setup : Setup) → Keeps app (IsFrom setup)
from_kept app setup =
    keeps_same app (λ w. SoManyNodes setup.switches setup.replicas w × (w.terms ≡ setup.terms)) (IsFrom setup)
    (λ w h. record { switches = h.0.0; replicas = h.0.1; terms = h.1 })
    (λ w h. ((h.switches, h.replicas), h.terms))
    (keeps_all app (SoManyNodes setup.switches setup.replicas) (λ w. w.terms ≡ setup.terms) (nodes_kept app setup.switches setup.replicas) (terms_kept app setup.terms))

-- after an event
pub event_from : (app : Application) (setup : Setup) (w : World) (e : Event) → IsFrom setup w → IsFrom setup (world_step app w e).0
event_from app setup w e h = event_kept app (IsFrom setup) (from_kept app setup) w e h

module _ (app : Application) (setup : Setup) (w : World) (i : ℕ) where
  by : (o : Option Msg) → slice_get w.frames i ≡ o → IfSome o (λ m. runs_now w m.to ≡ true) → IsFrom setup w → IsFrom setup (handed app w i o).0
  by None at up h = h
  by (Some m) at up h = node_kept app (IsFrom setup) (from_kept app setup) (frame_passed w i) m.to (Input.Msg m) (running_after w i m.to up) (refl, (i, at)) ((from_kept app setup).passes w i h)

  -- after a frame that is handed over
  pub hand_from : IfSome (slice_get w.frames i) (λ m. runs_now w m.to ≡ true) → IsFrom setup w → IsFrom setup (hand app w i).0
  hand_from up h = by (slice_get w.frames i) refl up h
