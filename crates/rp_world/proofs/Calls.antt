-- What the calls of a world need, and what they leave.
use Rattle.std.proofs.Common.{◌≡◌, ◌<◌, ℕ, List, true, sym, ap, subst, arith, slice_get, IfSome}
use Rattle.rp_base.specs.declared.event.Event.{Event}
use Rattle.rp_base.specs.declared.line.Line.{Line as Shown}
use Rattle.rp_app.specs.Application.{Application}
use Rattle.proto_model.specs.Handing.{hand}
use Rattle.proto_model.specs.World.{World, Setup}
use Rattle.proto_model.specs.WorldStep.{world_step, runs_now}
use Rattle.proto_safety.specs.Frames.{Grows}
use Rattle.proto_safety.specs.Sizes.{EventSized}
use Rattle.proto_safety.proofs.Messages.FramesGrow.{FewNodes, event_grows, hand_grows}
use Rattle.run_history.specs.Shown.{shown_step, stepped}
use Rattle.world_state.specs.Acts.{IsEventOf as IsWorldEvent}
use Rattle.world_state.specs.declared.state.WorldState.{WorldState}
use Rattle.world_state.specs.WorldStates.{IsRun, world_of}
use Rattle.rp_world.specs.AppWorld.{IsEventOf}
use Rattle.rp_world.specs.Begun.{IsFrom, IsGoing}
use Rattle.rp_world.proofs.FromSetup.{event_from, hand_from}

-- an event of a run's setup is one of its world
pub event_fits : (setup : Setup) (w : World) (e : Event) → IsFrom setup w → IsEventOf setup e → IsWorldEvent w e
event_fits setup w (Event.Feed port bytes) h is = is
event_fits setup w (Event.FeedAt n port bytes) h is = is
event_fits setup w (Event.Deliver i) h is = tt
event_fits setup w Event.Next h is = tt
event_fits setup w (Event.Drop i) h is = tt
event_fits setup w (Event.Time by) h is = (omega (arith, is.0, h.switches, h.replicas), is.1)
event_fits setup w (Event.Alarm node) h is = tt
event_fits setup w (Event.Fail node) h is = tt
event_fits setup w (Event.Boot n) h is = tt
event_fits setup w (Event.Detect node) h is = tt
event_fits setup w Event.Announce h is = tt
event_fits setup w Event.Pump h is = tt

-- a world that goes on has at most 8 switches and 5 replicas
pub few_nodes : (app : Application) (s : WorldState) → IsRun app s → FewNodes (world_of s)
few_nodes app s run = record { switches = run.sized.switches_few; replicas = run.sized.replicas_few }

-- a packet is as large as its port's type and the setup say
pub feed_sized : (setup : Setup) (e : Event) (port : ℕ) (bytes : List ℕ) → e ≡ Event.Feed port bytes → port < 65536 → IsEventOf setup e → EventSized e
feed_sized setup e port bytes is small fits = subst EventSized (sym is) (small, subst (IsEventOf setup) is fits)

pub feed_at_sized : (setup : Setup) (e : Event) (at port : ℕ) (bytes : List ℕ) → e ≡ Event.FeedAt at port bytes → port < 65536 → IsEventOf setup e → EventSized e
feed_at_sized setup e at port bytes is small fits = subst EventSized (sym is) (small, subst (IsEventOf setup) is fits)

module _ (app : Application) (setup : Setup) (s new : WorldState) (lines : List Shown) (going : IsGoing app setup s) where
  -- after an event
  module _ (e : Event) (step : (world_of new, lines) ≡ stepped app (world_of s) e) where
    after_event : (world_step app (world_of s) e).0 ≡ world_of new
    after_event = sym (ap (λ (x : World × List Shown). x.0) step)

    pub going_on : IsRun app new → IsGoing app setup new
    going_on run = record { run = run; from = subst (IsFrom setup) after_event (event_from app setup (world_of s) e going.from) }

    pub few_on : Grows (world_of s).frames (world_of new).frames
    few_on = subst (λ (w : World). Grows (world_of s).frames w.frames) after_event (event_grows app (world_of s) e (few_nodes app s going.run))

  -- after a frame that is handed over
  module _ (i : ℕ) (step : (world_of new, lines) ≡ shown_step (hand app (world_of s) i)) where
    after_hand : (hand app (world_of s) i).0 ≡ world_of new
    after_hand = sym (ap (λ (x : World × List Shown). x.0) step)

    pub going_hand : IfSome (slice_get s.frames i) (λ m. runs_now (world_of s) m.to ≡ true) → IsRun app new → IsGoing app setup new
    going_hand up run = record { run = run; from = subst (IsFrom setup) after_hand (hand_from app setup (world_of s) i up going.from) }

    pub few_hand : Grows (world_of s).frames (world_of new).frames
    few_hand = subst (λ (w : World). Grows (world_of s).frames w.frames) after_hand (hand_grows app (world_of s) i)
