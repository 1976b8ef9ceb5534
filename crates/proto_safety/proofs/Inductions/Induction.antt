-- What holds at the start and is kept by each way in which the world changes holds after every list of events.
pub use Rattle.proto_safety.specs.Changes.{Comes, with_fed, Keeps, KeepsGiven}
use Rattle.std.proofs.Common.{◌≡◌, ℕ, ◌+◌, List, [], ◌∷◌, Option, Some, None, refl, slice_get, true}
use Rattle.std.proofs.lemmas.Bool.{false≢true}
use Rattle.rp_base.specs.declared.node.Node.{Node}
use Rattle.proto_data.specs.declared.message.Input.{Input}
use Rattle.rp_base.specs.declared.node.Packet.{Packet}
use Rattle.rp_base.specs.declared.event.Event.{Event}
use Rattle.rp_app.specs.Application.{Application}
use Rattle.proto_model.specs.SwitchRows.{switch_step}
use Rattle.proto_model.specs.ReplicaRows.{store_step}
use Rattle.proto_model.specs.World.{World, SwitchNode, ReplicaNode}
use Rattle.proto_model.specs.Effects.{switch_moved, replica_moved, frame_passed, master_sent}
use Rattle.proto_model.specs.WorldStep.{Act, Refuses, Feeds, Delivers, Passes, Advances, Alarms, Stops, Boots, Detects, Announces, Pumps, act_of, perform_act, node_takes, switch_takes, replica_takes, runs_now, runs_at_switch, runs_at_replica, stopped, booted, detected, advanced, announcements, next_event, world_step, world_after}
use Rattle.proto_safety.specs.Changes.{Fits}
use Rattle.proto_safety.proofs.Inductions.Acts.{act_fits}

-- of two facts that say the same one is kept where the other is
pub keeps_same : (app : Application) (I J : World → Type 0) → ((w : World) → I w → J w) → ((w : World) → J w → I w) → Keeps app I → Keeps app J
keeps_same app I J f g k =
    record {
      counts = λ w h. f (next_event w) (k.counts w (g w h));
      passes = λ w i h. f (frame_passed w i) (k.passes w i (g w h));
      feeds = λ w n node p at up mark h. f (switch_moved (with_fed w p) n node (switch_step app node.state node.clock (Input.Packet p))) (k.feeds w n node p at up mark (g w h));
      switches = λ w n node input at up from h. f (switch_moved w n node (switch_step app node.state node.clock input)) (k.switches w n node input at up from (g w h));
      replicas = λ w n node input at up from h. f (replica_moved w n node (store_step node.state node.clock input)) (k.replicas w n node input at up from (g w h));
      advances = λ w by fits h. f (advanced w by) (k.advances w by fits (g w h));
      stops_switch = λ w n fits h. f (stopped w (Node.Switch n)) (k.stops_switch w n fits (g w h));
      stops_replica = λ w n fits h. f (stopped w (Node.Replica n)) (k.stops_replica w n fits (g w h));
      boots = λ w n fits h. f (booted w n) (k.boots w n fits (g w h));
      detects_switch = λ w n fits h. f (detected w (Node.Switch n)) (k.detects_switch w n fits (g w h));
      detects_replica = λ w n fits h. f (detected w (Node.Replica n)) (k.detects_replica w n fits (g w h));
      announces = λ w h. f (master_sent w (announcements w)) (k.announces w (g w h));
    }

-- what is kept by itself is kept whatever else is known
pub keeps_anyway : (app : Application) (I J : World → Type 0) → Keeps app J → KeepsGiven app I J
keeps_anyway app I J k =
    record {
      counts = λ w g h. k.counts w h;
      passes = λ w i g h. k.passes w i h;
      feeds = λ w n node p at up mark g h. k.feeds w n node p at up mark h;
      switches = λ w n node input at up from g h. k.switches w n node input at up from h;
      replicas = λ w n node input at up from g h. k.replicas w n node input at up from h;
      advances = λ w by fits g h. k.advances w by fits h;
      stops_switch = λ w n fits g h. k.stops_switch w n fits h;
      stops_replica = λ w n fits g h. k.stops_replica w n fits h;
      boots = λ w n fits g h. k.boots w n fits h;
      detects_switch = λ w n fits g h. k.detects_switch w n fits h;
      detects_replica = λ w n fits g h. k.detects_replica w n fits h;
      announces = λ w g h. k.announces w h;
    }

-- what is kept, and what is kept given that
pub keeps_both : (app : Application) (I J : World → Type 0) → Keeps app I → KeepsGiven app I J → Keeps app (λ w. I w × J w)
keeps_both app I J k g =
    record {
      counts = λ w h. (k.counts w h.0, g.counts w h.0 h.1);
      passes = λ w i h. (k.passes w i h.0, g.passes w i h.0 h.1);
      feeds = λ w n node p at up mark h. (k.feeds w n node p at up mark h.0, g.feeds w n node p at up mark h.0 h.1);
      switches = λ w n node input at up from h. (k.switches w n node input at up from h.0, g.switches w n node input at up from h.0 h.1);
      replicas = λ w n node input at up from h. (k.replicas w n node input at up from h.0, g.replicas w n node input at up from h.0 h.1);
      advances = λ w by fits h. (k.advances w by fits h.0, g.advances w by fits h.0 h.1);
      stops_switch = λ w n fits h. (k.stops_switch w n fits h.0, g.stops_switch w n fits h.0 h.1);
      stops_replica = λ w n fits h. (k.stops_replica w n fits h.0, g.stops_replica w n fits h.0 h.1);
      boots = λ w n fits h. (k.boots w n fits h.0, g.boots w n fits h.0 h.1);
      detects_switch = λ w n fits h. (k.detects_switch w n fits h.0, g.detects_switch w n fits h.0 h.1);
      detects_replica = λ w n fits h. (k.detects_replica w n fits h.0, g.detects_replica w n fits h.0 h.1);
      announces = λ w h. (k.announces w h.0, g.announces w h.0 h.1);
    }

-- two facts, each kept by itself
pub keeps_all : (app : Application) (I J : World → Type 0) → Keeps app I → Keeps app J → Keeps app (λ w. I w × J w)
keeps_all app I J k l = keeps_both app I J k (keeps_anyway app I J l)

-- two facts, each kept where the same is known
pub given_both : (app : Application) (I J K : World → Type 0) → KeepsGiven app I J → KeepsGiven app I K → KeepsGiven app I (λ w. J w × K w)
given_both app I J K k l =
    record {
      counts = λ w g h. (k.counts w g h.0, l.counts w g h.1);
      passes = λ w i g h. (k.passes w i g h.0, l.passes w i g h.1);
      feeds = λ w n node p at up mark g h. (k.feeds w n node p at up mark g h.0, l.feeds w n node p at up mark g h.1);
      switches = λ w n node input at up from g h. (k.switches w n node input at up from g h.0, l.switches w n node input at up from g h.1);
      replicas = λ w n node input at up from g h. (k.replicas w n node input at up from g h.0, l.replicas w n node input at up from g h.1);
      advances = λ w by fits g h. (k.advances w by fits g h.0, l.advances w by fits g h.1);
      stops_switch = λ w n fits g h. (k.stops_switch w n fits g h.0, l.stops_switch w n fits g h.1);
      stops_replica = λ w n fits g h. (k.stops_replica w n fits g h.0, l.stops_replica w n fits g h.1);
      boots = λ w n fits g h. (k.boots w n fits g h.0, l.boots w n fits g h.1);
      detects_switch = λ w n fits g h. (k.detects_switch w n fits g h.0, l.detects_switch w n fits g h.1);
      detects_replica = λ w n fits g h. (k.detects_replica w n fits g h.0, l.detects_replica w n fits g h.1);
      announces = λ w g h. (k.announces w g h.0, l.announces w g h.1);
    }

pub running_after : (w : World) (i : ℕ) (to : Node) → runs_now w to ≡ true → runs_now (frame_passed w i) to ≡ true
running_after w i (Node.Switch n) up = up
running_after w i (Node.Replica n) up = up
running_after w i Node.Master up = up

module _ (app : Application) (I : World → Type 0) (k : Keeps app I) where
  switch_kept : (w : World) (n : ℕ) (input : Input) (o : Option SwitchNode) → slice_get w.switches n ≡ o → runs_at_switch o ≡ true →
      Comes w (Node.Switch n) input → I w → I (switch_takes app w n input o).0
  switch_kept w n input None at up from h = h
  switch_kept w n input (Some node) at up from h = k.switches w n node input at up from h

  replica_kept : (w : World) (n : ℕ) (input : Input) (o : Option ReplicaNode) → slice_get w.replicas n ≡ o → runs_at_replica o ≡ true →
      Comes w (Node.Replica n) input → I w → I (replica_takes w n input o).0
  replica_kept w n input None at up from h = h
  replica_kept w n input (Some node) at up from h = k.replicas w n node input at up from h

  pub node_kept : (w : World) (to : Node) (input : Input) → runs_now w to ≡ true → Comes w to input → I w → I (node_takes app w to input).0
  node_kept w (Node.Switch n) input up from h = switch_kept w n input (slice_get w.switches n) refl up from h
  node_kept w (Node.Replica n) input up from h = replica_kept w n input (slice_get w.replicas n) refl up from h
  node_kept w Node.Master input up from h = h

  fed_kept : (w : World) (n : ℕ) (p : Packet) (o : Option SwitchNode) → slice_get w.switches n ≡ o → runs_at_switch o ≡ true → p.mark ≡ w.event + 1 →
      I w → I (switch_takes app (with_fed w p) n (Input.Packet p) o).0
  fed_kept w n p None at up mark h = absurd (false≢true up)
  fed_kept w n p (Some node) at up mark h = k.feeds w n node p at up mark h

  act_kept : (w : World) (act : Act) → Fits (next_event w) act → I w → I (perform_act app (next_event w) act).0
  act_kept w (Refuses cause) fits h = k.counts w h
  act_kept w (Feeds n p) fits h = fed_kept w n p (slice_get w.switches n) refl fits.1 fits.0 h
  act_kept w (Delivers i m) fits h =
      node_kept (frame_passed (next_event w) i) m.to (Input.Msg m) (running_after (next_event w) i m.to fits.1) (refl, (i, fits.0))
      (k.passes (next_event w) i (k.counts w h))
  act_kept w (Passes i) fits h = k.passes (next_event w) i (k.counts w h)
  act_kept w (Advances by) fits h = k.advances (next_event w) by fits (k.counts w h)
  act_kept w (Alarms node) fits h = node_kept (next_event w) node Input.Alarm fits tt (k.counts w h)
  act_kept w (Stops (Node.Switch n)) fits h = k.stops_switch (next_event w) n fits (k.counts w h)
  act_kept w (Stops (Node.Replica n)) fits h = k.stops_replica (next_event w) n fits (k.counts w h)
  act_kept w (Stops Node.Master) fits h = k.counts w h
  act_kept w (Boots n) fits h = k.boots (next_event w) n fits (k.counts w h)
  act_kept w (Detects (Node.Switch n)) fits h = k.detects_switch (next_event w) n fits (k.counts w h)
  act_kept w (Detects (Node.Replica n)) fits h = k.detects_replica (next_event w) n fits (k.counts w h)
  act_kept w (Detects Node.Master) fits h = k.counts w h
  act_kept w Announces fits h = k.announces (next_event w) (k.counts w h)
  act_kept w Pumps fits h = k.counts w h

  -- one event
  pub event_kept : (w : World) (e : Event) → I w → I (world_step app w e).0
  event_kept w e h = act_kept w (act_of app (next_event w) e) (act_fits app (next_event w) e) h

  -- every list of events
  pub run_kept : (es : List Event) (w : World) → I w → I (world_after app w es)
  run_kept [] w h = h
  run_kept (e ∷ es) w h = run_kept es (world_step app w e).0 (event_kept w e h)
