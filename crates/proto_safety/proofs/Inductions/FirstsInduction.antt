-- What is kept of a world and its list of first sendings holds after every list of events.
use Rattle.std.proofs.Common.{◌≡◌, ℕ, ◌+◌, List, [], ◌∷◌, Option, Some, None, refl, slice_get, true}
use Rattle.std.proofs.lemmas.Bool.{false≢true}
use Rattle.rp_base.specs.declared.node.Node.{Node}
use Rattle.proto_data.specs.declared.message.Input.{Input}
use Rattle.rp_base.specs.declared.node.Packet.{Packet}
use Rattle.rp_base.specs.declared.event.Event.{Event}
use Rattle.rp_app.specs.Application.{Application}
use Rattle.proto_model.specs.SwitchRows.{switch_step}
use Rattle.proto_model.specs.ReplicaRows.{store_step}
use Rattle.proto_model.specs.World.{World, SwitchNode, ReplicaNode}
use Rattle.proto_model.specs.Effects.{switch_moved, replica_moved, frame_passed, master_sent}
use Rattle.proto_model.specs.WorldStep.{Act, Refuses, Feeds, Delivers, Passes, Advances, Alarms, Stops, Boots, Detects, Announces, Pumps, act_of, perform_act, node_takes, switch_takes, replica_takes, runs_now, runs_at_switch, runs_at_replica, stopped, booted, detected, advanced, announcements, next_event, world_step, world_after}
use Rattle.proto_safety.specs.LeaseLaws.{First}
use Rattle.proto_safety.specs.Firsts.{with_sent, switch_firsts, node_firsts, act_firsts, event_firsts, firsts_after}
use Rattle.proto_safety.proofs.Inductions.Acts.{Fits, act_fits}
use Rattle.proto_safety.proofs.Inductions.Induction.{Comes, with_fed, Keeps, event_kept, running_after}

-- Each way in which the world changes keeps J, where I is known to hold before. Only a switch's step adds first sendings.
pub record KeepsFirsts (app : Application) (I : World → Type 0) (J : List First → World → Type 0) : Type 0 where
  pub counts : (w : World) (fs : List First) → I w → J fs w → J fs (next_event w)
  pub passes : (w : World) (fs : List First) (i : ℕ) → I w → J fs w → J fs (frame_passed w i)
  pub feeds :
      (w : World) (fs : List First) (n : ℕ) (node : SwitchNode) (p : Packet) → slice_get w.switches n ≡ Some node → node.runs ≡ true → p.mark ≡ w.event + 1 →
      I w → J fs w →
      J (with_sent n node.clock fs (switch_step app node.state node.clock (Input.Packet p)).1.sent) (switch_moved (with_fed w p) n node (switch_step app node.state node.clock (Input.Packet p)))
  pub switches :
      (w : World) (fs : List First) (n : ℕ) (node : SwitchNode) (input : Input) → slice_get w.switches n ≡ Some node → node.runs ≡ true →
      Comes w (Node.Switch n) input → I w → J fs w →
      J (with_sent n node.clock fs (switch_step app node.state node.clock input).1.sent) (switch_moved w n node (switch_step app node.state node.clock input))
  pub replicas :
      (w : World) (fs : List First) (n : ℕ) (node : ReplicaNode) (input : Input) → slice_get w.replicas n ≡ Some node → node.runs ≡ true →
      Comes w (Node.Replica n) input → I w → J fs w → J fs (replica_moved w n node (store_step node.state node.clock input))
  pub advances : (w : World) (fs : List First) (by : List ℕ) → Fits w (Advances by) → I w → J fs w → J fs (advanced w by)
  pub stops_switch : (w : World) (fs : List First) (n : ℕ) → Fits w (Stops (Node.Switch n)) → I w → J fs w → J fs (stopped w (Node.Switch n))
  pub stops_replica : (w : World) (fs : List First) (n : ℕ) → Fits w (Stops (Node.Replica n)) → I w → J fs w → J fs (stopped w (Node.Replica n))
  pub boots : (w : World) (fs : List First) (n : ℕ) → Fits w (Boots n) → I w → J fs w → J fs (booted w n)
  pub detects_switch : (w : World) (fs : List First) (n : ℕ) → Fits w (Detects (Node.Switch n)) → I w → J fs w → J fs (detected w (Node.Switch n))
  pub detects_replica : (w : World) (fs : List First) (n : ℕ) → Fits w (Detects (Node.Replica n)) → I w → J fs w → J fs (detected w (Node.Replica n))
  pub announces : (w : World) (fs : List First) → I w → J fs w → J fs (master_sent w (announcements w))

module _ (app : Application) (I : World → Type 0) (J : List First → World → Type 0) (i : Keeps app I) (k : KeepsFirsts app I J) where
  switch_kept : (w : World) (fs : List First) (n : ℕ) (input : Input) (o : Option SwitchNode) → slice_get w.switches n ≡ o → runs_at_switch o ≡ true →
      Comes w (Node.Switch n) input → I w → J fs w → J (switch_firsts app n input fs o) (switch_takes app w n input o).0
  switch_kept w fs n input None at up from g h = h
  switch_kept w fs n input (Some node) at up from g h = k.switches w fs n node input at up from g h

  replica_kept : (w : World) (fs : List First) (n : ℕ) (input : Input) (o : Option ReplicaNode) → slice_get w.replicas n ≡ o → runs_at_replica o ≡ true →
      Comes w (Node.Replica n) input → I w → J fs w → J fs (replica_takes w n input o).0
  replica_kept w fs n input None at up from g h = h
  replica_kept w fs n input (Some node) at up from g h = k.replicas w fs n node input at up from g h

  node_kept : (w : World) (fs : List First) (to : Node) (input : Input) → runs_now w to ≡ true → Comes w to input → I w → J fs w → J (node_firsts app w to input fs) (node_takes app w to input).0
  node_kept w fs (Node.Switch n) input up from g h = switch_kept w fs n input (slice_get w.switches n) refl up from g h
  node_kept w fs (Node.Replica n) input up from g h = replica_kept w fs n input (slice_get w.replicas n) refl up from g h
  node_kept w fs Node.Master input up from g h = h

  fed_kept : (w : World) (fs : List First) (n : ℕ) (p : Packet) (o : Option SwitchNode) → slice_get w.switches n ≡ o → runs_at_switch o ≡ true → p.mark ≡ w.event + 1 →
      I w → J fs w → J (switch_firsts app n (Input.Packet p) fs o) (switch_takes app (with_fed w p) n (Input.Packet p) o).0
  fed_kept w fs n p None at up mark g h = absurd (false≢true up)
  fed_kept w fs n p (Some node) at up mark g h = k.feeds w fs n node p at up mark g h

  act_kept : (w : World) (fs : List First) (act : Act) → Fits (next_event w) act → I w → J fs w → J (act_firsts app (next_event w) fs act) (perform_act app (next_event w) act).0
  act_kept w fs (Refuses cause) fits g h = k.counts w fs g h
  act_kept w fs (Feeds n p) fits g h = fed_kept w fs n p (slice_get w.switches n) refl fits.1 fits.0 g h
  act_kept w fs (Delivers j m) fits g h =
      node_kept (frame_passed (next_event w) j) fs m.to (Input.Msg m) (running_after (next_event w) j m.to fits.1) (refl, (j, fits.0))
      (i.passes (next_event w) j (i.counts w g)) (k.passes (next_event w) fs j (i.counts w g) (k.counts w fs g h))
  act_kept w fs (Passes j) fits g h = k.passes (next_event w) fs j (i.counts w g) (k.counts w fs g h)
  act_kept w fs (Advances by) fits g h = k.advances (next_event w) fs by fits (i.counts w g) (k.counts w fs g h)
  act_kept w fs (Alarms node) fits g h = node_kept (next_event w) fs node Input.Alarm fits tt (i.counts w g) (k.counts w fs g h)
  act_kept w fs (Stops (Node.Switch n)) fits g h = k.stops_switch (next_event w) fs n fits (i.counts w g) (k.counts w fs g h)
  act_kept w fs (Stops (Node.Replica n)) fits g h = k.stops_replica (next_event w) fs n fits (i.counts w g) (k.counts w fs g h)
  act_kept w fs (Stops Node.Master) fits g h = k.counts w fs g h
  act_kept w fs (Boots n) fits g h = k.boots (next_event w) fs n fits (i.counts w g) (k.counts w fs g h)
  act_kept w fs (Detects (Node.Switch n)) fits g h = k.detects_switch (next_event w) fs n fits (i.counts w g) (k.counts w fs g h)
  act_kept w fs (Detects (Node.Replica n)) fits g h = k.detects_replica (next_event w) fs n fits (i.counts w g) (k.counts w fs g h)
  act_kept w fs (Detects Node.Master) fits g h = k.counts w fs g h
  act_kept w fs Announces fits g h = k.announces (next_event w) fs (i.counts w g) (k.counts w fs g h)
  act_kept w fs Pumps fits g h = k.counts w fs g h

  -- every list of events
  pub firsts_kept : (es : List Event) (w : World) (fs : List First) → I w → J fs w → J (firsts_after app w fs es) (world_after app w es)
  firsts_kept [] w fs g h = h
  firsts_kept (e ∷ es) w fs g h =
      firsts_kept es (world_step app w e).0 (event_firsts app w fs e) (event_kept app I i w e g) (act_kept w fs (act_of app (next_event w) e) (act_fits app (next_event w) e) g h)
