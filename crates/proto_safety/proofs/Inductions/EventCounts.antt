-- The number of a world's last event is that of the events so far.
use Rattle.std.proofs.Common.{◌≡◌, ℕ, ◌+◌, List, [], ◌∷◌, length, Option, Some, None, arith, refl, slice_get}
use Rattle.rp_base.specs.declared.node.Node.{Node}
use Rattle.rp_base.specs.declared.event.Event.{Event}
use Rattle.proto_data.specs.declared.message.Input.{Input}
use Rattle.rp_app.specs.Application.{Application}
use Rattle.proto_model.specs.Effects.{packet_fed, frame_passed}
use Rattle.proto_model.specs.World.{World, SwitchNode, ReplicaNode}
use Rattle.proto_model.specs.WorldStep.{Act, Refuses, Feeds, Delivers, Passes, Advances, Alarms, Stops, Boots, Detects, Announces, Pumps, act_of, perform_act, node_takes, switch_takes, replica_takes, next_event, world_step, world_after}

switch_counts : (app : Application) (w : World) (n : ℕ) (input : Input) (o : Option SwitchNode) → (switch_takes app w n input o).0.event ≡ w.event
switch_counts app w n input None = refl
switch_counts app w n input (Some node) = refl

replica_counts : (w : World) (n : ℕ) (input : Input) (o : Option ReplicaNode) → (replica_takes w n input o).0.event ≡ w.event
replica_counts w n input None = refl
replica_counts w n input (Some node) = refl

pub node_counts : (app : Application) (w : World) (to : Node) (input : Input) → (node_takes app w to input).0.event ≡ w.event
node_counts app w (Node.Switch n) input = switch_counts app w n input (slice_get w.switches n)
node_counts app w (Node.Replica n) input = replica_counts w n input (slice_get w.replicas n)
node_counts app w Node.Master input = refl

pub act_counts : (app : Application) (w : World) (act : Act) → (perform_act app w act).0.event ≡ w.event
act_counts app w (Refuses cause) = refl
act_counts app w (Feeds n p) = switch_counts app (packet_fed w p) n (Input.Packet p) (slice_get w.switches n)
act_counts app w (Delivers i m) = node_counts app (frame_passed w i) m.to (Input.Msg m)
act_counts app w (Passes i) = refl
act_counts app w (Advances by) = refl
act_counts app w (Alarms node) = node_counts app w node Input.Alarm
act_counts app w (Stops (Node.Switch n)) = refl
act_counts app w (Stops (Node.Replica n)) = refl
act_counts app w (Stops Node.Master) = refl
act_counts app w (Boots n) = refl
act_counts app w (Detects (Node.Switch n)) = refl
act_counts app w (Detects (Node.Replica n)) = refl
act_counts app w (Detects Node.Master) = refl
act_counts app w Announces = refl
act_counts app w Pumps = refl

pub event_counts : (app : Application) (w : World) (e : Event) → (world_step app w e).0.event ≡ w.event + 1
event_counts app w e = act_counts app (next_event w) (act_of app (next_event w) e)

pub events_count : (app : Application) (w : World) (es : List Event) → (world_after app w es).event ≡ w.event + length es
events_count app w [] = omega arith
events_count app w (e ∷ es) = omega (arith, events_count app (world_step app w e).0 es, event_counts app w e)
