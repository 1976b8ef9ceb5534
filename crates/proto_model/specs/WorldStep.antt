-- One event of a run: why it is refused, or what it does.
use Rattle.std.specs.Prelude.{ℕ, ◌+◌, ◌*◌, zero, suc, Bool, true, false, not, ◌&&◌, ◌==◌, List, [], ◌∷◌, ◌++◌, Option, Some, None, if◌then◌else◌, nat_le, nat_lt, take, drop, map, filter, length, slice_get, option_map}
use Rattle.std.specs.List.{list_any, list_all}
use Rattle.proto_data.specs.declared.message.Msg.{Msg}
use Rattle.proto_data.specs.declared.message.Body.{Body}
use Rattle.rp_base.specs.declared.node.Node.{Node}
use Rattle.rp_base.specs.declared.node.Packet.{Packet}
use Rattle.proto_data.specs.declared.message.Input.{Input}
use Rattle.rp_base.specs.declared.event.Event.{Event}
use Rattle.rp_base.specs.declared.event.Refusal.{Refusal}
use Rattle.rp_app.specs.Application.{Application, zeros}
use Rattle.proto_model.specs.Routing.{picked}
use Rattle.proto_model.specs.SwitchState.{open_switch}
use Rattle.proto_model.specs.SwitchRows.{switch_step}
use Rattle.proto_model.specs.ReplicaRows.{store_step}
use Rattle.proto_model.specs.World.{World, Setup, SwitchNode, ReplicaNode, believed_switches, running_switches, running_replicas, opened}
use Rattle.proto_model.specs.Lines.{Line, Refused, send_lines}
use Rattle.proto_model.specs.Effects.{switch_moved, replica_moved, packet_fed, frame_passed, master_sent, switch_lines, store_lines}
use Rattle.proto_data.specs.declared.limits.TheConstants.{FRAMES, MESSAGES}

abbrev pub WorldStep : Type 0
WorldStep = World × List Line

-- ---- a node takes an input

abbrev pub switch_takes : Application → World → ℕ → Input → Option SwitchNode → WorldStep
switch_takes app w n input None = (w, [])
switch_takes app w n input (Some node) = (
  switch_moved w n node (switch_step app node.state node.clock input),
  switch_lines w.event (length w.frames) (switch_step app node.state node.clock input).1,
)

abbrev pub replica_takes : World → ℕ → Input → Option ReplicaNode → WorldStep
replica_takes w n input None = (w, [])
replica_takes w n input (Some node) = (
  replica_moved w n node (store_step node.state node.clock input),
  store_lines w.event (length w.frames) (store_step node.state node.clock input).1,
)

abbrev pub node_takes : Application → World → Node → Input → WorldStep
node_takes app w (Node.Switch n) input = switch_takes app w n input (slice_get w.switches n)
node_takes app w (Node.Replica n) input = replica_takes w n input (slice_get w.replicas n)
node_takes app w Node.Master input = (w, [])

-- ---- tests

abbrev pub runs_at_switch : Option SwitchNode → Bool
runs_at_switch None = false
runs_at_switch (Some node) = node.runs

abbrev pub runs_at_replica : Option ReplicaNode → Bool
runs_at_replica None = false
runs_at_replica (Some node) = node.runs

abbrev pub runs_now : World → Node → Bool
runs_now w (Node.Switch n) = runs_at_switch (slice_get w.switches n)
runs_now w (Node.Replica n) = runs_at_replica (slice_get w.replicas n)
runs_now w Node.Master = false

abbrev pub believed_at : Option SwitchNode → Bool
believed_at None = false
believed_at (Some node) = node.believed

-- a replica is believed up as long as it is in the configuration
abbrev pub believed_up : World → Node → Bool
believed_up w (Node.Switch n) = believed_at (slice_get w.switches n)
believed_up w (Node.Replica n) = list_any (λ m. m == n) w.config.chain
believed_up w Node.Master = false

abbrev pub frames_full : World → Bool
frames_full w = nat_lt FRAMES (length w.frames + MESSAGES)

-- each advance is at most (1000 + ratio) / 1000 of each other one
abbrev pub rates_hold : List ℕ → ℕ → Bool
rates_hold advances ratio =
    list_all (λ x. list_all (λ y. nat_le (1000 * x) ((1000 + ratio) * y)) advances) advances

-- whether `next` may take the frame with this number
abbrev pub is_next : World → ℕ → Msg → Bool
is_next w i m = not (list_any (λ j. j == i) w.passed) && runs_now w m.to

abbrev pub next_from : World → ℕ → List Msg → Option (ℕ × Msg)
next_from w i [] = None
next_from w i (m ∷ ms) = if is_next w i m then Some (i, m) else next_from w (i + 1) ms

abbrev pub numbered_frame : World → ℕ → Option (ℕ × Msg)
numbered_frame w i = option_map (λ (m : Msg). (i, m)) (slice_get w.frames i)

-- ---- events

abbrev pub Outcome : Type 0
Outcome = Option WorldStep

-- What an event comes to: a refusal, or one of these acts with all that it needs
pub data Act : Type 0 where
  Refuses : (cause : Refusal) → Act
  Feeds : (switch : ℕ) (packet : Packet) → Act
  Delivers : (frame : ℕ) (msg : Msg) → Act
  Passes : (frame : ℕ) → Act
  Advances : (by : List ℕ) → Act
  Alarms : (node : Node) → Act
  Stops : (node : Node) → Act
  Boots : (switch : ℕ) → Act
  Detects : (node : Node) → Act
  Announces : Act
  Pumps : Act

abbrev pub refuses_if : Bool → Refusal → Act → Act
refuses_if b cause act = if b then Refuses cause else act

abbrev pub feed_at : World → ℕ → Packet → Act
feed_at w n p = refuses_if (not (runs_now w (Node.Switch n))) Refusal.Dead (Feeds n p)

abbrev pub feed_picked : World → Packet → Option ℕ → Act
feed_picked w p None = Refuses Refusal.Nowhere
feed_picked w p (Some n) = feed_at w n p

abbrev pub deliver_act : World → Option (ℕ × Msg) → Act
deliver_act w None = Refuses Refusal.NoFrame
deliver_act w (Some f) = refuses_if (not (runs_now w f.1.to)) Refusal.Dead (Delivers f.0 f.1)

abbrev pub next_act : Option (ℕ × Msg) → Act
next_act None = Refuses Refusal.NoneLeft
next_act (Some f) = Delivers f.0 f.1

abbrev pub is_replica : Node → Bool
is_replica (Node.Switch n) = false
is_replica (Node.Replica n) = true
is_replica Node.Master = false

-- one advance for each node; a schedule's events have exactly that many
abbrev pub padded : World → List ℕ → List ℕ
padded w by = take (length w.switches + length w.replicas) (by ++ zeros (length w.switches + length w.replicas))

-- the packet that the present event feeds; its mark is the event's number
abbrev pub event_packet : World → ℕ → List ℕ → Packet
event_packet w port bytes = record { mark = w.event; port = port; bytes = bytes }

-- the act of an event, or the first cause that refuses it; `w` counts the event already
abbrev pub act_of : Application → World → Event → Act
act_of app w (Event.Feed port bytes) =
    refuses_if (frames_full w) Refusal.FramesFull
    (feed_picked w (event_packet w port bytes) (picked (believed_switches w) (app.key_of (event_packet w port bytes))))
act_of app w (Event.FeedAt n port bytes) =
    refuses_if (frames_full w) Refusal.FramesFull (feed_at w n (event_packet w port bytes))
act_of app w (Event.Deliver i) =
    refuses_if (frames_full w) Refusal.FramesFull (refuses_if w.linked Refusal.Linked (deliver_act w (numbered_frame w i)))
act_of app w Event.Next =
    refuses_if (frames_full w) Refusal.FramesFull (refuses_if w.linked Refusal.Linked (next_act (next_from w 0 w.frames)))
act_of app w (Event.Drop i) =
    refuses_if w.linked Refusal.Linked (refuses_if (not (nat_lt i (length w.frames))) Refusal.NoFrame (Passes i))
act_of app w (Event.Time advances) =
    refuses_if (not (rates_hold (padded w advances) w.terms.ratio)) Refusal.Rates (Advances (padded w advances))
act_of app w (Event.Alarm node) =
    refuses_if (frames_full w) Refusal.FramesFull (refuses_if (not (runs_now w node)) Refusal.Dead (Alarms node))
act_of app w (Event.Fail node) =
    refuses_if (not (runs_now w node)) Refusal.Dead
    (refuses_if (is_replica node && nat_le (length (running_replicas w)) 1) Refusal.LastReplica (Stops node))
act_of app w (Event.Boot n) = refuses_if (runs_now w (Node.Switch n)) Refusal.Alive (Boots n)
act_of app w (Event.Detect node) =
    refuses_if (runs_now w node && believed_up w node) Refusal.Alive
    (refuses_if (not (runs_now w node) && not (believed_up w node)) Refusal.Known (Detects node))
act_of app w Event.Announce = refuses_if (frames_full w) Refusal.FramesFull Announces
act_of app w Event.Pump = refuses_if (frames_full w) Refusal.FramesFull (refuses_if (not w.linked) Refusal.NoLink Pumps)

-- ---- acts without a node's step

abbrev pub advanced_switches : List SwitchNode → List ℕ → List SwitchNode
advanced_switches [] by = []
advanced_switches (n ∷ ns) [] = n ∷ ns
advanced_switches (n ∷ ns) (d ∷ ds) = record n { clock = n.clock + d } ∷ advanced_switches ns ds

abbrev pub advanced_replicas : List ReplicaNode → List ℕ → List ReplicaNode
advanced_replicas [] by = []
advanced_replicas (n ∷ ns) [] = n ∷ ns
advanced_replicas (n ∷ ns) (d ∷ ds) = record n { clock = n.clock + d } ∷ advanced_replicas ns ds

-- one element changes, if it is there
abbrev pub changed_at : {A : Type 0} → List A → ℕ → (A → A) → List A
changed_at [] n f = []
changed_at (x ∷ xs) zero f = f x ∷ xs
changed_at (x ∷ xs) (suc n) f = x ∷ changed_at xs n f

abbrev pub stopped : World → Node → World
stopped w (Node.Switch n) = record w { switches = changed_at w.switches n (λ (s : SwitchNode). record s { runs = false }) }
stopped w (Node.Replica n) = record w { replicas = changed_at w.replicas n (λ (r : ReplicaNode). record r { runs = false }) }
stopped w Node.Master = w

-- the switch begins empty, with the next incarnation and the present configuration
abbrev pub booted : World → ℕ → World
booted w n =
    record w {
      switches = changed_at w.switches n
          (λ (s : SwitchNode).
          record s { runs = true; state = open_switch s.state.me (s.state.inc + 1) w.terms w.config });
    }

abbrev pub detected : World → Node → World
detected w (Node.Switch n) =
    record w { switches = changed_at w.switches n (λ (s : SwitchNode). record s { believed = s.runs }) }
detected w (Node.Replica n) =
    record w { config = record { number = w.config.number + 1; chain = filter (λ m. not (m == n)) w.config.chain } }
detected w Node.Master = w

abbrev pub config_msg : World → Node → Msg
config_msg w to = record { from = Node.Master; to = to; body = Body.Config w.config }

abbrev pub announcements : World → List Msg
announcements w =
    map (λ n. config_msg w (Node.Switch n)) (running_switches w)
    ++ map (λ n. config_msg w (Node.Replica n)) (running_replicas w)

-- the clocks go on, switches first
abbrev pub advanced : World → List ℕ → World
advanced w by =
    record w {
      switches = advanced_switches w.switches by;
      replicas = advanced_replicas w.replicas (drop (length w.switches) by);
    }

abbrev pub perform_act : Application → World → Act → WorldStep
perform_act app w (Refuses cause) = (w, Refused w.event cause ∷ [])
perform_act app w (Feeds n p) = node_takes app (packet_fed w p) (Node.Switch n) (Input.Packet p)
perform_act app w (Delivers i m) = node_takes app (frame_passed w i) m.to (Input.Msg m)
perform_act app w (Passes i) = (frame_passed w i, [])
perform_act app w (Advances by) = (advanced w by, [])
perform_act app w (Alarms node) = node_takes app w node Input.Alarm
perform_act app w (Stops node) = (stopped w node, [])
perform_act app w (Boots n) = (booted w n, [])
perform_act app w (Detects node) = (detected w node, [])
perform_act app w Announces = (master_sent w (announcements w), send_lines w.event (length w.frames) (announcements w))
perform_act app w Pumps = (w, [])

-- the world that counts one more event
abbrev pub next_event : World → World
next_event w = record w { event = w.event + 1 }

abbrev pub world_step : Application → World → Event → WorldStep
world_step app w e = perform_act app (next_event w) (act_of app (next_event w) e)

-- the world after events, and the lines that they wrote
abbrev pub run_on : Application → World → List Event → WorldStep
run_on app w [] = (w, [])
run_on app w (e ∷ es) = (
  (run_on app (world_step app w e).0 es).0,
  (world_step app w e).1 ++ (run_on app (world_step app w e).0 es).1,
)

abbrev pub world_after : Application → World → List Event → World
world_after app w events = (run_on app w events).0

abbrev pub run : Application → Setup → List Event → WorldStep
run app setup events = run_on app (opened app.cell_count setup) events
