-- The lines of a step tell the frames that it sent.
use Rattle.std.proofs.Common.{◌≡◌, ℕ, ◌+◌, List, [], ◌∷◌, ◌++◌, Option, Some, None, drop, length, slice_get, refl, sym, ap, ◌∙◌}
use Rattle.rp_base.specs.declared.event.DropCause.{DropCause}
use Rattle.rp_base.specs.declared.event.Event.{Event}
use Rattle.rp_base.specs.declared.event.Lost.{Lost}
use Rattle.rp_base.specs.declared.node.Node.{Node}
use Rattle.rp_base.specs.declared.node.Output.{Output}
use Rattle.rp_app.specs.Application.{Application}
use Rattle.proto_data.specs.declared.message.Input.{Input}
use Rattle.proto_data.specs.declared.message.Msg.{Msg}
use Rattle.proto_model.specs.Effects.{added, frame_passed, packet_fed, release_line, store_lines, switch_lines}
use Rattle.proto_model.specs.Handing.{hand, handed}
use Rattle.proto_model.specs.Lines.{Line, Release, Dropped, LostLine, Refused, Stranger, Send, Serial, Epoch, CellsLine, End, send_lines}
use Rattle.proto_model.specs.ReplicaRows.{store_step}
use Rattle.proto_model.specs.ReplicaState.{StoreDid}
use Rattle.proto_model.specs.SwitchRows.{switch_step}
use Rattle.proto_model.specs.SwitchState.{SwitchDid}
use Rattle.proto_model.specs.World.{ReplicaNode, SwitchNode, World}
use Rattle.proto_model.specs.WorldStep.{Act, Refuses, Feeds, Delivers, Passes, Advances, Alarms, Stops, Boots, Detects, Announces, Pumps, WorldStep, act_of, announcements, next_event, node_takes, perform_act, replica_takes, switch_takes, world_step}
use Rattle.link_trace.specs.Carried.{sends_of}
use Rattle.link_trace.proofs.Told.{behind_all}

sends_append : (ls ks : List Line) → sends_of (ls ++ ks) ≡ sends_of ls ++ sends_of ks
sends_append [] ks = refl
sends_append (Release event mark port bytes ∷ ls) ks = sends_append ls ks
sends_append (Dropped event mark cause ∷ ls) ks = sends_append ls ks
sends_append (LostLine event cause ∷ ls) ks = sends_append ls ks
sends_append (Refused event cause ∷ ls) ks = sends_append ls ks
sends_append (Stranger event node ∷ ls) ks = sends_append ls ks
sends_append (Send event frame from to kind m ∷ ls) ks = ap (λ x. m ∷ x) (sends_append ls ks)
sends_append (Serial key marks ∷ ls) ks = sends_append ls ks
sends_append (Epoch key epoch kept marks ∷ ls) ks = sends_append ls ks
sends_append (CellsLine key cells ∷ ls) ks = sends_append ls ks
sends_append (End ∷ ls) ks = sends_append ls ks

-- lines without frames come first
behind : (ls ks : List Line) → sends_of ls ≡ [] → sends_of (ls ++ ks) ≡ sends_of ks
behind ls ks none = sends_append ls ks ∙ ap (λ x. x ++ sends_of ks) none

sent_are : (event frame : ℕ) (ms : List Msg) → sends_of (send_lines event frame ms) ≡ ms
sent_are event frame [] = refl
sent_are event frame (m ∷ ms) = ap (λ x. m ∷ x) (sent_are event (frame + 1) ms)

released : (event : ℕ) (o : Option Output) → sends_of (added (release_line event) o) ≡ []
released event None = refl
released event (Some x) = refl

dropped : (event : ℕ) (o : Option (ℕ × DropCause)) → sends_of (added (λ (d : ℕ × DropCause). Dropped event d.0 d.1) o) ≡ []
dropped event None = refl
dropped event (Some x) = refl

lost : (event : ℕ) (o : Option Lost) → sends_of (added (LostLine event) o) ≡ []
lost event None = refl
lost event (Some x) = refl

switch_sends : (event frame : ℕ) (did : SwitchDid) → sends_of (switch_lines event frame did) ≡ did.sent
switch_sends event frame did =
    let sends : List Line = send_lines event frame did.sent in
    behind (added (release_line event) did.released) (added (λ (d : ℕ × DropCause). Dropped event d.0 d.1) did.dropped ++ (added (LostLine event) did.lost ++ send_lines event frame did.sent)) (released event did.released)
    ∙ (behind (added (λ (d : ℕ × DropCause). Dropped event d.0 d.1) did.dropped) (added (LostLine event) did.lost ++ sends) (dropped event did.dropped)
    ∙ (behind (added (LostLine event) did.lost) sends (lost event did.lost) ∙ sent_are event frame did.sent))

store_sends : (event frame : ℕ) (did : StoreDid) → sends_of (store_lines event frame did) ≡ did.sent
store_sends event frame did = behind (added (LostLine event) did.lost) (send_lines event frame did.sent) (lost event did.lost) ∙ sent_are event frame did.sent

-- ---- a step

abbrev Tells : World → WorldStep → Type 0
Tells w step = sends_of step.1 ≡ drop (length w.frames) step.0.frames

-- nothing is sent
quiet : (frames : List Msg) → [] ≡ drop (length frames) frames
quiet [] = refl
quiet (m ∷ ms) = quiet ms

switch_tells : (app : Application) (w : World) (n : ℕ) (input : Input) (o : Option SwitchNode) → Tells w (switch_takes app w n input o)
switch_tells app w n input None = quiet w.frames
switch_tells app w n input (Some node) =
    let did : SwitchDid = (switch_step app node.state node.clock input).1 in
    switch_sends w.event (length w.frames) did ∙ sym (behind_all w.frames (switch_step app node.state node.clock input).1.sent)

replica_tells : (w : World) (n : ℕ) (input : Input) (o : Option ReplicaNode) → Tells w (replica_takes w n input o)
replica_tells w n input None = quiet w.frames
replica_tells w n input (Some node) =
    let did : StoreDid = (store_step node.state node.clock input).1 in
    store_sends w.event (length w.frames) did ∙ sym (behind_all w.frames (store_step node.state node.clock input).1.sent)

node_tells : (app : Application) (w : World) (to : Node) (input : Input) → Tells w (node_takes app w to input)
node_tells app w (Node.Switch n) input = switch_tells app w n input (slice_get w.switches n)
node_tells app w (Node.Replica n) input = replica_tells w n input (slice_get w.replicas n)
node_tells app w Node.Master input = quiet w.frames

handed_tells : (app : Application) (w : World) (i : ℕ) (o : Option Msg) → Tells w (handed app w i o)
handed_tells app w i None = quiet w.frames
handed_tells app w i (Some m) = node_tells app (frame_passed w i) m.to (Input.Msg m)

pub hand_tells : (app : Application) (w : World) (i : ℕ) → Tells w (hand app w i)
hand_tells app w i = handed_tells app w i (slice_get w.frames i)

act_tells : (app : Application) (w : World) (act : Act) → Tells w (perform_act app w act)
act_tells app w (Refuses cause) = quiet w.frames
act_tells app w (Feeds n p) = node_tells app (packet_fed w p) (Node.Switch n) (Input.Packet p)
act_tells app w (Delivers i m) = node_tells app (frame_passed w i) m.to (Input.Msg m)
act_tells app w (Passes i) = quiet w.frames
act_tells app w (Advances by) = quiet w.frames
act_tells app w (Alarms node) = node_tells app w node Input.Alarm
act_tells app w (Stops (Node.Switch n)) = quiet w.frames
act_tells app w (Stops (Node.Replica n)) = quiet w.frames
act_tells app w (Stops Node.Master) = quiet w.frames
act_tells app w (Boots n) = quiet w.frames
act_tells app w (Detects (Node.Switch n)) = quiet w.frames
act_tells app w (Detects (Node.Replica n)) = quiet w.frames
act_tells app w (Detects Node.Master) = quiet w.frames
act_tells app w Announces = sent_are w.event (length w.frames) (announcements w) ∙ sym (behind_all w.frames (announcements w))
act_tells app w Pumps = quiet w.frames

pub event_tells : (app : Application) (w : World) (e : Event) → Tells w (world_step app w e)
event_tells app w e = act_tells app (next_event w) (act_of app (next_event w) e)
