-- What a run over a link does outside, in order: lines that are written, frames that go to the link, and answers that it gives.
use Rattle.std.specs.Prelude.{ℕ, zero, suc, Bool, true, false, List, [], ◌∷◌, ◌++◌, Option, Some, None, if◌then◌else◌, drop, length, map}
use Rattle.rp_base.specs.declared.event.Event.{Event}
use Rattle.rp_base.specs.declared.event.Refusal.{Refusal}
use Rattle.rp_base.specs.declared.node.Node.{Node}
use Rattle.rp_app.specs.Application.{Application}
use Rattle.proto_data.specs.declared.message.Msg.{Msg}
use Rattle.proto_model.specs.EndLines.{end_lines}
use Rattle.proto_model.specs.Handing.{found, hand}
use Rattle.proto_model.specs.Lines.{Line, Refused, Stranger}
use Rattle.proto_model.specs.Pumping.{Pumped, Received, asked, linked_event, linked_run, pumped_unless, running_nodes}
use Rattle.proto_model.specs.World.{Setup, World, opened}
use Rattle.proto_model.specs.WorldStep.{Act, Pumps, WorldStep, act_of, frames_full, next_event, perform_act}

pub data Doing : Type 0 where
  -- a line is written
  Says : (line : Line) → Doing
  -- a frame goes to the link, from its sender to its addressee
  Sends : (frame : Msg) → Doing
  -- a call that asks the link for a node's next datagram is answered
  Hears : (answer : Received) → Doing

-- ---- its parts

-- the lines that are written
abbrev pub lines_of : List Doing → List Line
lines_of [] = []
lines_of (Says l ∷ ds) = l ∷ lines_of ds
lines_of (Sends m ∷ ds) = lines_of ds
lines_of (Hears x ∷ ds) = lines_of ds

-- the frames that go to the link
abbrev pub frames_of : List Doing → List Msg
frames_of [] = []
frames_of (Says l ∷ ds) = frames_of ds
frames_of (Sends m ∷ ds) = m ∷ frames_of ds
frames_of (Hears x ∷ ds) = frames_of ds

-- the answers of the link
abbrev pub answers_of : List Doing → List Received
answers_of [] = []
answers_of (Says l ∷ ds) = answers_of ds
answers_of (Sends m ∷ ds) = answers_of ds
answers_of (Hears x ∷ ds) = x ∷ answers_of ds

-- ---- one event

-- of a step of the world: its lines, then the frames that it sent
abbrev pub step_did : World → WorldStep → List Doing
step_did w step = map (λ l. Says l) step.1 ++ map (λ m. Sends m) (drop (length w.frames) step.0.frames)

-- of a datagram that was found to be this frame, or none
abbrev pub datagram_did : Application → Node → World → Option ℕ → List Doing
datagram_did app node w None = Says (Stranger w.event node) ∷ []
datagram_did app node w (Some i) =
    if frames_full w then Says (Refused w.event Refusal.FramesFull) ∷ [] else step_did w (hand app w i)

-- of an answer
abbrev pub answer_did : (Msg → List ℕ) → Application → Node → World → Option (List ℕ) → List Doing
answer_did spelled app node w None = []
answer_did spelled app node w (Some bytes) = datagram_did app node w (found spelled w node bytes)

-- of one call, where the link gives the first of these answers
abbrev pub call_did : (Msg → List ℕ) → Application → Node → Pumped → List Received → List Doing
call_did spelled app node p [] = []
call_did spelled app node p (x ∷ xs) = Hears x ∷ answer_did spelled app node p.world x.bytes

-- of a node that is asked at most so many times
abbrev pub node_did : (Msg → List ℕ) → Application → Node → ℕ → Pumped → List Doing
node_did spelled app node zero p = []
node_did spelled app node (suc n) p =
    let x = asked spelled app node p p.rest in
    call_did spelled app node p p.rest ++ elim (x.1) [ true ↦ node_did spelled app node n x.0 | false ↦ [] ]

-- of a node that is asked unless the pump has ended
abbrev pub unless_did : Bool → (Msg → List ℕ) → Application → Node → Pumped → List Doing
unless_did true spelled app node p = []
unless_did false spelled app node p = node_did spelled app node 64 p

-- of the nodes of a pump, in turn
abbrev pub nodes_did : (Msg → List ℕ) → Application → Pumped → List Node → List Doing
nodes_did spelled app p [] = []
nodes_did spelled app p (node ∷ nodes) =
    unless_did p.ended spelled app node p ++ nodes_did spelled app (pumped_unless p.ended spelled app node p) nodes

-- of a pump
abbrev pub pump_did : (Msg → List ℕ) → Application → Pumped → List Doing
pump_did spelled app p = nodes_did spelled app (record p { ended = false }) (running_nodes p.world)

-- of an act; `p.world` counts its event already
abbrev pub act_did : (Msg → List ℕ) → Application → Pumped → Act → List Doing
act_did spelled app p Pumps = pump_did spelled app p
act_did spelled app p act = step_did p.world (perform_act app p.world act)

abbrev pub event_did : (Msg → List ℕ) → Application → Pumped → Event → List Doing
event_did spelled app p e =
    act_did spelled app (record p { world = next_event p.world }) (act_of app (next_event p.world) e)

-- ---- a run

-- of these events, from here on
abbrev pub events_did : (Msg → List ℕ) → Application → Pumped → List Event → List Doing
events_did spelled app p [] = []
events_did spelled app p (e ∷ es) = event_did spelled app p e ++ events_did spelled app (linked_event spelled app p e) es

-- the run before its first event, with these answers to come
abbrev pub unpumped : Application → Setup → List Received → Pumped
unpumped app setup received = record { world = opened app.cell_count setup; lines = []; rest = received; ended = false }

-- of the events of a run over a link that gives these answers
abbrev pub run_did : (Msg → List ℕ) → Application → Setup → List Event → List Received → List Doing
run_did spelled app setup events received = events_did spelled app (unpumped app setup received) events

-- of the whole run, with the lines at its end
abbrev pub all_did : (Msg → List ℕ) → Application → Setup → List Event → List Received → List Doing
all_did spelled app setup events received =
    run_did spelled app setup events received
    ++ map (λ l. Says l) (end_lines app.cell_count (linked_run spelled app setup events received).world)
