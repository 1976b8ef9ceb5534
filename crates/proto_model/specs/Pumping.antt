-- A run whose frames go over a link: a `pump` takes the link's answers in order.
use Rattle.std.specs.Prelude.{ℕ, zero, suc, Bool, true, false, not, List, [], ◌∷◌, ◌++◌, Option, Some, None, if◌then◌else◌, map, fold}
use Rattle.proto_data.specs.declared.message.Msg.{Msg}
use Rattle.rp_base.specs.declared.node.Node.{Node}
use Rattle.rp_base.specs.declared.event.Event.{Event}
use Rattle.rp_base.specs.declared.event.Refusal.{Refusal}
use Rattle.rp_app.specs.Application.{Application}
use Rattle.proto_model.specs.World.{World, Setup, opened, running_switches, running_replicas}
use Rattle.proto_model.specs.Lines.{Line, Refused, Stranger}
use Rattle.proto_model.specs.WorldStep.{WorldStep, Act, Pumps, act_of, perform_act, next_event, frames_full}
use Rattle.proto_model.specs.Handing.{hand, found}

-- one answer of `recv`: a datagram for this node, or nothing there
pub record Received : Type 0 where
  pub node : Node
  pub bytes : Option (List ℕ)

-- the run so far, and the answers that are left; after a refused hand-over the pump has ended
pub record Pumped : Type 0 where
  pub world : World
  pub lines : List Line
  pub rest : List Received
  pub ended : Bool

abbrev pub goes_on : Pumped → WorldStep → Pumped
goes_on p step = record p { world = step.0; lines = p.lines ++ step.1 }

-- the frame of a datagram is handed over; a datagram that is none is a stranger
abbrev pub datagram : Application → Node → Pumped → Option ℕ → Pumped
datagram app node p None = record p { lines = p.lines ++ Stranger p.world.event node ∷ [] }
datagram app node p (Some i) =
    if frames_full p.world
    then record p { lines = p.lines ++ Refused p.world.event Refusal.FramesFull ∷ []; ended = true }
    else goes_on p (hand app p.world i)

-- after one answer, and whether the node is asked again
abbrev pub answered : (Msg → List ℕ) → Application → Node → Pumped → Option (List ℕ) → Pumped × Bool
answered spelled app node p None = (p, false)
answered spelled app node p (Some bytes) =
    let q = datagram app node p (found spelled p.world node bytes) in
    (q, not q.ended)

abbrev pub asked : (Msg → List ℕ) → Application → Node → Pumped → List Received → Pumped × Bool
asked spelled app node p [] = (p, false)
asked spelled app node p (x ∷ xs) = answered spelled app node (record p { rest = xs }) x.bytes

-- a node is asked until nothing is there, at most so many times
abbrev pub pumped_node : (Msg → List ℕ) → Application → Node → ℕ → Pumped → Pumped
pumped_node spelled app node zero p = p
pumped_node spelled app node (suc n) p =
    let x = asked spelled app node p p.rest in
    elim (x.1) [ true ↦ pumped_node spelled app node n x.0 | false ↦ x.0 ]

abbrev pub pumped_unless : Bool → (Msg → List ℕ) → Application → Node → Pumped → Pumped
pumped_unless true spelled app node p = p
pumped_unless false spelled app node p = pumped_node spelled app node 64 p

abbrev pub running_nodes : World → List Node
running_nodes w = map (λ n. Node.Switch n) (running_switches w) ++ map (λ n. Node.Replica n) (running_replicas w)

-- the running nodes in turn, switches first
abbrev pub pumped : (Msg → List ℕ) → Application → Pumped → Pumped
pumped spelled app p =
    fold (λ (q : Pumped) node. pumped_unless q.ended spelled app node q) (record p { ended = false }) (running_nodes p.world)

-- one event; `p.world` counts it already
abbrev pub acted : (Msg → List ℕ) → Application → Pumped → Act → Pumped
acted spelled app p Pumps = pumped spelled app p
acted spelled app p act = goes_on p (perform_act app p.world act)

abbrev pub linked_event : (Msg → List ℕ) → Application → Pumped → Event → Pumped
linked_event spelled app p e =
    let w = next_event p.world in
    acted spelled app (record p { world = w }) (act_of app w e)

-- The run over a link that gave these answers. It is that run where it takes every one of them.
abbrev pub linked_run : (Msg → List ℕ) → Application → Setup → List Event → List Received → Pumped
linked_run spelled app setup events received =
    fold (linked_event spelled app)
    (record { world = opened app.cell_count setup; lines = []; rest = received; ended = false })
    events
