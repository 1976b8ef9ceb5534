-- What a datagram comes to by the world alone: the world after it, the lines, and whether the pump ends.
use Rattle.std.specs.Prelude.{ℕ, Bool, true, false, List, [], ◌∷◌, ◌++◌, Option, Some, None, if◌then◌else◌}
use Rattle.rp_base.specs.declared.event.Refusal.{Refusal}
use Rattle.rp_base.specs.declared.line.Line.{Line as Shown}
use Rattle.rp_base.specs.declared.node.Node.{Node}
use Rattle.rp_app.specs.Application.{Application}
use Rattle.proto_model.specs.Handing.{hand}
use Rattle.proto_model.specs.Lines.{Line, Refused, Stranger}
use Rattle.proto_model.specs.Pumping.{Pumped}
use Rattle.proto_model.specs.World.{World}
use Rattle.proto_model.specs.WorldStep.{frames_full}
use Rattle.run_history.specs.Shown.{shown}

-- a datagram that is this frame: it is handed over, where there is room
abbrev pub handed_step : Application → World → ℕ → World × List Line × Bool
handed_step app w i =
    if frames_full w then (w, Refused w.event Refusal.FramesFull ∷ [], true) else ((hand app w i).0, (hand app w i).1, false)

-- a datagram that was found to be this frame, or none
abbrev pub datagram_step : Application → Node → World → Option ℕ → World × List Line × Bool
datagram_step app node w None = (w, Stranger w.event node ∷ [], false)
datagram_step app node w (Some i) = handed_step app w i

-- the same with its lines as a report shows them
abbrev pub shown_datagram : World × List Line × Bool → World × List Shown × Bool
shown_datagram s = (s.0, shown s.1, s.2)

-- a pump that goes on, once a datagram was taken by the world alone
abbrev pub after_datagram : Application → Node → Pumped → Option ℕ → Pumped
after_datagram app node p o =
    record p {
      world = (datagram_step app node p.world o).0;
      lines = p.lines ++ (datagram_step app node p.world o).1;
      ended = (datagram_step app node p.world o).2;
    }
