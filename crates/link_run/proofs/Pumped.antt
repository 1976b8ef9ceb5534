-- A datagram of a pump, by the world alone.
use Rattle.std.proofs.Common.{◌≡◌, ℕ, List, ◌∷◌, [], ◌++◌, Bool, true, false, Option, Some, None}
use Rattle.std.specs.Prelude.{if◌then◌else◌}
use Rattle.rp_base.specs.declared.event.Refusal.{Refusal}
use Rattle.rp_base.specs.declared.node.Node.{Node}
use Rattle.rp_app.specs.Application.{Application}
use Rattle.proto_model.specs.Handing.{hand}
use Rattle.proto_model.specs.Lines.{Line, Refused, Stranger}
use Rattle.proto_model.specs.Pumping.{Pumped, datagram, goes_on}
use Rattle.proto_model.specs.World.{World}
use Rattle.proto_model.specs.WorldStep.{frames_full}
use Rattle.link_run.specs.Answering.{after_datagram}

-- a frame that is handed over, where there is room
abbrev taken : Application → Pumped → ℕ → Bool → World × List Line × Bool
taken app p n full = if full then (p.world, Refused p.world.event Refusal.FramesFull ∷ [], true) else ((hand app p.world n).0, (hand app p.world n).1, false)

pub datagram_pumped : (app : Application) (node : Node) (p : Pumped) (o : Option ℕ) → p.ended ≡ false → datagram app node p o ≡ after_datagram app node p o
datagram_pumped app node p None going = λ i. record p { lines = p.lines ++ Stranger p.world.event node ∷ []; ended = going i }
datagram_pumped app node p (Some n) going = by (frames_full p.world)
  where
    by : (full : Bool) →
        (if full then record p { lines = p.lines ++ Refused p.world.event Refusal.FramesFull ∷ []; ended = true } else goes_on p (hand app p.world n)) ≡
        record p { world = (taken app p n full).0; lines = p.lines ++ (taken app p n full).1; ended = (taken app p n full).2 }
    by true = λ i. record p { lines = p.lines ++ Refused p.world.event Refusal.FramesFull ∷ []; ended = true }
    by false = λ i. record p { world = (hand app p.world n).0; lines = p.lines ++ (hand app p.world n).1; ended = going i }
