-- What two worked runs over a link do, in order, without the lines and the contents of frames.
use Rattle.std.specs.Prelude.{List, [], ◌∷◌}
use Rattle.rp_base.specs.declared.event.Event.{Event}
use Rattle.rp_base.specs.declared.event.Event.TheVariants.{Feed, Next, Pump}
use Rattle.rp_base.specs.declared.node.Node.{Node}
use Rattle.rp_app.specs.Application.{counting}
use Rattle.proto_data.specs.declared.message.Msg.{Msg}
use Rattle.proto_model.specs.Lines.{Line, Send}
use Rattle.proto_model.specs.Pumping.{Received}
use Rattle.proto_safety.specs.LinkedRows.{by_kind, linked_setup, silent, told}
use Rattle.link_trace.specs.Doings.{Doing, Says, Sends, Hears, all_did}

pub data Turn : Type 0 where
  -- a line, but for those of frames
  Wrote : (line : Line) → Turn
  -- a frame went from one node to another
  Sent : (from to : Node) → Turn
  -- the link was asked for this node's next datagram
  Asked : (node : Node) → Turn

abbrev pub turns : List Doing → List Turn
turns [] = []
turns (Says (Send event frame from to kind m) ∷ ds) = turns ds
turns (Says l ∷ ds) = Wrote l ∷ turns ds
turns (Sends m ∷ ds) = Sent m.from m.to ∷ turns ds
turns (Hears x ∷ ds) = Asked x.node ∷ turns ds

-- what these events do over a link that gives these answers
abbrev pub turns_of : List Event → List Received → List Turn
turns_of events received = turns (all_did (λ (m : Msg). by_kind m.body) counting linked_setup events received)

abbrev pub s0 : Node
s0 = Node.Switch 0

abbrev pub r0 : Node
r0 = Node.Replica 0

-- one packet, whose four frames are four datagrams
abbrev pub packet_turns : List Turn
packet_turns =
    turns_of (Feed 7 (97 ∷ 33 ∷ []) ∷ Pump ∷ Pump ∷ Pump ∷ Next ∷ [])
    (silent s0 ∷ told r0 1 ∷ silent r0 ∷ told s0 2 ∷ silent s0 ∷ told r0 4 ∷ silent r0 ∷ told s0 5 ∷ silent s0 ∷ silent r0 ∷ [])

-- a datagram that is no frame of the run
abbrev pub stranger_turns : List Turn
stranger_turns = turns_of (Pump ∷ []) (told s0 0 ∷ silent s0 ∷ silent r0 ∷ [])
