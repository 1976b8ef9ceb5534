-- Runs over a link. Datagrams are spelled by the kind of their message alone.
use Rattle.std.specs.Prelude.{ℕ, true, List, [], ◌∷◌, ◌++◌, Some, None}
use Rattle.proto_data.specs.declared.message.Msg.{Msg}
use Rattle.proto_data.specs.declared.message.Body.{Body}
use Rattle.proto_data.specs.declared.terms.Mode.{Mode}
use Rattle.rp_base.specs.declared.node.Node.{Node}
use Rattle.rp_base.specs.declared.event.Event.{Event}
use Rattle.rp_base.specs.declared.event.Event.TheVariants.{Feed, Next, Pump}
use Rattle.rp_app.specs.Application.{counting}
use Rattle.proto_model.specs.World.{Setup}
use Rattle.proto_model.specs.Lines.{Line, without_sends}
use Rattle.proto_model.specs.EndLines.{end_lines}
use Rattle.proto_model.specs.Pumping.{Received, Pumped, linked_run}

-- one switch over one replica, over a link
abbrev pub linked_setup : Setup
linked_setup =
    record { switches = 1; replicas = 1; terms = record { t_switch = 1000; t_store = 1100; ratio = 50; mode = Mode.Strict }; linked = true }

-- a datagram that tells the kind of its message alone
abbrev pub by_kind : Body → List ℕ
by_kind (Body.Ask inc nonce key load) = 1 ∷ []
by_kind (Body.Grant inc nonce epoch key cells load) = 2 ∷ []
by_kind (Body.Put inc epoch number key delta load) = 4 ∷ []
by_kind (Body.Ack inc epoch upto key load) = 5 ∷ []
by_kind _ = 6 ∷ []

-- the run of events over a link that gave these answers
abbrev pub ran : List Event → List Received → Pumped
ran events received = linked_run (λ (m : Msg). by_kind m.body) counting linked_setup events received

-- what it writes without the lines of frames
abbrev pub linked_lines : Pumped → List Line
linked_lines p = without_sends p.lines ++ end_lines 1 p.world

-- a datagram of one byte
abbrev pub told : Node → ℕ → Received
told n b = record { node = n; bytes = Some (b ∷ []) }

-- nothing is there
abbrev pub silent : Node → Received
silent n = record { node = n; bytes = None }

-- one packet, whose four frames are four datagrams
abbrev pub linked_packet : Pumped
linked_packet =
    ran (Feed 7 (97 ∷ 33 ∷ []) ∷ Pump ∷ Pump ∷ Pump ∷ Next ∷ [])
    (silent (Node.Switch 0) ∷ told (Node.Replica 0) 1 ∷ silent (Node.Replica 0)
    ∷ told (Node.Switch 0) 2 ∷ silent (Node.Switch 0) ∷ told (Node.Replica 0) 4 ∷ silent (Node.Replica 0)
    ∷ told (Node.Switch 0) 5 ∷ silent (Node.Switch 0) ∷ silent (Node.Replica 0) ∷ [])

-- a datagram that is no frame of this run
abbrev pub linked_stranger : Pumped
linked_stranger = ran (Pump ∷ []) (told (Node.Switch 0) 0 ∷ silent (Node.Switch 0) ∷ silent (Node.Replica 0) ∷ [])
