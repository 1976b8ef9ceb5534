-- Packets and outputs as they ride on messages.
use Rattle.rp_base.specs.declared.node.Packet.{Packet}
use Rattle.rp_base.specs.declared.node.Output.{Output}
use Rattle.proto_data.specs.declared.message.Carried.{Carried}

-- a packet as it rides on a message
abbrev pub carried_packet : Packet → Carried
carried_packet p = record { mark = p.mark; port = p.port; bytes = p.bytes }

-- an output as it rides on a message
abbrev pub carried_output : Output → Carried
carried_output o = record { mark = o.mark; port = o.port; bytes = o.bytes }

-- the packet that rides on a message
abbrev pub packet_of : Carried → Packet
packet_of c = record { mark = c.mark; port = c.port; bytes = c.bytes }

-- the output that rides on a message
abbrev pub output_of : Carried → Output
output_of c = record { mark = c.mark; port = c.port; bytes = c.bytes }
