-- The sockets of nodes on this machine.
use Rattle.std.specs.Prelude.{◌≡◌, ℕ, ◌+◌, [], ◌∷◌}
use Rattle.std.specs.Net.Addr.{ipv4_octets}
use Rattle.std.specs.declared.net.ip_addr.IpAddr.{IpAddr}
use Rattle.std.specs.declared.net.ip_addr.IpAddr.TheVariants as Ip
use Rattle.rp_base.specs.declared.node.Node.{Node}

-- 127.0.0.1, which no other machine reaches
abbrev pub IsHere : IpAddr → Type 0
IsHere (Ip.V4 a) = ipv4_octets a ≡ 127 ∷ 0 ∷ 0 ∷ 1 ∷ []
IsHere (Ip.V6 a) = ⊥

-- 47000 and the byte by which a frame names the node: a switch's number, 16 and a replica's number, or 32
abbrev pub node_port : Node → ℕ
node_port (Node.Switch n) = 47000 + n
node_port (Node.Replica n) = 47000 + (16 + n)
node_port Node.Master = 47000 + 32
