-- The datagrams of the frames that lines tell.
use Rattle.std.specs.Prelude.{ℕ, List, [], ◌∷◌, flat_map}
use Rattle.rp_base.specs.declared.line.Line.{Line}
use Rattle.rp_base.specs.declared.node.Node.{Node}

-- the datagram of a line, where it tells a frame: sender, addressee and bytes
abbrev pub datagram_in : Line → List (Node × Node × List ℕ)
datagram_in (Line.Send event frame from to kind bytes) = (from, to, bytes) ∷ []
datagram_in l = []

-- those of some lines, in order
abbrev pub datagrams_in : List Line → List (Node × Node × List ℕ)
datagrams_in ls = flat_map datagram_in ls
