-- The names of nodes, causes and kinds of frames.
use Rattle.std.specs.Prelude.{ℕ, List, ◌++◌, ◌==◌, if◌then◌else◌, codes, decimal}
use Rattle.rp_base.specs.declared.node.Node.{Node}
use Rattle.rp_base.specs.declared.event.DropCause.{DropCause}
use Rattle.rp_base.specs.declared.event.Lost.{Lost}
use Rattle.rp_base.specs.declared.event.Refusal.{Refusal}

-- `s` or `r` with the node's number, or `m`
abbrev pub node_name : Node → List ℕ
node_name (Node.Switch n) = codes "s" ++ decimal n
node_name (Node.Replica n) = codes "r" ++ decimal n
node_name Node.Master = codes "m"

-- why a packet was dropped
abbrev pub drop_name : DropCause → List ℕ
drop_name DropCause.Full = codes "full"
drop_name DropCause.Mirror = codes "mirror"
drop_name DropCause.Late = codes "late"
drop_name DropCause.Busy = codes "busy"
drop_name DropCause.Bound = codes "bound"

-- why a message was lost
abbrev pub lost_name : Lost → List ℕ
lost_name Lost.Stale = codes "stale"
lost_name Lost.Role = codes "role"
lost_name Lost.Gap = codes "gap"
lost_name Lost.Pending = codes "pending"
lost_name Lost.Config = codes "config"
lost_name Lost.Order = codes "order"

-- why an event was refused
abbrev pub refusal_name : Refusal → List ℕ
refusal_name Refusal.FramesFull = codes "FramesFull"
refusal_name Refusal.Nowhere = codes "Nowhere"
refusal_name Refusal.Dead = codes "Dead"
refusal_name Refusal.NoFrame = codes "NoFrame"
refusal_name Refusal.NoneLeft = codes "NoneLeft"
refusal_name Refusal.Rates = codes "Rates"
refusal_name Refusal.LastReplica = codes "LastReplica"
refusal_name Refusal.Alive = codes "Alive"
refusal_name Refusal.Known = codes "Known"
refusal_name Refusal.Linked = codes "Linked"
refusal_name Refusal.NoLink = codes "NoLink"

-- the name of a frame's kind, by the byte of the kind: 1 to 11
abbrev pub kind_name : ℕ → List ℕ
kind_name kind =
    if kind == 1 then codes "Ask"
    else if kind == 2 then codes "Grant"
    else if kind == 3 then codes "Busy"
    else if kind == 4 then codes "Put"
    else if kind == 5 then codes "Ack"
    else if kind == 6 then codes "Deny"
    else if kind == 7 then codes "Forward"
    else if kind == 8 then codes "Have"
    else if kind == 9 then codes "Echo"
    else if kind == 10 then codes "Config"
    else codes "Snap"
