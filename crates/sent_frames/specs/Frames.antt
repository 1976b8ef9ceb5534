-- Frames as bytes, and the messages that they spell.
use Rattle.std.specs.Prelude.{ℕ, ◌≡◌, ◌≤◌, Bool, true, false, List, length, Option, Some, None, Result, Ok, Err}
use Rattle.rp_base.specs.declared.node.Node.{Node}
use Rattle.rp_base.specs.Nodes.{same_node}
use Rattle.proto_data.specs.declared.message.Msg.{Msg}
use Rattle.proto_data.specs.declared.message.Body.{Body}
use Rattle.proto_data.specs.MessageFits.{message_fits}
use Rattle.rp_frame.specs.Reading.{all_of}
use Rattle.rp_frame.specs.Spelling.{spelling}

-- what reading gave; where it gave nothing, a message that no node sends
abbrev pub message_in : Result Msg ℕ → Msg
message_in (Ok m) = m
message_in (Err at) = record { from = Node.Master; to = Node.Master; body = Body.Have 0 }

-- the message that bytes spell
abbrev pub message_of : List ℕ → Msg
message_of bytes = message_in (all_of bytes)

-- bytes of a frame: the one spelling of their message, of at most 3,700 bytes
pub record IsFrame (bytes : List ℕ) : Type 0 where
  pub read : all_of bytes ≡ Ok (message_of bytes)
  pub spelled : bytes ≡ spelling (message_of bytes)
  pub short : length bytes ≤ 3700

-- a message that may be sent: it has a spelling, of at most 3,700 bytes
pub record IsSendable (m : Msg) : Type 0 where
  pub fits : message_fits m ≡ true
  pub short : length (spelling m) ≤ 3700

-- whether a message, if there is one, goes to this node
abbrev pub goes_to : Node → Option Msg → Bool
goes_to to None = false
goes_to to (Some m) = same_node m.to to
