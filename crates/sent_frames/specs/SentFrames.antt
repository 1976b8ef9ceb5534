-- Frames as they are kept: bytes, and the addressee that stands in them.
use Rattle.std.specs.Prelude.{◌≡◌}
use Rattle.proto_data.specs.declared.message.Msg.{Msg}
use Rattle.sent_frames.specs.declared.frames.Sent.{Sent}
use Rattle.sent_frames.specs.Frames.{IsFrame, message_of}

-- the message of a frame
abbrev pub sent_message : Sent → Msg
sent_message s = message_of s.bytes

-- the bytes are those of a frame, and it goes where they say
pub record IsSent (s : Sent) : Type 0 where
  pub frame : IsFrame s.bytes
  pub goes : s.to ≡ (message_of s.bytes).to
