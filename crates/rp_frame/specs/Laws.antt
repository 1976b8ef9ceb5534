-- What holds of the spelling of messages.
use Rattle.std.specs.Prelude.{◌≡◌, ◌<◌, ℕ, List, [], ◌++◌, true, All, Ok}
use Rattle.proto_data.specs.declared.message.Msg.{Msg}
use Rattle.proto_data.specs.MessageFits.{message_fits}
use Rattle.rp_frame.specs.Ranges.{body_in}
use Rattle.rp_frame.specs.Spelling.{spelling}
use Rattle.rp_frame.specs.Reading.{all_of}

-- a message that has a spelling
pub record IsMessage (m : Msg) : Type 0 where
  pub fits : message_fits m ≡ true
  pub range : body_in m.body ≡ true

-- Each message has one spelling: it is read as this message, and no other bytes are.
pub record OneSpelling (m : Msg) : Type 0 where
  pub again : all_of (spelling m) ≡ Ok m
  pub only : (bytes : List ℕ) → All (λ b. b < 256) bytes → all_of bytes ≡ Ok m → bytes ≡ spelling m

-- bytes that spell two messages spell one
abbrev pub OneMessage : Msg → Msg → Type 0
OneMessage m n = spelling m ≡ spelling n → m ≡ n

-- no spelling goes on behind another one
abbrev pub NoPrefix : Msg → Msg → Type 0
NoPrefix m n = (rest : List ℕ) → spelling n ≡ spelling m ++ rest → rest ≡ []
