-- What is said of the packets that messages carry.
use Rattle.std.specs.Prelude.{ℕ, ◌≡◌, ◌≤◌, Option, Some, None, List}
use Rattle.proto_data.specs.declared.message.Body.{Body}
use Rattle.proto_data.specs.declared.message.Entry.{Entry}
use Rattle.proto_data.specs.declared.message.Echoed.{Echoed}
use Rattle.proto_data.specs.declared.message.Carried.{Carried}
use Rattle.key_table.specs.Table.{Key}
use Rattle.rp_app.specs.Application.{Application}
use Rattle.proto_data.specs.Carrying.{packet_of, output_of}
use Rattle.proto_model.specs.World.{Journaled}
use Rattle.rp_base.specs.declared.legality.Fed.{Fed}
use Rattle.proto_safety.specs.Books.{In}
use Rattle.proto_model.specs.Feeds.{packet_at}

-- a fact on what rides along, if anything does
abbrev pub OnLoad : (Key → Carried → Type 0) → Key → Option Carried → Type 0
OnLoad P key None = Unit {0}
OnLoad P key (Some c) = P key c

abbrev pub OnEntry : (Key → Carried → Type 0) → Entry → Option Carried → Type 0
OnEntry P (Entry.Grant key epoch switch inc nonce) load = OnLoad P key load
OnEntry P (Entry.Put key epoch number delta) load = Unit {0}
OnEntry P (Entry.Snap key epoch round cells) load = Unit {0}

abbrev pub OnEcho : (Key → Carried → Type 0) → Echoed → Option Carried → Type 0
OnEcho P (Echoed.Ask switch inc nonce key) load = OnLoad P key load
OnEcho P (Echoed.Put switch epoch number key) load = Unit {0}

-- P holds of the key and the packet that a message carries, if it carries one
abbrev pub OnPacket : (Key → Carried → Type 0) → Body → Type 0
OnPacket P (Body.Ask inc nonce key load) = OnLoad P key load
OnPacket P (Body.Grant inc nonce epoch key cells load) = OnLoad P key load
OnPacket P (Body.Forward config index entry load) = OnEntry P entry load
OnPacket P (Body.Echo of load) = OnEcho P of load
OnPacket P _ = Unit {0}

-- the packet was fed, and has this key
abbrev pub WasFed : Application → List Fed → Key → Carried → Type 0
WasFed app fed key c = (packet_at fed c.mark ≡ Some (packet_of c)) × (app.key_of (packet_of c) ≡ Some key)

-- ---- outputs

-- the output is that of the item with its mark, which has this key, epoch and number
pub record IsItemOutput (items : List Journaled) (key : Key) (epoch number : ℕ) (c : Carried) : Type 0 where
  pub item : Journaled
  pub there : In items item
  pub key_is : item.item.key ≡ key
  pub epoch_is : item.item.epoch ≡ epoch
  pub number_is : item.item.number ≡ number
  pub mark_is : item.item.mark ≡ c.mark
  pub output_is : item.output ≡ Some (output_of c)

-- a fact on the output that rides along, if one does
abbrev pub WithOutput : (Carried → Type 0) → Option Carried → Type 0
WithOutput P None = Unit {0}
WithOutput P (Some c) = P c

-- the output rides on an entry with its own number
abbrev pub OnEntryOutput : (Key → ℕ → ℕ → Carried → Type 0) → Entry → Option Carried → Type 0
OnEntryOutput P (Entry.Grant key epoch switch inc nonce) load = Unit {0}
OnEntryOutput P (Entry.Put key epoch number delta) load = WithOutput (P key epoch number) load
OnEntryOutput P (Entry.Snap key epoch round cells) load = WithOutput (P key epoch round) load

abbrev pub OnEchoOutput : (Key → ℕ → ℕ → Carried → Type 0) → Echoed → Option Carried → Type 0
OnEchoOutput P (Echoed.Ask switch inc nonce key) load = Unit {0}
OnEchoOutput P (Echoed.Put switch epoch number key) load = WithOutput (P key epoch number) load

-- P holds of the output that a message carries, with the frame's key and epoch, and the number of its Put, entry or Echo; in an Ack
-- with a number of at most `upto`
abbrev pub OnOutput : (Key → ℕ → ℕ → Carried → Type 0) → Body → Type 0
OnOutput P (Body.Put inc epoch number key delta load) = WithOutput (P key epoch number) load
OnOutput P (Body.Ack inc epoch upto key load) = WithOutput (λ c. (number : ℕ) × ((number ≤ upto) × P key epoch number c)) load
OnOutput P (Body.Forward config index entry load) = OnEntryOutput P entry load
OnOutput P (Body.Echo of load) = OnEchoOutput P of load
OnOutput P _ = Unit {0}
