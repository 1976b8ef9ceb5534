-- A switch, the copies that it resends, and what one step of it did.
use Rattle.std.specs.Prelude.{ℕ, Bool, not, ◌&&◌, List, [], ◌∷◌, Option, Some, None, if◌then◌else◌, nat_le, filter}
use Rattle.std.specs.List.{list_any}
use Rattle.proto_data.specs.declared.message.Msg.{Msg}
use Rattle.proto_data.specs.declared.message.Body.{Body}
use Rattle.rp_base.specs.declared.node.Node.{Node}
use Rattle.rp_base.specs.declared.node.Output.{Output}
use Rattle.proto_data.specs.declared.message.Config.{Config}
use Rattle.proto_data.specs.declared.terms.Terms.{Terms}
use Rattle.rp_base.specs.declared.event.DropCause.{DropCause}
use Rattle.rp_base.specs.declared.event.Lost.{Lost}
use Rattle.rp_app.specs.Application.{Delta}
use Rattle.key_table.specs.Table.{Key, Table, get, put, map_values, same_key}
use Rattle.proto_model.specs.Slot.{Slot, lapsed_slot}

-- a Put that waits for its Ack, without its output
pub record Copy : Type 0 where
  pub key : Key
  pub number : ℕ
  pub delta : Delta
  pub first : ℕ
  pub sent : ℕ

-- slots in order of making, copies in order of last sending
pub record Switch : Type 0 where
  pub me : ℕ
  pub inc : ℕ
  pub terms : Terms
  pub config : Config
  pub nonces : ℕ
  pub slots : Table Slot
  pub copies : List Copy
  pub walked : Option Key

-- a packet that was processed
pub record Item : Type 0 where
  pub key : Key
  pub epoch : ℕ
  pub mark : ℕ
  pub number : ℕ
  pub moment : ℕ
  pub dirty : Bool

-- a round that was begun
pub record Begun : Type 0 where
  pub key : Key
  pub epoch : ℕ
  pub round : ℕ

pub record SwitchDid : Type 0 where
  pub sent : List Msg
  pub released : Option Output
  pub item : Option Item
  pub dropped : Option (ℕ × DropCause)
  pub begun : List Begun
  pub lost : Option Lost

abbrev pub SwitchStep : Type 0
SwitchStep = Switch × SwitchDid

abbrev pub nothing : SwitchDid
nothing = record { sent = []; released = None; item = None; dropped = None; begun = []; lost = None }

abbrev pub only_sent : List Msg → SwitchDid
only_sent ms = record { sent = ms; released = None; item = None; dropped = None; begun = []; lost = None }

abbrev pub only_dropped : ℕ → DropCause → SwitchDid
only_dropped mark cause = record { sent = []; released = None; item = None; dropped = Some (mark, cause); begun = []; lost = None }

abbrev pub only_lost : Lost → SwitchDid
only_lost cause = record { sent = []; released = None; item = None; dropped = None; begun = []; lost = Some cause }

abbrev pub only_released : Option Output → SwitchDid
only_released out = record { sent = []; released = out; item = None; dropped = None; begun = []; lost = None }

abbrev pub open_switch : ℕ → ℕ → Terms → Config → Switch
open_switch me inc terms config =
    record { me = me; inc = inc; terms = terms; config = config; nonces = 0; slots = []; copies = []; walked = None }

abbrev pub slot_at : Switch → Key → Option Slot
slot_at s key = get s.slots key

abbrev pub with_slot : Switch → Key → Slot → Switch
with_slot s key slot = record s { slots = put s.slots key slot }

-- the slots whose lease has ended are Lapsed
abbrev pub lapsed : ℕ → Switch → Switch
lapsed now s = record s { slots = map_values (lapsed_slot now) s.slots }

abbrev pub is_of : Key → Copy → Bool
is_of key c = same_key c.key key

abbrev pub has_copies : Switch → Key → Bool
has_copies s key = list_any (is_of key) s.copies

-- the slot's copies are given up
abbrev pub without_copies : Switch → Key → Switch
without_copies s key = record s { copies = filter (λ c. not (is_of key c)) s.copies }

-- a copy that an Ack up to this number covers
abbrev pub is_covered : Key → ℕ → Copy → Bool
is_covered key upto c = is_of key c && nat_le c.number upto

-- the first sending of the greatest number among these; numbers of one slot rise along the copies' making, so keep the greater
abbrev pub greatest_first : Option (ℕ × ℕ) → Copy → Option (ℕ × ℕ)
greatest_first None c = Some (c.number, c.first)
greatest_first (Some best) c = if nat_le c.number best.0 then Some best else Some (c.number, c.first)

abbrev pub head_node : List ℕ → Node
head_node [] = Node.Master
head_node (r ∷ rs) = Node.Replica r

-- a message to the head
abbrev pub to_head : Switch → Body → Msg
to_head s body = record { from = Node.Switch s.me; to = head_node s.config.chain; body = body }
