-- Which row of the switch's table an input meets.
use Rattle.std.specs.Prelude.{ℕ, ◌+◌, Bool, true, false, not, ◌&&◌, ◌==◌, List, [], ◌∷◌, Option, Some, None, if◌then◌else◌, nat_le, nat_lt, length}
use Rattle.rp_base.specs.declared.node.Packet.{Packet}
use Rattle.rp_base.specs.declared.node.Output.{Output}
use Rattle.proto_data.specs.declared.message.Carried.{Carried}
use Rattle.proto_data.specs.declared.message.Config.{Config}
use Rattle.proto_data.specs.declared.message.Body.{Body}
use Rattle.proto_data.specs.declared.message.Input.{Input}
use Rattle.proto_data.specs.declared.terms.Mode.{Mode}
use Rattle.rp_base.specs.declared.event.DropCause.{DropCause}
use Rattle.rp_app.specs.Application.{Application, Delta, zeros}
use Rattle.proto_data.specs.Carrying.{packet_of}
use Rattle.key_table.specs.Table.{Key}
use Rattle.proto_model.specs.Ring.{remembers, forget}
use Rattle.proto_model.specs.Slot.{Lease, Slot, Round, Idle, Asking, Held, Lapsed, fresh_slot, is_young, may, updated, no_ages}
use Rattle.proto_model.specs.SwitchState.{Switch, slot_at, has_copies}
use Rattle.proto_data.specs.declared.limits.TheConstants.{COPIES, SLOTS}

-- A row with what it needs. The slot is the one to be stored, before what the row itself does to it.
pub data SwitchRow : Type 0 where
  -- a packet without a key
  Keyless : (out : Option Output) → SwitchRow
  -- no room for another slot
  NoRoom : (mark : ℕ) → SwitchRow
  -- a lease is asked for, with the next nonce
  NewAsk : (key : Key) (slot : Slot) (packet : Packet) → SwitchRow
  -- another packet rides on the same nonce
  AskAgain : (key : Key) (slot : Slot) (nonce : ℕ) (packet : Packet) → SwitchRow
  -- the packet is not processed
  Drops : (key : Key) (slot : Slot) (mark : ℕ) (cause : DropCause) → SwitchRow
  -- processed, and its output leaves at once
  Direct : (key : Key) (slot : Slot) (epoch mark : ℕ) (delta : Delta) (out : Option Output) → SwitchRow
  -- processed, and its output rides on a Put
  Mirrored : (key : Key) (slot : Slot) (epoch mark : ℕ) (delta : Delta) (out : Option Output) → SwitchRow
  -- the slot changes and nothing else: a Grant without a packet to process
  Granted : (key : Key) (slot : Slot) → SwitchRow
  -- a Grant that comes too late
  Late : (key : Key) (slot : Slot) (mark : Option ℕ) → SwitchRow
  -- copies are acknowledged
  Acked : (key : Key) (slot : Slot) (upto : ℕ) (load : Option Carried) → SwitchRow
  -- the running round is acknowledged
  RoundDone : (key : Key) (slot : Slot) (round : Round) → SwitchRow
  -- the epoch is over
  Denied : (key : Key) (slot : Slot) → SwitchRow
  -- another switch has the flow
  Busied : (key : Key) (slot : Slot) (mark : ℕ) → SwitchRow
  -- a newer configuration
  Adopts : (config : Config) → SwitchRow
  -- what is due goes again
  Resends : SwitchRow
  -- all else
  Stale : SwitchRow

-- ---- which row

abbrev pub is_clean : Delta → Bool
is_clean [] = true
is_clean (d ∷ ds) = false

-- a packet in a Held slot, by the mode and by what the application makes of it
abbrev pub process_row : Mode → Switch → ℕ → Key → Slot → ℕ → ℕ → Delta × Option Output → SwitchRow
process_row Mode.Strict s now key slot epoch mark made =
    if nat_le COPIES (length s.copies)
    then Drops key slot mark DropCause.Mirror
    else
    (if is_clean made.0 && not (has_copies s key)
    then Direct key slot epoch mark made.0 made.1
    else Mirrored key slot epoch mark made.0 made.1)
process_row (Mode.Snapshot bound) s now key slot epoch mark made =
    if may bound now slot.ages
    then
    Direct key
    (record slot { ages = if is_clean made.0 then slot.ages else updated now slot.round slot.ages })
    epoch mark made.0 made.1
    else Drops key slot mark DropCause.Bound

abbrev pub processed : Application → Switch → ℕ → Key → Slot → ℕ → Packet → SwitchRow
processed app s now key slot epoch packet =
    process_row s.terms.mode s now key slot epoch packet.mark (app.plain slot.cells packet)

-- a packet, by the slot's lease state
abbrev pub leased_row : Application → Switch → ℕ → Key → Slot → Packet → Lease → SwitchRow
leased_row app s now key slot packet Idle = NewAsk key slot packet
leased_row app s now key slot packet (Asking nonce first) =
    if is_young s.terms.t_switch first now then AskAgain key slot nonce packet else NewAsk key slot packet
leased_row app s now key slot packet (Held nonce epoch expiry) = processed app s now key slot epoch packet
leased_row app s now key slot packet (Lapsed nonce epoch expiry) = NewAsk key slot packet

-- a packet with a key, by its slot
abbrev pub keyed_row : Application → Switch → ℕ → Packet → Key → Option Slot → SwitchRow
keyed_row app s now packet key None =
    if nat_lt (length s.slots) SLOTS then NewAsk key fresh_slot packet else NoRoom packet.mark
keyed_row app s now packet key (Some slot) = leased_row app s now key slot packet slot.lease

abbrev pub packet_row : Application → Switch → ℕ → Packet → Option Key → SwitchRow
packet_row app s now packet None = Keyless (app.plain (zeros app.cell_count) packet).1
packet_row app s now packet (Some key) = keyed_row app s now packet key (slot_at s key)

-- the slot that a young Grant makes
abbrev pub granted : Slot → ℕ → ℕ → ℕ → List ℕ → Slot
granted slot nonce epoch expiry cells =
    record {
      lease = Held nonce epoch expiry;
      cells = cells;
      last = 0;
      used = false;
      asked = slot.asked;
      held = slot.held;
      round = None;
      ages = no_ages;
    }

abbrev pub without_asked : Slot → ℕ → Slot
without_asked slot mark = record slot { asked = forget slot.asked mark }

-- a carried packet is processed where its mark is still asked for, and else the row is `other`
abbrev pub carried_row : Application → Switch → ℕ → Key → Slot → ℕ → SwitchRow → Option Carried → SwitchRow
carried_row app s now key slot epoch other None = other
carried_row app s now key slot epoch other (Some c) =
    if remembers slot.asked c.mark
    then processed app s now key (without_asked slot c.mark) epoch (packet_of c)
    else other

-- the mark of a carried packet that is still asked for
abbrev pub asked_mark : Slot → Option Carried → Option ℕ
asked_mark slot None = None
asked_mark slot (Some c) = if remembers slot.asked c.mark then Some c.mark else None

-- a Grant of this incarnation with the right number of cells, by the slot's lease state
abbrev pub grant_row : Application → Switch → ℕ → Key → Slot → ℕ → ℕ → List ℕ → Option Carried → Lease → SwitchRow
grant_row app s now key slot nonce epoch cells load Idle = Stale
grant_row app s now key slot nonce epoch cells load (Asking own first) =
    if own == nonce
    then
    (if is_young s.terms.t_switch first now
    then
    carried_row app s now key
    (granted slot own epoch (first + s.terms.t_switch) cells)
    epoch
    (Granted key (granted slot own epoch (first + s.terms.t_switch) cells))
    load
    else Late key slot (asked_mark slot load))
    else Stale
grant_row app s now key slot nonce epoch cells load (Held own of expiry) =
    if (own == nonce) && (of == epoch) then carried_row app s now key slot of Stale load else Stale
grant_row app s now key slot nonce epoch cells load (Lapsed own of expiry) = Stale

-- whether a slot is Held or Lapsed in this epoch
abbrev pub has_epoch : Lease → ℕ → Bool
has_epoch Idle e = false
has_epoch (Asking nonce first) e = false
has_epoch (Held nonce epoch expiry) e = epoch == e
has_epoch (Lapsed nonce epoch expiry) e = epoch == e

-- an Ack of a running round
abbrev pub round_row : Key → Slot → ℕ → Option Round → SwitchRow
round_row key slot upto None = Stale
round_row key slot upto (Some r) = if r.number == upto then RoundDone key slot r else Stale

abbrev pub ack_row : Mode → Key → Slot → ℕ → Option Carried → SwitchRow
ack_row Mode.Strict key slot upto load = Acked key slot upto load
ack_row (Mode.Snapshot bound) key slot upto load = round_row key slot upto slot.round

-- a Busy in an Asking slot
abbrev pub busy_row : Key → Slot → ℕ → Option ℕ → Lease → SwitchRow
busy_row key slot nonce None lease = Stale
busy_row key slot nonce (Some mark) Idle = Stale
busy_row key slot nonce (Some mark) (Asking own first) =
    if (own == nonce) && remembers slot.asked mark then Busied key slot mark else Stale
busy_row key slot nonce (Some mark) (Held own epoch expiry) = Stale
busy_row key slot nonce (Some mark) (Lapsed own epoch expiry) = Stale

-- the row of a slot, if there is one
abbrev pub at_slot : Option Slot → (Slot → SwitchRow) → SwitchRow
at_slot None row = Stale
at_slot (Some slot) row = row slot

-- a message, by its kind
abbrev pub message_row : Application → Switch → ℕ → Body → SwitchRow
message_row app s now (Body.Grant inc nonce epoch key cells load) =
    if (inc == s.inc) && (length cells == app.cell_count)
    then at_slot (slot_at s key) (λ slot. grant_row app s now key slot nonce epoch cells load slot.lease)
    else Stale
message_row app s now (Body.Ack inc epoch upto key load) =
    at_slot (slot_at s key)
    (λ slot.
    if (inc == s.inc) && has_epoch slot.lease epoch then ack_row s.terms.mode key slot upto load else Stale)
message_row app s now (Body.Deny inc epoch key) =
    at_slot (slot_at s key)
    (λ slot. if (inc == s.inc) && has_epoch slot.lease epoch then Denied key slot else Stale)
message_row app s now (Body.Busy inc nonce key mark) =
    at_slot (slot_at s key) (λ slot. if inc == s.inc then busy_row key slot nonce mark slot.lease else Stale)
message_row app s now (Body.Config config) =
    if nat_lt s.config.number config.number then Adopts config else Stale
message_row app s now (Body.Ask inc nonce key load) = Stale
message_row app s now (Body.Put inc epoch number key delta load) = Stale
message_row app s now (Body.Forward config index entry load) = Stale
message_row app s now (Body.Have index) = Stale
message_row app s now (Body.Echo of load) = Stale
message_row app s now (Body.Snap inc epoch round key chunk chunks cells) = Stale

abbrev pub switch_row : Application → Switch → ℕ → Input → SwitchRow
switch_row app s now (Input.Packet p) = packet_row app s now p (app.key_of p)
switch_row app s now (Input.Msg m) = message_row app s now m.body
switch_row app s now Input.Alarm = Resends
