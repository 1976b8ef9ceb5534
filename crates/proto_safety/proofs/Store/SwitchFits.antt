-- What the choice of a switch's row says of its state.
use Rattle.std.proofs.Common.{◌≡◌, ℕ, ◌+◌, ◌<◌, List, length, Option, Some, None, refl, true, false, Bool}
use Rattle.std.specs.Prelude.{◌==◌, ◌&&◌, nat_lt, if◌then◌else◌}
use Rattle.std.proofs.lemmas.Bool.{and_parts, ltb-true}
use Rattle.proto_data.specs.declared.message.Body.{Body}
use Rattle.proto_data.specs.declared.terms.Mode.{Mode}
use Rattle.proto_data.specs.declared.message.Input.{Input}
use Rattle.proto_data.specs.declared.message.Config.{Config}
use Rattle.rp_base.specs.declared.node.Packet.{Packet}
use Rattle.rp_base.specs.declared.node.Output.{Output}
use Rattle.proto_data.specs.declared.message.Carried.{Carried}
use Rattle.rp_base.specs.declared.event.DropCause.{DropCause}
use Rattle.rp_app.specs.Application.{Application, Delta}
use Rattle.proto_data.specs.Carrying.{packet_of}
use Rattle.key_table.specs.Table.{Key}
use Rattle.proto_model.specs.Ring.{remembers}
use Rattle.proto_model.specs.Slot.{Slot, Lease, Round, Ages, Idle, Asking, Held, Lapsed, fresh_slot, is_young}
use Rattle.proto_model.specs.SwitchState.{Switch, slot_at}
use Rattle.proto_model.specs.SwitchRow.{SwitchRow, Keyless, NoRoom, NewAsk, AskAgain, Drops, Direct, Mirrored, Granted, Late, Acked, RoundDone, Denied, Busied, Adopts, Resends, Stale, switch_row, packet_row, keyed_row, leased_row, processed, process_row, granted, without_asked, carried_row, grant_row, has_epoch, round_row, ack_row, busy_row, at_slot, message_row}

-- Where a Held slot that processes a packet comes from
pub data Prepared (s : Switch) (now : ℕ) (key : Key) : Slot → ℕ → Type 0 where
  was_held : {slot : Slot} {nonce epoch expiry : ℕ} → slot_at s key ≡ Some slot → slot.lease ≡ Held nonce epoch expiry → Prepared s now key slot epoch
  was_asking :
      {slot : Slot} {nonce first epoch : ℕ} {cells : List ℕ} → slot_at s key ≡ Some slot → slot.lease ≡ Asking nonce first →
      is_young s.terms.t_switch first now ≡ true → Prepared s now key (granted slot nonce epoch (first + s.terms.t_switch) cells) epoch
  forgot : {slot : Slot} {epoch : ℕ} (mark : ℕ) → Prepared s now key slot epoch → Prepared s now key (without_asked slot mark) epoch
  aged : {slot : Slot} {epoch : ℕ} (ages : Ages) → Prepared s now key slot epoch → Prepared s now key (record slot { ages = ages }) epoch

-- Which rows a switch may take, and under what
pub data SwitchFits (app : Application) (s : Switch) (now : ℕ) : Input → SwitchRow → Type 0 where
  keyless : {input : Input} {out : Option Output} → SwitchFits app s now input (Keyless out)
  no_room : {input : Input} {mark : ℕ} → SwitchFits app s now input (NoRoom mark)
  first_ask : {key : Key} {packet : Packet} → app.key_of packet ≡ Some key → slot_at s key ≡ None → (length s.slots) < 1024 → SwitchFits app s now (Input.Packet packet) (NewAsk key fresh_slot packet)
  new_ask : {key : Key} {slot : Slot} {packet : Packet} → app.key_of packet ≡ Some key → slot_at s key ≡ Some slot → SwitchFits app s now (Input.Packet packet) (NewAsk key slot packet)
  ask_again :
      {key : Key} {slot : Slot} {nonce first : ℕ} {packet : Packet} → app.key_of packet ≡ Some key → slot_at s key ≡ Some slot → slot.lease ≡ Asking nonce first →
      SwitchFits app s now (Input.Packet packet) (AskAgain key slot nonce packet)
  drops : {input : Input} {key : Key} {slot : Slot} {epoch mark : ℕ} {cause : DropCause} → Prepared s now key slot epoch → SwitchFits app s now input (Drops key slot mark cause)
  direct :
      {input : Input} {key : Key} {slot : Slot} {epoch mark : ℕ} {delta : Delta} {out : Option Output} → Prepared s now key slot epoch →
      SwitchFits app s now input (Direct key slot epoch mark delta out)
  mirrored :
      {input : Input} {key : Key} {slot : Slot} {epoch mark : ℕ} {delta : Delta} {out : Option Output} → Prepared s now key slot epoch →
      SwitchFits app s now input (Mirrored key slot epoch mark delta out)
  granted_only : {input : Input} {key : Key} {slot : Slot} {epoch : ℕ} → Prepared s now key slot epoch → SwitchFits app s now input (Granted key slot)
  late : {input : Input} {key : Key} {slot : Slot} {mark : Option ℕ} → slot_at s key ≡ Some slot → SwitchFits app s now input (Late key slot mark)
  acked :
      {input : Input} {key : Key} {slot : Slot} {upto : ℕ} {load : Option Carried} (epoch : ℕ) → slot_at s key ≡ Some slot → has_epoch slot.lease epoch ≡ true →
      SwitchFits app s now input (Acked key slot upto load)
  round_done :
      {input : Input} {key : Key} {slot : Slot} {round : Round} (epoch : ℕ) → slot_at s key ≡ Some slot → has_epoch slot.lease epoch ≡ true → slot.round ≡ Some round →
      SwitchFits app s now input (RoundDone key slot round)
  denied : {input : Input} {key : Key} {slot : Slot} → slot_at s key ≡ Some slot → SwitchFits app s now input (Denied key slot)
  busied :
      {input : Input} {key : Key} {slot : Slot} {nonce first mark : ℕ} → slot_at s key ≡ Some slot → slot.lease ≡ Asking nonce first →
      SwitchFits app s now input (Busied key slot mark)
  adopts : {input : Input} {config : Config} → s.config.number < config.number → SwitchFits app s now input (Adopts config)
  resends : {input : Input} → SwitchFits app s now input Resends
  stale : {input : Input} → SwitchFits app s now input Stale

if_fits : {app : Application} {s : Switch} {now : ℕ} {input : Input} {b : Bool} {x y : SwitchRow} → (b ≡ true → SwitchFits app s now input x) → (b ≡ false → SwitchFits app s now input y) →
    SwitchFits app s now input (if b then x else y)
if_fits {b = true} p q = p refl
if_fits {b = false} p q = q refl

process_fits : (app : Application) (m : Mode) (s : Switch) (now : ℕ) (input : Input) (key : Key) (slot : Slot) (epoch mark : ℕ) (made : Delta × Option Output) → Prepared s now key slot epoch →
    SwitchFits app s now input (process_row m s now key slot epoch mark made)
process_fits app Mode.Strict s now input key slot epoch mark made p = search (if_fits, drops, direct, mirrored, p)
process_fits app (Mode.Snapshot bound) s now input key slot epoch mark made p = search (if_fits, drops, direct, aged, p)

processed_fits : (app : Application) (s : Switch) (now : ℕ) (input : Input) (key : Key) (slot : Slot) (epoch : ℕ) (packet : Packet) → Prepared s now key slot epoch →
    SwitchFits app s now input (processed app s now key slot epoch packet)
processed_fits app s now input key slot epoch packet p = process_fits app s.terms.mode s now input key slot epoch packet.mark _ p

leased_fits : (app : Application) (s : Switch) (now : ℕ) (key : Key) (slot : Slot) (packet : Packet) (lease : Lease) → app.key_of packet ≡ Some key → slot_at s key ≡ Some slot → slot.lease ≡ lease →
    SwitchFits app s now (Input.Packet packet) (leased_row app s now key slot packet lease)
leased_fits app s now key slot packet Idle of at is = new_ask of at
leased_fits app s now key slot packet (Asking nonce first) of at is = search (if_fits, ask_again, new_ask, of, at, is)
leased_fits app s now key slot packet (Held nonce epoch expiry) of at is = processed_fits app s now (Input.Packet packet) key slot epoch packet (was_held at is)
leased_fits app s now key slot packet (Lapsed nonce epoch expiry) of at is = new_ask of at

keyed_fits : (app : Application) (s : Switch) (now : ℕ) (packet : Packet) (key : Key) (o : Option Slot) → app.key_of packet ≡ Some key → slot_at s key ≡ o →
    SwitchFits app s now (Input.Packet packet) (keyed_row app s now packet key o)
keyed_fits app s now packet key None of at = if_fits {b = nat_lt (length s.slots) 1024} (λ room. first_ask of at (ltb-true _ _ room)) (λ _. no_room)
keyed_fits app s now packet key (Some slot) of at = leased_fits app s now key slot packet slot.lease of at refl

packet_fits : (app : Application) (s : Switch) (now : ℕ) (packet : Packet) (o : Option Key) → app.key_of packet ≡ o → SwitchFits app s now (Input.Packet packet) (packet_row app s now packet o)
packet_fits app s now packet None of = keyless
packet_fits app s now packet (Some key) of = keyed_fits app s now packet key (slot_at s key) of refl

carried_fits : (app : Application) (s : Switch) (now : ℕ) (input : Input) (key : Key) (slot : Slot) (epoch : ℕ) (other : SwitchRow) (load : Option Carried) → Prepared s now key slot epoch →
    SwitchFits app s now input other → SwitchFits app s now input (carried_row app s now key slot epoch other load)
carried_fits app s now input key slot epoch other None p h = h
carried_fits app s now input key slot epoch other (Some c) p h =
    if_fits {b = remembers slot.asked c.mark} (λ _. processed_fits app s now input key (without_asked slot c.mark) epoch (packet_of c) (forgot c.mark p)) (λ _. h)

grant_fits : (app : Application) (s : Switch) (now : ℕ) (input : Input) (key : Key) (slot : Slot) (nonce epoch : ℕ) (cells : List ℕ) (load : Option Carried) (lease : Lease) → slot_at s key ≡ Some slot → slot.lease ≡ lease →
    SwitchFits app s now input (grant_row app s now key slot nonce epoch cells load lease)
grant_fits app s now input key slot nonce epoch cells load Idle at is = stale
grant_fits app s now input key slot nonce epoch cells load (Asking own first) at is =
    if_fits {b = own == nonce}
    (λ _.
    if_fits {b = is_young s.terms.t_switch first now}
    (λ young.
    carried_fits app s now input key (granted slot own epoch (first + s.terms.t_switch) cells) epoch _ load (was_asking at is young) (granted_only (was_asking at is young)))
    (λ _. late at))
    (λ _. stale)
grant_fits app s now input key slot nonce epoch cells load (Held own of expiry) at is =
    if_fits {b = (own == nonce) && (of == epoch)} (λ _. carried_fits app s now input key slot of Stale load (was_held at is) stale) (λ _. stale)
grant_fits app s now input key slot nonce epoch cells load (Lapsed own of expiry) at is = stale

busy_fits : (app : Application) (s : Switch) (now : ℕ) (input : Input) (key : Key) (slot : Slot) (nonce : ℕ) (mark : Option ℕ) (lease : Lease) → slot_at s key ≡ Some slot → slot.lease ≡ lease →
    SwitchFits app s now input (busy_row key slot nonce mark lease)
busy_fits app s now input key slot nonce None lease at is = stale
busy_fits app s now input key slot nonce (Some mark) (Asking own first) at is = search (if_fits, busied, stale, at, is)
busy_fits app s now input key slot nonce (Some mark) Idle at is = stale
busy_fits app s now input key slot nonce (Some mark) (Held own epoch expiry) at is = stale
busy_fits app s now input key slot nonce (Some mark) (Lapsed own epoch expiry) at is = stale

round_fits : (app : Application) (s : Switch) (now : ℕ) (input : Input) (key : Key) (slot : Slot) (epoch upto : ℕ) (o : Option Round) → slot_at s key ≡ Some slot → has_epoch slot.lease epoch ≡ true → slot.round ≡ o →
    SwitchFits app s now input (round_row key slot upto o)
round_fits app s now input key slot epoch upto None at e is = stale
round_fits app s now input key slot epoch upto (Some r) at e is = search (if_fits, round_done, stale, at, e, is)

ack_fits : (app : Application) (m : Mode) (s : Switch) (now : ℕ) (input : Input) (key : Key) (slot : Slot) (epoch upto : ℕ) (load : Option Carried) → slot_at s key ≡ Some slot → has_epoch slot.lease epoch ≡ true →
    SwitchFits app s now input (ack_row m key slot upto load)
ack_fits app Mode.Strict s now input key slot epoch upto load at e = acked epoch at e
ack_fits app (Mode.Snapshot b) s now input key slot epoch upto load at e = round_fits app s now input key slot epoch upto slot.round at e refl

-- a message at a slot, if there is one
slot_fits : (app : Application) (s : Switch) (now : ℕ) (input : Input) (o : Option Slot) (row : Slot → SwitchRow) → ((slot : Slot) → o ≡ Some slot → SwitchFits app s now input (row slot)) → SwitchFits app s now input (at_slot o row)
slot_fits app s now input None row h = stale
slot_fits app s now input (Some slot) row h = h slot refl

message_fits : (app : Application) (s : Switch) (now : ℕ) (input : Input) (body : Body) → SwitchFits app s now input (message_row app s now body)
message_fits app s now input (Body.Grant inc nonce epoch key cells load) =
    if_fits {b = (inc == s.inc) && (length cells == app.cell_count)}
    (λ _. slot_fits app s now input (slot_at s key) _ (λ slot at. grant_fits app s now input key slot nonce epoch cells load slot.lease at refl))
    (λ _. stale)
message_fits app s now input (Body.Ack inc epoch upto key load) =
    slot_fits app s now input (slot_at s key) _
    (λ slot at. if_fits {b = (inc == s.inc) && has_epoch slot.lease epoch} (λ t. ack_fits app s.terms.mode s now input key slot epoch upto load at (and_parts _ _ t).1) (λ _. stale))
message_fits app s now input (Body.Deny inc epoch key) =
    slot_fits app s now input (slot_at s key) _
    (λ slot at. if_fits {b = (inc == s.inc) && has_epoch slot.lease epoch} (λ t. denied at) (λ _. stale))
message_fits app s now input (Body.Busy inc nonce key mark) =
    slot_fits app s now input (slot_at s key) _ (λ slot at. if_fits {b = (inc == s.inc)} (λ t. busy_fits app s now input key slot nonce mark slot.lease at refl) (λ _. stale))
message_fits app s now input (Body.Config config) = if_fits {b = nat_lt s.config.number config.number} (λ t. adopts (ltb-true _ _ t)) (λ _. stale)
message_fits app s now input _ = stale

pub row_fits : (app : Application) (s : Switch) (now : ℕ) (input : Input) → SwitchFits app s now input (switch_row app s now input)
row_fits app s now (Input.Packet p) = packet_fits app s now p (app.key_of p) refl
row_fits app s now (Input.Msg m) = message_fits app s now (Input.Msg m) m.body
row_fits app s now Input.Alarm = resends
