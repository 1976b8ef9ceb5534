-- The table of a switch's rows: for each input and each case the row that is taken, with all that is known there.
use Rattle.std.specs.Prelude.{ℕ, ◌+◌, ◌≡◌, ◌<◌, List, length, Option, Some, None, true, false, ◌==◌, ◌&&◌, not, nat_le, if◌then◌else◌}
use Rattle.rp_base.specs.declared.node.Node.{Node}
use Rattle.proto_data.specs.declared.message.Body.{Body}
use Rattle.proto_data.specs.declared.terms.Mode.{Mode}
use Rattle.proto_data.specs.declared.message.Input.{Input}
use Rattle.proto_data.specs.declared.message.Config.{Config}
use Rattle.rp_base.specs.declared.node.Packet.{Packet}
use Rattle.rp_base.specs.declared.node.Output.{Output}
use Rattle.proto_data.specs.declared.message.Carried.{Carried}
use Rattle.rp_base.specs.declared.event.DropCause.{DropCause}
use Rattle.rp_app.specs.Application.{Application, Delta, zeros}
use Rattle.proto_data.specs.Carrying.{packet_of}
use Rattle.key_table.specs.Table.{Key}
use Rattle.proto_model.specs.Ring.{remembers}
use Rattle.proto_model.specs.Slot.{Slot, Round, Idle, Asking, Held, Lapsed, fresh_slot, is_young, may, updated}
use Rattle.proto_model.specs.SwitchState.{Switch, slot_at, has_copies}
use Rattle.proto_model.specs.SwitchRow.{SwitchRow, Keyless, NoRoom, NewAsk, AskAgain, Drops, Direct, Mirrored, Granted, Late, Acked, RoundDone, Denied, Busied, Adopts, Resends, Stale, granted, without_asked, asked_mark, has_epoch, is_clean}

-- a message with this body
abbrev pub msg : Node → Node → Body → Input
msg from to body = Input.Msg (record { from = from; to = to; body = body })

-- A Grant that an Asking slot takes in time, of this incarnation and with the right number of cells; `first` is the first sending of its Ask.
pub record Timely (app : Application) (s : Switch) (now : ℕ) (inc nonce : ℕ) (key : Key) (cells : List ℕ) (slot : Slot) (first : ℕ) : Type 0 where
  pub here : (inc == s.inc) ≡ true
  pub whole : (length cells == app.cell_count) ≡ true
  pub at : slot_at s key ≡ Some slot
  pub asking : slot.lease ≡ Asking nonce first
  pub young : is_young s.terms.t_switch first now ≡ true

-- A packet is about to be processed in this slot and epoch: it was fed, or a Grant brings it.
pub data Ready (app : Application) (s : Switch) (now : ℕ) : Input → Key → Slot → ℕ → Packet → Type 0 where
  fed :
      {p : Packet} {key : Key} {slot : Slot} {nonce epoch expiry : ℕ} → app.key_of p ≡ Some key → slot_at s key ≡ Some slot → slot.lease ≡ Held nonce epoch expiry →
      Ready app s now (Input.Packet p) key slot epoch p
  at_grant :
      {from to : Node} {inc nonce epoch first : ℕ} {key : Key} {cells : List ℕ} {c : Carried} {slot : Slot} → Timely app s now inc nonce key cells slot first → remembers slot.asked c.mark ≡ true →
      Ready app s now (msg from to (Body.Grant inc nonce epoch key cells (Some c))) key (without_asked (granted slot nonce epoch (first + s.terms.t_switch) cells) c.mark) epoch (packet_of c)
  at_grant_again :
      {from to : Node} {inc nonce epoch expiry : ℕ} {key : Key} {cells : List ℕ} {c : Carried} {slot : Slot} → (inc == s.inc) ≡ true → slot_at s key ≡ Some slot → slot.lease ≡ Held nonce epoch expiry →
      remembers slot.asked c.mark ≡ true → Ready app s now (msg from to (Body.Grant inc nonce epoch key cells (Some c))) key (without_asked slot c.mark) epoch (packet_of c)

pub data RowTaken (app : Application) (s : Switch) (now : ℕ) : Input → SwitchRow → Type 0 where
  stale : {input : Input} → RowTaken app s now input Stale
  -- packets that are not processed
  keyless : {p : Packet} → app.key_of p ≡ None → RowTaken app s now (Input.Packet p) (Keyless (app.plain (zeros app.cell_count) p).1)
  no_room : {p : Packet} {key : Key} → app.key_of p ≡ Some key → slot_at s key ≡ None → RowTaken app s now (Input.Packet p) (NoRoom p.mark)
  first_ask :
      {p : Packet} {key : Key} → app.key_of p ≡ Some key → slot_at s key ≡ None → length s.slots < 1024 → RowTaken app s now (Input.Packet p) (NewAsk key fresh_slot p)
  ask_idle : {p : Packet} {key : Key} {slot : Slot} → app.key_of p ≡ Some key → slot_at s key ≡ Some slot → slot.lease ≡ Idle → RowTaken app s now (Input.Packet p) (NewAsk key slot p)
  ask_anew :
      {p : Packet} {key : Key} {slot : Slot} {nonce first : ℕ} → app.key_of p ≡ Some key → slot_at s key ≡ Some slot → slot.lease ≡ Asking nonce first →
      is_young s.terms.t_switch first now ≡ false → RowTaken app s now (Input.Packet p) (NewAsk key slot p)
  ask_lapsed :
      {p : Packet} {key : Key} {slot : Slot} {nonce epoch expiry : ℕ} → app.key_of p ≡ Some key → slot_at s key ≡ Some slot → slot.lease ≡ Lapsed nonce epoch expiry →
      RowTaken app s now (Input.Packet p) (NewAsk key slot p)
  ask_again :
      {p : Packet} {key : Key} {slot : Slot} {nonce first : ℕ} → app.key_of p ≡ Some key → slot_at s key ≡ Some slot → slot.lease ≡ Asking nonce first →
      is_young s.terms.t_switch first now ≡ true → RowTaken app s now (Input.Packet p) (AskAgain key slot nonce p)
  -- packets that are
  no_copy_room :
      {input : Input} {key : Key} {slot : Slot} {epoch : ℕ} {p : Packet} → Ready app s now input key slot epoch p → s.terms.mode ≡ Mode.Strict → nat_le 1024 (length s.copies) ≡ true →
      RowTaken app s now input (Drops key slot p.mark DropCause.Mirror)
  direct :
      {input : Input} {key : Key} {slot : Slot} {epoch : ℕ} {p : Packet} {made : Delta × Option Output} → Ready app s now input key slot epoch p → s.terms.mode ≡ Mode.Strict →
      app.plain slot.cells p ≡ made → is_clean made.0 ≡ true → has_copies s key ≡ false → RowTaken app s now input (Direct key slot epoch p.mark made.0 made.1)
  mirrored :
      {input : Input} {key : Key} {slot : Slot} {epoch : ℕ} {p : Packet} {made : Delta × Option Output} → Ready app s now input key slot epoch p → s.terms.mode ≡ Mode.Strict →
      app.plain slot.cells p ≡ made → nat_le 1024 (length s.copies) ≡ false → (is_clean made.0 && not (has_copies s key)) ≡ false →
      RowTaken app s now input (Mirrored key slot epoch p.mark made.0 made.1)
  snapped :
      {input : Input} {key : Key} {slot : Slot} {epoch bound : ℕ} {p : Packet} {made : Delta × Option Output} → Ready app s now input key slot epoch p → s.terms.mode ≡ Mode.Snapshot bound →
      app.plain slot.cells p ≡ made → may bound now slot.ages ≡ true →
      RowTaken app s now input (Direct key (record slot { ages = if is_clean made.0 then slot.ages else updated now slot.round slot.ages }) epoch p.mark made.0 made.1)
  too_old :
      {input : Input} {key : Key} {slot : Slot} {epoch bound : ℕ} {p : Packet} → Ready app s now input key slot epoch p → s.terms.mode ≡ Mode.Snapshot bound → may bound now slot.ages ≡ false →
      RowTaken app s now input (Drops key slot p.mark DropCause.Bound)
  -- Grants without a packet to process
  granted_only :
      {from to : Node} {inc nonce epoch first : ℕ} {key : Key} {cells : List ℕ} {load : Option Carried} {slot : Slot} → Timely app s now inc nonce key cells slot first →
      asked_mark slot load ≡ None → RowTaken app s now (msg from to (Body.Grant inc nonce epoch key cells load)) (Granted key (granted slot nonce epoch (first + s.terms.t_switch) cells))
  late :
      {from to : Node} {inc nonce epoch first : ℕ} {key : Key} {cells : List ℕ} {load : Option Carried} {slot : Slot} → (inc == s.inc) ≡ true → slot_at s key ≡ Some slot →
      slot.lease ≡ Asking nonce first → is_young s.terms.t_switch first now ≡ false →
      RowTaken app s now (msg from to (Body.Grant inc nonce epoch key cells load)) (Late key slot (asked_mark slot load))
  -- other answers
  acked :
      {from to : Node} {inc epoch upto : ℕ} {key : Key} {load : Option Carried} {slot : Slot} → s.terms.mode ≡ Mode.Strict → (inc == s.inc) ≡ true → slot_at s key ≡ Some slot →
      has_epoch slot.lease epoch ≡ true → RowTaken app s now (msg from to (Body.Ack inc epoch upto key load)) (Acked key slot upto load)
  round_done :
      {from to : Node} {inc epoch upto bound : ℕ} {key : Key} {load : Option Carried} {slot : Slot} {r : Round} → s.terms.mode ≡ Mode.Snapshot bound → (inc == s.inc) ≡ true → slot_at s key ≡ Some slot →
      has_epoch slot.lease epoch ≡ true → slot.round ≡ Some r → (r.number == upto) ≡ true → RowTaken app s now (msg from to (Body.Ack inc epoch upto key load)) (RoundDone key slot r)
  denied :
      {from to : Node} {inc epoch : ℕ} {key : Key} {slot : Slot} → (inc == s.inc) ≡ true → slot_at s key ≡ Some slot → has_epoch slot.lease epoch ≡ true →
      RowTaken app s now (msg from to (Body.Deny inc epoch key)) (Denied key slot)
  busied :
      {from to : Node} {inc nonce first mark : ℕ} {key : Key} {slot : Slot} → (inc == s.inc) ≡ true → slot_at s key ≡ Some slot → slot.lease ≡ Asking nonce first → remembers slot.asked mark ≡ true →
      RowTaken app s now (msg from to (Body.Busy inc nonce key (Some mark))) (Busied key slot mark)
  adopted : {from to : Node} {config : Config} → s.config.number < config.number → RowTaken app s now (msg from to (Body.Config config)) (Adopts config)
  resends : RowTaken app s now Input.Alarm Resends
