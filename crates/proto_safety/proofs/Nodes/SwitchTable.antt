-- The table of a switch's rows is sound: the row of each input is one of the table's.
pub use Rattle.proto_safety.specs.SwitchTable.{msg, Timely, Ready, RowTaken, fed, at_grant, at_grant_again, stale, keyless, no_room, first_ask, ask_idle, ask_anew, ask_lapsed, ask_again, no_copy_room, direct, mirrored, snapped, too_old, granted_only, late, acked, round_done, denied, busied, adopted, resends}
use Rattle.std.proofs.Common.{◌≡◌, ℕ, ◌+◌, List, length, Option, Some, None, refl, true, false, Bool}
use Rattle.std.specs.Prelude.{◌==◌, ◌&&◌, not, nat_le, nat_lt, if◌then◌else◌}
use Rattle.std.proofs.lemmas.Bool.{and_parts, ltb-true, not-true}
use Rattle.std.proofs.Common.{eqb-true}
use Rattle.rp_base.specs.declared.node.Node.{Node}
use Rattle.proto_data.specs.declared.message.Body.{Body}
use Rattle.proto_data.specs.declared.terms.Mode.{Mode}
use Rattle.proto_data.specs.declared.message.Input.{Input}
use Rattle.rp_base.specs.declared.node.Packet.{Packet}
use Rattle.rp_base.specs.declared.node.Output.{Output}
use Rattle.proto_data.specs.declared.message.Carried.{Carried}
use Rattle.rp_app.specs.Application.{Application, Delta}
use Rattle.proto_data.specs.Carrying.{packet_of}
use Rattle.key_table.specs.Table.{Key}
use Rattle.proto_model.specs.Ring.{remembers}
use Rattle.proto_model.specs.Slot.{Slot, Lease, Round, Idle, Asking, Held, Lapsed, is_young, may}
use Rattle.proto_model.specs.SwitchState.{Switch, slot_at, has_copies}
use Rattle.proto_model.specs.SwitchRow.{SwitchRow, Granted, Stale, switch_row, packet_row, keyed_row, leased_row, message_row, grant_row, carried_row, busy_row, ack_row, round_row, at_slot, processed, process_row, granted, without_asked, has_epoch, is_clean}
use Rattle.proto_model.specs.SwitchOutcomes.{late_did}

module _ (app : Application) (s : Switch) (now : ℕ) where
  if_acts : {input : Input} {x y : SwitchRow} (b : Bool) → (b ≡ true → RowTaken app s now input x) → (b ≡ false → RowTaken app s now input y) → RowTaken app s now input (if b then x else y)
  if_acts true p q = p refl
  if_acts false p q = q refl

  process_acts : (m : Mode) (input : Input) (key : Key) (slot : Slot) (epoch : ℕ) (p : Packet) (made : Delta × Option Output) → s.terms.mode ≡ m → app.plain slot.cells p ≡ made →
      Ready app s now input key slot epoch p → RowTaken app s now input (process_row m s now key slot epoch p.mark made)
  process_acts Mode.Strict input key slot epoch p made is e r =
      if_acts (nat_le 1024 (length s.copies)) (λ full. no_copy_room r is full)
      (λ room. if_acts (is_clean made.0 && not (has_copies s key)) (λ t. direct r is e (and_parts _ _ t).0 (not-true _ (and_parts _ _ t).1)) (λ t. mirrored r is e room t))
  process_acts (Mode.Snapshot bound) input key slot epoch p made is e r =
      if_acts (may bound now slot.ages) (λ t. snapped r is e t) (λ t. too_old r is t)

  processed_acts : (input : Input) (key : Key) (slot : Slot) (epoch : ℕ) (p : Packet) → Ready app s now input key slot epoch p → RowTaken app s now input (processed app s now key slot epoch p)
  processed_acts input key slot epoch p r = process_acts s.terms.mode input key slot epoch p (app.plain slot.cells p) refl refl r

  leased_acts : (key : Key) (slot : Slot) (p : Packet) (lease : Lease) → app.key_of p ≡ Some key → slot_at s key ≡ Some slot → slot.lease ≡ lease →
      RowTaken app s now (Input.Packet p) (leased_row app s now key slot p lease)
  leased_acts key slot p Idle of at is = ask_idle of at is
  leased_acts key slot p (Asking nonce first) of at is = if_acts (is_young s.terms.t_switch first now) (λ y. ask_again of at is y) (λ y. ask_anew of at is y)
  leased_acts key slot p (Held nonce epoch expiry) of at is = processed_acts (Input.Packet p) key slot epoch p (fed of at is)
  leased_acts key slot p (Lapsed nonce epoch expiry) of at is = ask_lapsed of at is

  keyed_acts : (p : Packet) (key : Key) (o : Option Slot) → app.key_of p ≡ Some key → slot_at s key ≡ o → RowTaken app s now (Input.Packet p) (keyed_row app s now p key o)
  keyed_acts p key None of at = if_acts (nat_lt (length s.slots) 1024) (λ room. first_ask of at (ltb-true _ _ room)) (λ _. no_room of at)
  keyed_acts p key (Some slot) of at = leased_acts key slot p slot.lease of at refl

  packet_acts : (p : Packet) (o : Option Key) → app.key_of p ≡ o → RowTaken app s now (Input.Packet p) (packet_row app s now p o)
  packet_acts p None of = keyless of
  packet_acts p (Some key) of = keyed_acts p key (slot_at s key) of refl

  -- a Grant that is taken in time, by what it carries
  timely_acts : (from to : Node) (inc nonce epoch first : ℕ) (key : Key) (cells : List ℕ) (load : Option Carried) (slot : Slot) → Timely app s now inc nonce key cells slot first →
      RowTaken app s now (msg from to (Body.Grant inc nonce epoch key cells load))
      (carried_row app s now key (granted slot nonce epoch (first + s.terms.t_switch) cells) epoch (Granted key (granted slot nonce epoch (first + s.terms.t_switch) cells)) load)
  timely_acts from to inc nonce epoch first key cells None slot t = granted_only t refl
  timely_acts from to inc nonce epoch first key cells (Some c) slot t =
      carried_case (remembers slot.asked c.mark) refl
    where
      carried_case : (b : Bool) → remembers slot.asked c.mark ≡ b →
          RowTaken app s now (msg from to (Body.Grant inc nonce epoch key cells (Some c)))
          (if b then processed app s now key (without_asked (granted slot nonce epoch (first + s.terms.t_switch) cells) c.mark) epoch (packet_of c) else Granted key (granted slot nonce epoch (first + s.terms.t_switch) cells))
      carried_case true is = processed_acts _ key _ epoch (packet_of c) (at_grant t is)
      carried_case false is = granted_only t (rw is refl)

  again_acts : (from to : Node) (inc nonce epoch expiry : ℕ) (key : Key) (cells : List ℕ) (load : Option Carried) (slot : Slot) → (inc == s.inc) ≡ true → slot_at s key ≡ Some slot →
      slot.lease ≡ Held nonce epoch expiry → RowTaken app s now (msg from to (Body.Grant inc nonce epoch key cells load)) (carried_row app s now key slot epoch Stale load)
  again_acts from to inc nonce epoch expiry key cells None slot i at is = stale
  again_acts from to inc nonce epoch expiry key cells (Some c) slot i at is =
      if_acts (remembers slot.asked c.mark) (λ r. processed_acts _ key (without_asked slot c.mark) epoch (packet_of c) (at_grant_again i at is r)) (λ _. stale)

  grant_acts : (from to : Node) (inc nonce epoch : ℕ) (key : Key) (cells : List ℕ) (load : Option Carried) (slot : Slot) (lease : Lease) → (inc == s.inc) ≡ true → (length cells == app.cell_count) ≡ true →
      slot_at s key ≡ Some slot → slot.lease ≡ lease → RowTaken app s now (msg from to (Body.Grant inc nonce epoch key cells load)) (grant_row app s now key slot nonce epoch cells load lease)
  grant_acts from to inc nonce epoch key cells load slot Idle i l at is = stale
  grant_acts from to inc nonce epoch key cells load slot (Asking own first) i l at is =
      if_acts (own == nonce)
      (λ e.
      let same : own ≡ nonce = eqb-true own nonce e in
      let is' : slot.lease ≡ Asking nonce first = rw (← same) is in
      if_acts (is_young s.terms.t_switch first now)
      (λ y. rw same (timely_acts from to inc nonce epoch first key cells load slot (record { here = i; whole = l; at = at; asking = is'; young = y })))
      (λ y. late i at is' y))
      (λ _. stale)
  grant_acts from to inc nonce epoch key cells load slot (Held own of expiry) i l at is =
      if_acts ((own == nonce) && (of == epoch))
      (λ e.
      let same : own ≡ nonce = eqb-true own nonce (and_parts _ _ e).0 in
      let same_epoch : of ≡ epoch = eqb-true of epoch (and_parts _ _ e).1 in
      rw same_epoch (again_acts from to inc nonce epoch expiry key cells load slot i at (rw (← same, ← same_epoch) is)))
      (λ _. stale)
  grant_acts from to inc nonce epoch key cells load slot (Lapsed own of expiry) i l at is = stale

  busy_acts : (from to : Node) (inc nonce : ℕ) (key : Key) (mark : Option ℕ) (slot : Slot) (lease : Lease) → (inc == s.inc) ≡ true → slot_at s key ≡ Some slot → slot.lease ≡ lease →
      RowTaken app s now (msg from to (Body.Busy inc nonce key mark)) (busy_row key slot nonce mark lease)
  busy_acts from to inc nonce key None slot lease i at is = stale
  busy_acts from to inc nonce key (Some mark) slot (Asking own first) i at is =
      if_acts ((own == nonce) && remembers slot.asked mark)
      (λ t. busied {nonce = nonce} {first = first} i at (rw (← eqb-true own nonce (and_parts _ _ t).0) is) (and_parts _ _ t).1) (λ _. stale)
  busy_acts from to inc nonce key (Some mark) slot Idle i at is = stale
  busy_acts from to inc nonce key (Some mark) slot (Held own epoch expiry) i at is = stale
  busy_acts from to inc nonce key (Some mark) slot (Lapsed own epoch expiry) i at is = stale

  round_acts : (from to : Node) (inc epoch upto bound : ℕ) (key : Key) (load : Option Carried) (slot : Slot) (o : Option Round) → s.terms.mode ≡ Mode.Snapshot bound → (inc == s.inc) ≡ true →
      slot_at s key ≡ Some slot → has_epoch slot.lease epoch ≡ true → slot.round ≡ o → RowTaken app s now (msg from to (Body.Ack inc epoch upto key load)) (round_row key slot upto o)
  round_acts from to inc epoch upto bound key load slot None m i at e is = stale
  round_acts from to inc epoch upto bound key load slot (Some r) m i at e is = if_acts (r.number == upto) (λ t. round_done m i at e is t) (λ _. stale)

  ack_acts : (m : Mode) (from to : Node) (inc epoch upto : ℕ) (key : Key) (load : Option Carried) (slot : Slot) → s.terms.mode ≡ m → (inc == s.inc) ≡ true → slot_at s key ≡ Some slot →
      has_epoch slot.lease epoch ≡ true → RowTaken app s now (msg from to (Body.Ack inc epoch upto key load)) (ack_row m key slot upto load)
  ack_acts Mode.Strict from to inc epoch upto key load slot m i at e = acked m i at e
  ack_acts (Mode.Snapshot bound) from to inc epoch upto key load slot m i at e = round_acts from to inc epoch upto bound key load slot slot.round m i at e refl

  -- a message at a slot, if there is one
  slot_acts : (input : Input) (o : Option Slot) (row : Slot → SwitchRow) → ((slot : Slot) → o ≡ Some slot → RowTaken app s now input (row slot)) → RowTaken app s now input (at_slot o row)
  slot_acts input None row h = stale
  slot_acts input (Some slot) row h = h slot refl

  message_acts : (from to : Node) (body : Body) → RowTaken app s now (msg from to body) (message_row app s now body)
  message_acts from to (Body.Grant inc nonce epoch key cells load) =
      if_acts ((inc == s.inc) && (length cells == app.cell_count))
      (λ t. slot_acts _ (slot_at s key) _ (λ slot at. grant_acts from to inc nonce epoch key cells load slot slot.lease (and_parts _ _ t).0 (and_parts _ _ t).1 at refl))
      (λ _. stale)
  message_acts from to (Body.Ack inc epoch upto key load) =
      slot_acts _ (slot_at s key) _
      (λ slot at. if_acts ((inc == s.inc) && has_epoch slot.lease epoch) (λ t. ack_acts s.terms.mode from to inc epoch upto key load slot refl (and_parts _ _ t).0 at (and_parts _ _ t).1) (λ _. stale))
  message_acts from to (Body.Deny inc epoch key) =
      slot_acts _ (slot_at s key) _
      (λ slot at. if_acts ((inc == s.inc) && has_epoch slot.lease epoch) (λ t. denied (and_parts _ _ t).0 at (and_parts _ _ t).1) (λ _. stale))
  message_acts from to (Body.Busy inc nonce key mark) =
      slot_acts _ (slot_at s key) _ (λ slot at. if_acts (inc == s.inc) (λ i. busy_acts from to inc nonce key mark slot slot.lease i at refl) (λ _. stale))
  message_acts from to (Body.Config config) = if_acts (nat_lt s.config.number config.number) (λ t. adopted (ltb-true _ _ t)) (λ _. stale)
  message_acts from to _ = stale

  pub row_taken : (input : Input) → RowTaken app s now input (switch_row app s now input)
  row_taken (Input.Packet p) = packet_acts p (app.key_of p) refl
  row_taken (Input.Msg m) = message_acts m.from m.to m.body
  row_taken Input.Alarm = resends

-- a Grant that came too late leaves no item
pub late_item : (mark : Option ℕ) → (late_did mark).item ≡ None
late_item None = refl
late_item (Some m) = refl

-- a packet is no message
pub no_message : (p : Packet) (from to : Node) {b : Body} → Input.Packet p ≡ msg from to b → ⊥
no_message p from to e = cc
