-- A step of a switch raises each number by one at most, and sends sized messages.
use Rattle.std.proofs.Common.{◌≡◌, ℕ, ◌+◌, ◌≤◌, List, [], ◌∷◌, length, Option, Some, None, arith, true, false, Bool, subst, ap, sym, ◌∙◌, eqb-true, filter}
use Rattle.std.proofs.lemmas.Bool.{false≢true}
use Rattle.std.specs.Prelude.{not, nat_lt, nat_le, option_map, if◌then◌else◌}
use Rattle.proto_data.specs.declared.message.Msg.{Msg}
use Rattle.proto_data.specs.declared.message.Input.{Input}
use Rattle.rp_base.specs.declared.node.Packet.{Packet}
use Rattle.rp_base.specs.declared.node.Output.{Output}
use Rattle.proto_data.specs.declared.terms.Mode.{Mode}
use Rattle.proto_data.specs.declared.terms.Terms.{Terms}
use Rattle.rp_app.specs.Application.{Application, IsApplication, IsOutputOf, Delta, written}
use Rattle.proto_data.specs.Carrying.{carried_packet, carried_output}
use Rattle.proto_model.specs.Feeds.{Each}
use Rattle.key_table.specs.Table.{Key}
use Rattle.proto_model.specs.Slot.{Slot, Lease, Idle, Asking, Held, Lapsed, fresh_slot, lapsed_slot, lapsed_lease, extended, emptied}
use Rattle.proto_model.specs.SwitchState.{Switch, SwitchStep, Copy, slot_at, with_slot, lapsed, is_of, is_covered}
use Rattle.proto_model.specs.SwitchRow.{SwitchRow, NewAsk, AskAgain, Drops, Direct, Mirrored, Granted, Late, Acked, RoundDone, Denied, Busied, Adopts, Resends, switch_row}
use Rattle.proto_model.specs.SwitchOutcomes.{perform, acked_lease, idled}
use Rattle.proto_model.specs.SwitchRows.{switch_step}
use Rattle.proto_safety.specs.Sizes.{is_leased, SlotCells, LoadSized, DeltaSized, MsgSized, BodySized, LeaseSized, SlotSized, CopySized, SwitchSized, delta_room}
use Rattle.proto_safety.proofs.Size.SizesUp.{slot_up, config_up, switch_up}
use Rattle.proto_safety.proofs.Size.SizesOf.{each_put, each_get, each_values, delta_few}
use Rattle.proto_safety.proofs.Size.AlarmSizes.{Sender, to_head_is, held_slot, alarm_sized}
use Rattle.rp_app.proofs.Deltas.{length-written}
use Rattle.proto_safety.proofs.Serial.SlotCells.{lapsed_was_leased, extended_was_leased, acked_was_leased}
use Rattle.proto_safety.proofs.Inductions.FlowMoves.{ready_held}
use Rattle.proto_safety.proofs.Nodes.SwitchTable.{RowTaken, Ready, fed, at_grant, at_grant_again, first_ask, ask_idle, ask_anew, ask_lapsed, ask_again, no_copy_room, direct, mirrored, snapped, too_old, granted_only, late, acked, round_done, denied, busied, adopted, row_taken}
use Rattle.proto_safety.proofs.Basics.Eachs.{each_append, each_filter}

-- ---- leases

lapsed_sized : (n now : ℕ) (lease : Lease) → LeaseSized n lease → LeaseSized n (lapsed_lease now lease)
lapsed_sized n now Idle h = tt
lapsed_sized n now (Asking nonce first) h = h
lapsed_sized n now (Held nonce epoch expiry) h = if_lapsed (nat_le expiry now)
  where
    if_lapsed : (b : Bool) → LeaseSized n (if b then Lapsed nonce epoch expiry else Held nonce epoch expiry)
    if_lapsed true = h
    if_lapsed false = h
lapsed_sized n now (Lapsed nonce epoch expiry) h = h

extended_sized : (n t now at : ℕ) (lease : Lease) → LeaseSized n lease → LeaseSized n (extended t now at lease)
extended_sized n t now at Idle h = tt
extended_sized n t now at (Asking nonce first) h = h
extended_sized n t now at (Held nonce epoch expiry) h = h
extended_sized n t now at (Lapsed nonce epoch expiry) h = if_renewed (nat_lt now (at + t))
  where
    if_renewed : (b : Bool) → LeaseSized n (if b then Held nonce epoch (at + t) else Lapsed nonce epoch expiry)
    if_renewed true = h
    if_renewed false = h

acked_sized : (n t now : ℕ) (lease : Lease) (o : Option (ℕ × ℕ)) → LeaseSized n lease → LeaseSized n (acked_lease t now lease o)
acked_sized n t now lease None h = h
acked_sized n t now lease (Some best) h = extended_sized n t now best.1 lease h

pub lapsed_switch_sized : (n cells now : ℕ) (terms : Terms) (s : Switch) → SwitchSized n cells terms s → SwitchSized n cells terms (lapsed now s)
lapsed_switch_sized n cells now terms s h =
    record {
      me = h.me;
      terms_are = h.terms_are;
      inc = h.inc;
      nonces = h.nonces;
      config = h.config;
      slots = each_values (λ k v. SlotSized n cells k v) (lapsed_slot now) s.slots
          (λ k v x. record { key_fits = x.key_fits; lease = lapsed_sized n now v.lease x.lease; whole = record { cells_are = λ l. x.whole.cells_are (lapsed_was_leased now v.lease l) }; last = x.last; round = x.round }) h.slots;
      copies = h.copies;
    }

-- ---- what comes

-- a packet or a message that comes is sized
abbrev pub InputSized : ℕ → ℕ → Input → Type 0
InputSized n d (Input.Packet p) = LoadSized n (Some (carried_packet p))
InputSized n d (Input.Msg m) = BodySized n d m.body
InputSized n d Input.Alarm = Unit {0}

output_sized : (n : ℕ) (p : Packet) (out : Option Output) → LoadSized n (Some (carried_packet p)) → IsOutputOf p out → LoadSized n (option_map carried_output out)
output_sized n p None h o = tt
output_sized n p (Some out) h o = (omega (arith, o.0, h.0), o.2 h.1, o.1)

module _ (app : Application) (is : IsApplication app) (few : app.cell_count ≤ 256) (n : ℕ) (terms : Terms) (now : ℕ) where
  abbrev Fits : Msg → Type 0
  Fits m = MsgSized (n + 1) (delta_room terms.mode app.cell_count) m

  abbrev Kept : Switch → Type 0
  Kept s = SwitchSized (n + 1) app.cell_count terms s

  abbrev Slotted : Key → Slot → Type 0
  Slotted key slot = SlotSized (n + 1) app.cell_count key slot

  abbrev Copied : Copy → Type 0
  Copied c = CopySized (n + 1) (delta_room terms.mode app.cell_count) c

  abbrev Result : SwitchStep → Type 0
  Result step = Kept step.0 × Each Fits step.1.sent

  sender : (s : Switch) → SwitchSized n app.cell_count terms s → Sender (n + 1) s
  sender s h = record { me = h.me; inc = omega (arith, h.inc); config = config_up n (n + 1) (omega arith) s.config h.config }

  kept : (s : Switch) → SwitchSized n app.cell_count terms s → Kept s
  kept s h = switch_up n (n + 1) (omega arith) app.cell_count terms s h

  was : (s : Switch) (key : Key) (slot : Slot) → SwitchSized n app.cell_count terms s → slot_at s key ≡ Some slot → SlotSized n app.cell_count key slot
  was s key slot h at = each_get (λ k v. SlotSized n app.cell_count k v) s.slots key slot at h.slots

  above : (key : Key) (slot : Slot) → SlotSized n app.cell_count key slot → Slotted key slot
  above key slot h = slot_up n (n + 1) (omega arith) app.cell_count key slot h

  -- a slot is stored, with these copies and this count of nonces
  stored : (s : Switch) (nonces : ℕ) (copies : List Copy) (key : Key) (slot : Slot) → SwitchSized n app.cell_count terms s → nonces ≤ n + 1 → Each Copied copies → Slotted key slot → Kept (with_slot (record s { nonces = nonces; copies = copies }) key slot)
  stored s nonces copies key slot h count cs k =
      let g = kept s h in
      record {
        me = g.me;
        terms_are = g.terms_are;
        inc = g.inc;
        nonces = count;
        config = g.config;
        slots = each_put (λ x v. Slotted x v) s.slots key slot k g.slots;
        copies = cs;
      }

  slot_stored : (s : Switch) (key : Key) (slot : Slot) → SwitchSized n app.cell_count terms s → Slotted key slot → Kept (with_slot s key slot)
  slot_stored s key slot h k = stored s s.nonces s.copies key slot h (omega (arith, h.nonces)) (kept s h).copies k

  -- nothing waits in the slot any more, and it has no lease
  idle_sized : (key : Key) (slot : Slot) → Slotted key slot → Slotted key (emptied slot Idle)
  idle_sized key slot k = record { key_fits = k.key_fits; lease = tt; whole = record { cells_are = λ l. absurd (false≢true l) }; last = k.last; round = tt }

  idled_sized : (s : Switch) (key : Key) (slot : Slot) → SwitchSized n app.cell_count terms s → Slotted key slot → Kept (idled s key slot)
  idled_sized s key slot h k =
      stored s s.nonces (filter (λ c. not (is_of key c)) s.copies) key (emptied slot Idle) h (omega (arith, h.nonces))
      (each_filter _ (λ c. not (is_of key c)) s.copies (kept s h).copies) (idle_sized key slot k)

  -- ---- a packet that is about to be processed

  record Processes (s : Switch) (key : Key) (slot : Slot) (epoch : ℕ) (p : Packet) : Type 0 where
    sized : Slotted key slot
    last : slot.last ≤ n
    load : LoadSized (n + 1) (Some (carried_packet p))

  ready_sized : (s : Switch) (input : Input) (key : Key) (slot : Slot) (epoch : ℕ) (p : Packet) → SwitchSized n app.cell_count terms s → InputSized (n + 1) (delta_room terms.mode app.cell_count) input →
      Ready app s now input key slot epoch p → Processes s key slot epoch p
  ready_sized s input key slot epoch p h i (fed of at held) = let k = was s key slot h at in record { sized = above key slot k; last = k.last; load = i }
  ready_sized s input key _ epoch p h i (at_grant {cells = cells} {slot = slot} t m) =
      let k = was s key slot h t.at in
      record {
        sized = record { key_fits = k.key_fits; lease = i.2; whole = record { cells_are = λ l. eqb-true (length cells) app.cell_count t.whole }; last = omega arith; round = tt };
        last = omega arith;
        load = i.5;
      }
  ready_sized s input key _ epoch p h i (at_grant_again {slot = slot} here at held m) =
      let k = was s key slot h at in let g = above key slot k in
      record { sized = record { key_fits = g.key_fits; lease = g.lease; whole = record { cells_are = g.whole.cells_are }; last = g.last; round = g.round }; last = k.last; load = i.5 }

  held_sized : (s : Switch) (input : Input) (key : Key) (slot : Slot) (epoch : ℕ) (p : Packet) → Ready app s now input key slot epoch p → Slotted key slot → (epoch ≤ n + 1) × (length slot.cells ≡ app.cell_count)
  held_sized s input key slot epoch p r k = let held = ready_held r in held_slot (n + 1) app.cell_count key slot held.0 epoch held.1.0 held.1.1 k

  -- ---- rows

  asks_anew : (s : Switch) (key : Key) (slot : Slot) (p : Packet) → SwitchSized n app.cell_count terms s → app.key_of p ≡ Some key → slot.last ≤ n → LoadSized (n + 1) (Some (carried_packet p)) → Result (perform s now (NewAsk key slot p))
  asks_anew s key slot p h of last load = (
    stored s (s.nonces + 1) (filter (λ c. not (is_of key c)) s.copies) key (record (emptied slot (Asking (s.nonces + 1) now)) { asked = Some p.mark ∷ [] }) h (omega (arith, h.nonces))
        (each_filter _ (λ c. not (is_of key c)) s.copies (kept s h).copies)
        (record { key_fits = is.keys p key of; lease = omega (arith, h.nonces); whole = record { cells_are = λ l. absurd (false≢true l) }; last = omega arith; round = tt }),
    ((to_head_is (n + 1) s (sender s h), (omega (arith, h.inc), omega (arith, h.nonces), is.keys p key of, load)), tt),
  )

  mirrored_sized : (s : Switch) (input : Input) (key : Key) (slot : Slot) (epoch : ℕ) (p : Packet) (made : Delta × Option Output) → SwitchSized n app.cell_count terms s → InputSized (n + 1) (delta_room terms.mode app.cell_count) input →
      Ready app s now input key slot epoch p → s.terms.mode ≡ Mode.Strict → app.plain slot.cells p ≡ made → Result (perform s now (Mirrored key slot epoch p.mark made.0 made.1))
  mirrored_sized s input key slot epoch p made h i r strict e =
      let x = ready_sized s input key slot epoch p h i r in
      let held = held_sized s input key slot epoch p r x.sized in
      let mode : terms.mode ≡ Mode.Strict = sym (ap (λ (t : Terms). t.mode) h.terms_are) ∙ strict in
      let d : DeltaSized (delta_room terms.mode app.cell_count) made.0 =
      subst (λ (m : Mode). DeltaSized (delta_room m app.cell_count) made.0) (sym mode)
      (subst (λ (q : Delta × Option Output). DeltaSized app.cell_count q.0) e (delta_few app.cell_count _ (is.deltas slot.cells p held.1) (is.cells slot.cells p held.1))) in
      let out : IsOutputOf p made.1 = subst (λ (q : Delta × Option Output). IsOutputOf p q.1) e (is.outputs slot.cells p held.1) in (
        stored s s.nonces _ key _ h (omega (arith, h.nonces))
            (each_append _ s.copies (record { key = key; number = slot.last + 1; delta = made.0; first = now; sent = now } ∷ []) (kept s h).copies
            (record { key = x.sized.key_fits; number = omega (arith, x.last); delta = d }, tt))
            (record { key_fits = x.sized.key_fits; lease = x.sized.lease; whole = record { cells_are = λ l. length-written slot.cells made.0 ∙ x.sized.whole.cells_are l }; last = omega (arith, x.last); round = x.sized.round }),
        ((to_head_is (n + 1) s (sender s h), (omega (arith, h.inc), held.0, omega (arith, x.last), x.sized.key_fits, d, output_sized (n + 1) p made.1 x.load out)), tt),
      )

  late_sized : (s : Switch) (key : Key) (slot : Slot) (mark : Option ℕ) → Kept (idled s key slot) → Result (perform s now (Late key slot mark))
  late_sized s key slot None k = (k, tt)
  late_sized s key slot (Some m) k = (k, tt)

  row_sized : (s : Switch) (input : Input) (row : SwitchRow) → SwitchSized n app.cell_count terms s → InputSized (n + 1) (delta_room terms.mode app.cell_count) input → RowTaken app s now input row → Result (perform s now row)
  row_sized s input (NewAsk key slot p) h i (first_ask of at room) = asks_anew s key fresh_slot p h of (omega arith) i
  row_sized s input (NewAsk key slot p) h i (ask_idle of at lease) = asks_anew s key slot p h of (was s key slot h at).last i
  row_sized s input (NewAsk key slot p) h i (ask_anew of at lease old) = asks_anew s key slot p h of (was s key slot h at).last i
  row_sized s input (NewAsk key slot p) h i (ask_lapsed of at lease) = asks_anew s key slot p h of (was s key slot h at).last i
  row_sized s input (AskAgain key slot nonce p) h i (ask_again {first = first} of at lease young) =
      let k = was s key slot h at in let g = above key slot k in
      let count : nonce ≤ n + 1 = subst (λ (l : Lease). LeaseSized (n + 1) l) lease g.lease in (
        slot_stored s key _ h (record { key_fits = g.key_fits; lease = g.lease; whole = record { cells_are = g.whole.cells_are }; last = g.last; round = g.round }),
        ((to_head_is (n + 1) s (sender s h), (omega (arith, h.inc), count, g.key_fits, i)), tt),
      )
  row_sized s input (Drops key slot mark cause) h i (no_copy_room {epoch = epoch} {p = p} r mode full) = (slot_stored s key slot h (ready_sized s input key slot epoch p h i r).sized, tt)
  row_sized s input (Drops key slot mark cause) h i (too_old {epoch = epoch} {p = p} r mode old) = (slot_stored s key slot h (ready_sized s input key slot epoch p h i r).sized, tt)
  row_sized s input (Direct key slot epoch mark delta out) h i (direct {p = p} {made = made} r mode e clean alone) =
      let g = (ready_sized s input key slot epoch p h i r).sized in
      (slot_stored s key _ h (record { key_fits = g.key_fits; lease = g.lease; whole = record { cells_are = λ l. length-written slot.cells made.0 ∙ g.whole.cells_are l }; last = g.last; round = g.round }), tt)
  row_sized s input (Direct key _ epoch mark delta out) h i (snapped {slot = slot} {p = p} {made = made} r mode e young) =
      let g = (ready_sized s input key slot epoch p h i r).sized in
      (slot_stored s key _ h (record { key_fits = g.key_fits; lease = g.lease; whole = record { cells_are = λ l. length-written slot.cells made.0 ∙ g.whole.cells_are l }; last = g.last; round = g.round }), tt)
  row_sized s input (Mirrored key slot epoch mark delta out) h i (mirrored {p = p} {made = made} r mode e room t) = mirrored_sized s input key slot epoch p made h i r mode e
  row_sized s input (Granted key _) h i (granted_only {cells = cells} {slot = slot} t none) =
      let k = was s key slot h t.at in
      (slot_stored s key _ h (record { key_fits = k.key_fits; lease = i.2; whole = record { cells_are = λ l. eqb-true (length cells) app.cell_count t.whole }; last = omega arith; round = tt }), tt)
  row_sized s input (Late key slot mark) h i (late here at asking old) = late_sized s key slot mark (idled_sized s key slot h (above key slot (was s key slot h at)))
  row_sized s input (Acked key slot upto load) h i (acked mode here at of) =
      let g = above key slot (was s key slot h at) in (
        stored s s.nonces (filter (λ c. not (is_covered key upto c)) s.copies) key _ h (omega (arith, h.nonces)) (each_filter _ (λ c. not (is_covered key upto c)) s.copies (kept s h).copies)
            (record { key_fits = g.key_fits; lease = acked_sized (n + 1) s.terms.t_switch now slot.lease _ g.lease; whole = record { cells_are = λ l. g.whole.cells_are (acked_was_leased s.terms.t_switch now slot.lease _ l) }; last = g.last; round = g.round }),
        tt,
      )
  row_sized s input (RoundDone key slot r) h i (round_done mode here at of o same) =
      let g = above key slot (was s key slot h at) in
      (slot_stored s key _ h (record { key_fits = g.key_fits; lease = extended_sized (n + 1) s.terms.t_switch now r.begun slot.lease g.lease; whole = record { cells_are = λ l. g.whole.cells_are (extended_was_leased s.terms.t_switch now r.begun slot.lease l) }; last = g.last; round = tt }), tt)
  row_sized s input (Denied key slot) h i (denied here at of) = (idled_sized s key slot h (above key slot (was s key slot h at)), tt)
  row_sized s input (Busied key slot mark) h i (busied here at asking r) =
      let g = above key slot (was s key slot h at) in
      (slot_stored s key _ h (record { key_fits = g.key_fits; lease = g.lease; whole = record { cells_are = g.whole.cells_are }; last = g.last; round = g.round }), tt)
  row_sized s input (Adopts config) h i (adopted later) =
      let g = kept s h in
      (record { me = g.me; terms_are = g.terms_are; inc = g.inc; nonces = g.nonces; config = i; slots = g.slots; copies = g.copies }, tt)
  row_sized s input Resends h i a = alarm_sized n app.cell_count few terms now s h
  row_sized s input _ h i a = (kept s h, tt)

  -- one step
  pub switch_sized : (s : Switch) (input : Input) → SwitchSized n app.cell_count terms s → InputSized (n + 1) (delta_room terms.mode app.cell_count) input → Result (switch_step app s now input)
  switch_sized s input h i =
      row_sized (lapsed now s) input (switch_row app (lapsed now s) now input) (lapsed_switch_sized n app.cell_count now terms s h) i (row_taken app (lapsed now s) now input)
