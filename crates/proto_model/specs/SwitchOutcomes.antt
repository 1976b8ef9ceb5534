-- What follows from each row of the switch's table.
use Rattle.std.specs.Prelude.{ℕ, ◌+◌, true, not, [], ◌∷◌, ◌++◌, Option, Some, None, if◌then◌else◌, filter, fold, option_map}
use Rattle.rp_base.specs.declared.node.Packet.{Packet}
use Rattle.rp_base.specs.declared.node.Output.{Output}
use Rattle.proto_data.specs.declared.message.Carried.{Carried}
use Rattle.proto_data.specs.declared.message.Body.{Body}
use Rattle.rp_base.specs.declared.event.DropCause.{DropCause}
use Rattle.rp_base.specs.declared.event.Lost.{Lost}
use Rattle.rp_app.specs.Application.{Delta, written}
use Rattle.proto_data.specs.Carrying.{carried_packet, carried_output, output_of}
use Rattle.key_table.specs.Table.{Key}
use Rattle.proto_model.specs.Ring.{Ring, remember, remembers, forget}
use Rattle.proto_model.specs.Slot.{Lease, Slot, Round, Idle, Asking, emptied, extended, acknowledged}
use Rattle.proto_model.specs.SwitchState.{Switch, SwitchDid, SwitchStep, Item, nothing, only_sent, only_dropped, only_lost, only_released, with_slot, without_copies, is_covered, greatest_first, to_head}
use Rattle.proto_model.specs.SwitchAlarm.{alarm}
use Rattle.proto_model.specs.SwitchRow.{SwitchRow, Keyless, NoRoom, NewAsk, AskAgain, Drops, Direct, Mirrored, Granted, Late, Acked, RoundDone, Denied, Busied, Adopts, Resends, Stale, is_clean, without_asked}

-- ---- what follows

-- an Ask with the next nonce, and nothing of the slot's that waited before
abbrev pub after_new_ask : Switch → ℕ → Key → Slot → Packet → SwitchStep
after_new_ask s now key slot packet = (
  with_slot (without_copies (record s { nonces = s.nonces + 1 }) key) key
      (record (emptied slot (Asking (s.nonces + 1) now)) { asked = Some packet.mark ∷ [] }),
  only_sent (to_head s (Body.Ask s.inc (s.nonces + 1) key (Some (carried_packet packet))) ∷ []),
)

abbrev pub after_ask_again : Switch → Key → Slot → ℕ → Packet → SwitchStep
after_ask_again s key slot nonce packet = (
  with_slot s key (record slot { asked = remember slot.asked packet.mark }),
  only_sent (to_head s (Body.Ask s.inc nonce key (Some (carried_packet packet))) ∷ []),
)

-- an item of this number
abbrev pub item_of : Key → ℕ → ℕ → ℕ → ℕ → Delta → Item
item_of key epoch mark number now delta =
    record { key = key; epoch = epoch; mark = mark; number = number; moment = now; dirty = not (is_clean delta) }

abbrev pub after_direct : Switch → ℕ → Key → Slot → ℕ → ℕ → Delta → Option Output → SwitchStep
after_direct s now key slot epoch mark delta out = (
  with_slot s key (record slot { cells = written slot.cells delta; used = true }),
  record { sent = []; released = out; item = Some (item_of key epoch mark slot.last now delta); dropped = None; begun = []; lost = None },
)

-- the mark of an output that waits for its Ack
abbrev pub remember_output : Ring → Option Output → Ring
remember_output ring None = ring
remember_output ring (Some o) = remember ring o.mark

abbrev pub after_mirrored : Switch → ℕ → Key → Slot → ℕ → ℕ → Delta → Option Output → SwitchStep
after_mirrored s now key slot epoch mark delta out = (
  with_slot
      (record s { copies = s.copies ++ record { key = key; number = slot.last + 1; delta = delta; first = now; sent = now } ∷ [] })
      key
      (record slot { cells = written slot.cells delta; last = slot.last + 1; used = true; held = remember_output slot.held out }),
  record {
    sent = to_head s (Body.Put s.inc epoch (slot.last + 1) key delta (option_map carried_output out)) ∷ [];
    released = None;
    item = Some (item_of key epoch mark (slot.last + 1) now delta);
    dropped = None;
    begun = [];
    lost = None;
  },
)

abbrev pub late_did : Option ℕ → SwitchDid
late_did None = nothing
late_did (Some mark) = only_dropped mark DropCause.Late

-- the lease after copies went, by the greatest of them
abbrev pub acked_lease : ℕ → ℕ → Lease → Option (ℕ × ℕ) → Lease
acked_lease t_switch now lease None = lease
acked_lease t_switch now lease (Some best) = extended t_switch now best.1 lease

-- the output that an Ack brings, where its mark still waits
abbrev pub held_output : Ring → Option Carried → Option Output
held_output ring None = None
held_output ring (Some c) = if remembers ring c.mark then Some (output_of c) else None

abbrev pub forget_load : Ring → Option Carried → Ring
forget_load ring None = ring
forget_load ring (Some c) = forget ring c.mark

abbrev pub after_acked : Switch → ℕ → Key → Slot → ℕ → Option Carried → SwitchStep
after_acked s now key slot upto load = (
  with_slot (record s { copies = filter (λ c. not (is_covered key upto c)) s.copies }) key
      (record slot {
        lease = acked_lease s.terms.t_switch now slot.lease (fold greatest_first None (filter (is_covered key upto) s.copies));
        held = forget_load slot.held load;
      }),
  only_released (held_output slot.held load),
)

abbrev pub after_round : Switch → ℕ → Key → Slot → Round → SwitchStep
after_round s now key slot r = (
  with_slot s key
      (record slot { lease = extended s.terms.t_switch now r.begun slot.lease; round = None; ages = acknowledged slot.ages }),
  nothing,
)

-- a slot that is Idle from now on, with nothing that waits
abbrev pub idled : Switch → Key → Slot → Switch
idled s key slot = with_slot (without_copies s key) key (emptied slot Idle)

abbrev pub perform : Switch → ℕ → SwitchRow → SwitchStep
perform s now (Keyless out) = (s, only_released out)
perform s now (NoRoom mark) = (s, only_dropped mark DropCause.Full)
perform s now (NewAsk key slot packet) = after_new_ask s now key slot packet
perform s now (AskAgain key slot nonce packet) = after_ask_again s key slot nonce packet
perform s now (Drops key slot mark cause) = (with_slot s key slot, only_dropped mark cause)
perform s now (Direct key slot epoch mark delta out) = after_direct s now key slot epoch mark delta out
perform s now (Mirrored key slot epoch mark delta out) = after_mirrored s now key slot epoch mark delta out
perform s now (Granted key slot) = (with_slot s key slot, nothing)
perform s now (Late key slot mark) = (idled s key slot, late_did mark)
perform s now (Acked key slot upto load) = after_acked s now key slot upto load
perform s now (RoundDone key slot r) = after_round s now key slot r
perform s now (Denied key slot) = (idled s key slot, nothing)
perform s now (Busied key slot mark) = (with_slot s key (without_asked slot mark), only_dropped mark DropCause.Busy)
perform s now (Adopts config) = (record s { config = config }, nothing)
perform s now Resends = alarm s now
perform s now Stale = (s, only_lost Lost.Stale)
