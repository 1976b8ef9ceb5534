-- The model with four of its rules left open, so that a run can go by one changed rule and by the model in all else.
use Rattle.std.specs.Prelude.{ℕ, ◌+◌, ◌/◌, ◌==◌, ◌&&◌, Bool, true, false, List, [], ◌∷◌, Option, Some, None, if◌then◌else◌, nat_lt, length, map, slice_get}
use Rattle.rp_base.specs.declared.event.DropCause.{DropCause}
use Rattle.rp_base.specs.declared.event.Event.{Event}
use Rattle.rp_base.specs.declared.node.Node.{Node}
use Rattle.rp_base.specs.declared.node.Output.{Output}
use Rattle.rp_base.specs.declared.node.Packet.{Packet}
use Rattle.rp_app.specs.Application.{Application, Delta}
use Rattle.key_table.specs.Table.{Key}
use Rattle.proto_data.specs.Carrying.{packet_of}
use Rattle.proto_data.specs.declared.limits.TheConstants.{MESSAGES}
use Rattle.proto_data.specs.declared.message.Body.{Body}
use Rattle.proto_data.specs.declared.message.Carried.{Carried}
use Rattle.proto_data.specs.declared.message.Input.{Input}
use Rattle.proto_data.specs.declared.terms.Mode.{Mode}
use Rattle.proto_model.specs.Effects.{frame_passed, packet_fed, switch_moved}
use Rattle.proto_model.specs.Ring.{remembers}
use Rattle.proto_model.specs.Slot.{Ages, Lease, Round, Slot, Idle, Asking, Held, Lapsed, acknowledged, extended, is_young, may, updated}
use Rattle.proto_model.specs.SwitchAlarm.{Walk, chunk_sent, due_copies, other_copies, resent, snap_slot, strict_slot, walk_did, walk_order}
use Rattle.proto_model.specs.SwitchOutcomes.{perform}
use Rattle.proto_model.specs.SwitchRow.{SwitchRow, Direct, Drops, Granted, Late, Resends, RoundDone, Stale, asked_mark, at_slot, granted, is_clean, keyed_row, leased_row, message_row, packet_row, process_row, without_asked}
use Rattle.proto_model.specs.SwitchState.{Switch, SwitchStep, lapsed, nothing, slot_at, with_slot}
use Rattle.proto_model.specs.World.{Journaled, RoundBegun, SwitchNode, World}
use Rattle.proto_model.specs.WorldStep.{Act, Delivers, Feeds, Alarms, act_of, next_event, node_takes, perform_act}

-- ---- the four rules

-- what runs go by, where the model has one rule each
pub record Rules : Type 0 where
  -- the ages once the running round is done
  pub acknowledged : Ages → Ages
  -- whether the bound lets in another packet now
  pub may : ℕ → ℕ → Ages → Bool
  -- the cells that a chunk is of, from those at its round's begin and those now
  pub chunked : List ℕ → List ℕ → List ℕ
  -- the begun rounds, with their counts of items, once a switch met this row and so many items stand
  pub counted : SwitchRow → List Journaled → List RoundBegun → List RoundBegun

-- the rules of the model: ages after the begin are kept, up to the bound itself, cells at the begin, counts as they were at the begin
abbrev pub own_rules : Rules
own_rules = record { acknowledged = acknowledged; may = may; chunked = λ begun now. begun; counted = λ row items rounds. rounds }

-- ---- a switch by these rules

abbrev pub process_by : Rules → Mode → Switch → ℕ → Key → Slot → ℕ → ℕ → Delta × Option Output → SwitchRow
process_by rules Mode.Strict s now key slot epoch mark made = process_row Mode.Strict s now key slot epoch mark made
process_by rules (Mode.Snapshot bound) s now key slot epoch mark made =
    if rules.may bound now slot.ages
    then
    Direct key
    (record slot { ages = if is_clean made.0 then slot.ages else updated now slot.round slot.ages })
    epoch mark made.0 made.1
    else Drops key slot mark DropCause.Bound

abbrev pub processed_by : Rules → Application → Switch → ℕ → Key → Slot → ℕ → Packet → SwitchRow
processed_by rules app s now key slot epoch packet =
    process_by rules s.terms.mode s now key slot epoch packet.mark (app.plain slot.cells packet)

-- a packet, by the slot's lease state
abbrev pub leased_by : Rules → Application → Switch → ℕ → Key → Slot → Packet → Lease → SwitchRow
leased_by rules app s now key slot packet Idle = leased_row app s now key slot packet Idle
leased_by rules app s now key slot packet (Asking nonce first) = leased_row app s now key slot packet (Asking nonce first)
leased_by rules app s now key slot packet (Held nonce epoch expiry) = processed_by rules app s now key slot epoch packet
leased_by rules app s now key slot packet (Lapsed nonce epoch expiry) = leased_row app s now key slot packet (Lapsed nonce epoch expiry)

-- a packet with a key, by its slot
abbrev pub keyed_by : Rules → Application → Switch → ℕ → Packet → Key → Option Slot → SwitchRow
keyed_by rules app s now packet key None = keyed_row app s now packet key None
keyed_by rules app s now packet key (Some slot) = leased_by rules app s now key slot packet slot.lease

abbrev pub packet_by : Rules → Application → Switch → ℕ → Packet → Option Key → SwitchRow
packet_by rules app s now packet None = packet_row app s now packet None
packet_by rules app s now packet (Some key) = keyed_by rules app s now packet key (slot_at s key)

-- a carried packet is processed where its mark is still asked for, and else the row is `other`
abbrev pub carried_by : Rules → Application → Switch → ℕ → Key → Slot → ℕ → SwitchRow → Option Carried → SwitchRow
carried_by rules app s now key slot epoch other None = other
carried_by rules app s now key slot epoch other (Some c) =
    if remembers slot.asked c.mark
    then processed_by rules app s now key (without_asked slot c.mark) epoch (packet_of c)
    else other

-- a Grant, by the slot's lease state
abbrev pub grant_by : Rules → Application → Switch → ℕ → Key → Slot → ℕ → ℕ → List ℕ → Option Carried → Lease → SwitchRow
grant_by rules app s now key slot nonce epoch cells load Idle = Stale
grant_by rules app s now key slot nonce epoch cells load (Asking own first) =
    if own == nonce
    then
    (if is_young s.terms.t_switch first now
    then
    carried_by rules app s now key
    (granted slot own epoch (first + s.terms.t_switch) cells)
    epoch
    (Granted key (granted slot own epoch (first + s.terms.t_switch) cells))
    load
    else Late key slot (asked_mark slot load))
    else Stale
grant_by rules app s now key slot nonce epoch cells load (Held own of expiry) =
    if (own == nonce) && (of == epoch) then carried_by rules app s now key slot of Stale load else Stale
grant_by rules app s now key slot nonce epoch cells load (Lapsed own of expiry) = Stale

-- a message, by its kind
abbrev pub message_by : Rules → Application → Switch → ℕ → Body → SwitchRow
message_by rules app s now (Body.Grant inc nonce epoch key cells load) =
    if (inc == s.inc) && (length cells == app.cell_count)
    then at_slot (slot_at s key) (λ slot. grant_by rules app s now key slot nonce epoch cells load slot.lease)
    else Stale
message_by rules app s now body = message_row app s now body

abbrev pub row_by : Rules → Application → Switch → ℕ → Input → SwitchRow
row_by rules app s now (Input.Packet p) = packet_by rules app s now p (app.key_of p)
row_by rules app s now (Input.Msg m) = message_by rules app s now m.body
row_by rules app s now Input.Alarm = Resends

-- a Held slot in a snapshot Alarm: the next chunk of the running round, or of a new round where one is due
abbrev pub snap_by : Rules → Walk → ℕ → Key → Slot → ℕ → ℕ → Option Round → Walk
snap_by rules w now key slot epoch expiry (Some r) =
    chunk_sent w key slot epoch (record r { cells = rules.chunked r.cells slot.cells }) []
snap_by rules w now key slot epoch expiry None = snap_slot w now key slot epoch expiry None

abbrev pub held_by : Rules → Mode → Walk → ℕ → Key → Slot → ℕ → ℕ → Walk
held_by rules Mode.Strict w now key slot epoch expiry = strict_slot w now key slot epoch expiry
held_by rules (Mode.Snapshot bound) w now key slot epoch expiry = snap_by rules w now key slot epoch expiry slot.round

abbrev pub walked_by : Rules → Walk → ℕ → Key → Slot → Lease → Walk
walked_by rules w now key slot Idle = w
walked_by rules w now key slot (Asking nonce first) = w
walked_by rules w now key slot (Held nonce epoch expiry) = held_by rules w.state.terms.mode w now key slot epoch expiry
walked_by rules w now key slot (Lapsed nonce epoch expiry) = w

-- the slot of a key, as it is now
abbrev pub walked_key_by : Rules → Walk → ℕ → Key → Option Slot → Walk
walked_key_by rules w now key None = w
walked_key_by rules w now key (Some slot) = walked_by rules w now key slot slot.lease

-- one more slot, before the 64th message
abbrev pub walked_more_by : Rules → Walk → ℕ → Key → Bool → Walk
walked_more_by rules w now key true = walked_key_by rules w now key (slot_at w.state key)
walked_more_by rules w now key false = w

-- the slots in turn, until the 64th message
abbrev pub walked_slots_by : Rules → Walk → ℕ → List Key → Walk
walked_slots_by rules w now [] = w
walked_slots_by rules w now (key ∷ keys) =
    walked_slots_by rules (walked_more_by rules w now key (nat_lt (length w.sent) MESSAGES)) now keys

abbrev pub alarm_by : Rules → Switch → ℕ → SwitchStep
alarm_by rules s now =
    walk_did
    (walked_slots_by rules
    (resent s now (due_copies now (s.terms.t_switch / 4) MESSAGES s.copies) (other_copies now (s.terms.t_switch / 4) MESSAGES s.copies))
    now
    (walk_order s.walked (map (λ (e : Key × Slot). e.0) s.slots)))

-- the running round is done
abbrev pub after_round_by : Rules → Switch → ℕ → Key → Slot → Round → SwitchStep
after_round_by rules s now key slot r = (
  with_slot s key
      (record slot { lease = extended s.terms.t_switch now r.begun slot.lease; round = None; ages = rules.acknowledged slot.ages }),
  nothing,
)

abbrev pub perform_by : Rules → Switch → ℕ → SwitchRow → SwitchStep
perform_by rules s now (RoundDone key slot r) = after_round_by rules s now key slot r
perform_by rules s now Resends = alarm_by rules s now
perform_by rules s now row = perform s now row

-- ---- a world by these rules

-- the world whose rounds are counted by the rule, after this row
abbrev pub counted_by : Rules → SwitchRow → World → World
counted_by rules row w =
    record w { history = record w.history { rounds = rules.counted row w.history.items w.history.rounds } }

-- switch n meets this row
abbrev pub switch_meets : Rules → World → ℕ → SwitchNode → SwitchRow → World
switch_meets rules w n node row =
    counted_by rules row (switch_moved w n node (perform_by rules (lapsed node.clock node.state) node.clock row))

abbrev pub switch_takes_by : Rules → Application → World → ℕ → Input → Option SwitchNode → World
switch_takes_by rules app w n input None = w
switch_takes_by rules app w n input (Some node) =
    switch_meets rules w n node (row_by rules app (lapsed node.clock node.state) node.clock input)

abbrev pub node_takes_by : Rules → Application → World → Node → Input → World
node_takes_by rules app w (Node.Switch n) input = switch_takes_by rules app w n input (slice_get w.switches n)
node_takes_by rules app w (Node.Replica n) input = (node_takes app w (Node.Replica n) input).0
node_takes_by rules app w Node.Master input = w

abbrev pub perform_act_by : Rules → Application → World → Act → World
perform_act_by rules app w (Feeds n p) = node_takes_by rules app (packet_fed w p) (Node.Switch n) (Input.Packet p)
perform_act_by rules app w (Delivers i m) = node_takes_by rules app (frame_passed w i) m.to (Input.Msg m)
perform_act_by rules app w (Alarms node) = node_takes_by rules app w node Input.Alarm
perform_act_by rules app w act = (perform_act app w act).0

-- the world after these events
abbrev pub world_by : Rules → Application → World → List Event → World
world_by rules app w [] = w
world_by rules app w (e ∷ es) =
    world_by rules app (perform_act_by rules app (next_event w) (act_of app (next_event w) e)) es
