-- With the rules of the model a world by rules is the world.
use Rattle.std.proofs.Common.{ℕ, ◌≡◌, ◌/◌, ◌==◌, ◌&&◌, Bool, true, false, List, [], ◌∷◌, Option, Some, None, if◌then◌else◌, nat_lt, length, map, refl, ap}
use Rattle.std.specs.Prelude.{slice_get}
use Rattle.rp_base.specs.declared.event.Event.{Event}
use Rattle.rp_base.specs.declared.node.Node.{Node}
use Rattle.rp_base.specs.declared.node.Output.{Output}
use Rattle.rp_base.specs.declared.node.Packet.{Packet}
use Rattle.rp_app.specs.Application.{Application, Delta}
use Rattle.key_table.specs.Table.{Key}
use Rattle.proto_data.specs.Carrying.{packet_of}
use Rattle.proto_data.specs.declared.limits.TheConstants.{MESSAGES}
use Rattle.proto_data.specs.declared.message.Body.{Body}
use Rattle.proto_data.specs.declared.message.Carried.{Carried}
use Rattle.proto_data.specs.declared.message.Input.{Input}
use Rattle.proto_data.specs.declared.terms.Mode.{Mode}
use Rattle.proto_model.specs.Effects.{frame_passed, packet_fed, switch_moved}
use Rattle.proto_model.specs.Ring.{remembers}
use Rattle.proto_model.specs.Slot.{Lease, Round, Slot, Idle, Asking, Held, Lapsed}
use Rattle.proto_model.specs.SwitchAlarm.{Walk, due_copies, held_slot, other_copies, resent, snap_slot, walk_did, walk_order, walked_key, walked_more, walked_slot, walked_slots}
use Rattle.proto_model.specs.SwitchOutcomes.{perform}
use Rattle.proto_model.specs.SwitchRow.{SwitchRow, Keyless, NoRoom, NewAsk, AskAgain, Drops, Direct, Mirrored, Granted, Late, Acked, RoundDone, Denied, Busied, Adopts, Resends, Stale, at_slot, carried_row, grant_row, keyed_row, leased_row, message_row, packet_row, process_row, processed, switch_row, without_asked}
use Rattle.proto_model.specs.SwitchState.{Copy, Switch, lapsed, slot_at}
use Rattle.proto_model.specs.World.{SwitchNode, World}
use Rattle.proto_model.specs.WorldStep.{Act, Refuses, Feeds, Delivers, Passes, Advances, Alarms, Stops, Boots, Detects, Announces, Pumps, act_of, next_event, node_takes, perform_act, switch_takes, world_after}
use Rattle.loss_laws.specs.ChangedRules.{own_rules, carried_by, grant_by, held_by, keyed_by, leased_by, message_by, node_takes_by, packet_by, perform_act_by, perform_by, process_by, processed_by, row_by, snap_by, switch_takes_by, walked_by, walked_key_by, walked_more_by, walked_slots_by, world_by}

-- ---- rows

process_same :
    (mode : Mode) (s : Switch) (now : ℕ) (key : Key) (slot : Slot) (epoch mark : ℕ) (made : Delta × Option Output) →
    process_by own_rules mode s now key slot epoch mark made ≡ process_row mode s now key slot epoch mark made
process_same Mode.Strict s now key slot epoch mark made = refl
process_same (Mode.Snapshot bound) s now key slot epoch mark made = refl

processed_same :
    (app : Application) (s : Switch) (now : ℕ) (key : Key) (slot : Slot) (epoch : ℕ) (packet : Packet) →
    processed_by own_rules app s now key slot epoch packet ≡ processed app s now key slot epoch packet
processed_same app s now key slot epoch packet =
    process_same s.terms.mode s now key slot epoch packet.mark (app.plain slot.cells packet)

leased_same :
    (app : Application) (s : Switch) (now : ℕ) (key : Key) (slot : Slot) (packet : Packet) (lease : Lease) →
    leased_by own_rules app s now key slot packet lease ≡ leased_row app s now key slot packet lease
leased_same app s now key slot packet Idle = refl
leased_same app s now key slot packet (Asking nonce first) = refl
leased_same app s now key slot packet (Held nonce epoch expiry) = processed_same app s now key slot epoch packet
leased_same app s now key slot packet (Lapsed nonce epoch expiry) = refl

keyed_same :
    (app : Application) (s : Switch) (now : ℕ) (packet : Packet) (key : Key) (slot : Option Slot) →
    keyed_by own_rules app s now packet key slot ≡ keyed_row app s now packet key slot
keyed_same app s now packet key None = refl
keyed_same app s now packet key (Some slot) = leased_same app s now key slot packet slot.lease

packet_same :
    (app : Application) (s : Switch) (now : ℕ) (packet : Packet) (key : Option Key) →
    packet_by own_rules app s now packet key ≡ packet_row app s now packet key
packet_same app s now packet None = refl
packet_same app s now packet (Some key) = keyed_same app s now packet key (slot_at s key)

carried_same :
    (app : Application) (s : Switch) (now : ℕ) (key : Key) (slot : Slot) (epoch : ℕ) (other : SwitchRow) (load : Option Carried) →
    carried_by own_rules app s now key slot epoch other load ≡ carried_row app s now key slot epoch other load
carried_same app s now key slot epoch other None = refl
carried_same app s now key slot epoch other (Some c) =
    ap (λ row. if remembers slot.asked c.mark then row else other)
    (processed_same app s now key (without_asked slot c.mark) epoch (packet_of c))

grant_same :
    (app : Application) (s : Switch) (now : ℕ) (key : Key) (slot : Slot) (nonce epoch : ℕ) (cells : List ℕ) (load : Option Carried) (lease : Lease) →
    grant_by own_rules app s now key slot nonce epoch cells load lease ≡ grant_row app s now key slot nonce epoch cells load lease
grant_same app s now key slot nonce epoch cells load Idle = refl
grant_same app s now key slot nonce epoch cells load (Asking own first) =
    rw (carried_same app s now key _ epoch _ load) refl
grant_same app s now key slot nonce epoch cells load (Held own of expiry) =
    ap (λ row. if (own == nonce) && (of == epoch) then row else Stale) (carried_same app s now key slot of Stale load)
grant_same app s now key slot nonce epoch cells load (Lapsed own of expiry) = refl

granted_same :
    (app : Application) (s : Switch) (now : ℕ) (key : Key) (nonce epoch : ℕ) (cells : List ℕ) (load : Option Carried) (slot : Option Slot) →
    at_slot slot (λ slot. grant_by own_rules app s now key slot nonce epoch cells load slot.lease) ≡
    at_slot slot (λ slot. grant_row app s now key slot nonce epoch cells load slot.lease)
granted_same app s now key nonce epoch cells load None = refl
granted_same app s now key nonce epoch cells load (Some slot) = grant_same app s now key slot nonce epoch cells load slot.lease

message_same :
    (app : Application) (s : Switch) (now : ℕ) (body : Body) → message_by own_rules app s now body ≡ message_row app s now body
message_same app s now (Body.Grant inc nonce epoch key cells load) =
    ap (λ row. if (inc == s.inc) && (length cells == app.cell_count) then row else Stale)
    (granted_same app s now key nonce epoch cells load (slot_at s key))
message_same app s now (Body.Ack inc epoch upto key load) = refl
message_same app s now (Body.Deny inc epoch key) = refl
message_same app s now (Body.Busy inc nonce key mark) = refl
message_same app s now (Body.Config config) = refl
message_same app s now (Body.Ask inc nonce key load) = refl
message_same app s now (Body.Put inc epoch number key delta load) = refl
message_same app s now (Body.Forward config index entry load) = refl
message_same app s now (Body.Have index) = refl
message_same app s now (Body.Echo of load) = refl
message_same app s now (Body.Snap inc epoch round key chunk chunks cells) = refl

row_same :
    (app : Application) (s : Switch) (now : ℕ) (input : Input) → row_by own_rules app s now input ≡ switch_row app s now input
row_same app s now (Input.Packet p) = packet_same app s now p (app.key_of p)
row_same app s now (Input.Msg m) = message_same app s now m.body
row_same app s now Input.Alarm = refl

-- ---- what follows

snap_same :
    (w : Walk) (now : ℕ) (key : Key) (slot : Slot) (epoch expiry : ℕ) (round : Option Round) →
    snap_by own_rules w now key slot epoch expiry round ≡ snap_slot w now key slot epoch expiry round
snap_same w now key slot epoch expiry None = refl
snap_same w now key slot epoch expiry (Some r) = refl

held_same :
    (mode : Mode) (w : Walk) (now : ℕ) (key : Key) (slot : Slot) (epoch expiry : ℕ) →
    held_by own_rules mode w now key slot epoch expiry ≡ held_slot mode w now key slot epoch expiry
held_same Mode.Strict w now key slot epoch expiry = refl
held_same (Mode.Snapshot bound) w now key slot epoch expiry = snap_same w now key slot epoch expiry slot.round

walked_same :
    (w : Walk) (now : ℕ) (key : Key) (slot : Slot) (lease : Lease) →
    walked_by own_rules w now key slot lease ≡ walked_slot w now key slot lease
walked_same w now key slot Idle = refl
walked_same w now key slot (Asking nonce first) = refl
walked_same w now key slot (Held nonce epoch expiry) = held_same w.state.terms.mode w now key slot epoch expiry
walked_same w now key slot (Lapsed nonce epoch expiry) = refl

walked_key_same :
    (w : Walk) (now : ℕ) (key : Key) (slot : Option Slot) →
    walked_key_by own_rules w now key slot ≡ walked_key w now key slot
walked_key_same w now key None = refl
walked_key_same w now key (Some slot) = walked_same w now key slot slot.lease

walked_more_same :
    (w : Walk) (now : ℕ) (key : Key) (more : Bool) →
    walked_more_by own_rules w now key more ≡ walked_more w now key more
walked_more_same w now key true = walked_key_same w now key (slot_at w.state key)
walked_more_same w now key false = refl

walked_slots_same :
    (w : Walk) (now : ℕ) (keys : List Key) → walked_slots_by own_rules w now keys ≡ walked_slots w now keys
walked_slots_same w now [] = refl
walked_slots_same w now (key ∷ keys) =
    rw (walked_more_same w now key (nat_lt (length w.sent) MESSAGES)) (walked_slots_same (walked_more w now key (nat_lt (length w.sent) MESSAGES)) now keys)

perform_same :
    (s : Switch) (now : ℕ) (row : SwitchRow) → perform_by own_rules s now row ≡ perform s now row
perform_same s now (Keyless out) = refl
perform_same s now (NoRoom mark) = refl
perform_same s now (NewAsk key slot packet) = refl
perform_same s now (AskAgain key slot nonce packet) = refl
perform_same s now (Drops key slot mark cause) = refl
perform_same s now (Direct key slot epoch mark delta out) = refl
perform_same s now (Mirrored key slot epoch mark delta out) = refl
perform_same s now (Granted key slot) = refl
perform_same s now (Late key slot mark) = refl
perform_same s now (Acked key slot upto load) = refl
perform_same s now (RoundDone key slot r) = refl
perform_same s now (Denied key slot) = refl
perform_same s now (Busied key slot mark) = refl
perform_same s now (Adopts config) = refl
perform_same s now Resends =
    let due : List Copy = due_copies now (s.terms.t_switch / 4) MESSAGES s.copies in
    let others : List Copy = other_copies now (s.terms.t_switch / 4) MESSAGES s.copies in
    ap walk_did
    (walked_slots_same (resent s now due others) now (walk_order s.walked (map (λ (e : Key × Slot). e.0) s.slots)))
perform_same s now Stale = refl

-- ---- the world

switch_same :
    (app : Application) (w : World) (n : ℕ) (input : Input) (node : Option SwitchNode) →
    switch_takes_by own_rules app w n input node ≡ (switch_takes app w n input node).0
switch_same app w n input None = refl
switch_same app w n input (Some node) =
    rw (row_same app (lapsed node.clock node.state) node.clock input)
    (ap (switch_moved w n node) (perform_same (lapsed node.clock node.state) node.clock (switch_row app (lapsed node.clock node.state) node.clock input)))

node_same :
    (app : Application) (w : World) (node : Node) (input : Input) →
    node_takes_by own_rules app w node input ≡ (node_takes app w node input).0
node_same app w (Node.Switch n) input = switch_same app w n input (slice_get w.switches n)
node_same app w (Node.Replica n) input = refl
node_same app w Node.Master input = refl

act_same :
    (app : Application) (w : World) (act : Act) → perform_act_by own_rules app w act ≡ (perform_act app w act).0
act_same app w (Refuses cause) = refl
act_same app w (Feeds n p) = node_same app (packet_fed w p) (Node.Switch n) (Input.Packet p)
act_same app w (Delivers i m) = node_same app (frame_passed w i) m.to (Input.Msg m)
act_same app w (Passes i) = refl
act_same app w (Advances by) = refl
act_same app w (Alarms node) = node_same app w node Input.Alarm
act_same app w (Stops node) = refl
act_same app w (Boots n) = refl
act_same app w (Detects node) = refl
act_same app w Announces = refl
act_same app w Pumps = refl

pub world_same :
    (app : Application) (w : World) (events : List Event) → world_by own_rules app w events ≡ world_after app w events
world_same app w [] = refl
world_same app w (e ∷ es) =
    rw (act_same app (next_event w) (act_of app (next_event w) e)) (world_same app (perform_act app (next_event w) (act_of app (next_event w) e)).0 es)
