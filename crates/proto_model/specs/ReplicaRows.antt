-- The rows of a store replica: which row an input meets, and what follows from it.
use Rattle.std.specs.Prelude.{ℕ, ◌+◌, ◌-◌, Bool, true, false, ◌&&◌, ◌||◌, ◌==◌, List, [], ◌∷◌, ◌++◌, Option, Some, None, if◌then◌else◌, nat_le, nat_lt, length, take, drop, option_map}
use Rattle.proto_data.specs.declared.message.Msg.{Msg}
use Rattle.proto_data.specs.declared.message.Body.{Body}
use Rattle.rp_base.specs.declared.node.Node.{Node}
use Rattle.proto_data.specs.declared.message.Echoed.{Echoed}
use Rattle.proto_data.specs.declared.message.Input.{Input}
use Rattle.proto_data.specs.declared.message.Entry.{Entry}
use Rattle.proto_data.specs.declared.message.Record.{Record}
use Rattle.proto_data.specs.declared.message.Carried.{Carried}
use Rattle.proto_data.specs.declared.message.Config.{Config}
use Rattle.rp_base.specs.declared.event.Lost.{Lost}
use Rattle.rp_app.specs.Application.{Delta, zeros}
use Rattle.key_table.specs.Table.{Key, get, put}
use Rattle.proto_model.specs.Slot.{chunk_count, chunk_of}
use Rattle.proto_model.specs.Records.{applied, delta_within, entry_fits}
use Rattle.proto_model.specs.ReplicaState.{Replica, StoreStep, Gathered, store_sent, store_lost, record_at, is_member, is_head, is_tail, to_node, to_successor, to_predecessor, to_tail, gathering_of, with_part, whole_cells}
use Rattle.proto_data.specs.declared.limits.TheConstants.{RECORDS, PENDING, MESSAGES}

-- A row with what it needs.
pub data StoreRow : Type 0 where
  -- the message is lost
  Loses : (cause : Lost) → StoreRow
  -- one message goes to a node, and nothing changes
  Answers : (to : Node) (body : Body) → StoreRow
  -- the head asks the tail
  Echoes : (of : Echoed) (load : Option Carried) → StoreRow
  -- an entry is appended to the book
  Appends : (entry : Entry) (load : Option Carried) → StoreRow
  -- a chunk is kept and its round isn't whole, or the entry can't be appended yet
  Gathers : (key : Key) (gathered : Gathered) → StoreRow
  -- the last chunk of a round came
  AppendsSnap : (key : Key) (gathered : Gathered) (entry : Entry) → StoreRow
  -- more is known to be committed
  Commits : (index : ℕ) → StoreRow
  -- a newer configuration
  Adopts : (config : Config) → StoreRow
  -- pending entries go again
  Resends : StoreRow

-- ---- which row

abbrev pub carried_mark : Option Carried → Option ℕ
carried_mark load = option_map (λ (c : Carried). c.mark) load

abbrev pub busy : Node → ℕ → ℕ → Key → Option Carried → StoreRow
busy from inc nonce key load = Answers from (Body.Busy inc nonce key (carried_mark load))

abbrev pub switch_of : Node → ℕ
switch_of (Node.Switch s) = s
switch_of (Node.Replica r) = 0
switch_of Node.Master = 0

-- whether (a, b) is greater than (c, d)
abbrev pub is_later : ℕ → ℕ → ℕ → ℕ → Bool
is_later a b c d = nat_lt c a || ((a == c) && nat_lt d b)

-- an Ask of the present owner
abbrev pub own_ask_row : ℕ → ℕ → ℕ → Key → Option Carried → Record → StoreRow
own_ask_row switch inc nonce key load r =
    if is_later inc nonce r.inc r.nonce
    then Appends (Entry.Grant key (r.epoch + 1) switch inc nonce) load
    else
    (if (inc == r.inc) && (nonce == r.nonce)
    then Echoes (Echoed.Ask switch inc nonce key) load
    else Loses Lost.Stale)

-- an Ask of another switch
abbrev pub other_ask_row : Replica → ℕ → Node → ℕ → ℕ → Key → Option Carried → Record → StoreRow
other_ask_row s now from inc nonce key load r =
    if nat_le s.terms.t_store (now - r.moment)
    then Appends (Entry.Grant key (r.epoch + 1) (switch_of from) inc nonce) load
    else busy from inc nonce key load

abbrev pub ask_row : Replica → ℕ → Node → ℕ → ℕ → Key → Option Carried → Option Record → StoreRow
ask_row s now from inc nonce key load None =
    if nat_lt (length s.records) RECORDS
    then Appends (Entry.Grant key 1 (switch_of from) inc nonce) load
    else busy from inc nonce key load
ask_row s now from inc nonce key load (Some r) =
    if r.switch == switch_of from
    then own_ask_row (switch_of from) inc nonce key load r
    else other_ask_row s now from inc nonce key load r

-- a request of an epoch with a number: the next one, an earlier one or one too far
abbrev pub numbered_row : ℕ → ℕ → StoreRow → StoreRow → StoreRow
numbered_row last number next earlier =
    if number == last + 1 then next else (if nat_le number last then earlier else Loses Lost.Gap)

abbrev pub put_row : Replica → Node → ℕ → ℕ → ℕ → Key → Delta → Option Carried → Option Record → StoreRow
put_row s from inc epoch number key delta load None = Answers from (Body.Deny inc epoch key)
put_row s from inc epoch number key delta load (Some r) =
    if r.epoch == epoch
    then
    numbered_row r.last number
    (Appends (Entry.Put key epoch number delta) load)
    (Echoes (Echoed.Put (switch_of from) epoch number key) load)
    else Answers from (Body.Deny inc epoch key)

-- a gathered round, appended once it is whole
abbrev pub gathered_row : Key → ℕ → ℕ → Gathered → Option (List ℕ) → StoreRow
gathered_row key epoch round g None = Gathers key g
gathered_row key epoch round g (Some cells) = AppendsSnap key g (Entry.Snap key epoch round cells)

abbrev pub snap_row : Replica → Node → ℕ → ℕ → ℕ → Key → Gathered → Option Record → StoreRow
snap_row s from inc epoch round key g None = Answers from (Body.Deny inc epoch key)
snap_row s from inc epoch round key g (Some r) =
    if r.epoch == epoch
    then
    numbered_row r.last round
    (gathered_row key epoch round g (whole_cells g))
    (Echoes (Echoed.Put (switch_of from) epoch round key) None)
    else Answers from (Body.Deny inc epoch key)

-- whether a chunk is one of a flow with so many cells
abbrev pub chunk_fits : ℕ → ℕ → ℕ → List ℕ → Bool
chunk_fits cell_count chunk chunks cells =
    (chunks == chunk_count cell_count)
    && (nat_lt chunk chunks && (length cells == length (chunk_of chunk (zeros cell_count))))

abbrev pub forward_row : Replica → Node → ℕ → ℕ → Entry → Option Carried → StoreRow
forward_row s from config index entry load =
    if config == s.config.number
    then
    (if nat_le index s.applied
    then Answers from (Body.Have s.known)
    else
    (if index == s.applied + 1
    then (if entry_fits s.cell_count s.records entry then Appends entry load else Loses Lost.Stale)
    else Loses Lost.Order))
    else Loses Lost.Config

-- what the tail answers to an Echo
abbrev pub echoed_row : Option Record → Echoed → Option Carried → StoreRow
echoed_row None of load = Loses Lost.Stale
echoed_row (Some r) (Echoed.Ask switch inc nonce key) load =
    if (r.switch == switch) && ((r.inc == inc) && (r.nonce == nonce))
    then Answers (Node.Switch switch) (Body.Grant inc nonce r.epoch key r.cells load)
    else Loses Lost.Stale
echoed_row (Some r) (Echoed.Put switch epoch number key) load =
    if (r.switch == switch) && ((r.epoch == epoch) && nat_le number r.last)
    then Answers (Node.Switch switch) (Body.Ack r.inc epoch r.last key load)
    else Loses Lost.Stale

abbrev pub echoed_key : Echoed → Key
echoed_key (Echoed.Ask switch inc nonce key) = key
echoed_key (Echoed.Put switch epoch number key) = key

abbrev pub echo_row : Replica → Echoed → Option Carried → StoreRow
echo_row s of load = echoed_row (record_at s (echoed_key of)) of load

-- a head that is itself the tail acts on the Echo that it would send
abbrev pub covered : Replica → StoreRow → StoreRow
covered s (Echoes of load) = if is_tail s then echo_row s of load else Echoes of load
covered s (Loses cause) = Loses cause
covered s (Answers to body) = Answers to body
covered s (Appends entry load) = Appends entry load
covered s (Gathers key g) = Gathers key g
covered s (AppendsSnap key g entry) = AppendsSnap key g entry
covered s (Commits index) = Commits index
covered s (Adopts config) = Adopts config
covered s Resends = Resends

-- what only the head takes
abbrev pub at_head : Replica → StoreRow → StoreRow
at_head s row = if is_head s then covered s row else Loses Lost.Role

abbrev pub store_message_row : Replica → ℕ → Node → Body → StoreRow
store_message_row s now from (Body.Ask inc nonce key load) =
    at_head s (ask_row s now from inc nonce key load (record_at s key))
store_message_row s now from (Body.Put inc epoch number key delta load) =
    at_head s
    (if delta_within s.cell_count delta
    then put_row s from inc epoch number key delta load (record_at s key)
    else Loses Lost.Stale)
store_message_row s now from (Body.Snap inc epoch round key chunk chunks cells) =
    at_head s
    (if chunk_fits s.cell_count chunk chunks cells
    then
    snap_row s from inc epoch round key
    (with_part (gathering_of epoch round chunks (get s.gathered key)) chunk cells)
    (record_at s key)
    else Loses Lost.Stale)
store_message_row s now from (Body.Forward config index entry load) = forward_row s from config index entry load
store_message_row s now from (Body.Echo of load) = if is_tail s then echo_row s of load else Loses Lost.Role
store_message_row s now from (Body.Have index) =
    if nat_lt s.known index && nat_le index s.applied then Commits index else Loses Lost.Stale
store_message_row s now from (Body.Config config) =
    if nat_lt s.config.number config.number then Adopts config else Loses Lost.Stale
store_message_row s now from (Body.Grant inc nonce epoch key cells load) = Loses Lost.Role
store_message_row s now from (Body.Busy inc nonce key mark) = Loses Lost.Role
store_message_row s now from (Body.Ack inc epoch upto key load) = Loses Lost.Role
store_message_row s now from (Body.Deny inc epoch key) = Loses Lost.Role

abbrev pub store_row : Replica → ℕ → Input → StoreRow
store_row s now (Input.Packet p) = Loses Lost.Role
store_row s now (Input.Msg m) = store_message_row s now m.from m.body
store_row s now Input.Alarm = Resends

-- ---- what follows

-- the replica with this entry applied, and nothing said of its commit
abbrev pub with_entry : Replica → Entry → ℕ → Replica
with_entry s entry now =
    record s { records = applied s.cell_count s.records entry now; applied = s.applied + 1 }

-- the tail's answer to the owner of an entry
abbrev pub owner_answer : Replica → Entry → Option Carried → Option Record → List Msg
owner_answer s entry load None = []
owner_answer s (Entry.Grant key epoch switch inc nonce) load (Some r) =
    to_node s (Node.Switch switch) (Body.Grant inc nonce epoch key r.cells load) ∷ []
owner_answer s (Entry.Put key epoch number delta) load (Some r) =
    to_node s (Node.Switch r.switch) (Body.Ack r.inc epoch number key load) ∷ []
owner_answer s (Entry.Snap key epoch round cells) load (Some r) =
    to_node s (Node.Switch r.switch) (Body.Ack r.inc epoch round key load) ∷ []

abbrev pub entry_key : Entry → Key
entry_key (Entry.Grant key epoch switch inc nonce) = key
entry_key (Entry.Put key epoch number delta) = key
entry_key (Entry.Snap key epoch round cells) = key

-- at the tail the entry is committed
abbrev pub tail_appended : Replica → Entry → Option Carried → StoreStep
tail_appended s entry load = (
  record s { known = s.applied },
  record {
    sent = owner_answer s entry load (record_at s (entry_key entry)) ++ to_predecessor s (Body.Have s.applied);
    applied = Some entry;
    lost = None;
  },
)

-- elsewhere it is pending, and goes on to the successor
abbrev pub inner_appended : Replica → Entry → Option Carried → StoreStep
inner_appended s entry load = (
  record s { pending = s.pending ++ entry ∷ [] },
  record {
    sent = to_successor s (Body.Forward s.config.number s.applied entry load);
    applied = Some entry;
    lost = None;
  },
)

-- an entry is appended, by whether the replica is a member, whether it is the tail, and whether pending is full
abbrev pub appended_as : Bool → Bool → Bool → Replica → ℕ → Entry → Option Carried → StoreStep
appended_as false tail full s now entry load = (s, store_lost Lost.Role)
appended_as true true full s now entry load = tail_appended (with_entry s entry now) entry load
appended_as true false true s now entry load = (s, store_lost Lost.Pending)
appended_as true false false s now entry load = inner_appended (with_entry s entry now) entry load

abbrev pub appended : Replica → ℕ → Entry → Option Carried → StoreStep
appended s now entry load =
    appended_as (is_member s) (is_tail s) (nat_le PENDING (length s.pending)) s now entry load

-- a new configuration, by whether the replica is its tail
abbrev pub configured_as : Bool → Replica → StoreStep
configured_as true s = (
  record s { known = s.applied; pending = [] },
  store_sent (if nat_lt 0 s.applied then to_predecessor s (Body.Have s.applied) else []),
)
configured_as false s = (s, store_sent [])

abbrev pub after_config : Replica → StoreStep
after_config s = configured_as (is_tail s) s

-- the Forwards of pending entries from this index on
abbrev pub forwards : Replica → ℕ → List Entry → List Msg
forwards s index [] = []
forwards s index (e ∷ es) = to_successor s (Body.Forward s.config.number index e None) ++ forwards s (index + 1) es

abbrev pub store_perform : Replica → ℕ → StoreRow → StoreStep
store_perform s now (Loses cause) = (s, store_lost cause)
store_perform s now (Answers to body) = (s, store_sent (to_node s to body ∷ []))
store_perform s now (Echoes of load) = (s, store_sent (to_tail s (Body.Echo of load)))
store_perform s now (Appends entry load) = appended s now entry load
store_perform s now (Gathers key g) = (record s { gathered = put s.gathered key g }, store_sent [])
store_perform s now (AppendsSnap key g entry) = appended (record s { gathered = put s.gathered key g }) now entry None
store_perform s now (Commits index) = (
  record s { known = index; pending = drop (index - s.known) s.pending },
  store_sent (to_predecessor s (Body.Have index)),
)
store_perform s now (Adopts config) = after_config (record s { config = config })
store_perform s now Resends = (s, store_sent (forwards s (s.known + 1) (take MESSAGES s.pending)))

-- One step of a replica. It reads this replica's state alone.
abbrev pub store_step : Replica → ℕ → Input → StoreStep
store_step s now input = store_perform s now (store_row s now input)
