-- What a switch sends at an Alarm: copies that are due, Asks, and Puts or Snaps that keep a lease. It ends at the 64th message.
use Rattle.std.specs.Prelude.{ℕ, ◌+◌, ◌-◌, ◌/◌, zero, suc, Bool, true, false, not, ◌&&◌, ◌||◌, List, [], ◌∷◌, ◌++◌, Option, Some, None, is_some, if◌then◌else◌, nat_le, nat_lt, length, take, map, unwrap_or, option_and_then}
use Rattle.proto_data.specs.declared.message.Body.{Body}
use Rattle.proto_data.specs.declared.message.Msg.{Msg}
use Rattle.proto_data.specs.declared.terms.Mode.{Mode}
use Rattle.key_table.specs.Table.{Key, Table, same_key}
use Rattle.proto_model.specs.Slot.{Slot, Round, Lease, Idle, Asking, Held, Lapsed, epoch_of, is_young, chunk_count, chunk_of}
use Rattle.proto_model.specs.SwitchState.{Switch, SwitchStep, Copy, Begun, slot_at, with_slot, has_copies, to_head}
use Rattle.proto_data.specs.declared.limits.TheConstants.{COPIES, MESSAGES}

abbrev pub is_due : ℕ → ℕ → Copy → Bool
is_due now age c = nat_le age (now - c.sent)

-- the first copies that are due, at most `room` of them, and all others
abbrev pub due_copies : ℕ → ℕ → ℕ → List Copy → List Copy
due_copies now age room [] = []
due_copies now age zero (c ∷ cs) = []
due_copies now age (suc room) (c ∷ cs) =
    if is_due now age c then c ∷ due_copies now age room cs else due_copies now age (suc room) cs

abbrev pub other_copies : ℕ → ℕ → ℕ → List Copy → List Copy
other_copies now age room [] = []
other_copies now age zero (c ∷ cs) = c ∷ cs
other_copies now age (suc room) (c ∷ cs) =
    if is_due now age c then other_copies now age room cs else c ∷ other_copies now age (suc room) cs

-- the epoch in which a flow's copies stand
abbrev pub epoch_at : Switch → Key → ℕ
epoch_at s key = unwrap_or (option_and_then (λ (slot : Slot). epoch_of slot.lease) (slot_at s key)) 0

-- a copy as it goes again: the same number and delta, and no output
abbrev pub resent_put : Switch → Copy → Msg
resent_put s c = to_head s (Body.Put s.inc (epoch_at s c.key) c.number c.key c.delta None)

-- the Ask of a young Asking slot, without a packet
abbrev pub repeated_ask : Switch → ℕ → Key → Lease → List Msg
repeated_ask s now key Idle = []
repeated_ask s now key (Asking nonce first) =
    if is_young s.terms.t_switch first now then to_head s (Body.Ask s.inc nonce key None) ∷ [] else []
repeated_ask s now key (Held nonce epoch expiry) = []
repeated_ask s now key (Lapsed nonce epoch expiry) = []

abbrev pub repeated_asks : Switch → ℕ → Table Slot → List Msg
repeated_asks s now [] = []
repeated_asks s now (e ∷ es) = repeated_ask s now e.0 e.1.lease ++ repeated_asks s now es

-- whether a used lease ends within half its term
abbrev pub ends_soon : Switch → ℕ → Slot → ℕ → Bool
ends_soon s now slot expiry = slot.used && nat_le expiry (now + s.terms.t_switch / 2)

-- the switch in the course of an Alarm, with what went so far
pub record Walk : Type 0 where
  pub state : Switch
  pub sent : List Msg
  pub begun : List Begun

-- an empty Put that keeps the lease of a slot without copies
abbrev pub empty_put : Walk → ℕ → Key → Slot → ℕ → Walk
empty_put w now key slot epoch =
    record {
      state = with_slot
          (record w.state { copies = w.state.copies ++ record { key = key; number = slot.last + 1; delta = []; first = now; sent = now } ∷ [] })
          key
          (record slot { last = slot.last + 1; used = false });
      sent = w.sent ++ to_head w.state (Body.Put w.state.inc epoch (slot.last + 1) key [] None) ∷ [];
      begun = w.begun;
    }

-- a chunk goes, and the walk begins behind this slot next time
abbrev pub chunk_sent : Walk → Key → Slot → ℕ → Round → List Begun → Walk
chunk_sent w key slot epoch r begun =
    record {
      state = with_slot (record w.state { walked = Some key }) key
          (record slot { round = Some (record r { chunk = if nat_lt (r.chunk + 1) (chunk_count (length r.cells)) then r.chunk + 1 else 0 }) });
      sent = w.sent
          ++ to_head w.state
          (Body.Snap w.state.inc epoch r.number key r.chunk (chunk_count (length r.cells)) (chunk_of r.chunk r.cells))
          ∷ [];
      begun = w.begun ++ begun;
    }

-- a Held slot in a snapshot Alarm: the running round's next chunk, or a new round where one is due
abbrev pub snap_slot : Walk → ℕ → Key → Slot → ℕ → ℕ → Option Round → Walk
snap_slot w now key slot epoch expiry (Some r) = chunk_sent w key slot epoch r []
snap_slot w now key slot epoch expiry None =
    if is_some slot.ages.pre || ends_soon w.state now slot expiry
    then
    chunk_sent w key (record slot { last = slot.last + 1; used = false }) epoch
    (record { number = slot.last + 1; begun = now; chunk = 0; cells = slot.cells })
    (record { key = key; epoch = epoch; round = slot.last + 1 } ∷ [])
    else w

-- a Held slot in a strict Alarm
abbrev pub strict_slot : Walk → ℕ → Key → Slot → ℕ → ℕ → Walk
strict_slot w now key slot epoch expiry =
    if nat_lt (length w.state.copies) COPIES && (not (has_copies w.state key) && ends_soon w.state now slot expiry)
    then empty_put w now key slot epoch
    else w

abbrev pub held_slot : Mode → Walk → ℕ → Key → Slot → ℕ → ℕ → Walk
held_slot Mode.Strict w now key slot epoch expiry = strict_slot w now key slot epoch expiry
held_slot (Mode.Snapshot bound) w now key slot epoch expiry = snap_slot w now key slot epoch expiry slot.round

abbrev pub walked_slot : Walk → ℕ → Key → Slot → Lease → Walk
walked_slot w now key slot Idle = w
walked_slot w now key slot (Asking nonce first) = w
walked_slot w now key slot (Held nonce epoch expiry) = held_slot w.state.terms.mode w now key slot epoch expiry
walked_slot w now key slot (Lapsed nonce epoch expiry) = w

-- the slot of a key, as it is now
abbrev pub walked_key : Walk → ℕ → Key → Option Slot → Walk
walked_key w now key None = w
walked_key w now key (Some slot) = walked_slot w now key slot slot.lease

-- one more slot, before the 64th message
abbrev pub walked_more : Walk → ℕ → Key → Bool → Walk
walked_more w now key true = walked_key w now key (slot_at w.state key)
walked_more w now key false = w

-- the slots in turn, until the 64th message
abbrev pub walked_slots : Walk → ℕ → List Key → Walk
walked_slots w now [] = w
walked_slots w now (key ∷ keys) = walked_slots (walked_more w now key (nat_lt (length w.sent) MESSAGES)) now keys

-- the keys up to and with this one, and those behind it
abbrev pub keys_to : Key → List Key → List Key
keys_to key [] = []
keys_to key (k ∷ ks) = if same_key k key then k ∷ [] else k ∷ keys_to key ks

abbrev pub keys_behind : Key → List Key → List Key
keys_behind key [] = []
keys_behind key (k ∷ ks) = if same_key k key then ks else keys_behind key ks

-- the order of the walk
abbrev pub walk_order : Option Key → List Key → List Key
walk_order None keys = keys
walk_order (Some key) keys = keys_behind key keys ++ keys_to key keys

-- the first two parts: copies and Asks
abbrev pub resent : Switch → ℕ → List Copy → List Copy → Walk
resent s now due others =
    record {
      state = record s { copies = others ++ map (λ (c : Copy). record c { sent = now }) due };
      sent = take MESSAGES (map (resent_put s) due ++ repeated_asks s now s.slots);
      begun = [];
    }

abbrev pub walk_did : Walk → SwitchStep
walk_did w = (w.state, record { sent = w.sent; released = None; item = None; dropped = None; begun = w.begun; lost = None })

abbrev pub alarm : Switch → ℕ → SwitchStep
alarm s now =
    walk_did
    (walked_slots
    (resent s now (due_copies now (s.terms.t_switch / 4) MESSAGES s.copies) (other_copies now (s.terms.t_switch / 4) MESSAGES s.copies))
    now
    (walk_order s.walked (map (λ (e : Key × Slot). e.0) s.slots)))
