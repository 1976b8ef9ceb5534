-- The schedule that is generated from a number: 5,000 events, drawn one after the other.
use Rattle.std.specs.Prelude.{ℕ, suc, zero, ◌+◌, ◌-◌, ◌*◌, ◌/◌, ◌%◌, ◌==◌, if◌then◌else◌, nat_lt, List, [], ◌∷◌, None}
use Rattle.rp_base.specs.declared.event.Event.{Event}
use Rattle.rp_base.specs.declared.node.Node.{Node}
use Rattle.sched_lang.specs.declared.schedule.Schedule.{Schedule}

-- the state of the draws after one more draw
abbrev pub next_state : ℕ → ℕ
next_state x = (1103515245 * x + 12345) % 2147483648

-- a draw below n, and the state after it
abbrev pub draw : ℕ → ℕ → ℕ × ℕ
draw n x = ((next_state x / 65536) % n, next_state x)

-- one of the three switches and three replicas
abbrev pub node_by : ℕ → Node
node_by n = if nat_lt n 3 then Node.Switch n else Node.Replica (n - 3)

-- an event with a drawn node
abbrev pub node_event : (Node → Event) → ℕ → Event × ℕ
node_event made x = (made (node_by (draw 6 x).0), (draw 6 x).1)

-- an event with a drawn number of a frame
abbrev pub frame_event : (ℕ → Event) → ℕ → Event × ℕ
frame_event made x = (made (draw 4096 x).0, (draw 4096 x).1)

-- the last byte of a packet, by a draw: `?` once in four, else `!`
abbrev pub last_byte : ℕ → ℕ
last_byte n = if n == 0 then 63 else 33

-- a packet of one of eight flows
abbrev pub feed_event : ℕ → Event × ℕ
feed_event x = (Event.Feed 1 ((97 + (draw 8 x).0) ∷ last_byte (draw 4 (draw 8 x).1).0 ∷ []), (draw 4 (draw 8 x).1).1)

-- a boot with a drawn switch
abbrev pub boot_event : ℕ → Event × ℕ
boot_event x = (Event.Boot (draw 3 x).0, (draw 3 x).1)

-- one of three rare events, by a draw below 3
abbrev pub rare_event : ℕ → ℕ → Event × ℕ
rare_event n x =
    if n == 0 then boot_event x
    else if n == 1 then node_event Event.Detect x
    else (Event.Announce, x)

-- the event of a draw from 94 on
abbrev pub late_event : ℕ → ℕ → Event × ℕ
late_event d x =
    if nat_lt d 98 then node_event Event.Alarm x
    else if nat_lt d 99 then node_event Event.Fail x
    else rare_event (draw 3 x).0 (draw 3 x).1

-- the event of a draw from 80 on
abbrev pub middle_event : ℕ → ℕ → Event × ℕ
middle_event d x =
    if nat_lt d 85 then frame_event Event.Drop x
    else if nat_lt d 90 then frame_event Event.Deliver x
    else if nat_lt d 94 then (Event.Time (100 ∷ 100 ∷ 100 ∷ 100 ∷ 100 ∷ 100 ∷ []), x)
    else late_event d x

-- the event of a draw below 100, with the state before its further draws
abbrev pub event_by : ℕ → ℕ → Event × ℕ
event_by d x =
    if nat_lt d 30 then feed_event x
    else if nat_lt d 80 then (Event.Next, x)
    else middle_event d x

-- the next event, and the state after its draws
unfoldable pub next_event : ℕ → Event × ℕ
next_event x = event_by (draw 100 x).0 (draw 100 x).1

-- so many events from a state on
unfoldable pub events_from : ℕ → ℕ → List Event
events_from zero x = []
events_from (suc n) x = (next_event x).0 ∷ events_from n (next_event x).1

-- the schedule of a number
abbrev pub generated : ℕ → Schedule
generated n = record { switches = 3; chain = 3; t_switch = 1000; t_store = 1100; ratio = 50; snapshot = None; events = events_from 5000 n }
