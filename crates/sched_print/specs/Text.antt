-- The text of a schedule: the lines of its header and a line for each event, in lower case and without comments.
use Rattle.std.specs.Prelude.{ℕ, List, [], ◌∷◌, ◌++◌, Option, Some, None, codes, decimal, flat_map}
use Rattle.rp_base.specs.declared.event.Event.{Event}
use Rattle.rp_base.specs.declared.node.Node.{Node}
use Rattle.run_report.specs.Names.{node_name}
use Rattle.run_report.specs.Words.{◌␣◌, decimals, hex_text}
use Rattle.sched_lang.specs.declared.schedule.Schedule.{Schedule}

-- words as a line
abbrev pub line : List ℕ → List ℕ
line words = words ++ 10 ∷ []

-- the line of the mode, by the bound of snapshot mode
abbrev pub mode_words : Option ℕ → List ℕ
mode_words None = codes "mode strict"
mode_words (Some bound) = codes "mode snapshot" ␣ decimal bound

-- the six lines of the header
abbrev pub header_text : Schedule → List ℕ
header_text s =
    line (codes "rp-schedule 1")
    ++ line (codes "switches" ␣ decimal s.switches)
    ++ line (codes "chain" ␣ decimal s.chain)
    ++ line (codes "lease" ␣ decimal s.t_switch ␣ decimal s.t_store)
    ++ line (codes "ratio" ␣ decimal s.ratio)
    ++ line (mode_words s.snapshot)

-- the words of an event
abbrev pub event_words : Event → List ℕ
event_words (Event.Feed port bytes) = codes "feed" ␣ decimal port ␣ hex_text bytes
event_words (Event.FeedAt at port bytes) = codes "feedat" ␣ node_name (Node.Switch at) ␣ decimal port ␣ hex_text bytes
event_words (Event.Deliver i) = codes "deliver" ␣ decimal i
event_words Event.Next = codes "next"
event_words (Event.Drop i) = codes "drop" ␣ decimal i
event_words (Event.Time by) = codes "time" ++ decimals by
event_words (Event.Alarm node) = codes "alarm" ␣ node_name node
event_words (Event.Fail node) = codes "fail" ␣ node_name node
event_words (Event.Boot n) = codes "boot" ␣ node_name (Node.Switch n)
event_words (Event.Detect node) = codes "detect" ␣ node_name node
event_words Event.Announce = codes "announce"
event_words Event.Pump = codes "pump"

-- the line of an event
abbrev pub event_text : Event → List ℕ
event_text event = line (event_words event)

-- the lines of a schedule, one behind the other
abbrev pub schedule_text : Schedule → List ℕ
schedule_text s = header_text s ++ flat_map event_text s.events
