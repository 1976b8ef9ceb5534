-- The forms of events, by their first words. All are in ASCII, so a line with any other byte has none.
use Rattle.std.specs.Prelude.{ℕ, ◌+◌, ◌==◌, if◌then◌else◌, List, [], ◌∷◌, ◌++◌, fold, length, Option, Some, None, Result, Ok, Err, codes, bytes_eq}
use Rattle.rp_base.specs.declared.event.Event.{Event}
use Rattle.rp_base.specs.declared.node.Node.{Node}
use Rattle.sched_lang.specs.declared.schedule.SchedWhy.{SchedWhy}
use Rattle.sched_lang.specs.declared.schedule.SchedWhy.TheVariants as why
use Rattle.sched_lang.specs.declared.event.Kind.{Kind}
use Rattle.sched_lang.specs.declared.event.Kind.TheVariants as kind
use Rattle.sched_lang.specs.Causes.{◌>>=◌, both}
use Rattle.sched_lang.specs.Words.{words, none, one, two, three, number, packet, switch, node}

-- ---- what stands behind the first word; a run has so many switches and replicas

-- `feed PORT HEX`
abbrev pub feed : List (List ℕ) → Result Event SchedWhy
feed args = do
  ws ← two args
  x ← both (number 0 65535 ws.0) (packet ws.1)
  Ok (Event.Feed x.0 x.1)

-- `feedat sN PORT HEX`
abbrev pub feedat : ℕ → List (List ℕ) → Result Event SchedWhy
feedat switches args = do
  ws ← three args
  x ← both (switch switches ws.0) (both (number 0 65535 ws.1) (packet ws.2))
  Ok (Event.FeedAt x.0 x.1.0 x.1.1)

-- `deliver I` and `drop I`
abbrev pub frame : List (List ℕ) → Result ℕ SchedWhy
frame args = do
  word ← one args
  number 0 65535 word

-- one more number, of which the first cause counts where several fail
abbrev pub one_more : Result (List ℕ) SchedWhy → List ℕ → Result (List ℕ) SchedWhy
one_more read word = do
  x ← both read (number 0 1000000000 word)
  Ok (x.0 ++ x.1 ∷ [])

-- `time` with one number for each node
abbrev pub time : ℕ → List (List ℕ) → Result Event SchedWhy
time nodes args = if length args == nodes then (do
  numbers ← fold one_more (Ok []) args
  Ok (Event.Time numbers)) else Err why.Form

-- `boot sN`
abbrev pub boot : ℕ → List (List ℕ) → Result Event SchedWhy
boot switches args = do
  word ← one args
  n ← switch switches word
  Ok (Event.Boot n)

-- `sN` or `rN`
abbrev pub node_word : ℕ → ℕ → List (List ℕ) → Result Node SchedWhy
node_word switches chain args = do
  word ← one args
  node switches chain word

-- an event that is its word alone
abbrev pub alone : Event → List (List ℕ) → Result Event SchedWhy
alone event args = do
  end ← none args
  Ok event

-- `pump` alone on its line is an event, which isn't built
abbrev pub pump : List (List ℕ) → Result Event SchedWhy
pump args = do
  end ← none args
  Err why.NotYet

-- ---- a line

-- the event that a line names by its first word
abbrev pub kind_of : List ℕ → Option Kind
kind_of word =
    if bytes_eq word (codes "feed") then Some kind.Feed
    else if bytes_eq word (codes "feedat") then Some kind.FeedAt
    else if bytes_eq word (codes "deliver") then Some kind.Deliver
    else if bytes_eq word (codes "next") then Some kind.Next
    else if bytes_eq word (codes "drop") then Some kind.Drop
    else if bytes_eq word (codes "time") then Some kind.Time
    else if bytes_eq word (codes "alarm") then Some kind.Alarm
    else if bytes_eq word (codes "fail") then Some kind.Fail
    else if bytes_eq word (codes "boot") then Some kind.Boot
    else if bytes_eq word (codes "detect") then Some kind.Detect
    else if bytes_eq word (codes "announce") then Some kind.Announce
    else if bytes_eq word (codes "pump") then Some kind.Pump
    else None

-- an event with the number of a frame
abbrev pub frame_event : (ℕ → Event) → List (List ℕ) → Result Event SchedWhy
frame_event made args = do
  n ← frame args
  Ok (made n)

-- an event with a node
abbrev pub node_event : (Node → Event) → ℕ → ℕ → List (List ℕ) → Result Event SchedWhy
node_event made switches chain args = do
  n ← node_word switches chain args
  Ok (made n)

-- the event of a kind, with the words behind
abbrev pub event_form : ℕ → ℕ → Option Kind → List (List ℕ) → Result Event SchedWhy
event_form switches chain None args = Err why.Form
event_form switches chain (Some kind.Feed) args = feed args
event_form switches chain (Some kind.FeedAt) args = feedat switches args
event_form switches chain (Some kind.Deliver) args = frame_event Event.Deliver args
event_form switches chain (Some kind.Next) args = alone Event.Next args
event_form switches chain (Some kind.Drop) args = frame_event Event.Drop args
event_form switches chain (Some kind.Time) args = time (switches + chain) args
event_form switches chain (Some kind.Alarm) args = node_event Event.Alarm switches chain args
event_form switches chain (Some kind.Fail) args = node_event Event.Fail switches chain args
event_form switches chain (Some kind.Boot) args = boot switches args
event_form switches chain (Some kind.Detect) args = node_event Event.Detect switches chain args
event_form switches chain (Some kind.Announce) args = alone Event.Announce args
event_form switches chain (Some kind.Pump) args = pump args

-- the event of a line by its words
abbrev pub event_of : ℕ → ℕ → List (List ℕ) → Result Event SchedWhy
event_of switches chain [] = Err why.Form
event_of switches chain (word ∷ args) = event_form switches chain (kind_of word) args

-- an event's line
abbrev pub event_line : ℕ → ℕ → List ℕ → Result Event SchedWhy
event_line switches chain line = event_of switches chain (words line)
