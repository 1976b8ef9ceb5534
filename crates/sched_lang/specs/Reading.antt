-- What a text reads as: its schedule, or the first line that fails with its cause.
use Rattle.std.specs.Prelude.{option_to_list, ◌≡◌, ℕ, ◌+◌, ◌-◌, if◌then◌else◌, nat_le, nat_lt, List, [], ◌∷◌, ◌++◌, length, Option, Some, None, Result, Ok, Err}
use Rattle.rp_base.specs.declared.event.Event.{Event}
use Rattle.sched_lang.specs.declared.header.Header.{Header}
use Rattle.sched_lang.specs.declared.schedule.Schedule.{Schedule}
use Rattle.sched_lang.specs.declared.schedule.SchedWhy.{SchedWhy}
use Rattle.sched_lang.specs.declared.schedule.SchedWhy.TheVariants as why
use Rattle.sched_lang.specs.declared.schedule.SchedEnd.{SchedEnd}
use Rattle.sched_lang.specs.declared.schedule.SchedEnd.TheVariants as end
use Rattle.sched_lang.specs.Causes.{◌>>=◌}
use Rattle.sched_lang.specs.Words.{lines, passed_over}
use Rattle.sched_lang.specs.Header.{first_line, switches_line, chain_line, lease_line, ratio_line, mode_line}
use Rattle.sched_lang.specs.EventForms.{event_line}

-- a line's number, and the cause for which it is refused
abbrev pub Fault : Type 0
Fault = ℕ × SchedWhy

-- what the line of this number reads
abbrev pub at_line : {A : Type 0} → ℕ → Result A SchedWhy → Result A Fault
at_line n (Ok x) = Ok x
at_line n (Err cause) = Err (n, cause)

-- Of these lines, which are numbered from n, the first that isn't passed over: its number, the line, and the lines behind it.
-- Where there is none, the missing line is the one behind the last.
abbrev pub next_line : ℕ → List (List ℕ) → Result (ℕ × List ℕ × List (List ℕ)) Fault
next_line n [] = Err (n, why.Form)
next_line n (line ∷ ls) = if passed_over line then next_line (n + 1) ls else Ok (n, line, ls)

-- the header at the front of these lines, and the number of the line behind it with the lines from there on
unfoldable pub header : ℕ → List (List ℕ) → Result (Header × ℕ × List (List ℕ)) Fault
header n ls = do
  l1 ← next_line n ls
  first ← at_line l1.0 (first_line l1.1)
  l2 ← next_line (l1.0 + 1) l1.2
  switches ← at_line l2.0 (switches_line l2.1)
  l3 ← next_line (l2.0 + 1) l2.2
  chain ← at_line l3.0 (chain_line l3.1)
  l4 ← next_line (l3.0 + 1) l3.2
  lease ← at_line l4.0 (lease_line l4.1)
  l5 ← next_line (l4.0 + 1) l4.2
  ratio ← at_line l5.0 (ratio_line lease.0 lease.1 l5.1)
  l6 ← next_line (l5.0 + 1) l5.2
  snapshot ← at_line l6.0 (mode_line l6.1)
  Ok (record { switches = switches; chain = chain; t_switch = lease.0; t_store = lease.1; ratio = ratio; snapshot = snapshot }, l6.0 + 1, l6.2)

-- the number of a header's last line
abbrev pub last_line : {A : Type 0} → Result (Header × ℕ × A) Fault → ℕ
last_line (Ok h) = h.1 - 1
last_line (Err fault) = 0

-- the number of the line of `mode` in a text that has a header
unfoldable pub mode_at : List ℕ → ℕ
mode_at text = last_line (header 1 (lines text))

-- the event of a line, of at most 20,000; so many stand before it. A line that is passed over has none.
abbrev pub event_in : ℕ → ℕ → ℕ → List ℕ → Result (Option Event) SchedWhy
event_in switches chain before line =
    if passed_over line then Ok None
    else if nat_le 20000 before then Err why.Many
    else (do
      event ← event_line switches chain line
      Ok (Some event))

-- the events of these lines, which are numbered from n; so many events stand before them
abbrev pub events_from : ℕ → ℕ → ℕ → ℕ → List (List ℕ) → Result (List Event) Fault
events_from switches chain before n [] = Ok []
events_from switches chain before n (line ∷ ls) = do
  here ← at_line n (event_in switches chain before line)
  more ← events_from switches chain (before + length (option_to_list here)) (n + 1) ls
  Ok (option_to_list here ++ more)

-- the schedule of a text of at most 4,194,304 bytes
unfoldable pub schedule_of : List ℕ → Result Schedule Fault
schedule_of text = if nat_lt 4194304 (length text) then Err (0, why.TooLong) else (do
  h ← header 1 (lines text)
  events ← events_from h.0.switches h.0.chain 0 h.1 h.2
  Ok (record { switches = h.0.switches; chain = h.0.chain; t_switch = h.0.t_switch; t_store = h.0.t_store; ratio = h.0.ratio; snapshot = h.0.snapshot; events = events }))

-- What a reader returned, by what is seen of it, is what these lines read, unless memory ran out.
abbrev pub Gives : {X Y : Type 0} → (X → Y) → Result X SchedEnd → Result Y Fault → Type 0
Gives view (Ok x) read = read ≡ Ok (view x)
Gives view (Err (end.Refused line cause)) read = read ≡ Err (line, cause)
Gives view (Err end.NoMemory) read = Unit {0}
