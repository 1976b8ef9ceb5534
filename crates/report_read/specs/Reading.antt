-- What a text reads as: its report, or the first line that fails with its cause.
use Rattle.std.specs.Prelude.{◌≡◌, ℕ, ◌+◌, Bool, true, false, ◌||◌, if◌then◌else◌, nat_lt, List, [], ◌∷◌, ◌++◌, length, is_some, Result, Ok, Err, bytes_eq}
use Rattle.rp_base.specs.declared.line.Line.{Line}
use Rattle.key_table.specs.Table.{Key, get, put}
use Rattle.report_read.specs.declared.report.Report.{Report}
use Rattle.report_read.specs.declared.report.ReportWhy.{ReportWhy}
use Rattle.report_read.specs.declared.report.ReportWhy.TheVariants as why
use Rattle.report_read.specs.declared.report.ReportEnd.{ReportEnd}
use Rattle.report_read.specs.declared.report.ReportEnd.TheVariants as end
use Rattle.report_read.specs.declared.report.LineEnd.{LineEnd}
use Rattle.report_read.specs.declared.report.LineEnd.TheVariants as fails
use Rattle.report_read.specs.declared.reading.Place.{Place}
use Rattle.report_read.specs.declared.reading.Place.TheVariants as place
use Rattle.report_read.specs.declared.reading.Reading.{Reading}
use Rattle.report_read.specs.Words.{◌>>=◌, RawLine, lines}
use Rattle.report_read.specs.Forms.{line_of}

-- ---- a line in its place

-- before the first line
abbrev pub opening : Reading
opening = record { place = place.Events; event = 0; releases = []; refused = []; keys = []; flows = [] }

-- an event line, whose event doesn't fall and is one of so many
abbrev pub at_event : ℕ → ℕ → Reading → Place → Result Reading ReportWhy
at_event events event r place.Events = if nat_lt event r.event || nat_lt events event then Err why.Event else Ok (record r { event = event })
at_event events event r _ = Err why.Form

-- the serial line of a flow that has none yet
abbrev pub at_serial : Key → List ℕ → Reading → Place → Result Reading ReportWhy
at_serial key marks r (place.Serial named before) = Err why.Form
at_serial key marks r place.Behind = Err why.Form
at_serial key marks r _ =
    if is_some (get r.keys key) then Err why.Form
    else Ok (record r { place = place.Serial key marks; keys = put r.keys key tt })

-- the cells line behind the serial line of its flow
abbrev pub at_cells : Key → List ℕ → Reading → Place → Result Reading ReportWhy
at_cells key cells r (place.Serial named marks) =
    if bytes_eq named key then Ok (record r { place = place.Flows; flows = r.flows ++ record { key = key; marks = marks; cells = cells } ∷ [] })
    else Err why.Form
at_cells key cells r _ = Err why.Form

-- the last line
abbrev pub at_end : Reading → Place → Result Reading ReportWhy
at_end r (place.Serial named marks) = Err why.Form
at_end r place.Behind = Err why.Form
at_end r _ = Ok (record r { place = place.Behind })

-- one line more, of a run of so many events
abbrev pub taken : ℕ → Reading → Line → Result Reading ReportWhy
taken events r (Line.Release event mark port bytes) = do
  now ← at_event events event r r.place
  Ok (record now { releases = now.releases ++ record { event = event; output = record { mark = mark; port = port; bytes = bytes } } ∷ [] })
taken events r (Line.Drop event mark cause) = at_event events event r r.place
taken events r (Line.Lost event cause) = at_event events event r r.place
taken events r (Line.Refused event cause) = do
  now ← at_event events event r r.place
  Ok (record now { refused = now.refused ++ event ∷ [] })
taken events r (Line.Stranger event node) = at_event events event r r.place
taken events r (Line.Send event frame from to kind bytes) = Err why.Form
taken events r (Line.Serial key marks) = at_serial key marks r r.place
taken events r (Line.Epoch key epoch kept marks) = Err why.Form
taken events r (Line.Cells key cells) = at_cells key cells r r.place
taken events r Line.End = at_end r r.place

-- ---- the whole text

-- whether the line `end` was read
abbrev pub is_behind : Place → Bool
is_behind place.Behind = true
is_behind _ = false

-- a line of the text
abbrev pub raw_taken : ℕ → Reading → RawLine → Result Reading ReportWhy
raw_taken events r line =
    if is_behind r.place then Err why.End
    else if line.1 then (do
      l ← line_of line.0
      taken events r l)
    else Err why.Form

-- a line's number, and the cause for which it is refused
abbrev pub Fault : Type 0
Fault = ℕ × ReportWhy

-- what the line of this number reads
abbrev pub at_line : {A : Type 0} → ℕ → Result A ReportWhy → Result A Fault
at_line n (Ok x) = Ok x
at_line n (Err cause) = Err (n, cause)

-- the report, where its last line was read before this one
abbrev pub finished : ℕ → Reading → Result Report Fault
finished n r = if is_behind r.place then Ok (record { releases = r.releases; flows = r.flows; refused = r.refused }) else Err (n, why.End)

-- these lines, which are numbered from n
abbrev pub lines_from : ℕ → ℕ → Reading → List RawLine → Result Report Fault
lines_from events n r [] = finished n r
lines_from events n r (line ∷ ls) = do
  now ← at_line n (raw_taken events r line)
  lines_from events (n + 1) now ls

-- the report of a text of at most 67,108,864 bytes
unfoldable pub report_of : ℕ → List ℕ → Result Report Fault
report_of events text = if nat_lt 67108864 (length text) then Err (0, why.TooLong) else lines_from events 1 opening (lines text)

-- ---- what a reader returned

-- why a line isn't read, with its number
abbrev pub with_line : ℕ → LineEnd → ReportEnd
with_line n (fails.Refused cause) = end.Refused n cause
with_line n fails.NoMemory = end.NoMemory

-- What a reader returned, by what is seen of it, is what the text reads, unless memory ran out.
abbrev pub Gives : {X Y : Type 0} → (X → Y) → Result X ReportEnd → Result Y Fault → Type 0
Gives view (Ok x) read = read ≡ Ok (view x)
Gives view (Err (end.Refused line cause)) read = read ≡ Err (line, cause)
Gives view (Err end.NoMemory) read = Unit {0}
