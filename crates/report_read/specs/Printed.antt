-- Which lines a report without frames may have, and what they say one after the other.
use Rattle.std.specs.Prelude.{ℕ, ◌+◌, ◌<◌, ◌≤◌, if◌then◌else◌, List, [], ◌∷◌, All, length, Result, Err}
use Rattle.hex.specs.Hex.{IsBytes}
use Rattle.rp_base.specs.declared.event.DropCause.{DropCause}
use Rattle.rp_base.specs.declared.line.Line.{Line}
use Rattle.rp_base.specs.declared.node.Node.{Node}
use Rattle.report_read.specs.declared.reading.Reading.{Reading}
use Rattle.report_read.specs.declared.report.Report.{Report}
use Rattle.report_read.specs.declared.report.ReportWhy.TheVariants as why
use Rattle.report_read.specs.Words.{◌>>=◌}
use Rattle.report_read.specs.Reading.{Fault, at_line, finished, is_behind, taken}

-- a number of 64 bits
abbrev pub IsNumber : ℕ → Type 0
IsNumber n = n < 18446744073709551616

-- the key of a flow
abbrev pub IsKey : List ℕ → Type 0
IsKey key = (1 ≤ length key) × (length key ≤ 16) × IsBytes key

-- the bytes of an output
abbrev pub IsOutput : List ℕ → Type 0
IsOutput bytes = (length bytes ≤ 1500) × IsBytes bytes

-- a cause of strict mode
abbrev pub IsStrict : DropCause → Type 0
IsStrict DropCause.Bound = ⊥
IsStrict _ = Unit {0}

-- a node that takes datagrams
abbrev pub TakesDatagrams : Node → Type 0
TakesDatagrams (Node.Switch n) = n < 8
TakesDatagrams (Node.Replica n) = n < 5
TakesDatagrams Node.Master = ⊥

-- a line of a report in strict mode without frames, with each value in its range
abbrev pub IsReportLine : Line → Type 0
IsReportLine (Line.Release event mark port bytes) = IsNumber event × IsNumber mark × (port < 65536) × IsOutput bytes
IsReportLine (Line.Drop event mark cause) = IsNumber event × IsNumber mark × IsStrict cause
IsReportLine (Line.Lost event cause) = IsNumber event
IsReportLine (Line.Refused event cause) = IsNumber event
IsReportLine (Line.Stranger event node) = IsNumber event × TakesDatagrams node
IsReportLine (Line.Send event frame from to kind bytes) = ⊥
IsReportLine (Line.Serial key marks) = IsKey key × All IsNumber marks
IsReportLine (Line.Epoch key epoch kept marks) = ⊥
IsReportLine (Line.Cells key cells) = IsKey key × All IsNumber cells
IsReportLine Line.End = Unit {0}

-- what these lines say, which are numbered from n
abbrev pub said_from : ℕ → ℕ → Reading → List Line → Result Report Fault
said_from events n r [] = finished n r
said_from events n r (l ∷ ls) = do
  now ← at_line n (if is_behind r.place then Err why.End else taken events r l)
  said_from events (n + 1) now ls
