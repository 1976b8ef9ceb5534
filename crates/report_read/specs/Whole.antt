-- A whole report: its event lines, the lines of its flows, and the last line.
use Rattle.std.specs.Prelude.{ℕ, ◌≡◌, ◌≤◌, false, List, [], ◌∷◌, ◌++◌, All}
use Rattle.key_table.specs.Table.{same_key}
use Rattle.rp_base.specs.declared.legality.Flow.{Flow}
use Rattle.rp_base.specs.declared.legality.Released.{Released}
use Rattle.rp_base.specs.declared.line.Line.{Line}

-- the number of an event line's event
abbrev pub event_of : Line → ℕ
event_of (Line.Release event mark port bytes) = event
event_of (Line.Drop event mark cause) = event
event_of (Line.Lost event cause) = event
event_of (Line.Refused event cause) = event
event_of (Line.Stranger event node) = event
event_of _ = 0

-- an event line of a report without frames
abbrev pub IsEventLine : Line → Type 0
IsEventLine (Line.Release event mark port bytes) = Unit {0}
IsEventLine (Line.Drop event mark cause) = Unit {0}
IsEventLine (Line.Lost event cause) = Unit {0}
IsEventLine (Line.Refused event cause) = Unit {0}
IsEventLine (Line.Stranger event node) = Unit {0}
IsEventLine _ = ⊥

-- event lines whose events don't fall, from this one on, and are among so many
abbrev pub AreEventLines : ℕ → ℕ → List Line → Type 0
AreEventLines events last [] = Unit {0}
AreEventLines events last (l ∷ ls) = IsEventLine l × (last ≤ event_of l) × (event_of l ≤ events) × AreEventLines events (event_of l) ls

-- what these lines release
abbrev pub releases_in : List Line → List Released
releases_in [] = []
releases_in (Line.Release event mark port bytes ∷ ls) = record { event = event; output = record { mark = mark; port = port; bytes = bytes } } ∷ releases_in ls
releases_in (l ∷ ls) = releases_in ls

-- the events that these lines refuse
abbrev pub refused_in : List Line → List ℕ
refused_in [] = []
refused_in (Line.Refused event cause ∷ ls) = event ∷ refused_in ls
refused_in (l ∷ ls) = refused_in ls

-- the lines of these flows
abbrev pub flow_lines : List Flow → List Line
flow_lines [] = []
flow_lines (f ∷ fs) = Line.Serial f.key f.marks ∷ Line.Cells f.key f.cells ∷ flow_lines fs

-- flows of which no two have one key
abbrev pub HaveKeys : List Flow → Type 0
HaveKeys [] = Unit {0}
HaveKeys (f ∷ fs) = All (λ g. same_key f.key g.key ≡ false) fs × HaveKeys fs

-- the lines of a report of these event lines and flows
abbrev pub whole_lines : List Line → List Flow → List Line
whole_lines ls fs = ls ++ (flow_lines fs ++ Line.End ∷ [])
