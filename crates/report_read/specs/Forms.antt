-- The forms of report lines without frames, by their first words.
use Rattle.std.specs.Prelude.{ℕ, if◌then◌else◌, List, [], Result, Ok, Err, codes, bytes_eq}
use Rattle.rp_base.specs.declared.line.Line.{Line}
use Rattle.report_read.specs.declared.report.ReportWhy.{ReportWhy}
use Rattle.report_read.specs.declared.report.ReportWhy.TheVariants as why
use Rattle.report_read.specs.Words.{◌>>=◌, words, next_word, no_more}
use Rattle.report_read.specs.Values.{number, port, numbers_after, key, output, node, drop_cause, lost_cause, refusal}

-- the next word, by what it says, and the words behind it
abbrev pub word_by : {A : Type 0} → (List ℕ → Result A ReportWhy) → List (List ℕ) → Result (A × List (List ℕ)) ReportWhy
word_by says ws = do
  word ← next_word ws
  x ← says word.0
  Ok (x, word.1)

-- the last word, by what it says
abbrev pub last_by : {A : Type 0} → (List ℕ → Result A ReportWhy) → List (List ℕ) → Result A ReportWhy
last_by says ws = do
  x ← word_by says ws
  end ← no_more x.1
  Ok x.0

-- `release EVENT MARK PORT HEX`
abbrev pub release : List (List ℕ) → Result Line ReportWhy
release ws = do
  event ← word_by number ws
  mark ← word_by number event.1
  to ← word_by port mark.1
  bytes ← last_by output to.1
  Ok (Line.Release event.0 mark.0 to.0 bytes)

-- `drop EVENT MARK CAUSE`
abbrev pub dropped : List (List ℕ) → Result Line ReportWhy
dropped ws = do
  event ← word_by number ws
  mark ← word_by number event.1
  cause ← last_by drop_cause mark.1
  Ok (Line.Drop event.0 mark.0 cause)

-- `lost EVENT CAUSE`
abbrev pub lost : List (List ℕ) → Result Line ReportWhy
lost ws = do
  event ← word_by number ws
  cause ← last_by lost_cause event.1
  Ok (Line.Lost event.0 cause)

-- `refused EVENT CAUSE`
abbrev pub refused : List (List ℕ) → Result Line ReportWhy
refused ws = do
  event ← word_by number ws
  cause ← last_by refusal event.1
  Ok (Line.Refused event.0 cause)

-- `stranger EVENT NODE`
abbrev pub stranger : List (List ℕ) → Result Line ReportWhy
stranger ws = do
  event ← word_by number ws
  to ← last_by node event.1
  Ok (Line.Stranger event.0 to)

-- `serial KEY MARKS`
abbrev pub serial : List (List ℕ) → Result Line ReportWhy
serial ws = do
  flow ← word_by key ws
  marks ← numbers_after [] flow.1
  Ok (Line.Serial flow.0 marks)

-- `cells KEY VALUES`
abbrev pub cells : List (List ℕ) → Result Line ReportWhy
cells ws = do
  flow ← word_by key ws
  values ← numbers_after [] flow.1
  Ok (Line.Cells flow.0 values)

-- `end`
abbrev pub end_of : List (List ℕ) → Result Line ReportWhy
end_of ws = do
  end ← no_more ws
  Ok Line.End

-- a line of a flow, or the last line
abbrev pub flow_line : List ℕ → List (List ℕ) → Result Line ReportWhy
flow_line name ws =
    if bytes_eq name (codes "serial") then serial ws
    else if bytes_eq name (codes "cells") then cells ws
    else if bytes_eq name (codes "end") then end_of ws
    else Err why.Form

-- a line by its first word and the words behind it
abbrev pub line_by : List ℕ → List (List ℕ) → Result Line ReportWhy
line_by name ws =
    if bytes_eq name (codes "release") then release ws
    else if bytes_eq name (codes "drop") then dropped ws
    else if bytes_eq name (codes "lost") then lost ws
    else if bytes_eq name (codes "refused") then refused ws
    else if bytes_eq name (codes "stranger") then stranger ws
    else flow_line name ws

-- the line of a text
abbrev pub line_of : List ℕ → Result Line ReportWhy
line_of text = do
  word ← next_word (words text)
  line_by word.0 word.1
