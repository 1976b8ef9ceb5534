-- The text of a report: each line is its words and a line feed.
use Rattle.std.specs.Prelude.{ℕ, ◌≤◌, List, [], ◌∷◌, ◌++◌, codes, decimal, flat_map}
use Rattle.hex.specs.Hex.{encode_lower}
use Rattle.rp_base.specs.declared.line.Line.{Line}
use Rattle.run_report.specs.Words.{◌␣◌, decimals, hex_text}
use Rattle.run_report.specs.Names.{node_name, drop_name, lost_name, refusal_name, kind_name}

-- the words of a line
abbrev pub line_words : Line → List ℕ
line_words (Line.Release event mark port bytes) = codes "release" ␣ decimal event ␣ decimal mark ␣ decimal port ␣ hex_text bytes
line_words (Line.Drop event mark cause) = codes "drop" ␣ decimal event ␣ decimal mark ␣ drop_name cause
line_words (Line.Lost event cause) = codes "lost" ␣ decimal event ␣ lost_name cause
line_words (Line.Refused event cause) = codes "refused" ␣ decimal event ␣ refusal_name cause
line_words (Line.Stranger event node) = codes "stranger" ␣ decimal event ␣ node_name node
line_words (Line.Send event frame from to kind bytes) =
    codes "send" ␣ decimal event ␣ decimal frame ␣ node_name from ␣ node_name to ␣ kind_name kind ␣ encode_lower bytes
line_words (Line.Serial key marks) = codes "serial" ␣ encode_lower key ++ decimals marks
line_words (Line.Epoch key epoch kept marks) =
    codes "epoch" ␣ encode_lower key ␣ decimal epoch ␣ decimal kept ++ decimals marks
line_words (Line.Cells key cells) = codes "cells" ␣ encode_lower key ++ decimals cells
line_words Line.End = codes "end"

-- the text of a line
abbrev pub line_text : Line → List ℕ
line_text l = line_words l ++ 10 ∷ []

-- the text of lines, one behind the other
abbrev pub lines_text : List Line → List ℕ
lines_text ls = flat_map line_text ls

-- the kind that a line names is one that a frame can have
abbrev pub NamesKind : Line → Type 0
NamesKind (Line.Send event frame from to kind bytes) = (1 ≤ kind) × (kind ≤ 11)
NamesKind (Line.Release event mark port bytes) = Unit {0}
NamesKind (Line.Drop event mark cause) = Unit {0}
NamesKind (Line.Lost event cause) = Unit {0}
NamesKind (Line.Refused event cause) = Unit {0}
NamesKind (Line.Stranger event node) = Unit {0}
NamesKind (Line.Serial key marks) = Unit {0}
NamesKind (Line.Epoch key epoch kept marks) = Unit {0}
NamesKind (Line.Cells key cells) = Unit {0}
NamesKind Line.End = Unit {0}
