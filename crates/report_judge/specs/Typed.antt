-- Which values a line of the program has, by their types.
use Rattle.std.specs.Prelude.{◌<◌, All}
use Rattle.hex.specs.Hex.{IsBytes}
use Rattle.rp_base.specs.declared.line.Line.{Line}
use Rattle.report_read.specs.Printed.{IsKey, IsNumber}

-- numbers of 64 bits, a port of 16, bytes, and a key of 1 to 16 of them
abbrev pub IsTyped : Line → Type 0
IsTyped (Line.Release event mark port bytes) = IsNumber event × IsNumber mark × (port < 65536) × IsBytes bytes
IsTyped (Line.Drop event mark cause) = IsNumber event × IsNumber mark
IsTyped (Line.Lost event cause) = IsNumber event
IsTyped (Line.Refused event cause) = IsNumber event
IsTyped (Line.Stranger event node) = IsNumber event
IsTyped (Line.Send event frame from to kind bytes) = IsNumber event × IsNumber frame × (kind < 256) × IsBytes bytes
IsTyped (Line.Serial key marks) = IsKey key × All IsNumber marks
IsTyped (Line.Epoch key epoch kept marks) = IsKey key × IsNumber epoch × IsNumber kept × All IsNumber marks
IsTyped (Line.Cells key cells) = IsKey key × All IsNumber cells
IsTyped Line.End = Unit {0}
