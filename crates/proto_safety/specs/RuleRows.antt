-- Reports of the counting application in which one rule fails, and one in which none does.
use Rattle.std.specs.Prelude.{ℕ, List, [], ◌∷◌}
use Rattle.rp_base.specs.declared.event.Event.{Event}
use Rattle.rp_base.specs.declared.event.Event.TheVariants.{Feed, Next}
use Rattle.rp_base.specs.declared.event.Refusal.{Refusal}
use Rattle.rp_base.specs.declared.line.Line.{Line}

-- one packet over one replica
abbrev pub fed_first : List Event
fed_first = Feed 7 (97 ∷ 33 ∷ []) ∷ Next ∷ Next ∷ Next ∷ Next ∷ []

-- the output of a packet at this count
abbrev pub count_of : ℕ → List ℕ
count_of n = 0 ∷ 0 ∷ 0 ∷ 0 ∷ 0 ∷ 0 ∷ 0 ∷ n ∷ 97 ∷ 33 ∷ []

-- the lines behind the release, with these cells
abbrev pub ends_with : ℕ → ℕ → List Line
ends_with mark count = Line.Serial (97 ∷ []) (mark ∷ []) ∷ Line.Cells (97 ∷ []) (count ∷ []) ∷ Line.End ∷ []

abbrev pub right_lines : List Line
right_lines = Line.Release 5 1 7 (count_of 1) ∷ ends_with 1 1

-- the packet of the list was refused
abbrev pub refused_lines : List Line
refused_lines = Line.Refused 1 Refusal.Dead ∷ right_lines

-- the output is that of a second packet
abbrev pub wrong_output : List Line
wrong_output = Line.Release 5 1 7 (count_of 2) ∷ ends_with 1 1

-- the packet is fed at the second event, and its output released at the first
abbrev pub fed_second : List Event
fed_second = Next ∷ Feed 7 (97 ∷ 33 ∷ []) ∷ []

abbrev pub early_lines : List Line
early_lines = Line.Release 1 2 7 (count_of 1) ∷ ends_with 2 1

-- the cells are those after two packets
abbrev pub wrong_cells : List Line
wrong_cells = Line.Release 5 1 7 (count_of 1) ∷ ends_with 1 2

-- a packet without a key has no output
abbrev pub fed_keyless : List Event
fed_keyless = Feed 7 [] ∷ []

abbrev pub keyless_lines : List Line
keyless_lines = Line.Release 1 1 7 [] ∷ Line.End ∷ []
