-- What a text is checked as.
use Rattle.std.specs.Prelude.{◌≡◌, ⊤, ℕ, false, List, Option, Some, None, Result, Ok, Err}
use Rattle.rp_base.specs.declared.refused.Refused.{Refused}
use Rattle.p4_ast.specs.declared.program.P4Program.{P4Program}
use Rattle.p4_parse.specs.Parsing.{parsed}
use Rattle.p4_check.specs.declared.end.CheckEnd.{CheckEnd}
use Rattle.p4_check.specs.declared.end.CheckEnd.TheVariants as end
use Rattle.p4_check.specs.Programs.{bad_tree, checked}
use Rattle.p4_check.specs.Checking.{CheckedProgram, IsSource}

-- the checked form of a tree, where nothing refuses it
abbrev pub unless_bad : Option Refused → P4Program → Result P4Program Refused
unless_bad None t = Ok t
unless_bad (Some f) t = Err f

-- the checked form of what a text is parsed as
abbrev pub checked_parsed : Result P4Program Refused → Result P4Program Refused
checked_parsed (Ok p) = unless_bad (bad_tree p) (checked p)
checked_parsed (Err f) = Err f

-- the checked form of the program that a text spells, or its first refusal
abbrev pub checked_of : List ℕ → Result P4Program Refused
checked_of text = checked_parsed (parsed text)

-- The answer where this is due; want of memory has none.
abbrev pub GivesChecked : Result CheckedProgram CheckEnd → Result P4Program Refused → Type 0
GivesChecked (Ok c) due = due ≡ Ok c.tree
GivesChecked (Err (end.Refused f)) due = due ≡ Err f
GivesChecked (Err end.NoMemory) due = ⊤

-- A program that was checked and not rewritten.
pub record IsChecked (c : CheckedProgram) : Type 0 where
  pub source : c.rewritten ≡ false
  pub tree : IsSource c.tree c.cells
