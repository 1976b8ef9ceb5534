-- Canonical texts, and the trees that they are parsed as.
use Rattle.std.specs.Prelude.{◌≡◌, ℕ, List, None, Ok, IfOk}
use Rattle.p4_lex.specs.Lexing.{tokens}
use Rattle.p4_ast.specs.declared.program.P4Program.{P4Program}
use Rattle.p4_ast.specs.BareProgram.{SameTree}
use Rattle.p4_print.specs.Programs.{canon}
use Rattle.p4_part.specs.Counting.{deep}
use Rattle.p4_parse.specs.Parsing.{parsed}

-- the tokens of this text keep to the four counts
abbrev pub IsShallow : List ℕ → Type 0
IsShallow text = IfOk (tokens text) (λ read. deep read ≡ None)

-- the canonical text of this tree is parsed as the tree, wherever its nodes stand
abbrev pub ParsedAgain : P4Program → Type 0
ParsedAgain t = (s : P4Program) × (parsed (canon t) ≡ Ok s) × SameTree s t
