-- Texts, and the trees and faults that the grammar gives them.
use Rattle.std.specs.Prelude.{◌≡◌, ◌⊎◌, ℕ, List, length, Some, None, Result, Ok, Err}
use Rattle.rp_base.specs.declared.refused.Refused.{Refused}
use Rattle.rp_base.specs.declared.refused.Why.TheVariants as why
use Rattle.p4_lex.specs.declared.token.Token.{Token}
use Rattle.p4_lex.specs.Lexing.{tokens}
use Rattle.p4_ast.specs.declared.program.P4Program.{P4Program}
use Rattle.p4_grammar.specs.Forms.{IsFault}
use Rattle.p4_grammar.specs.Grammar.{program}
use Rattle.p4_part.specs.Counting.{deep}
use Rattle.p4_parse.specs.declared.end.ParseEnd.{ParseEnd}
use Rattle.p4_parse.specs.declared.end.ParseEnd.TheVariants as ends
use Rattle.p4_parse.specs.Parsing.{fault_of}

-- this text has tokens that keep to the four counts, and from which the grammar derives this tree
pub record Spelled (text : List ℕ) (t : P4Program) : Type 0 where
  pub read : List Token
  pub tokens_are : tokens text ≡ Ok read
  pub shallow : deep read ≡ None
  pub derived : program t read

-- one of the four counts first passes its limit at this place
abbrev pub IsDeep : List Token → Refused → Type 0
IsDeep w fault = (at : ℕ) × (deep w ≡ Some at) × (fault ≡ record { at = at; why = why.Deep })

-- The tokens before this fault begin a program of the grammar. With the token at its place they begin none; at the text's end
-- they are none.
abbrev pub IsWrong : ℕ → List Token → Refused → Type 0
IsWrong size w fault = (rest : List Token) × (deep w ≡ None) × IsFault program w rest × (fault ≡ fault_of size w rest)

-- the first fault of a text: that of its bytes, or else a count past its limit, or else where no program goes on so
abbrev pub IsBadText : List ℕ → Refused → Type 0
IsBadText text fault = (tokens text ≡ Err fault) ⊎ ((w : List Token) × (tokens text ≡ Ok w) × (IsDeep w fault ⊎ IsWrong (length text) w fault))

-- What was returned is the tree that this text spells, or its first fault, unless memory ran out.
abbrev pub ByGrammar : List ℕ → Result P4Program ParseEnd → Type 0
ByGrammar text (Ok t) = Spelled text t
ByGrammar text (Err (ends.Refused fault)) = IsBadText text fault
ByGrammar text (Err ends.NoMemory) = Unit {0}
