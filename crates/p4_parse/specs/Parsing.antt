-- The tree of a text, or its first fault.
use Rattle.std.specs.Prelude.{◌≡◌, ℕ, ◌-◌, List, [], ◌∷◌, length, Bool, true, false, ◌||◌, ◌&&◌, Option, Some, None, Result, Ok, Err, if◌then◌else◌, nat_lt, slice_get}
use Rattle.rp_base.specs.declared.refused.Refused.{Refused}
use Rattle.rp_base.specs.declared.refused.Why.{Why}
use Rattle.rp_base.specs.declared.refused.Why.TheVariants as why
use Rattle.p4_lex.specs.declared.token.Sign.TheVariants as sign
use Rattle.p4_lex.specs.declared.token.Token.{Token}
use Rattle.p4_lex.specs.Lexing.{tokens}
use Rattle.p4_ast.specs.declared.program.P4Program.{P4Program}
use Rattle.p4_grammar.specs.Forms.{is_given}
use Rattle.p4_grammar.specs.Tokens.{name, number, one_of}
use Rattle.p4_grammar.specs.Reading.{programs_of}
use Rattle.p4_parse.specs.declared.end.ParseEnd.{ParseEnd}
use Rattle.p4_parse.specs.declared.end.ParseEnd.TheVariants as ends
use Rattle.p4_part.specs.Counting.{deep}
use Rattle.p4_part.specs.Operators.{is_binary}

-- whether a token ends an operand: a name, a number, `true`, `false`, `)` or `]`
abbrev pub ends_value : Token → Bool
ends_value t = is_given (name t) || (is_given (number t) || one_of (sign.True ∷ sign.False ∷ sign.Close ∷ sign.CloseSlice ∷ []) t)

-- the same of a token that may not be there
abbrev pub ends_some : Option Token → Bool
ends_some None = false
ends_some (Some t) = ends_value t

-- whether the token right before the last ones, which are r, ends an operand
abbrev pub before : List Token → List Token → Bool
before w r = if nat_lt (length r) (length w) then ends_some (slice_get w (length w - length r - 1)) else false

-- the cause at a refused token: whether it is an operator between two operands, right behind an operand
abbrev pub mixed : Bool → Why
mixed true = why.Mixed
mixed false = why.Unexpected

-- the fault of a text of this size, whose tokens are w and are refused at the first of r
abbrev pub fault_of : ℕ → List Token → List Token → Refused
fault_of size w [] = record { at = size; why = why.Unexpected }
fault_of size w (t ∷ r) = record { at = t.at; why = mixed (is_binary t && before w (t ∷ r)) }

-- the tree that was read, or the fault at the tokens that were left
abbrev pub read_of : ℕ → List Token → Result P4Program (List Token) → Result P4Program Refused
read_of size w (Ok t) = Ok t
read_of size w (Err r) = Err (fault_of size w r)

-- a count past its limit comes before what the grammar says
abbrev pub deep_or : Option ℕ → Result P4Program Refused → Result P4Program Refused
deep_or (Some at) read = Err (record { at = at; why = why.Deep })
deep_or None read = read

-- the tree of these tokens
abbrev pub tree_of : ℕ → List Token → Result P4Program Refused
tree_of size w = deep_or (deep w) (read_of size w (programs_of w))

-- a fault of the bytes comes before all of the tokens
abbrev pub of_tokens : ℕ → Result (List Token) Refused → Result P4Program Refused
of_tokens size (Ok w) = tree_of size w
of_tokens size (Err e) = Err e

-- the tree of a text
abbrev pub parsed : List ℕ → Result P4Program Refused
parsed text = of_tokens (length text) (tokens text)

-- What was returned is this value or this refusal, unless memory ran out.
abbrev pub Answers : {A : Type 0} → Result A ParseEnd → Result A Refused → Type 0
Answers (Ok read) right = right ≡ Ok read
Answers (Err (ends.Refused refused)) right = right ≡ Err refused
Answers (Err ends.NoMemory) right = Unit {0}
