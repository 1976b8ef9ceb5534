-- What tokens say, and trees that tokens spell again.
use Rattle.std.specs.Prelude.{◌≡◌, List, map, Ok}
use Rattle.std.specs.List.{Contains}
use Rattle.p4_lex.specs.declared.token.Token.{Token}
use Rattle.p4_lex.specs.declared.token.Lexeme.{Lexeme}
use Rattle.p4_lex.specs.declared.token.Lexeme.TheVariants as lexeme
use Rattle.p4_lex.specs.Lexing.{tokens}
use Rattle.p4_ast.specs.declared.program.P4Program.{P4Program}
use Rattle.p4_ast.specs.BareProgram.{SameTree}
use Rattle.p4_print.specs.Programs.{canon}
use Rattle.p4_grammar.specs.Grammar.{program}
use Rattle.p4_grammar.specs.Reading.{programs_of}

-- the lexemes of these tokens
abbrev pub lexemes : List Token → List Lexeme
lexemes tokens = map (λ t. t.lexeme) tokens

-- these tokens spell this tree, wherever its nodes stand
abbrev pub SpellAgain : P4Program → List Token → Type 0
SpellAgain t v = (s : P4Program) × program s v × SameTree s t

-- a sign or a word that can't be a name, or one of these names and numbers
abbrev pub ComesOf : List Lexeme → Lexeme → Type 0
ComesOf ls (lexeme.Sign s) = Unit {0}
ComesOf ls (lexeme.Name text) = Contains ls (lexeme.Name text)
ComesOf ls (lexeme.Number value width) = Contains ls (lexeme.Number value width)

-- the canonical text of this tree has tokens, and these are read as the tree, wherever its nodes stand
abbrev pub ReadAgain : P4Program → Type 0
ReadAgain t = (v : List Token) × (s : P4Program) × (tokens (canon t) ≡ Ok v) × (programs_of v ≡ Ok s) × SameTree s t
