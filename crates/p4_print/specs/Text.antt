-- Tokens as canonical text.
use Rattle.std.specs.Prelude.{ℕ, List, [], ◌∷◌, ◌++◌, Option, Some, None, decimal}
use Rattle.p4_lex.specs.declared.token.Sign.{Sign}
use Rattle.p4_lex.specs.declared.token.Sign.TheVariants as sign
use Rattle.p4_lex.specs.declared.token.Lexeme.{Lexeme}
use Rattle.p4_lex.specs.declared.token.Lexeme.TheVariants as lexeme
use Rattle.p4_lex.specs.Spelling.{spelling}

-- what follows a sign: a line feed behind `;`, `{` and `}`, and otherwise a blank
abbrev pub behind : Sign → List ℕ
behind sign.Semicolon = 10 ∷ []
behind sign.OpenBrace = 10 ∷ []
behind sign.CloseBrace = 10 ∷ []
behind s = 32 ∷ []

-- a number, with its width where it has one
abbrev pub number_text : ℕ → Option ℕ → List ℕ
number_text value None = decimal value
number_text value (Some width) = decimal width ++ 119 ∷ decimal value

-- a token, with what follows it
abbrev pub piece : Lexeme → List ℕ
piece (lexeme.Name name) = name ++ 32 ∷ []
piece (lexeme.Number value width) = number_text value width ++ 32 ∷ []
piece (lexeme.Sign s) = spelling s ++ behind s

unfoldable pub text : List Lexeme → List ℕ
text [] = []
text (l ∷ ls) = piece l ++ text ls
