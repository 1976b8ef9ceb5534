-- Names, numbers and signs as tokens have them.
use Rattle.std.specs.Prelude.{◌≡◌, ℕ, ◌^◌, ◌<◌, ◌≤◌, List, [], ◌∷◌, Bool, true, false, ◌&&◌, Option, Some, None, Result, Ok, Err, codes}
use Rattle.std.specs.List.{AllByRecursion, list_all}
use Rattle.std.specs.Str.{bytes_eq}
use Rattle.rp_base.specs.declared.refused.Refused.{Refused}
use Rattle.p4_lex.specs.declared.token.Lexeme.{Lexeme}
use Rattle.p4_lex.specs.declared.token.Lexeme.TheVariants as lexeme
use Rattle.p4_lex.specs.declared.token.Token.{Token}
use Rattle.p4_lex.specs.Letters.{begins_name, goes_on}
use Rattle.p4_lex.specs.Words.{reserved}
use Rattle.p4_reread.specs.Again.{lexemes}

-- a letter or `_`, then letters, digits and `_`
abbrev pub name_shape : List ℕ → Bool
name_shape [] = false
name_shape (c ∷ cs) = begins_name c && list_all goes_on cs

-- a name: it has the shape of one, and is neither `_` alone nor a word that can't be a name
pub record IsName (word : List ℕ) : Type 0 where
  pub shape : name_shape word ≡ true
  pub other : bytes_eq word (codes "_") ≡ false
  pub free : reserved word ≡ None

-- a number below 2^128, with a width of 1 to 128 where it has one
abbrev pub IsNumber : ℕ → Option ℕ → Type 0
IsNumber value None = value < 2 ^ 128
IsNumber value (Some width) = (value < 2 ^ 128) × (1 ≤ width) × (width ≤ 128)

-- what a token can say
abbrev pub IsLexeme : Lexeme → Type 0
IsLexeme (lexeme.Name word) = IsName word
IsLexeme (lexeme.Number value width) = IsNumber value width
IsLexeme (lexeme.Sign s) = Unit {0}

-- each is what a token can say
abbrev pub AreLexemes : List Lexeme → Type 0
AreLexemes ls = AllByRecursion IsLexeme ls

-- what the tokens that were read say, or the refusal
abbrev pub lexemes_of : Result (List Token) Refused → Result (List Lexeme) Refused
lexemes_of (Ok ts) = Ok (lexemes ts)
lexemes_of (Err e) = Err e
