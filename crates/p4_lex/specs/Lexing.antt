-- The tokens of a text, and the first place that none begins at.
use Rattle.std.specs.Prelude.{◌≡◌, ℕ, zero, suc, ◌+◌, ◌-◌, ◌<◌, ◌≤◌, List, [], ◌∷◌, ◌++◌, length, take, drop, Bool, true, false, ◌||◌, ◌&&◌, Option, Some, None, Result, Ok, Err, if◌then◌else◌, nat_eq, nat_lt, option_map, codes}
use Rattle.std.specs.List.{starts_with, prefix_len}
use Rattle.std.specs.Char.{is_ascii_digit}
use Rattle.std.specs.Str.{bytes_eq}
use Rattle.rp_base.specs.declared.refused.Refused.{Refused}
use Rattle.rp_base.specs.declared.refused.Why.{Why}
use Rattle.rp_base.specs.declared.refused.Why.TheVariants as why
use Rattle.p4_lex.specs.declared.token.Sign.{Sign}
use Rattle.p4_lex.specs.declared.token.Sign.TheVariants as sign
use Rattle.p4_lex.specs.declared.token.Lexeme.{Lexeme}
use Rattle.p4_lex.specs.declared.token.Lexeme.TheVariants as lexeme
use Rattle.p4_lex.specs.declared.token.Token.{Token}
use Rattle.p4_lex.specs.declared.end.LexEnd.{LexEnd}
use Rattle.p4_lex.specs.declared.end.LexEnd.TheVariants as ends
use Rattle.p4_lex.specs.declared.front.Front.{Front}
use Rattle.p4_lex.specs.Letters.{is_blank, begins_name, goes_on, in_line}
use Rattle.p4_lex.specs.Numbers.{number}
use Rattle.p4_lex.specs.Words.{reserved}
use Rattle.p4_lex.specs.Signs.{sign_at}

infixl 10 ◌>>=◌
abbrev pub ◌>>=◌ : {A B : Type 0} → Result A Refused → (A → Result B Refused) → Result B Refused
(Ok x) >>= f = f x
(Err e) >>= f = Err e

-- so many bytes that separate tokens
abbrev pub gap : ℕ → Bool → Result Front Refused
gap size fresh = Ok (record { size = size; fresh = fresh; lexeme = None })

-- a token of so many bytes
abbrev pub piece : ℕ → Lexeme → Result Front Refused
piece size what = Ok (record { size = size; fresh = false; lexeme = Some what })

-- no token begins at this place
abbrev pub fault : ℕ → Why → Result Front Refused
fault at why = Err (record { at = at; why = why })

-- a preprocessor line, which is no token
unfoldable pub directive : ℕ → List ℕ → Result Front Refused
directive at line =
    if bytes_eq line (codes "#include <core.p4>") || bytes_eq line (codes "#include <rp.p4>") then gap (length line) false
    else fault at why.Directive

-- the bytes up to and with the first `*/`
abbrev pub comment_len : List ℕ → Option ℕ
comment_len [] = None
comment_len (c ∷ cs) = if starts_with nat_eq (c ∷ cs) (codes "*/") then Some 2 else option_map (λ n. n + 1) (comment_len cs)

-- a comment, where `*/` ends it so many bytes behind `/*`
abbrev pub comment : ℕ → Option ℕ → Result Front Refused
comment at None = fault at why.OpenComment
comment at (Some n) = gap (n + 2) false

-- a number of so many bytes, where they spell one
abbrev pub number_piece : ℕ → ℕ → Option (ℕ × Option ℕ) → Result Front Refused
number_piece at size None = fault at why.BadNumber
number_piece at size (Some n) = piece size (lexeme.Number n.0 n.1)

-- a reserved word, or a name
abbrev pub word_lexeme : List ℕ → Option Sign → Lexeme
word_lexeme word (Some s) = lexeme.Sign s
word_lexeme word None = lexeme.Name word

-- `_`, a reserved word or a name
unfoldable pub word_piece : List ℕ → Result Front Refused
word_piece word = piece (length word) (if bytes_eq word (codes "_") then lexeme.Sign sign.Any else word_lexeme word (reserved word))

-- a sign, where one begins here
abbrev pub sign_piece : ℕ → Option (Sign × ℕ) → Result Front Refused
sign_piece at None = fault at why.BadByte
sign_piece at (Some s) = piece s.1 (lexeme.Sign s.0)

-- What the bytes begin with: c and more. They stand at the place `at`; `fresh` says that only blanks stand before them in their line, and that
-- the line doesn't begin inside a comment.
unfoldable pub front : ℕ → Bool → ℕ → List ℕ → Result Front Refused
front at fresh c bytes =
    if is_blank c then gap 1 fresh
    else (if nat_eq c 10 then gap 1 true
    else (if fresh && nat_eq c 35 then directive at (take (prefix_len in_line bytes) bytes)
    else (if starts_with nat_eq bytes (codes "//") then gap (prefix_len in_line bytes) false
    else (if starts_with nat_eq bytes (codes "/*") then comment at (comment_len (drop 2 bytes))
    else (if is_ascii_digit c then number_piece at (prefix_len goes_on bytes) (number (take (prefix_len goes_on bytes) bytes))
    else (if begins_name c then word_piece (take (prefix_len goes_on bytes) bytes)
    else sign_piece at (sign_at bytes)))))))

-- the token that begins at this place, where one does
abbrev pub token_of : ℕ → ℕ → Option Lexeme → List Token
token_of at size None = []
token_of at size (Some what) = record { at = at; end = at + size; lexeme = what } ∷ []

-- The tokens from a place on. The first `skip` bytes belong to the token or the gap before it.
unfoldable pub tokens_from : ℕ → ℕ → Bool → List ℕ → Result (List Token) Refused
tokens_from skip at fresh [] = Ok []
tokens_from (suc skip) at fresh (c ∷ cs) = tokens_from skip (at + 1) fresh cs
tokens_from zero at fresh (c ∷ cs) =
    front at fresh c (c ∷ cs) >>= λ f. tokens_from (f.size - 1) (at + 1) f.fresh cs >>= λ more. Ok (token_of at f.size f.lexeme ++ more)

-- the most bytes that a text may have
abbrev pub longest : ℕ
longest = 262144

-- the tokens of a text, or the first fault with its place
abbrev pub tokens : List ℕ → Result (List Token) Refused
tokens text = if nat_lt longest (length text) then Err (record { at = 0; why = why.TooLong }) else tokens_from 0 0 true text

-- What was returned is this value or this refusal, unless memory ran out.
abbrev pub Answers : {A : Type 0} → Result A LexEnd → Result A Refused → Type 0
Answers (Ok read) right = right ≡ Ok read
Answers (Err (ends.Refused refused)) right = right ≡ Err refused
Answers (Err ends.NoMemory) right = Unit {0}

-- Each token has a byte at least, none begins before the one in front of it ends, and all are within the text.
abbrev pub Rise : ℕ → List Token → ℕ → Type 0
Rise from [] size = from ≤ size
Rise from (t ∷ ts) size = (from ≤ t.at) × (t.at < t.end) × Rise t.end ts size
