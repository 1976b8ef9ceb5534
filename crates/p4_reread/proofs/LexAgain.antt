-- Canonical text is read as what it was written from.
use Rattle.std.proofs.Common.{◌≡◌, ℕ, suc, ◌+◌, ◌-◌, ◌≤◌, List, [], ◌∷◌, ◌++◌, length, Bool, true, false, Result, Ok, Err, nat_lt, refl, ap, ◌∙◌, append_assoc, arith}
use Rattle.std.proofs.lemmas.Bool.Decides.{nat_tests}
use Rattle.rp_base.specs.declared.refused.Refused.{Refused}
use Rattle.p4_lex.specs.declared.front.Front.{Front}
use Rattle.p4_lex.specs.declared.token.Lexeme.{Lexeme}
use Rattle.p4_lex.specs.declared.token.Lexeme.TheVariants as lexeme
use Rattle.p4_lex.specs.declared.token.Token.{Token}
use Rattle.p4_lex.specs.Spelling.{spelling}
use Rattle.p4_lex.specs.Lexing.{◌>>=◌, directive, front, token_of, tokens_from, tokens, longest}
use Rattle.p4_print.specs.Text.{behind, number_text, piece, text}
use Rattle.p4_print.specs.Programs.{includes}
use Rattle.p4_reread.specs.Lexemes.{IsLexeme, AreLexemes, lexemes_of}
use Rattle.p4_reread.specs.Again.{lexemes}
use Rattle.p4_reread.proofs.LexWords.{Spells, nothing-before, name-spells, number-spells}
use Rattle.p4_reread.proofs.LexSigns.{sign-spells}

-- one more in front
abbrev with_first : Lexeme → Result (List Lexeme) Refused → Result (List Lexeme) Refused
with_first l (Ok ls) = Ok (l ∷ ls)
with_first l (Err e) = Err e

token-before : (t : Token) (read : Result (List Token) Refused) → lexemes_of (read >>= λ more. Ok (t ∷ more)) ≡ with_first t.lexeme (lexemes_of read)
token-before t (Ok ts) = refl
token-before t (Err e) = refl

-- from anywhere on, this is what these bytes are read as
abbrev ReadAs : List ℕ → Result (List Lexeme) Refused → Type 0
ReadAs bytes what = (at : ℕ) (fresh : Bool) → lexemes_of (tokens_from 0 at fresh bytes) ≡ what

skipped : (xs ys : List ℕ) (what : Result (List Lexeme) Refused) → ReadAs ys what → (at : ℕ) (fresh : Bool) → lexemes_of (tokens_from (length xs) at fresh (xs ++ ys)) ≡ what
unfolding tokens_from
skipped [] ys what h at fresh = h at fresh
skipped (x ∷ xs) ys what h at fresh = skipped xs ys what h (at + 1) fresh

-- what is read where the bytes begin with this
abbrev then_read : ℕ → List ℕ → Result Front Refused → Result (List Token) Refused
then_read at rest read = read >>= λ f. tokens_from (f.size - 1) (at + 1) f.fresh rest >>= λ more. Ok (token_of at f.size f.lexeme ++ more)

from-front : (at : ℕ) (fresh : Bool) (c : ℕ) (cs : List ℕ) → tokens_from 0 at fresh (c ∷ cs) ≡ then_read at cs (front at fresh c (c ∷ cs))
unfolding tokens_from
from-front at fresh c cs = refl

word-again : (word gap rest : List ℕ) (l : Lexeme) (ls : List Lexeme) → Spells word gap l → ReadAs rest (Ok ls) → ReadAs (word ++ (gap ++ rest)) (Ok (l ∷ ls))
word-again [] gap rest l ls s h at fresh = absurd (s.reads rest at fresh)
word-again (c ∷ cs) gap rest l ls s h at fresh =
    let more : List ℕ = cs ++ (gap ++ rest) in
    let size : suc (length cs) - 1 ≡ length cs = omega arith in
    ap lexemes_of (from-front at fresh c more ∙ ap (then_read at more) (s.reads rest at fresh))
    ∙ token-before (record { at = at; end = at + suc (length cs); lexeme = l }) (tokens_from (suc (length cs) - 1) (at + 1) false more)
    ∙ ap (λ n. with_first l (lexemes_of (tokens_from n (at + 1) false more))) size
    ∙ ap (with_first l) (skipped cs (gap ++ rest) (Ok ls) (s.ends.behind rest (Ok ls) h) (at + 1) false)

spelled-again : (word gap rest : List ℕ) (l : Lexeme) (ls : List Lexeme) → Spells word gap l → ReadAs rest (Ok ls) → ReadAs ((word ++ gap) ++ rest) (Ok (l ∷ ls))
spelled-again word gap rest l ls s h at fresh = ap (λ bytes. lexemes_of (tokens_from 0 at fresh bytes)) (append_assoc word gap rest) ∙ word-again word gap rest l ls s h at fresh

piece-again : (l : Lexeme) (rest : List ℕ) (ls : List Lexeme) → IsLexeme l → ReadAs rest (Ok ls) → ReadAs (piece l ++ rest) (Ok (l ∷ ls))
piece-again (lexeme.Name word) rest ls is h = spelled-again word (32 ∷ []) rest (lexeme.Name word) ls (name-spells word is) h
piece-again (lexeme.Number value width) rest ls is h = spelled-again (number_text value width) (32 ∷ []) rest (lexeme.Number value width) ls (number-spells value width is) h
piece-again (lexeme.Sign s) rest ls is h = spelled-again (spelling s) (behind s) rest (lexeme.Sign s) ls (sign-spells s) h

text-again : (ls : List Lexeme) → AreLexemes ls → ReadAs (text ls) (Ok ls)
unfolding text tokens_from
text-again [] h at fresh = refl
text-again (l ∷ ls) h at fresh = piece-again l (text ls) ls h.0 (text-again ls h.1) at fresh

-- the include lines are passed over
included : (rest : List ℕ) (what : Result (List Lexeme) Refused) → ReadAs rest what → lexemes_of (tokens_from 0 0 true (includes ++ rest)) ≡ what
unfolding tokens_from front directive
included rest what h = nothing-before _ what (nothing-before _ what (nothing-before _ what (nothing-before _ what (h _ true))))

short-again : (bytes : List ℕ) (what : Result (List Lexeme) Refused) → length bytes ≤ longest → lexemes_of (tokens_from 0 0 true bytes) ≡ what → lexemes_of (tokens bytes) ≡ what
short-again bytes what short h = let fits : nat_lt longest (length bytes) ≡ false = grind (arith, nat_tests) in rw fits h

-- the canonical text of lexemes is read as these
pub canonical-again : (ls : List Lexeme) → AreLexemes ls → length (includes ++ text ls) ≤ longest → lexemes_of (tokens (includes ++ text ls)) ≡ Ok ls
canonical-again ls are short = short-again (includes ++ text ls) (Ok ls) short (included (text ls) (Ok ls) (text-again ls are))

abbrev ok_or_none : List Lexeme → Result (List Lexeme) Refused → List Lexeme
ok_or_none ls (Ok ms) = ms
ok_or_none ls (Err e) = ls

of-tokens : (read : Result (List Token) Refused) (ls : List Lexeme) → lexemes_of read ≡ Ok ls → (ts : List Token) × (read ≡ Ok ts) × (lexemes ts ≡ ls)
of-tokens (Ok ts) ls h = (ts, refl, ap (ok_or_none ls) h)
of-tokens (Err e) ls h = absurd cc

-- the same, with the tokens
pub canonical-tokens : (ls : List Lexeme) → AreLexemes ls → length (includes ++ text ls) ≤ longest → (ts : List Token) × (tokens (includes ++ text ls) ≡ Ok ts) × (lexemes ts ≡ ls)
canonical-tokens ls are short = of-tokens (tokens (includes ++ text ls)) ls (canonical-again ls are short)
