-- What a written piece begins with: a whole token, and then a blank or a line feed.
use Rattle.std.proofs.Common.{◌≡◌, ℕ, suc, ◌+◌, ◌≤◌, List, [], ◌∷◌, ◌++◌, length, take, Bool, true, false, Option, Some, None, Result, Ok, Err, nat_eq, refl, sym, ap, ◌∙◌, true≢false, arith}
use Rattle.std.specs.Prelude.{if◌then◌else◌, ◌&&◌, decimal}
use Rattle.std.specs.List.{prefix_len, list_all}
use Rattle.std.specs.Char.{is_ascii_digit}
use Rattle.std.proofs.Math.Seq.{take-append_seam}
use Rattle.std.proofs.lemmas.Bool.{and_parts, and_from, or_left, or_right}
use Rattle.std.proofs.lemmas.List.{append-nil}
use Rattle.std.proofs.lemmas.List.Folds.{list_all-append}
use Rattle.std.proofs.lemmas.Bool.Decides.{nat_tests}
use Rattle.rp_base.specs.declared.refused.Refused.{Refused}
use Rattle.p4_lex.specs.declared.front.Front.{Front}
use Rattle.p4_lex.specs.declared.token.Lexeme.{Lexeme}
use Rattle.p4_lex.specs.declared.token.Lexeme.TheVariants as lexeme
use Rattle.p4_lex.specs.declared.token.Token.{Token}
use Rattle.p4_lex.specs.Letters.{begins_name, goes_on}
use Rattle.p4_lex.specs.Numbers.{number}
use Rattle.p4_lex.specs.Signs.{sign_at}
use Rattle.p4_lex.specs.Lexing.{◌>>=◌, piece, number_piece, word_piece, sign_piece, front, tokens_from}
use Rattle.p4_print.specs.Text.{number_text}
use Rattle.p4_reread.specs.Lexemes.{IsName, IsNumber, lexemes_of}
use Rattle.p4_reread.proofs.LexDigits.{Writes, decimal-writes, number-again, all-stops, all-weaker}

-- Before any more, this word is read as a token that says this.
abbrev pub Reads : ℕ → Bool → List ℕ → List ℕ → Lexeme → Type 0
Reads at fresh [] rest l = ⊥
Reads at fresh (c ∷ cs) rest l = front at fresh c (c ∷ (cs ++ rest)) ≡ piece (suc (length cs)) l

-- what stands behind a word separates tokens, whatever these are
pub record Separates (gap : List ℕ) : Type 0 where
  pub behind : (rest : List ℕ) (what : Result (List Lexeme) Refused) → ((at : ℕ) (fresh : Bool) → lexemes_of (tokens_from 0 at fresh rest) ≡ what)
      → (at : ℕ) (fresh : Bool) → lexemes_of (tokens_from 0 at fresh (gap ++ rest)) ≡ what

-- a word and what stands behind it are read as one token
pub record Spells (word gap : List ℕ) (l : Lexeme) : Type 0 where
  pub reads : (rest : List ℕ) (at : ℕ) (fresh : Bool) → Reads at fresh word (gap ++ rest) l
  pub ends : Separates gap

pub nothing-before : (read : Result (List Token) Refused) (what : Result (List Lexeme) Refused) → lexemes_of read ≡ what → lexemes_of (read >>= λ more. Ok ([] ++ more)) ≡ what
nothing-before (Ok ts) what h = h
nothing-before (Err e) what h = h

pub blank : Separates (32 ∷ [])
unfolding tokens_from front
blank = record { behind = λ rest what h at fresh. nothing-before (tokens_from 0 (at + 1) fresh rest) what (h (at + 1) fresh) }

pub line_feed : Separates (10 ∷ [])
unfolding tokens_from front
line_feed = record { behind = λ rest what h at fresh. nothing-before (tokens_from 0 (at + 1) true rest) what (h (at + 1) true) }

-- words

not_fresh : (fresh : Bool) (c : ℕ) → nat_eq c 35 ≡ false → (fresh && nat_eq c 35) ≡ false
not_fresh true c h = h
not_fresh false c h = refl

-- what a word of so many bytes is read as, by what its first byte is
abbrev by_first : ℕ → List ℕ → Bool → Bool → ℕ → List ℕ → Result Front Refused
by_first at bytes digit letter size word = if digit then number_piece at size (number word) else (if letter then word_piece word else sign_piece at (sign_at bytes))

word-front : (at : ℕ) (fresh : Bool) (c : ℕ) (cs : List ℕ) → 48 ≤ c
    → front at fresh c (c ∷ cs) ≡ by_first at (c ∷ cs) (is_ascii_digit c) (begins_name c) (prefix_len goes_on (c ∷ cs)) (take (prefix_len goes_on (c ∷ cs)) (c ∷ cs))
unfolding front
word-front at fresh c cs h =
    let space : nat_eq c 32 ≡ false = grind (arith, nat_tests) in
    let tab : nat_eq c 9 ≡ false = grind (arith, nat_tests) in
    let line : nat_eq c 10 ≡ false = grind (arith, nat_tests) in
    let hash : nat_eq c 35 ≡ false = grind (arith, nat_tests) in
    let slash : nat_eq 47 c ≡ false = grind (arith, nat_tests) in
    rw (space, tab, line, not_fresh fresh c hash, slash) refl

letter-high : (c : ℕ) → begins_name c ≡ true → 58 ≤ c
letter-high c h = grind (arith, nat_tests)

digit-high : (c : ℕ) → is_ascii_digit c ≡ true → 48 ≤ c
digit-high c h = grind (arith, nat_tests)

no-digit : (c : ℕ) → 58 ≤ c → is_ascii_digit c ≡ false
no-digit c h = grind (arith, nat_tests)

digit-goes_on : (c : ℕ) → is_ascii_digit c ≡ true → goes_on c ≡ true
digit-goes_on c h = or_right (begins_name c) (is_ascii_digit c) h

-- a word ends before a blank
whole-front : (at : ℕ) (fresh : Bool) (c : ℕ) (cs rest : List ℕ) → 48 ≤ c → list_all goes_on (c ∷ cs) ≡ true
    → front at fresh c (c ∷ (cs ++ 32 ∷ rest)) ≡ by_first at (c ∷ (cs ++ 32 ∷ rest)) (is_ascii_digit c) (begins_name c) (suc (length cs)) (c ∷ cs)
whole-front at fresh c cs rest high all =
    let bytes : List ℕ = c ∷ (cs ++ 32 ∷ rest) in
    let size : prefix_len goes_on bytes ≡ suc (length cs) = all-stops goes_on (c ∷ cs) 32 rest all refl in
    let word : take (suc (length cs)) bytes ≡ c ∷ cs = take-append_seam (c ∷ cs) (32 ∷ rest) in
    word-front at fresh c (cs ++ 32 ∷ rest) high
    ∙ ap (λ n. by_first at bytes (is_ascii_digit c) (begins_name c) n (take n bytes)) size
    ∙ ap (λ w. by_first at bytes (is_ascii_digit c) (begins_name c) (suc (length cs)) w) word

named-piece : (word : List ℕ) → IsName word → word_piece word ≡ piece (length word) (lexeme.Name word)
unfolding word_piece
named-piece word h = rw (h.other, h.free) refl

name-reads : (at : ℕ) (fresh : Bool) (word rest : List ℕ) → IsName word → Reads at fresh word (32 ∷ rest) (lexeme.Name word)
name-reads at fresh [] rest h = absurd (true≢false (sym h.shape))
name-reads at fresh (c ∷ cs) rest h =
    let bytes : List ℕ = c ∷ (cs ++ 32 ∷ rest) in
    let shape = and_parts (begins_name c) (list_all goes_on cs) h.shape in
    let high : 58 ≤ c = letter-high c shape.0 in
    whole-front at fresh c cs rest (omega arith) (and_from (goes_on c) (list_all goes_on cs) (or_left (begins_name c) (is_ascii_digit c) shape.0) shape.1)
    ∙ ap (λ b. by_first at bytes b (begins_name c) (suc (length cs)) (c ∷ cs)) (no-digit c high)
    ∙ ap (λ b. by_first at bytes false b (suc (length cs)) (c ∷ cs)) shape.0
    ∙ named-piece (c ∷ cs) h

pub name-spells : (word : List ℕ) → IsName word → Spells word (32 ∷ []) (lexeme.Name word)
name-spells word h = record { reads = λ rest at fresh. name-reads at fresh word rest h; ends = blank }

abbrev begins_so : (ℕ → Bool) → List ℕ → Bool
begins_so p [] = false
begins_so p (c ∷ cs) = p c

-- a word that begins with a digit and spells a number
number-reads : (at : ℕ) (fresh : Bool) (word rest : List ℕ) (value : ℕ) (width : Option ℕ) → begins_so is_ascii_digit word ≡ true → list_all goes_on word ≡ true → number word ≡ Some (value, width) → Reads at fresh word (32 ∷ rest) (lexeme.Number value width)
number-reads at fresh [] rest value width first all is = absurd (true≢false (sym first))
number-reads at fresh (c ∷ cs) rest value width first all is =
    let bytes : List ℕ = c ∷ (cs ++ 32 ∷ rest) in
    whole-front at fresh c cs rest (digit-high c first) all
    ∙ ap (λ b. by_first at bytes b (begins_name c) (suc (length cs)) (c ∷ cs)) first
    ∙ ap (number_piece at (suc (length cs))) is

begins-digits : (ds more : List ℕ) → list_all is_ascii_digit ds ≡ true → 1 ≤ length ds → begins_so is_ascii_digit (ds ++ more) ≡ true
begins-digits [] more h some = absurd (omega arith)
begins-digits (c ∷ cs) more h some = (and_parts (is_ascii_digit c) (list_all is_ascii_digit cs) h).0

digits-go_on : (ds : List ℕ) → list_all is_ascii_digit ds ≡ true → list_all goes_on ds ≡ true
digits-go_on = all-weaker is_ascii_digit goes_on digit-goes_on

number-reads-so : (at : ℕ) (fresh : Bool) (rest : List ℕ) (value : ℕ) (width : Option ℕ) → IsNumber value width → Reads at fresh (number_text value width) (32 ∷ rest) (lexeme.Number value width)
number-reads-so at fresh rest value None h =
    let w : Writes value (decimal value) = decimal-writes value h in
    let first : begins_so is_ascii_digit (decimal value) ≡ true = ap (begins_so is_ascii_digit) (sym (append-nil (decimal value))) ∙ begins-digits (decimal value) [] w.digits w.some in
    number-reads at fresh (decimal value) rest value None first (digits-go_on (decimal value) w.digits) (number-again value None h)
number-reads-so at fresh rest value (Some width) h =
    let v : Writes value (decimal value) = decimal-writes value h.0 in
    let w : Writes width (decimal width) = decimal-writes width (omega (arith, h.2)) in
    number-reads at fresh (decimal width ++ 119 ∷ decimal value) rest value (Some width) (begins-digits (decimal width) (119 ∷ decimal value) w.digits w.some)
    (list_all-append goes_on (decimal width) (119 ∷ decimal value) ∙ and_from _ _ (digits-go_on (decimal width) w.digits) (digits-go_on (decimal value) v.digits))
    (number-again value (Some width) h)

pub number-spells : (value : ℕ) (width : Option ℕ) → IsNumber value width → Spells (number_text value width) (32 ∷ []) (lexeme.Number value width)
number-spells value width h = record { reads = λ rest at fresh. number-reads-so at fresh rest value width h; ends = blank }
