-- Reading on behind what was read.
use Rattle.std.proofs.Common.{◌≡◌, ℕ, zero, suc, ◌+◌, ◌-◌, ◌≤◌, ◌<◌, List, [], ◌∷◌, ◌++◌, length, drop, drop-cons, get_or, Bool, true, false, Option, Some, None, Result, Ok, Err, nat_eq, length-drop, refl, sym, ap, ◌∙◌, append_assoc, subst, arith}
use Rattle.std.specs.Prelude.{option_map, codes, IfOk}
use Rattle.std.specs.List.{starts_with}
use Rattle.std.proofs.lemmas.List.{append-nil, drop-drop, drop_all}
use Rattle.rp_base.specs.declared.refused.Refused.{Refused}
use Rattle.p4_lex.specs.declared.front.Front.{Front}
use Rattle.p4_lex.specs.declared.token.Token.{Token}
use Rattle.p4_lex.specs.declared.token.Lexeme.{Lexeme}
use Rattle.p4_lex.specs.Lexing.{◌>>=◌, comment_len, front, token_of, tokens_from, Rise, Answers}
use Rattle.p4_lex.specs.declared.end.LexEnd.{LexEnd}
use Rattle.p4_lex.specs.declared.end.LexEnd.TheVariants as ends
use Rattle.p4_lex.proofs.Fits.{Fits, SizeFits, front-fits}

twice : (at : ℕ) (o : Option ℕ) → option_map (λ n. n + at) (option_map (λ n. n + 1) o) ≡ option_map (λ n. n + (at + 1)) o
twice at None = refl
twice at (Some n) = let same : n + 1 + at ≡ n + (at + 1) = omega arith in ap Some same

unclosed : (c : ℕ) (cs : List ℕ) → starts_with nat_eq (c ∷ cs) (codes "*/") ≡ false → comment_len (c ∷ cs) ≡ option_map (λ n. n + 1) (comment_len cs)
unclosed c cs h = rw h refl

-- one more byte of a comment
pub comment-step : (xs : List ℕ) (at : ℕ) (total : Option ℕ) → at < length xs → starts_with nat_eq (drop at xs) (codes "*/") ≡ false → option_map (λ n. n + at) (comment_len (drop at xs)) ≡ total → option_map (λ n. n + (at + 1)) (comment_len (drop (at + 1) xs)) ≡ total
comment-step xs at total within shut whole =
    let front : drop at xs ≡ get_or xs at 0 ∷ drop (suc at) xs = drop-cons xs at 0 within in
    let on : comment_len (drop at xs) ≡ option_map (λ n. n + 1) (comment_len (drop (suc at) xs)) = ap comment_len front ∙ unclosed (get_or xs at 0) (drop (suc at) xs) (sym (ap (λ l. starts_with nat_eq l (codes "*/")) front) ∙ shut) in
    let next : at + 1 ≡ suc at = omega arith in
    rw next (sym (rw next at (twice at (comment_len (drop (suc at) xs)))) ∙ sym (ap (option_map (λ n. n + at)) on) ∙ whole)

-- tokens that were read, and those that are read behind them
abbrev pub behind : List Token → Result (List Token) Refused → Result (List Token) Refused
behind ts read = read >>= λ more. Ok (ts ++ more)

pub behind-nothing : (read : Result (List Token) Refused) → behind [] read ≡ read
behind-nothing (Ok ts) = refl
behind-nothing (Err e) = refl

behind-twice : (ts us : List Token) (read : Result (List Token) Refused) → behind ts (behind us read) ≡ behind (ts ++ us) read
behind-twice ts us (Ok more) = ap Ok (sym (append_assoc ts us more))
behind-twice ts us (Err e) = refl

-- bytes that belong to what went before are passed over
passes : (k at : ℕ) (fresh : Bool) (xs : List ℕ) → k ≤ length xs → tokens_from k at fresh xs ≡ tokens_from 0 (at + k) fresh (drop k xs)
unfolding tokens_from
passes zero at fresh xs h = let same : at ≡ at + 0 = omega arith in rw (← same) refl
passes (suc k) at fresh [] h = absurd (omega arith)
passes (suc k) at fresh (x ∷ xs) h = let same : at + 1 + k ≡ at + suc k = omega arith in passes k (at + 1) fresh xs (omega arith) ∙ ap (λ n. tokens_from 0 n fresh (drop k xs)) same

one : (at : ℕ) (fresh : Bool) (c : ℕ) (cs : List ℕ) (f : Front) → front at fresh c (c ∷ cs) ≡ Ok f → tokens_from 0 at fresh (c ∷ cs) ≡ behind (token_of at f.size f.lexeme) (tokens_from (f.size - 1) (at + 1) f.fresh cs)
unfolding tokens_from
one at fresh c cs f e = rw e refl

none : (at : ℕ) (fresh : Bool) (c : ℕ) (cs : List ℕ) (e : Refused) → front at fresh c (c ∷ cs) ≡ Err e → tokens_from 0 at fresh (c ∷ cs) ≡ Err e
unfolding tokens_from
none at fresh c cs e is = rw is refl

fitting_front : (at : ℕ) (fresh : Bool) (c : ℕ) (cs : List ℕ) (f : Front) → front at fresh c (c ∷ cs) ≡ Ok f → Fits (suc (length cs)) f.size
fitting_front at fresh c cs f e = (subst (SizeFits (suc (length cs))) e (front-fits at fresh c cs)).fits

nothing_left : (at : ℕ) (fresh : Bool) → tokens_from 0 at fresh [] ≡ Ok []
unfolding tokens_from
nothing_left at fresh = refl

-- at the end of the text
pub tokens-end : (text : List ℕ) (at : ℕ) (fresh : Bool) (ts : List Token) (total : Result (List Token) Refused) → length text ≤ at → behind ts (tokens_from 0 at fresh (drop at text)) ≡ total → total ≡ Ok ts
tokens-end text at fresh ts total h whole =
    let read : tokens_from 0 at fresh (drop at text) ≡ Ok [] = ap (tokens_from 0 at fresh) (drop_all at text h) ∙ nothing_left at fresh in
    sym whole ∙ ap (behind ts) read ∙ ap Ok (append-nil ts)

at_front : (text : List ℕ) (at : ℕ) → at < length text → drop at text ≡ get_or text at 0 ∷ drop (suc at) text
at_front text at within = drop-cons text at 0 within

-- no token at this place
pub tokens-stop : (text : List ℕ) (at : ℕ) (fresh : Bool) (ts : List Token) (e : Refused) (total : Result (List Token) Refused) → at < length text → front at fresh (get_or text at 0) (drop at text) ≡ Err e → behind ts (tokens_from 0 at fresh (drop at text)) ≡ total → total ≡ Err e
tokens-stop text at fresh ts e total within is whole =
    let front_is : front at fresh (get_or text at 0) (get_or text at 0 ∷ drop (suc at) text) ≡ Err e = rw (at_front text at within) at is in
    let read : tokens_from 0 at fresh (drop at text) ≡ Err e = ap (tokens_from 0 at fresh) (at_front text at within) ∙ none at fresh (get_or text at 0) (drop (suc at) text) e front_is in
    sym whole ∙ ap (behind ts) read

-- the same, with the answer for it
pub tokens-fail : (text : List ℕ) (at : ℕ) (fresh : Bool) (ts : List Token) (e : LexEnd) (total : Result (List Token) Refused) → at < length text → Answers {A = Front} (Err e) (front at fresh (get_or text at 0) (drop at text)) → behind ts (tokens_from 0 at fresh (drop at text)) ≡ total → Answers {A = List Token} (Err e) total
tokens-fail text at fresh ts (ends.Refused e) total within is whole = tokens-stop text at fresh ts e total within is whole
tokens-fail text at fresh ts ends.NoMemory total within is whole = tt

-- what is read fits
pub front_within : (text : List ℕ) (at : ℕ) (fresh : Bool) (f : Front) → at < length text → front at fresh (get_or text at 0) (drop at text) ≡ Ok f → Fits (length text - at) f.size
front_within text at fresh f within is =
    let front_is : front at fresh (get_or text at 0) (get_or text at 0 ∷ drop (suc at) text) ≡ Ok f = rw (at_front text at within) at is in
    let fits = fitting_front at fresh (get_or text at 0) (drop (suc at) text) f front_is in
    let size : length (drop (suc at) text) ≡ length text - suc at = length-drop (suc at) text in
    record { some = fits.some; within = omega (arith, fits.within, size) }

-- one token or gap more
pub tokens-step : (text : List ℕ) (at : ℕ) (fresh : Bool) (ts : List Token) (f : Front) (total : Result (List Token) Refused) → at < length text → front at fresh (get_or text at 0) (drop at text) ≡ Ok f → behind ts (tokens_from 0 at fresh (drop at text)) ≡ total → behind (ts ++ token_of at f.size f.lexeme) (tokens_from 0 (at + f.size) f.fresh (drop (at + f.size) text)) ≡ total
tokens-step text at fresh ts f total within is whole =
    let c : ℕ = get_or text at 0 in
    let cs : List ℕ = drop (suc at) text in
    let front_is : front at fresh c (c ∷ cs) ≡ Ok f = rw (at_front text at within) at is in
    let fits = front_within text at fresh f within is in
    let size : length cs ≡ length text - suc at = length-drop (suc at) text in
    let read : tokens_from 0 at fresh (drop at text) ≡ behind (token_of at f.size f.lexeme) (tokens_from (f.size - 1) (at + 1) f.fresh cs) = ap (tokens_from 0 at fresh) (at_front text at within) ∙ one at fresh c cs f front_is in
    let place : at + 1 + (f.size - 1) ≡ at + f.size = omega (arith, fits.some) in
    let place' : suc at + (f.size - 1) ≡ at + f.size = omega (arith, fits.some) in
    let left : drop (f.size - 1) cs ≡ drop (at + f.size) text = drop-drop (f.size - 1) (suc at) text ∙ ap (λ n. drop n text) place' in
    let on : tokens_from (f.size - 1) (at + 1) f.fresh cs ≡ tokens_from 0 (at + f.size) f.fresh (drop (at + f.size) text) = passes (f.size - 1) (at + 1) f.fresh cs (omega (arith, fits.within, size)) ∙ (λ i. tokens_from 0 (place i) f.fresh (left i)) in
    ap (behind (ts ++ token_of at f.size f.lexeme)) (sym on) ∙ sym (behind-twice ts (token_of at f.size f.lexeme) (tokens_from (f.size - 1) (at + 1) f.fresh cs)) ∙ ap (behind ts) (sym read) ∙ whole

-- later tokens are behind an earlier place too
rise-earlier : (from later : ℕ) (ts : List Token) (size : ℕ) → from ≤ later → Rise later ts size → Rise from ts size
rise-earlier from later [] size h rises = omega (arith, rises)
rise-earlier from later (t ∷ ts) size h rises = (omega (arith, rises.0), rises.1, rises.2)

rise-token : (at size end : ℕ) (o : Option Lexeme) (more : List Token) → 1 ≤ size → Rise (at + size) more end → Rise at (token_of at size o ++ more) end
rise-token at size end None more some rises = rise-earlier at (at + size) more end (omega arith) rises
rise-token at size end (Some what) more some rises = (omega arith, omega arith, rises)

-- what a read of tokens says of where they stand
abbrev Within : ℕ → Result (List Token) Refused → ℕ → Type 0
Within at (Ok ts) end = Rise at ts end
Within at (Err e) end = Unit {0}

within-behind : (at size end : ℕ) (o : Option Lexeme) (read : Result (List Token) Refused) → 1 ≤ size → Within (at + size) read end → Within at (behind (token_of at size o) read) end
within-behind at size end o (Ok more) some rises = rise-token at size end o more some rises
within-behind at size end o (Err e) some rises = tt

within-front : (at : ℕ) (c : ℕ) (cs : List ℕ) (read : Result Front Refused) → SizeFits (suc (length cs)) read → ((f : Front) → Fits (suc (length cs)) f.size → Within (at + f.size) (tokens_from (f.size - 1) (at + 1) f.fresh cs) (at + suc (length cs))) → Within at (read >>= λ f. tokens_from (f.size - 1) (at + 1) f.fresh cs >>= λ more. Ok (token_of at f.size f.lexeme ++ more)) (at + suc (length cs))
within-front at c cs (Err e) fits h = tt
within-front at c cs (Ok f) fits h = within-behind at f.size (at + suc (length cs)) f.lexeme (tokens_from (f.size - 1) (at + 1) f.fresh cs) fits.fits.some (h f fits.fits)

rises_from : (skip at : ℕ) (fresh : Bool) (xs : List ℕ) → skip ≤ length xs → Within (at + skip) (tokens_from skip at fresh xs) (at + length xs)
unfolding tokens_from
rises_from zero at fresh [] h = omega arith
rises_from (suc skip) at fresh [] h = absurd (omega arith)
rises_from (suc skip) at fresh (c ∷ cs) h =
    let from : at + 1 + skip ≡ at + suc skip = omega arith in
    let end : at + 1 + length cs ≡ at + suc (length cs) = omega arith in
    rw (from, end) at (rises_from skip (at + 1) fresh cs (omega arith))
rises_from zero at fresh (c ∷ cs) h =
    let here : at + 0 ≡ at = omega arith in
    rw here (within-front at c cs (front at fresh c (c ∷ cs)) (front-fits at fresh c cs) (λ f fits.
    let from : at + 1 + (f.size - 1) ≡ at + f.size = omega (arith, fits.some) in
    let end : at + 1 + length cs ≡ at + suc (length cs) = omega arith in
    rw (from, end) at (rises_from (f.size - 1) (at + 1) f.fresh cs (omega (arith, fits.within)))))

-- the tokens of a text rise, and stand within it
pub rises : (text : List ℕ) (ts : List Token) → tokens_from 0 0 true text ≡ Ok ts → Rise 0 ts (length text)
rises text ts e =
    let all : Within (0 + 0) (tokens_from 0 0 true text) (0 + length text) = rises_from 0 0 true text (omega arith) in
    let size : 0 + length text ≡ length text = omega arith in
    subst (λ read. Within 0 read (length text)) e (rw size at all)

-- the same of what was returned
pub answer-rises : (text : List ℕ) (read : Result (List Token) LexEnd) → Answers read (tokens_from 0 0 true text) → IfOk read (λ ts. Rise 0 ts (length text))
answer-rises text (Ok ts) e = rises text ts e
answer-rises text (Err e) h = tt
