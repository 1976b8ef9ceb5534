-- What the tokens of a text say is a lexeme.
use Rattle.std.proofs.Common.{◌≡◌, ℕ, zero, suc, ◌+◌, ◌-◌, ◌^◌, ◌<◌, ◌≤◌, List, [], ◌∷◌, ◌++◌, length, take, drop, Bool, true, false, Option, Some, None, Result, Ok, Err, nat_eq, nat_lt, nat_le, refl, arith}
use Rattle.std.specs.Prelude.{if◌then◌else◌, ◌&&◌, option_and_then, codes, IfOk, IfSome}
use Rattle.std.specs.List.{prefix_len, list_all, starts_with}
use Rattle.std.specs.Str.{bytes_eq}
use Rattle.std.specs.Char.{is_ascii_digit}
use Rattle.std.proofs.lemmas.Bool.{and_parts, and_from, leb-true, ltb-true}
use Rattle.rp_base.specs.declared.refused.Refused.{Refused}
use Rattle.rp_base.specs.declared.refused.Why.TheVariants as why
use Rattle.p4_lex.specs.declared.front.Front.{Front}
use Rattle.p4_lex.specs.declared.token.Sign.{Sign}
use Rattle.p4_lex.specs.declared.token.Sign.TheVariants as sign
use Rattle.p4_lex.specs.declared.token.Lexeme.{Lexeme}
use Rattle.p4_lex.specs.declared.token.Lexeme.TheVariants as lexeme
use Rattle.p4_lex.specs.declared.token.Token.{Token}
use Rattle.p4_lex.specs.Letters.{is_blank, begins_name, goes_on}
use Rattle.p4_lex.specs.Words.{reserved}
use Rattle.p4_lex.specs.Numbers.{figures, fitting, in_base, base_of, plain, width, number_at}
use Rattle.p4_lex.specs.Lexing.{◌>>=◌, gap, fault, directive, comment, number_piece, word_lexeme, word_piece, sign_piece, front, token_of, tokens_from, tokens, longest}
use Rattle.p4_reread.specs.Lexemes.{name_shape, IsNumber, IsLexeme, AreLexemes}
use Rattle.p4_reread.specs.Again.{lexemes}

-- numbers

abbrev OfValue : Option ℕ → Type 0
OfValue None = Unit {0}
OfValue (Some value) = value < 2 ^ 128

record Below (read : Option ℕ) : Type 0 where
  below : OfValue read

smaller : (b : Bool) (value : ℕ) → (b ≡ true → value < 2 ^ 128) → Below (if b then Some value else None)
smaller true value h = record { below = h refl }
smaller false value h = record { below = tt }

fitting-below : (read : Option ℕ) → Below (fitting read)
fitting-below None = record { below = tt }
fitting-below (Some value) = smaller (nat_lt value (2 ^ 128)) value (ltb-true value (2 ^ 128))

in_base-below : (base : Option ℕ) (ds whole : List ℕ) → Below (in_base base ds whole)
in_base-below None ds whole = fitting-below (figures 10 false 0 whole)
in_base-below (Some base) ds whole = fitting-below (figures base false 0 ds)

plain-below : (word : List ℕ) → Below (plain word)
unfolding plain
plain-below [] = record { below = tt }
plain-below (c ∷ []) = fitting-below (figures 10 false 0 (c ∷ []))
plain-below (c ∷ d ∷ ds) = in_base-below (if nat_eq c 48 then base_of d else None) ds (c ∷ d ∷ ds)

abbrev OfWidth : Option ℕ → Type 0
OfWidth None = Unit {0}
OfWidth (Some w) = (1 ≤ w) × (w ≤ 128)

record Wide (read : Option ℕ) : Type 0 where
  wide : OfWidth read

ranged : (b : Bool) (w : ℕ) → (b ≡ true → (1 ≤ w) × (w ≤ 128)) → Wide (if b then Some w else None)
ranged true w h = record { wide = h refl }
ranged false w h = record { wide = tt }

in_range : (w : ℕ) → (nat_le 1 w && nat_le w 128) ≡ true → (1 ≤ w) × (w ≤ 128)
in_range w h = let both = and_parts (nat_le 1 w) (nat_le w 128) h in (leb-true 1 w both.0, leb-true w 128 both.1)

ranged-wide : (read : Option ℕ) → Wide (option_and_then (λ w. if nat_le 1 w && nat_le w 128 then Some w else None) read)
ranged-wide None = record { wide = tt }
ranged-wide (Some w) = ranged (nat_le 1 w && nat_le w 128) w (in_range w)

width-wide : (ds : List ℕ) → Wide (width ds)
unfolding width
width-wide ds = ranged-wide (fitting (figures 10 false 0 ds))

abbrev OfNumber : Option (ℕ × Option ℕ) → Type 0
OfNumber None = Unit {0}
OfNumber (Some n) = IsNumber n.0 n.1

record Numbered (read : Option (ℕ × Option ℕ)) : Type 0 where
  numbered : OfNumber read

without : (v : Option ℕ) → Below v → Numbered (option_and_then (λ value. Some (value, None)) v)
without None h = record { numbered = tt }
without (Some value) h = record { numbered = h.below }

with_width : (w v : Option ℕ) → Wide w → Below v → Numbered (option_and_then (λ w. option_and_then (λ value. Some (value, Some w)) v) w)
with_width None v p q = record { numbered = tt }
with_width (Some w) None p q = record { numbered = tt }
with_width (Some w) (Some value) p q = record { numbered = (q.below, p.wide.0, p.wide.1) }

number_at-numbered : (i : Option ℕ) (word : List ℕ) → Numbered (number_at i word)
number_at-numbered None word = without (plain word) (plain-below word)
number_at-numbered (Some i) word = with_width (width (take i word)) (plain (drop (i + 1) word)) (width-wide (take i word)) (plain-below (drop (i + 1) word))

-- words

taken-more : (k x : ℕ) (xs : List ℕ) → take (1 + k) (x ∷ xs) ≡ x ∷ take k xs
taken-more k x xs = let one : 1 + k ≡ suc k = omega arith in rw one refl

one_more : (p : ℕ → Bool) (x : ℕ) (xs : List ℕ) (b : Bool) → p x ≡ b → list_all p (take (prefix_len p xs) xs) ≡ true → list_all p (take (if b then 1 + prefix_len p xs else 0) (x ∷ xs)) ≡ true
one_more p x xs true e h = rw (taken-more (prefix_len p xs) x xs) (and_from (p x) _ e h)
one_more p x xs false e h = refl

passing : (p : ℕ → Bool) (xs : List ℕ) → list_all p (take (prefix_len p xs) xs) ≡ true
passing p [] = refl
passing p (x ∷ xs) = one_more p x xs (p x) refl (passing p xs)

shaped : (c : ℕ) (cs : List ℕ) → begins_name c ≡ true → name_shape (take (prefix_len goes_on (c ∷ cs)) (c ∷ cs)) ≡ true
shaped c cs h = rw (h, taken-more (prefix_len goes_on cs) c cs, h) (passing goes_on cs)

named : (word : List ℕ) (b : Bool) (s : Option Sign) → name_shape word ≡ true → bytes_eq word (codes "_") ≡ b → reserved word ≡ s → IsLexeme (if b then lexeme.Sign sign.Any else word_lexeme word s)
named word true s shape other free = tt
named word false (Some s) shape other free = tt
named word false None shape other free = record { shape = shape; other = other; free = free }

-- what a text begins with

abbrev OfFront : Result Front Refused → Type 0
OfFront (Ok f) = IfSome f.lexeme IsLexeme
OfFront (Err e) = Unit {0}

record Says (read : Result Front Refused) : Type 0 where
  says : OfFront read

pick : (b : Bool) (x y : Result Front Refused) → (b ≡ true → Says x) → (b ≡ false → Says y) → Says (if b then x else y)
pick true x y p q = p refl
pick false x y p q = q refl

directive-says : (at : ℕ) (line : List ℕ) → Says (directive at line)
unfolding directive
directive-says at line = pick _ (gap (length line) false) (fault at why.Directive) (λ h. record { says = tt }) (λ h. record { says = tt })

comment-says : (at : ℕ) (n : Option ℕ) → Says (comment at n)
comment-says at None = record { says = tt }
comment-says at (Some n) = record { says = tt }

number-says : (at size : ℕ) (n : Option (ℕ × Option ℕ)) → Numbered n → Says (number_piece at size n)
number-says at size None h = record { says = tt }
number-says at size (Some n) h = record { says = h.numbered }

sign-says : (at : ℕ) (s : Option (Sign × ℕ)) → Says (sign_piece at s)
sign-says at None = record { says = tt }
sign-says at (Some s) = record { says = tt }

word-says : (word : List ℕ) → name_shape word ≡ true → Says (word_piece word)
unfolding word_piece
word-says word shape = record { says = named word (bytes_eq word (codes "_")) (reserved word) shape refl refl }

front-says : (at : ℕ) (fresh : Bool) (c : ℕ) (cs : List ℕ) → Says (front at fresh c (c ∷ cs))
unfolding front
front-says at fresh c cs =
    pick (is_blank c) _ _ (λ h. record { says = tt }) (λ h. pick (nat_eq c 10) _ _ (λ h. record { says = tt })
    (λ h. pick (fresh && nat_eq c 35) _ _ (λ h. directive-says at _)
    (λ h. pick (starts_with nat_eq (c ∷ cs) (codes "//")) _ _ (λ h. record { says = tt })
    (λ h. pick (starts_with nat_eq (c ∷ cs) (codes "/*")) _ _ (λ h. comment-says at _)
    (λ h. pick (is_ascii_digit c) _ _ (λ h. number-says at _ _ (number_at-numbered _ _))
    (λ h. pick (begins_name c) _ _ (λ letter. word-says _ (shaped c cs letter))
    (λ h. sign-says at _)))))))

-- tokens

record Say (read : Result (List Token) Refused) : Type 0 where
  say : IfOk read (λ ts. AreLexemes (lexemes ts))

joined : (at size : ℕ) (what : Option Lexeme) (more : Result (List Token) Refused) → IfSome what IsLexeme → Say more → Say (more >>= λ ts. Ok (token_of at size what ++ ts))
joined at size what (Err e) p q = record { say = tt }
joined at size None (Ok ts) p q = record { say = q.say }
joined at size (Some l) (Ok ts) p q = record { say = (p, q.say) }

behind : (at : ℕ) (read : Result Front Refused) (next : Front → Result (List Token) Refused) → Says read → ((f : Front) → Say (next f)) → Say (read >>= λ f. next f >>= λ more. Ok (token_of at f.size f.lexeme ++ more))
behind at (Err e) next p q = record { say = tt }
behind at (Ok f) next p q = joined at f.size f.lexeme (next f) p.says (q f)

tokens_from-say : (skip at : ℕ) (fresh : Bool) (bytes : List ℕ) → Say (tokens_from skip at fresh bytes)
unfolding tokens_from
tokens_from-say skip at fresh [] = record { say = tt }
tokens_from-say (suc skip) at fresh (c ∷ cs) = tokens_from-say skip (at + 1) fresh cs
tokens_from-say zero at fresh (c ∷ cs) = behind at (front at fresh c (c ∷ cs)) (λ f. tokens_from (f.size - 1) (at + 1) f.fresh cs) (front-says at fresh c cs) (λ f. tokens_from-say (f.size - 1) (at + 1) f.fresh cs)

whole : (b : Bool) (e : Refused) (read : Result (List Token) Refused) → Say read → Say (if b then Err e else read)
whole true e read h = record { say = tt }
whole false e read h = h

-- what the tokens of a text say
pub tokens-say : (bytes : List ℕ) → IfOk (tokens bytes) (λ read. AreLexemes (lexemes read))
tokens-say bytes = (whole (nat_lt longest (length bytes)) _ (tokens_from 0 0 true bytes) (tokens_from-say 0 0 true bytes)).say
