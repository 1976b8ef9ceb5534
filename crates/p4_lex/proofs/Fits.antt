-- What a text begins with is a byte at least, and no more than the text has.
use Rattle.std.proofs.Common.{◌≡◌, ℕ, suc, ◌+◌, ◌≤◌, List, [], ◌∷◌, length, take, drop, Bool, true, false, Option, Some, None, Result, Ok, Err, nat_eq, nat_le, refl, length-drop, arith}
use Rattle.std.specs.Prelude.{if◌then◌else◌, option_map, codes, ◌&&◌, ◌||◌}
use Rattle.std.specs.List.{starts_with, prefix_len}
use Rattle.std.specs.Char.{is_ascii_digit}
use Rattle.std.proofs.lemmas.List.Sums.{prefix_len-le-length}
use Rattle.std.proofs.lemmas.List.Folds.{length-prefix_len}
use Rattle.std.proofs.lemmas.Bool.Decides.{nat_tests}
use Rattle.rp_base.specs.declared.refused.Refused.{Refused}
use Rattle.p4_lex.specs.declared.front.Front.{Front}
use Rattle.p4_lex.specs.declared.token.Sign.{Sign}
use Rattle.p4_lex.specs.Letters.{is_blank, begins_name, goes_on, in_line}
use Rattle.p4_lex.specs.Words.{or_else}
use Rattle.p4_lex.specs.Spelling.{spelling}
use Rattle.p4_lex.specs.Signs.{first_of, of_three, of_two, brackets, operators, sign_at}
use Rattle.p4_lex.specs.Lexing.{gap, directive, comment_len, comment, number_piece, word_piece, sign_piece, fault, front}
use Rattle.rp_base.specs.declared.refused.Why.TheVariants as why

pub record Fits (n size : ℕ) : Type 0 where
  pub some : 1 ≤ size
  pub within : size ≤ n

-- where something is read, its size fits
abbrev pub OfFront : ℕ → Result Front Refused → Type 0
OfFront n (Ok f) = Fits n f.size
OfFront n (Err e) = Unit {0}

pub record SizeFits (n : ℕ) (read : Result Front Refused) : Type 0 where
  pub fits : OfFront n read

-- the same of a sign with its length
abbrev SignFits : ℕ → Option (Sign × ℕ) → Type 0
SignFits n None = Unit {0}
SignFits n (Some s) = Fits n s.1

pick : (n : ℕ) (b : Bool) (x y : Result Front Refused) → (b ≡ true → SizeFits n x) → (b ≡ false → SizeFits n y) → SizeFits n (if b then x else y)
pick n true x y p q = p refl
pick n false x y p q = q refl

begins : (p : ℕ → Bool) (c : ℕ) (cs : List ℕ) → p c ≡ true → Fits (suc (length cs)) (prefix_len p (c ∷ cs))
begins p c cs first = record { some = rw first (omega arith); within = prefix_len-le-length p (c ∷ cs) }

line-fits : (at c : ℕ) (cs line : List ℕ) → Fits (suc (length cs)) (length line) → SizeFits (suc (length cs)) (directive at line)
unfolding directive
line-fits at c cs line fits = pick (suc (length cs)) _ (gap (length line) false) (fault at why.Directive) (λ h. record { fits = fits }) (λ h. record { fits = tt })

second : (a b : Bool) → (a && b) ≡ true → b ≡ true
second true b h = h
second false b h = absurd cc

first : (a b : Bool) → (a && b) ≡ true → a ≡ true
first true b h = refl
first false b h = absurd cc

starts-length : (xs p : List ℕ) → starts_with nat_eq xs p ≡ true → length p ≤ length xs
starts-length xs [] h = omega arith
starts-length [] (y ∷ p) h = absurd cc
starts-length (x ∷ xs) (y ∷ p) h = let rest : length p ≤ length xs = starts-length xs p (second (nat_eq y x) (starts_with nat_eq xs p) h) in omega arith

at_most : (xs : List ℕ) (b : Bool) (o : Option ℕ) (n k : ℕ) → length xs ≡ suc k → (b ≡ true → 2 ≤ length xs) → ((m : ℕ) → o ≡ Some m → m ≤ k) → (if b then Some 2 else option_map (λ n. n + 1) o) ≡ Some n → n ≤ length xs
at_most xs true o n k size here later e = let two : 2 ≡ n = cc in omega (arith, here refl)
at_most xs false None n k size here later e = absurd cc
at_most xs false (Some m) n k size here later e = let more : m + 1 ≡ n = cc in omega (arith, later m refl)

comment_len-fits : (xs : List ℕ) (n : ℕ) → comment_len xs ≡ Some n → n ≤ length xs
comment_len-fits [] n e = absurd cc
comment_len-fits (c ∷ cs) n e = at_most (c ∷ cs) (starts_with nat_eq (c ∷ cs) (codes "*/")) (comment_len cs) n (length cs) refl (λ h. starts-length (c ∷ cs) (codes "*/") h) (λ m h. comment_len-fits cs m h) e

sign-fits : (at n : ℕ) (s : Option (Sign × ℕ)) → SignFits n s → SizeFits n (sign_piece at s)
sign-fits at n None h = record { fits = tt }
sign-fits at n (Some s) h = record { fits = h }

number-fits : (at n size : ℕ) (o : Option (ℕ × Option ℕ)) → Fits n size → SizeFits n (number_piece at size o)
number-fits at n size None h = record { fits = tt }
number-fits at n size (Some o) h = record { fits = h }

or-fits : (n : ℕ) (s t : Option (Sign × ℕ)) → SignFits n s → SignFits n t → SignFits n (or_else s t)
or-fits n None t p q = q
or-fits n (Some s) t p q = p

-- no spelling is empty
abbrev filled : List Sign → Bool
filled [] = true
filled (s ∷ signs) = nat_le 1 (length (spelling s)) && filled signs

test-le : (m n : ℕ) → nat_le m n ≡ true → m ≤ n
test-le m n h = grind (arith, nat_tests)

pick_sign : (n : ℕ) (b : Bool) (s : Sign) (size : ℕ) (o : Option (Sign × ℕ)) → (b ≡ true → Fits n size) → SignFits n o → SignFits n (if b then Some (s, size) else o)
pick_sign n true s size o p q = p refl
pick_sign n false s size o p q = q

first-fits : (signs : List Sign) (bytes : List ℕ) → filled signs ≡ true → SignFits (length bytes) (first_of signs bytes)
first-fits [] bytes h = tt
first-fits (s ∷ signs) bytes h = pick_sign (length bytes) (starts_with nat_eq bytes (spelling s)) s (length (spelling s)) (first_of signs bytes)
    (λ found. record { some = test-le 1 (length (spelling s)) (first (nat_le 1 (length (spelling s))) (filled signs) h); within = starts-length bytes (spelling s) found }) (first-fits signs bytes (second (nat_le 1 (length (spelling s))) (filled signs) h))

sign_at-fits : (bytes : List ℕ) → SignFits (length bytes) (sign_at bytes)
sign_at-fits bytes = or-fits _ _ _ (first-fits of_three bytes refl) (or-fits _ _ _ (first-fits of_two bytes refl) (or-fits _ _ _ (first-fits brackets bytes refl) (first-fits operators bytes refl)))

word-fits : (n : ℕ) (word : List ℕ) → Fits n (length word) → SizeFits n (word_piece word)
unfolding word_piece
word-fits n word h = record { fits = h }

comment-fits : (at n : ℕ) (o : Option ℕ) → ((m : ℕ) → o ≡ Some m → m + 2 ≤ n) → SizeFits n (comment at o)
comment-fits at n None h = record { fits = tt }
comment-fits at n (Some m) h = record { fits = record { some = omega arith; within = h m refl } }

-- as many bytes as pass the test
passing : (p : ℕ → Bool) (c : ℕ) (cs : List ℕ) → p c ≡ true → Fits (suc (length cs)) (length (take (prefix_len p (c ∷ cs)) (c ∷ cs)))
passing p c cs first = rw (length-prefix_len p (c ∷ cs)) (begins p c cs first)

same_byte : (c d : ℕ) → nat_eq c d ≡ true → c ≡ d
same_byte c d h = grind (arith, nat_tests)

hash-in_line : (fresh : Bool) (c : ℕ) → (fresh && nat_eq c 35) ≡ true → in_line c ≡ true
hash-in_line fresh c h = let is : c ≡ 35 = same_byte c 35 (second fresh (nat_eq c 35) h) in rw is refl

slash-in_line : (c : ℕ) (cs : List ℕ) → starts_with nat_eq (c ∷ cs) (codes "//") ≡ true → in_line c ≡ true
slash-in_line c cs h = let is : 47 ≡ c = same_byte 47 c (first (nat_eq 47 c) (starts_with nat_eq cs (codes "/")) h) in rw (← is) refl

open-fits : (bytes : List ℕ) (m : ℕ) → starts_with nat_eq bytes (codes "/*") ≡ true → comment_len (drop 2 bytes) ≡ Some m → m + 2 ≤ length bytes
open-fits bytes m h e = omega (arith, starts-length bytes (codes "/*") h, comment_len-fits (drop 2 bytes) m e, length-drop 2 bytes)

digit-goes_on : (a b : Bool) → b ≡ true → (a || b) ≡ true
digit-goes_on true b h = refl
digit-goes_on false b h = h

letter-goes_on : (a b : Bool) → a ≡ true → (a || b) ≡ true
letter-goes_on a b h = rw h refl

pub front-fits : (at : ℕ) (fresh : Bool) (c : ℕ) (cs : List ℕ) → SizeFits (suc (length cs)) (front at fresh c (c ∷ cs))
unfolding front
front-fits at fresh c cs =
    let n : ℕ = suc (length cs) in
    let blank : SizeFits n (gap 1 fresh) = record { fits = record { some = omega arith; within = omega arith } } in
    let line : SizeFits n (gap 1 true) = record { fits = record { some = omega arith; within = omega arith } } in
    pick n (is_blank c) _ _ (λ h. blank) (λ h. pick n (nat_eq c 10) _ _ (λ h. line)
    (λ h. pick n (fresh && nat_eq c 35) _ _ (λ hash. line-fits at c cs _ (passing in_line c cs (hash-in_line fresh c hash)))
    (λ h. pick n (starts_with nat_eq (c ∷ cs) (codes "//")) _ _ (λ slashes. record { fits = begins in_line c cs (slash-in_line c cs slashes) })
    (λ h. pick n (starts_with nat_eq (c ∷ cs) (codes "/*")) _ _ (λ opens. comment-fits at n _ (λ m e. open-fits (c ∷ cs) m opens e))
    (λ h. pick n (is_ascii_digit c) _ _ (λ digit. number-fits at n _ _ (begins goes_on c cs (digit-goes_on (begins_name c) (is_ascii_digit c) digit)))
    (λ h. pick n (begins_name c) _ _ (λ letter. word-fits n _ (passing goes_on c cs (letter-goes_on (begins_name c) (is_ascii_digit c) letter)))
    (λ h. sign-fits at n _ (sign_at-fits (c ∷ cs)))))))))
