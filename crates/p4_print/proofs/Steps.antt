-- How texts grow.
use Rattle.std.proofs.Common.{◌≡◌, ℕ, zero, suc, ◌+◌, ◌-◌, ◌<◌, ◌≤◌, Bool, List, [], ◌∷◌, ◌++◌, length, take, drop, get_or, refl, sym, ap, ◌∙◌, append_assoc, arith}
use Rattle.std.specs.Prelude.{Result, Ok, Err, OnOk}
use Rattle.std.proofs.lemmas.List.{append-nil}
use Rattle.std.proofs.Math.Seq.{take-length}
use Rattle.p4_lex.specs.declared.token.Lexeme.{Lexeme}
use Rattle.p4_print.specs.Text.{text, piece}
use Rattle.p4_print.specs.Shared.{all, separated, the}
use Rattle.p4_print.specs.Expressions.{where_so, wrapped}
use Rattle.p4_lex.specs.declared.token.Sign.{Sign}
use Rattle.p4_lex.specs.declared.token.Sign.TheVariants as sign

pub text-nil : text [] ≡ []
unfolding text
text-nil = refl

pub text-cons : (l : Lexeme) (ls : List Lexeme) → text (l ∷ ls) ≡ piece l ++ text ls
unfolding text
text-cons l ls = refl

pub text-append : (ls ms : List Lexeme) → text (ls ++ ms) ≡ text ls ++ text ms
unfolding text
text-append [] ms = refl
text-append (l ∷ ls) ms = ap (λ t. piece l ++ t) (text-append ls ms) ∙ sym (append_assoc (piece l) (text ls) (text ms))

all-take-suc : {A : Type 0} (f : A → List Lexeme) (xs : List A) (i : ℕ) (d : A) → i < length xs → all f (take (suc i) xs) ≡ all f (take i xs) ++ f (get_or xs i d)
all-take-suc f [] i d h = absurd (omega arith)
all-take-suc f (x ∷ xs) zero d h = append-nil (f x)
all-take-suc f (x ∷ xs) (suc i) d h = ap (λ t. f x ++ t) (all-take-suc f xs i d (omega arith)) ∙ sym (append_assoc (f x) (all f (take i xs)) (f (get_or xs i d)))

-- one more is written
pub grown : {A : Type 0} (f : A → List Lexeme) (xs : List A) (i : ℕ) (x : A) (start out next : List ℕ) → i < length xs → x ≡ get_or xs i x → out ≡ start ++ text (all f (take i xs)) → next ≡ out ++ text (f x) → next ≡ start ++ text (all f (take (i + 1) xs))
grown f xs i x start out next h is so_far here =
    let more : i + 1 ≡ suc i = omega arith in
    let item : f (get_or xs i x) ≡ f x = ap f (sym is) in
    let written : text (all f (take (suc i) xs)) ≡ text (all f (take i xs)) ++ text (f x) = ap text (all-take-suc f xs i x h) ∙ text-append (all f (take i xs)) (f (get_or xs i x)) ∙ ap (λ t. text (all f (take i xs)) ++ text t) item in
    rw (more, written) (here ∙ ap (λ o. o ++ text (f x)) so_far ∙ append_assoc start (text (all f (take i xs))) (text (f x)))

-- the last part is written
pub last : {E : Type 0} (r : Result (Unit {0}) E) (start mid part whole next : List ℕ) → OnOk r (next ≡ mid ++ part) → mid ++ part ≡ start ++ whole → OnOk r (next ≡ start ++ whole)
last (Ok u) start mid part whole next h e = h ∙ e
last (Err x) start mid part whole next h e = tt

-- an operand in its parts
pub text-wrapped : (operand : Bool) (ts : List Lexeme) → text (wrapped operand ts) ≡ text (where_so operand sign.Open) ++ (text ts ++ text (where_so operand sign.Close))
unfolding wrapped
text-wrapped operand ts = text-append (where_so operand sign.Open) (ts ++ where_so operand sign.Close) ∙ ap (λ t. text (where_so operand sign.Open) ++ t) (text-append ts (where_so operand sign.Close))

separated-cons : {A : Type 0} (s : Sign) (f : A → List Lexeme) (xs : List A) (x : A) → 1 ≤ length xs → x ≡ get_or xs 0 x → separated s f xs ≡ f x ++ all (λ y. the s ∷ f y) (take (length xs - 1) (drop 1 xs))
separated-cons s f [] x h is = absurd (omega arith)
separated-cons s f (y ∷ ys) x h is =
    let size : suc (length ys) - 1 ≡ length ys = omega arith in
    rw (size, take-length ys, is) refl

-- a list whose first member and whose others were written
pub listed : {A E : Type 0} (s : Sign) (f : A → List Lexeme) (xs : List A) (x : A) (r : Result (Unit {0}) E) (start mid next : List ℕ) → 1 ≤ length xs → x ≡ get_or xs 0 x → mid ≡ start ++ text (f x) → OnOk r (next ≡ mid ++ text (all (λ y. the s ∷ f y) (take (length xs - 1) (drop 1 xs)))) → OnOk r (next ≡ start ++ text (separated s f xs))
listed s f xs x r start mid next some is first h =
    let rest : List Lexeme = all (λ y. the s ∷ f y) (take (length xs - 1) (drop 1 xs)) in
    let whole : text (separated s f xs) ≡ text (f x) ++ text rest = ap text (separated-cons s f xs x some is) ∙ text-append (f x) rest in
    last r start mid (text rest) (text (separated s f xs)) next h (ap (λ o. o ++ text rest) first ∙ append_assoc start (text (f x)) (text rest) ∙ ap (λ t. start ++ t) (sym whole))

-- a text in its parts
pub ruleset texts = (text-wrapped, text-append, append_assoc, append-nil, text-cons, text-nil)
