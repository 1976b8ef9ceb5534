-- Languages with values, and readers with one token in hand.
use Rattle.std.specs.Prelude.{◌≡◌, ℕ, zero, suc, Bool, true, false, cond, List, [], ◌∷◌, ◌++◌, Result, Ok, Err, ◌⊎◌}
use Rattle.p4_lex.specs.declared.token.Token.{Token}

-- ---- languages: which tokens spell which value

abbrev pub Lang : Type 0 → Type 1
Lang A = A → List Token → Type 0

abbrev pub none : {A : Type 0} → Lang A
none x u = ⊥

-- no token, and this value
abbrev pub only : {A : Type 0} → A → Lang A
only x y u = (y ≡ x) × (u ≡ [])

-- a front, and what may follow its value
abbrev pub bind : {A B : Type 0} → Lang A → (A → Lang B) → Lang B
bind {A = A} L K y w = (x : A) × (u : List Token) × (v : List Token) × (w ≡ u ++ v) × L x u × K x y v

abbrev pub either : {A : Type 0} → Lang A → Lang A → Lang A
either L M x u = L x u ⊎ M x u

-- one token that the test takes, as the value that it gives
abbrev pub taken : {A : Type 0} → (Token → Result A (Unit {0})) → Lang A
taken f x u = (a : Token) × (u ≡ a ∷ []) × (f a ≡ Ok x)

-- any number of them, one behind the other
abbrev pub many : {A : Type 0} → Lang A → Lang (List A)
many L [] u = u ≡ []
many {A = A} L (x ∷ xs) w = (u : List Token) × (v : List Token) × (w ≡ u ++ v) × L x u × many L xs v

-- operands behind operators, grouped to the left onto a first one; k bounds how many
abbrev pub chain : {A O : Type 0} → ℕ → (A → Token → Result O (Unit {0})) → (O → A → A → A) → Lang A → A → Lang A
chain zero op join L x = none
chain (suc k) op join L x = either (bind (taken (op x)) λ o. bind L λ y. chain k op join L (join o x y)) (only x)

-- ---- readers: the value and the rest, or the rest at which it stops

abbrev pub Reader : Type 0 → Type 0
Reader A = List Token → Result (A × List Token) (List Token)

infixl 10 ◌>>=◌
abbrev pub ◌>>=◌ : {A B : Type 0} → Result A (List Token) → (A → Result B (List Token)) → Result B (List Token)
(Ok x) >>= f = f x
(Err e) >>= f = Err e

abbrev pub done_at : {A : Type 0} → A → Reader A
done_at x w = Ok (x, w)

abbrev pub bind_at : {A B : Type 0} → Reader A → (A → Reader B) → Reader B
bind_at p f w = p w >>= λ x. f x.0 x.1

abbrev pub given : {A : Type 0} → Result A (Unit {0}) → Token → List Token → Result (A × List Token) (List Token)
given (Ok x) a w = Ok (x, w)
given (Err e) a w = Err (a ∷ w)

abbrev pub taken_at : {A : Type 0} → (Token → Result A (Unit {0})) → Reader A
taken_at f [] = Err []
taken_at f (a ∷ w) = given (f a) a w

-- whether the token in hand passes the test
abbrev pub hand : (Token → Bool) → List Token → Bool
hand test [] = false
hand test (a ∷ w) = test a

abbrev pub either_at : {A : Type 0} → (Token → Bool) → Reader A → Reader A → Reader A
either_at test p q w = cond (hand test w) (p w) (q w)

abbrev pub many_at : {A : Type 0} → ℕ → (Token → Bool) → Reader A → Reader (List A)
many_at zero test p w = Err w
many_at (suc n) test p w = either_at test (bind_at p λ x. bind_at (many_at n test p) λ xs. done_at (x ∷ xs)) (done_at []) w

abbrev pub is_given : {A : Type 0} → Result A (Unit {0}) → Bool
is_given (Ok x) = true
is_given (Err e) = false

abbrev pub chain_at : {A O : Type 0} → ℕ → (A → Token → Result O (Unit {0})) → (O → A → A → A) → Reader A → A → Reader A
chain_at zero op join p x w = Err w
chain_at (suc n) op join p x w = either_at (λ a. is_given (op x a)) (bind_at (taken_at (op x)) λ o. bind_at p λ y. chain_at n op join p (join o x y)) (done_at x) w

-- ---- the whole text

-- derivations of any height, where P k are those of height k
abbrev pub Spells : {A : Type 0} → (ℕ → Lang A) → A → List Token → Type 0
Spells P x w = (k : ℕ) × P k x w

-- the tokens are a prefix of a list that is derived
abbrev pub Begins : {A : Type 0} → Lang A → List Token → Type 0
Begins {A = A} L u = (x : A) × (v : List Token) × L x (u ++ v)

abbrev pub Refused : {A : Type 0} → Lang A → List Token → List Token → Type 0
Refused L u [] = Unit {0}
Refused L u (a ∷ r) = Begins L (u ++ a ∷ []) → ⊥

-- The tokens before r are a prefix of a derived list. With the first of r they are none; all of them aren't derived.
abbrev pub IsFault : {A : Type 0} → Lang A → List Token → List Token → Type 0
IsFault {A = A} L w r = (u : List Token) × (w ≡ u ++ r) × Begins L u × Refused L u r × ((x : A) → L x w → ⊥)

abbrev pub ended : {A : Type 0} → A → List Token → Result A (List Token)
ended x [] = Ok x
ended x (a ∷ r) = Err (a ∷ r)

abbrev pub all_at : {A : Type 0} → Reader A → List Token → Result A (List Token)
all_at p w = p w >>= λ x. ended x.0 x.1

-- ---- a loop that changes a state while the token in hand passes the test

abbrev pub steps : {S : Type 0} → ℕ → (S → Lang S) → S → Lang S
steps zero step s = none
steps (suc k) step s = either (bind (step s) λ r. steps k step r) (only s)

abbrev pub steps_at : {S : Type 0} → ℕ → (Token → Bool) → (S → Reader S) → S → Reader S
steps_at zero test step s w = Err w
steps_at (suc n) test step s w = either_at test (bind_at (step s) λ r. steps_at n test step r) (done_at s) w

-- an alternative that is there only where it may be
abbrev pub option : {A : Type 0} → Bool → Lang A → Lang A → Lang A
option true L M = either L M
option false L M = M

abbrev pub option_at : {A : Type 0} → Bool → (Token → Bool) → Reader A → Reader A → Reader A
option_at true test p q = either_at test p q
option_at false test p q = q
