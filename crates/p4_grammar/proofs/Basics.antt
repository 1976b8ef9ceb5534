-- Readers of single tokens fit; what a language's words begin with; and which token passes which test.
use Rattle.std.proofs.Common.{◌≡◌, ℕ, zero, suc, ◌≤◌, Bool, true, false, nat_eq, List, [], ◌∷◌, ◌++◌, length, Result, Ok, Option, None, refl, sym, ap, ◌∙◌, append_assoc, arith, inl, inr, ◌⊎◌}
use Rattle.std.proofs.lemmas.Bool.{eqb-true, eq-eqb}
use Rattle.p4_lex.specs.declared.token.Token.{Token}
use Rattle.p4_lex.specs.declared.token.Sign.{Sign}
use Rattle.p4_lex.specs.declared.token.Sign.TheVariants as sign
use Rattle.p4_lex.specs.declared.token.Lexeme.{Lexeme}
use Rattle.p4_lex.specs.declared.token.Lexeme.TheVariants as lexeme
use Rattle.p4_ast.specs.declared.name.P4Name.{P4Name}
use Rattle.p4_ast.specs.declared.name.P4Number.{P4Number}
use Rattle.p4_grammar.specs.Forms.{Lang, bind, either, taken, Reader, bind_at, taken_at, hand, either_at, Spells, many, many_at}
use Rattle.p4_grammar.specs.Tokens.{test, code, is, sign_of, name, name_of, number, number_of, the_name, text_of, words, words_at}
use Rattle.p4_grammar.proofs.Languages.{Same}
use Rattle.p4_grammar.proofs.Forms.{IsEnd, Reads, bind-reads, taken-reads, either-reads, fits, many-reads}

abbrev pub free : {A : Type 0} → A → Token → Bool
free x a = false

pub is_free : (m : List Token) → IsEnd (λ a. false) m
is_free [] = tt
is_free (a ∷ m) = refl

-- a token of this lexeme
abbrev pub tok : ℕ → ℕ → Lexeme → Token
tok at e l = record { at = at; end = e; lexeme = l }

-- a front behind which anything may stand
pub then-reads : {A B : Type 0} {n : ℕ} {D U : Lang A} {p : Reader A} {D2 U2 : A → Lang B} {E2 : B → Token → Bool} {f : A → Reader B} → Reads n D U free p → ((x : A) → Reads n (D2 x) (U2 x) E2 (f x)) → Reads n (bind D D2) (bind U U2) E2 (bind_at p f)
then-reads {n = n} {D = D} {U = U} {p = p} {D2 = D2} {U2 = U2} {E2 = E2} {f = f} h k = bind-reads n D U free p D2 U2 E2 f h k (λ x y v m d end. is_free (v ++ m))

pub given_self : {A : Type 0} (n : ℕ) (x : A) → test (nat_eq n n) x ≡ Ok x
given_self n x = rw (eq-eqb n n refl) refl

pub is_self : (s : Sign) → is s (tok 0 0 (lexeme.Sign s)) ≡ Ok 0
is_self s = given_self (code s) 0

pub is-reads : {n : ℕ} (s : Sign) → Reads n (taken (is s)) (taken (is s)) free (taken_at (is s))
is-reads {n = n} s = taken-reads n (is s) free (tok 0 0 (lexeme.Sign s)) 0 (is_self s)

pub name-reads : {n : ℕ} → Reads n (taken name) (taken name) free (taken_at name)
name-reads {n = n} = taken-reads n name free (tok 0 0 (lexeme.Name [])) (record { at = 0; text = [] }) refl

pub number-reads : {n : ℕ} → Reads n (taken number) (taken number) free (taken_at number)
number-reads {n = n} = taken-reads n number free (tok 0 0 (lexeme.Number 0 None)) (record { at = 0; value = 0; width = None }) refl

pub the_name-reads : {n : ℕ} (text : List ℕ) → the_name text (tok 0 0 (lexeme.Name text)) ≡ Ok 0 → Reads n (taken (the_name text)) (taken (the_name text)) free (taken_at (the_name text))
the_name-reads {n = n} text h = taken-reads n (the_name text) free (tok 0 0 (lexeme.Name text)) 0 h

pub words-reads : {A : Type 0} {n : ℕ} {D U : Lang A} {E : A → Token → Bool} {p : Reader A} (ss : List Sign) → Reads n D U E p → Reads n (words ss D) (words ss U) E (words_at ss p)
words-reads [] h = h
words-reads (s ∷ ss) h = then-reads (is-reads s) (λ t. words-reads ss h)

-- one sign, whose place is kept
pub sign-reads : {B : Type 0} {n : ℕ} {D2 U2 : ℕ → Lang B} {E2 : B → Token → Bool} {f : ℕ → Reader B} (s : Sign) → ((at : ℕ) → Reads n (D2 at) (U2 at) E2 (f at)) → Reads n (bind (taken (is s)) D2) (bind (taken (is s)) U2) E2 (bind_at (taken_at (is s)) f)
sign-reads s k = then-reads (is-reads s) k

pub named-reads : {B : Type 0} {n : ℕ} {D2 U2 : P4Name → Lang B} {E2 : B → Token → Bool} {f : P4Name → Reader B} → ((x : P4Name) → Reads n (D2 x) (U2 x) E2 (f x)) → Reads n (bind (taken name) D2) (bind (taken name) U2) E2 (bind_at (taken_at name) f)
named-reads k = then-reads name-reads k

pub numbered-reads : {B : Type 0} {n : ℕ} {D2 U2 : P4Number → Lang B} {E2 : B → Token → Bool} {f : P4Number → Reader B} → ((x : P4Number) → Reads n (D2 x) (U2 x) E2 (f x)) → Reads n (bind (taken number) D2) (bind (taken number) U2) E2 (bind_at (taken_at number) f)
numbered-reads k = then-reads number-reads k

-- ---- what words of a language begin with

pub record Begins {A : Type 0} (b : Bool) (t : Token → Bool) (L : Lang A) : Type 0 where
  pub at : (x : A) (u m : List Token) → L x u → hand t (u ++ m) ≡ b

pub begins_taken : {A : Type 0} {b : Bool} {t : Token → Bool} {f : Token → Result A (Unit {0})} → ((a : Token) (x : A) → f a ≡ Ok x → t a ≡ b) → Begins b t (taken f)
begins_taken {t = t} h = record { at = λ x u m d. ap (λ (q : List Token). hand t (q ++ m)) d.1 ∙ h d.0 x d.2 }

pub begins_bind : {A B : Type 0} {b : Bool} {t : Token → Bool} {L : Lang A} {K : A → Lang B} → Begins b t L → Begins b t (bind L K)
begins_bind {t = t} h = record { at = λ y w m d. ap (λ (q : List Token). hand t (q ++ m)) d.3 ∙ ap (hand t) (append_assoc d.1 d.2 m) ∙ h.at d.0 d.1 (d.2 ++ m) d.4 }

begins_side : {A : Type 0} (b : Bool) (t : Token → Bool) (L M : Lang A) → Begins b t L → Begins b t M → (x : A) (u m : List Token) → L x u ⊎ M x u → hand t (u ++ m) ≡ b
begins_side b t L M h k x u m (inl d) = h.at x u m d
begins_side b t L M h k x u m (inr d) = k.at x u m d

pub begins_either : {A : Type 0} {b : Bool} {t : Token → Bool} {L M : Lang A} → Begins b t L → Begins b t M → Begins b t (either L M)
begins_either {b = b} {t = t} {L = L} {M = M} h k = record { at = begins_side b t L M h k }

pub begins_any : {A : Type 0} {b : Bool} {t : Token → Bool} {P : ℕ → Lang A} → ((k : ℕ) → Begins b t (P k)) → Begins b t (Spells P)
begins_any h = record { at = λ x u m d. (h d.0).at x u m d.1 }

pub choose-reads : {A : Type 0} {n : ℕ} {D U : Lang A} {E : A → Token → Bool} {p : Reader A} {D2 U2 : Lang A} {q : Reader A} (t : Token → Bool) → Reads n D U E p → Reads n D2 U2 E q → Begins true t D → Begins false t D2 → Reads n (either D D2) (either U U2) E (either_at t p q)
choose-reads {n = n} {D = D} {U = U} {E = E} {p = p} {D2 = D2} {U2 = U2} {q = q} t h k first other = either-reads n t D U E p D2 U2 q h k first.at (λ x u m d end. other.at x u m d)

pub said : {A : Type 0} {n : ℕ} {D U D2 U2 : Lang A} {E : A → Token → Bool} {p : Reader A} → Reads n D U E p → Same D2 D → Same U2 U → Reads n D2 U2 E p
said {n = n} {D = D} {U = U} {D2 = D2} {U2 = U2} {E = E} {p = p} r h k = fits n D U D2 U2 E E p r h.to k.back (λ x m end. end)

-- of any height
pub any-reads : {A : Type 0} {n : ℕ} {P : ℕ → Lang A} {E : A → Token → Bool} {p : Reader A} (j : ℕ) → ((k : ℕ) → Reads n (P k) (P j) E p) → Reads n (Spells P) (Spells P) E p
any-reads {n = n} {P = P} {E = E} {p = p} j h = record {
  got = λ w m x e. let g = (h 0).got w m x e in (g.0, g.1, (j, g.2));
  stopped = (h 0).stopped;
  viable = λ u r e short. let g = (h 0).viable u r e short in (g.0, g.1, (j, g.2));
  unique = λ u r x e short y w m s d end eq same. (h d.0).unique u r x e short y w m s d.1 end eq same;
  dead = λ u r e short y w m s d end eq same. (h d.0).dead u r e short y w m s d.1 end eq same;
  some = ((h 0).some.0, (h 0).some.1, (j, (h 0).some.2));
}

-- ---- which token passes which test

given_yes : {A : Type 0} (b : Bool) (x y : A) → test b x ≡ Ok y → b ≡ true
given_yes true x y e = refl
given_yes false x y e = absurd cc

-- the signs, each at its number
signs : List Sign
signs =
    sign.Action ∷ sign.Actions ∷ sign.Apply ∷ sign.Bit ∷ sign.Bool ∷ sign.Const ∷
    sign.Control ∷ sign.Default ∷ sign.DefaultAction ∷ sign.Else ∷ sign.Entries ∷ sign.Exact ∷
    sign.False ∷ sign.FlowKey ∷ sign.FlowArray ∷ sign.FlowCell ∷ sign.Header ∷ sign.If ∷
    sign.In ∷ sign.Inout ∷ sign.Key ∷ sign.Lpm ∷ sign.Out ∷ sign.PacketIn ∷
    sign.PacketOut ∷ sign.Parser ∷ sign.Select ∷ sign.Size ∷ sign.State ∷ sign.StdT ∷
    sign.Struct ∷ sign.Table ∷ sign.Ternary ∷ sign.Transition ∷ sign.True ∷ sign.Typedef ∷
    sign.RpSwitch ∷ sign.OpenBrace ∷ sign.CloseBrace ∷ sign.Open ∷ sign.Close ∷ sign.OpenSlice ∷
    sign.CloseSlice ∷ sign.Less ∷ sign.More ∷ sign.Dot ∷ sign.Comma ∷ sign.Semicolon ∷
    sign.Colon ∷ sign.Assign ∷ sign.Ask ∷ sign.Not ∷ sign.Complement ∷ sign.Plus ∷
    sign.Minus ∷ sign.SatPlus ∷ sign.SatMinus ∷ sign.BitAnd ∷ sign.BitOr ∷ sign.BitXor ∷
    sign.ShiftLeft ∷ sign.ShiftRight ∷ sign.Concat ∷ sign.Equal ∷ sign.NotEqual ∷ sign.LessEqual ∷
    sign.MoreEqual ∷ sign.And ∷ sign.Or ∷ sign.Mask ∷ sign.Any ∷ []

nth : ℕ → List Sign → Sign
nth n [] = sign.Action
nth zero (s ∷ ss) = s
nth (suc n) (s ∷ ss) = nth n ss

back : (s : Sign) → nth (code s) signs ≡ s
unfolding signs nth
back sign.Action = refl
back s = refl

sign_is : (s r : Sign) (at x : ℕ) → test (nat_eq (code s) (code r)) at ≡ Ok x → r ≡ s
sign_is s r at x e = sym (back r) ∙ ap (λ n. nth n signs) (sym (eqb-true (code s) (code r) (given_yes (nat_eq (code s) (code r)) at x e))) ∙ back s

pub lexeme_is : (s : Sign) (at x : ℕ) (l : Lexeme) → sign_of s at l ≡ Ok x → l ≡ lexeme.Sign s
lexeme_is s at x (lexeme.Sign r) e = ap lexeme.Sign (sign_is s r at x e)
lexeme_is s at x (lexeme.Name text) e = absurd cc
lexeme_is s at x (lexeme.Number value width) e = absurd cc

-- a token of which this sign is read is of that sign
pub by_sign : {A : Type 0} {b : A} (t : Token → A) (s : Sign) → ((at e : ℕ) → t (tok at e (lexeme.Sign s)) ≡ b) → (a : Token) (x : ℕ) → is s a ≡ Ok x → t a ≡ b
by_sign t s h a x e = ap (λ (l : Lexeme). t (tok a.at a.end l)) (lexeme_is s a.at x a.lexeme e) ∙ h a.at a.end

by_name_of : {A : Type 0} {b : A} (t : Token → A) → ((at e : ℕ) (text : List ℕ) → t (tok at e (lexeme.Name text)) ≡ b) → (at e : ℕ) (l : Lexeme) (x : P4Name) → name_of at l ≡ Ok x → t (tok at e l) ≡ b
by_name_of t h at e (lexeme.Name text) x g = h at e text
by_name_of t h at e (lexeme.Sign s) x g = absurd cc
by_name_of t h at e (lexeme.Number value width) x g = absurd cc

pub by_name : {A : Type 0} {b : A} (t : Token → A) → ((at e : ℕ) (text : List ℕ) → t (tok at e (lexeme.Name text)) ≡ b) → (a : Token) (x : P4Name) → name a ≡ Ok x → t a ≡ b
by_name t h a x g = by_name_of t h a.at a.end a.lexeme x g

by_text_of : {A : Type 0} {b : A} (t : Token → A) (word : List ℕ) → ((at e : ℕ) (text : List ℕ) → t (tok at e (lexeme.Name text)) ≡ b) → (at e : ℕ) (l : Lexeme) (x : ℕ) → text_of word at l ≡ Ok x → t (tok at e l) ≡ b
by_text_of t word h at e (lexeme.Name text) x g = h at e text
by_text_of t word h at e (lexeme.Sign s) x g = absurd cc
by_text_of t word h at e (lexeme.Number value width) x g = absurd cc

pub by_text : {A : Type 0} {b : A} (t : Token → A) (word : List ℕ) → ((at e : ℕ) (text : List ℕ) → t (tok at e (lexeme.Name text)) ≡ b) → (a : Token) (x : ℕ) → the_name word a ≡ Ok x → t a ≡ b
by_text t word h a x g = by_text_of t word h a.at a.end a.lexeme x g

by_number_of : {A : Type 0} {b : A} (t : Token → A) → ((at e value : ℕ) (width : Option ℕ) → t (tok at e (lexeme.Number value width)) ≡ b) → (at e : ℕ) (l : Lexeme) (x : P4Number) → number_of at l ≡ Ok x → t (tok at e l) ≡ b
by_number_of t h at e (lexeme.Number value width) x g = h at e value width
by_number_of t h at e (lexeme.Sign s) x g = absurd cc
by_number_of t h at e (lexeme.Name text) x g = absurd cc

pub by_number : {A : Type 0} {b : A} (t : Token → A) → ((at e value : ℕ) (width : Option ℕ) → t (tok at e (lexeme.Number value width)) ≡ b) → (a : Token) (x : P4Number) → number a ≡ Ok x → t a ≡ b
by_number t h a x g = by_number_of t h a.at a.end a.lexeme x g

-- words that begin with a sign, a name or a number
pub sign_begins : {B : Type 0} {b : Bool} {t : Token → Bool} {K : ℕ → Lang B} (s : Sign) → ((at e : ℕ) → t (tok at e (lexeme.Sign s)) ≡ b) → Begins b t (bind (taken (is s)) K)
sign_begins {t = t} s h = begins_bind (begins_taken (by_sign t s h))

pub name_begins : {B : Type 0} {b : Bool} {t : Token → Bool} {K : P4Name → Lang B} → ((at e : ℕ) (text : List ℕ) → t (tok at e (lexeme.Name text)) ≡ b) → Begins b t (bind (taken name) K)
name_begins {t = t} h = begins_bind (begins_taken (by_name t h))

pub number_begins : {B : Type 0} {b : Bool} {t : Token → Bool} {K : P4Number → Lang B} → ((at e value : ℕ) (width : Option ℕ) → t (tok at e (lexeme.Number value width)) ≡ b) → Begins b t (bind (taken number) K)
number_begins {t = t} h = begins_bind (begins_taken (by_number t h))

-- ---- lists

pub some_by : (t : Token → Bool) (u : List Token) → hand t (u ++ []) ≡ true → 1 ≤ length u
some_by t [] e = absurd cc
some_by t (a ∷ u) e = omega arith

-- a repetition of what begins so, up to a token that doesn't
pub list-reads : {A : Type 0} {n : ℕ} {D U : Lang A} {p : Reader A} (t : Token → Bool) → Reads n D U free p → Begins true t D → Begins true t U → Reads n (many D) (many U) (λ xs. t) (many_at n t p)
list-reads {n = n} {D = D} {U = U} {p = p} t h k up = many-reads n t D U free p h k.at (λ x u d. some_by t u (up.at x u [] d)) (λ x y u m d. is_free (u ++ m)) t (λ x m end. is_free m) (λ m end. end) n (omega arith)

hand_end : (t : Token → Bool) (m : List Token) → hand t m ≡ false → IsEnd t m
hand_end t [] e = tt
hand_end t (a ∷ m) e = e

-- a front, and what begins with a token that doesn't go on with it
pub behind-reads : {A B : Type 0} {n : ℕ} {D U : Lang A} {E : A → Token → Bool} {p : Reader A} {D2 U2 : A → Lang B} {E2 : B → Token → Bool} {f : A → Reader B} → Reads n D U E p → ((x : A) → Begins false (E x) (D2 x)) → ((x : A) → Reads n (D2 x) (U2 x) E2 (f x)) → Reads n (bind D D2) (bind U U2) E2 (bind_at p f)
behind-reads {n = n} {D = D} {U = U} {E = E} {p = p} {D2 = D2} {U2 = U2} {E2 = E2} {f = f} h b k = bind-reads n D U E p D2 U2 E2 f h k (λ x y v m d end. hand_end (E x) (v ++ m) ((b x).at y v m d))

-- a repetition of what begins so, where what may go on behind one doesn't begin so
pub list_to-reads : {A : Type 0} {n : ℕ} {D U : Lang A} {p : Reader A} (t E : Token → Bool) → Reads n D U (λ x. E) p → Begins true t D → Begins true t U → Begins false E D → (E2 : Token → Bool) → ((a : Token) → E2 a ≡ false → E a ≡ false) → ((a : Token) → E2 a ≡ false → t a ≡ false) → Reads n (many D) (many U) (λ xs. E2) (many_at n t p)
list_to-reads {n = n} {D = D} {U = U} {p = p} t E h k up away E2 ends stop = many-reads n t D U (λ x. E) p h k.at (λ x u d. some_by t u (up.at x u [] d)) (λ x y u m d. hand_end E (u ++ m) (away.at y u m d)) E2 (λ x m end. end_map E E2 ends m end) (λ m end. end_map t E2 stop m end) n (omega arith) where
  end_map : (E E2 : Token → Bool) → ((a : Token) → E2 a ≡ false → E a ≡ false) → (m : List Token) → IsEnd E2 m → IsEnd E m
  end_map E E2 h [] e = tt
  end_map E E2 h (a ∷ m) e = h a e
