-- A language whose canonical tokens spell their value again, places aside; and how such languages are put together.
use Rattle.std.proofs.Common.{◌≡◌, ℕ, Bool, true, false, List, [], ◌∷◌, ◌++◌, map, Result, Ok, Some, None, refl, sym, ap, subst, ◌∙◌, append-nil, inl, inr, ◌⊎◌}
use Rattle.std.specs.List.{AllByRecursion}
use Rattle.std.specs.Prelude.{option_map}
use Rattle.p4_lex.specs.declared.token.Token.{Token}
use Rattle.p4_lex.specs.declared.token.Sign.{Sign}
use Rattle.p4_lex.specs.declared.token.Lexeme.{Lexeme}
use Rattle.p4_lex.specs.declared.token.Lexeme.TheVariants as lexeme
use Rattle.std.specs.Str.{bytes_eq}
use Rattle.p4_ast.specs.declared.name.P4Name.{P4Name}
use Rattle.p4_ast.specs.declared.name.P4Number.{P4Number}
use Rattle.p4_ast.specs.Bare.{bare_name, bare_number}
use Rattle.p4_grammar.specs.Forms.{Lang, only, bind, either, taken, many, Spells}
use Rattle.p4_grammar.specs.Tokens.{test, code, is, sign_of, name, name_of, number, number_of, the_name, text_of, words}
use Rattle.p4_grammar.proofs.Languages.{Same}
use Rattle.p4_grammar.proofs.Basics.{tok, given_self, by_sign}
use Rattle.p4_grammar.proofs.Operands.{same_bytes}
use Rattle.p4_print.specs.Shared.{the, named, all, separated, maybe, name_tokens}
use Rattle.p4_print.specs.Shared.{number as number_lexeme}
use Rattle.p4_reread.specs.Again.{lexemes}

-- ---- tokens in two parts

pub record Parts (a b : List Lexeme) (v : List Token) : Type 0 where
  pub front : List Token
  pub behind : List Token
  pub is : v ≡ front ++ behind
  pub fronts : lexemes front ≡ a
  pub behinds : lexemes behind ≡ b

tail_of : List Lexeme → List Lexeme
tail_of [] = []
tail_of (l ∷ ls) = ls

head_of : Lexeme → List Lexeme → Lexeme
head_of d [] = d
head_of d (l ∷ ls) = l

pub parts : (a b : List Lexeme) (v : List Token) → lexemes v ≡ a ++ b → Parts a b v
unfolding tail_of head_of
parts [] b v e = record { front = []; behind = v; is = refl; fronts = refl; behinds = e }
parts (l ∷ a) b [] e = absurd cc
parts (l ∷ a) b (t ∷ v) e =
    let tails : lexemes v ≡ a ++ b = ap tail_of e in
    let heads : t.lexeme ≡ l = ap (head_of l) e in
    let p : Parts a b v = parts a b v tails in
    record { front = t ∷ p.front; behind = p.behind; is = ap (λ (q : List Token). t ∷ q) p.is; fronts = ap (λ (q : Lexeme). q ∷ lexemes p.front) heads ∙ ap (λ (q : List Lexeme). l ∷ q) p.fronts; behinds = p.behinds }

-- ---- what is said of each lexeme

abbrev pub All : (Lexeme → Type 0) → List Lexeme → Type 0
All V ls = AllByRecursion V ls

abbrev pub Signs : (Lexeme → Type 0) → Type 0
Signs V = (s : Sign) → V (lexeme.Sign s)

pub all_join : (V : Lexeme → Type 0) (a b : List Lexeme) → All V a → All V b → All V (a ++ b)
all_join V [] b h k = k
all_join V (l ∷ a) b h k = (h.0, all_join V a b h.1 k)

pub all_cut : (V : Lexeme → Type 0) (u v : List Token) → All V (lexemes (u ++ v)) → All V (lexemes u) × All V (lexemes v)
all_cut V [] v h = (tt, h)
all_cut V (t ∷ u) v h = let c : All V (lexemes u) × All V (lexemes v) = all_cut V u v h.1 in ((h.0, c.0), c.1)

-- what every token of w has, where w is in two parts
pub all_parts : (V : Lexeme → Type 0) (w u v : List Token) → w ≡ u ++ v → All V (lexemes w) → All V (lexemes u) × All V (lexemes v)
all_parts V w u v e h = all_cut V u v (subst (λ (q : List Token). All V (lexemes q)) e h)

-- ---- languages

-- The tokens f of a value spell it again, as b shows it; and each of their lexemes is a sign or one that spelled it before.
pub record Again {A C : Type 0} (L : Lang A) (f : A → List Lexeme) (b : A → C) : Type 1 where
  pub back : (x : A) (w : List Token) → L x w → (v : List Token) → lexemes v ≡ f x → (y : A) × L y v × (b y ≡ b x)
  pub kept : (V : Lexeme → Type 0) → Signs V → (x : A) (w : List Token) → L x w → All V (lexemes w) → All V (f x)

-- what is left of the tokens of y, and how it is read again
pub record Left {Y C : Type 0} (p : List Lexeme → List Lexeme) (f : Y → List Lexeme) (b : Y → C) (M : Lang Y) (y : Y) (w : List Token) : Type 1 where
  pub more : List Lexeme
  pub is : f y ≡ p more
  pub back : (v : List Token) → lexemes v ≡ more → (z : Y) × M z v × (b z ≡ b y)
  pub kept : (V : Lexeme → Type 0) → Signs V → All V (lexemes w) → All V more

-- two lists that give the same behind p are the same
abbrev pub Apart : (List Lexeme → List Lexeme) → Type 0
Apart p = (q r : List Lexeme) → p q ≡ p r → q ≡ r

-- K goes on behind the lexemes p, and M where they are read again
pub record Onward {Y C : Type 0} (p : List Lexeme → List Lexeme) (f : Y → List Lexeme) (b : Y → C) (K M : Lang Y) : Type 1 where
  pub left : Apart p → (y : Y) (w : List Token) → K y w → Left p f b M y w

-- the same behind the last lexemes
pub record Ended {Y C : Type 0} (ts : List Lexeme) (f : Y → List Lexeme) (b : Y → C) (K M : Lang Y) : Type 0 where
  pub is : (y : Y) (w : List Token) → K y w → f y ≡ ts
  pub back : (y : Y) (w : List Token) → K y w → (z : Y) × M z [] × (b z ≡ b y)

pub whole : {Y C : Type 0} {f : Y → List Lexeme} {b : Y → C} {L : Lang Y} → Onward (λ r. r) f b L L → Again L f b
whole h = record {
  back = λ x w d v e. (h.left (λ q r same. same) x w d).back v (e ∙ (h.left (λ q r same. same) x w d).is);
  kept = λ V s x w d a. subst (All V) (sym (h.left (λ q r same. same) x w d).is) ((h.left (λ q r same. same) x w d).kept V s a);
}

pub none_at : (v : List Token) → lexemes v ≡ [] → v ≡ []
none_at [] n = refl
none_at (t ∷ v) n = absurd cc

pub done : {Y C : Type 0} {p : List Lexeme → List Lexeme} {f : Y → List Lexeme} {b : Y → C} {x y : Y} → f x ≡ p [] → b y ≡ b x → Onward p f b (only x) (only y)
done {p = p} {f = f} {b = b} {x = x} {y = y} e g = record {
  left = λ apart z w d. record {
    more = [];
    is = ap f d.0 ∙ e;
    back = λ v n. (y, (refl, none_at v n), g ∙ ap b (sym d.0));
    kept = λ V s a. tt;
  };
}

pub ends : {Y C : Type 0} {ts : List Lexeme} {f : Y → List Lexeme} {b : Y → C} {x y : Y} → f x ≡ ts → b y ≡ b x → Ended ts f b (only x) (only y)
ends {f = f} {b = b} {y = y} e g = record { is = λ z w d. ap f d.0 ∙ e; back = λ z w d. (y, (refl, refl), g ∙ ap b (sym d.0)) }

cut_front : (g q r : List Lexeme) → g ++ q ≡ g ++ r → q ≡ r
unfolding tail_of
cut_front [] q r e = e
cut_front (l ∷ g) q r e = cut_front g q r (ap tail_of e)

apart_more : (p : List Lexeme → List Lexeme) (g : List Lexeme) → Apart p → Apart (λ r. p (g ++ r))
apart_more p g h q r e = cut_front g q r (h (g ++ q) (g ++ r) e)

module _ {A B Y C : Type 0} (p : List Lexeme → List Lexeme) (f : Y → List Lexeme) (b : Y → C) (L : Lang A) (g : A → List Lexeme) (c : A → B) (K M : A → Lang Y) (h : Again L g c) where
  module _ (k : (x y : A) → c y ≡ c x → Onward (λ r. p (g x ++ r)) f b (K x) (M y)) (apart : Apart p) (x : A) (y : Y) (v : List Token) (r : K x y v) where
    here : (x1 : A) → c x1 ≡ c x → Left (λ q. p (g x ++ q)) f b (M x1) y v
    here x1 e = (k x x1 e).left (apart_more p (g x) apart) y v r

    same_more : (x1 : A) (e : c x1 ≡ c x) → (here x refl).more ≡ (here x1 e).more
    same_more x1 e = apart_more p (g x) apart (here x refl).more (here x1 e).more (sym (here x refl).is ∙ (here x1 e).is)

    onward : (u : List Token) → L x u → (t : List Token) → lexemes t ≡ g x ++ (here x refl).more → (z : Y) × bind L M z t × (b z ≡ b y)
    onward u d t e =
        let q : Parts (g x) (here x refl).more t = parts (g x) (here x refl).more t e in
        let o : (x1 : A) × L x1 q.front × (c x1 ≡ c x) = h.back x u d q.front q.fronts in
        let n : (z : Y) × M o.0 z q.behind × (b z ≡ b y) = (here o.0 o.2).back q.behind (q.behinds ∙ same_more o.0 o.2) in
        (n.0, (o.0, q.front, q.behind, q.is, o.1, n.1), n.2)

  step_left : ((x y : A) → c y ≡ c x → Onward (λ r. p (g x ++ r)) f b (K x) (M y)) → Apart p → (y : Y) (w : List Token) → bind L K y w → Left p f b (bind L M) y w
  step_left k apart y w (x, u, v, e, d, r) = record {
    more = g x ++ (here k apart x y v r x refl).more;
    is = (here k apart x y v r x refl).is;
    back = onward k apart x y v r u d;
    kept = λ V s a. all_join V (g x) (here k apart x y v r x refl).more (h.kept V s x u d (all_parts V w u v e a).0) ((here k apart x y v r x refl).kept V s (all_parts V w u v e a).1);
  }

  step_last : ((x y : A) → c y ≡ c x → Ended (p (g x)) f b (K x) (M y)) → (y : Y) (w : List Token) → bind L K y w → Left p f b (bind L M) y w
  step_last k y w (x, u, v, e, d, r) = record {
    more = g x;
    is = (k x x refl).is y v r;
    back = λ t same.
        let o : (x1 : A) × L x1 t × (c x1 ≡ c x) = h.back x u d t same in
        let n : (z : Y) × M o.0 z [] × (b z ≡ b y) = (k x o.0 o.2).back y v r in
        (n.0, (o.0, t, [], sym (append-nil t), o.1, n.1), n.2);
    kept = λ V s a. h.kept V s x u d (all_parts V w u v e a).0;
  }

-- a front, and what goes on behind its value
pub step : {A B Y C : Type 0} {p : List Lexeme → List Lexeme} {f : Y → List Lexeme} {b : Y → C} {L : Lang A} {g : A → List Lexeme} {c : A → B} {K M : A → Lang Y} → Again L g c → ((x y : A) → c y ≡ c x → Onward (λ r. p (g x ++ r)) f b (K x) (M y)) → Onward p f b (bind L K) (bind L M)
step {p = p} {f = f} {b = b} {L = L} {g = g} {c = c} {K = K} {M = M} h k = record { left = step_left p f b L g c K M h k }

-- a front, behind which no token follows
pub last : {A B Y C : Type 0} {p : List Lexeme → List Lexeme} {f : Y → List Lexeme} {b : Y → C} {L : Lang A} {g : A → List Lexeme} {c : A → B} {K M : A → Lang Y} → Again L g c → ((x y : A) → c y ≡ c x → Ended (p (g x)) f b (K x) (M y)) → Onward p f b (bind L K) (bind L M)
last {p = p} {f = f} {b = b} {L = L} {g = g} {c = c} {K = K} {M = M} h k = record { left = λ apart. step_last p f b L g c K M h k }

-- ---- alternatives

inl_left : {Y C : Type 0} {p : List Lexeme → List Lexeme} {f : Y → List Lexeme} {b : Y → C} {M N : Lang Y} {y : Y} {w : List Token} → Left p f b M y w → Left p f b (either M N) y w
inl_left l = record { more = l.more; is = l.is; back = λ v e. ((l.back v e).0, inl (l.back v e).1, (l.back v e).2); kept = l.kept }

inr_left : {Y C : Type 0} {p : List Lexeme → List Lexeme} {f : Y → List Lexeme} {b : Y → C} {M N : Lang Y} {y : Y} {w : List Token} → Left p f b N y w → Left p f b (either M N) y w
inr_left l = record { more = l.more; is = l.is; back = λ v e. ((l.back v e).0, inr (l.back v e).1, (l.back v e).2); kept = l.kept }

module _ {Y C : Type 0} (p : List Lexeme → List Lexeme) (f : Y → List Lexeme) (b : Y → C) (K M N O : Lang Y) (h : Onward p f b K M) (k : Onward p f b N O) (apart : Apart p) where
  side : (y : Y) (w : List Token) → K y w ⊎ N y w → Left p f b (either M O) y w
  side y w (inl d) = inl_left (h.left apart y w d)
  side y w (inr d) = inr_left (k.left apart y w d)

-- one of two
pub fork : {Y C : Type 0} {p : List Lexeme → List Lexeme} {f : Y → List Lexeme} {b : Y → C} {K M N O : Lang Y} → Onward p f b K M → Onward p f b N O → Onward p f b (either K N) (either M O)
fork {p = p} {f = f} {b = b} {K = K} {M = M} {N = N} {O = O} h k = record { left = side p f b K M N O h k }

-- a language that goes on as itself
pub onto : {Y C : Type 0} {p : List Lexeme → List Lexeme} {f g : Y → List Lexeme} {b : Y → C} {L : Lang Y} → Again L g b → ((y : Y) → f y ≡ p (g y)) → Onward p f b L L
onto {g = g} h same = record { left = λ apart y w d. record { more = g y; is = same y; back = h.back y w d; kept = λ V s a. h.kept V s y w d a } }

-- ---- single tokens

pub one_token : (v : List Token) (l : Lexeme) → lexemes v ≡ l ∷ [] → (t : Token) × (v ≡ t ∷ []) × (t.lexeme ≡ l)
one_token [] l e = absurd cc
one_token (t ∷ []) l e = (t, refl, cc)
one_token (t ∷ s ∷ v) l e = absurd cc

-- a test of a token by its lexeme, and the token of its value
pub record Tells {A C : Type 0} (F : ℕ → Lexeme → Result A (Unit {0})) (g : A → Lexeme) (c : A → C) : Type 0 where
  pub is : (at : ℕ) (l : Lexeme) (x : A) → F at l ≡ Ok x → g x ≡ l
  pub again : (at other : ℕ) (l : Lexeme) (x : A) → F at l ≡ Ok x → (y : A) × (F other l ≡ Ok y) × (c y ≡ c x)

module _ {A C : Type 0} (F : ℕ → Lexeme → Result A (Unit {0})) (g : A → Lexeme) (c : A → C) (h : Tells F g c) where
  token_back : (x : A) (w : List Token) → taken (λ t. F t.at t.lexeme) x w → (v : List Token) → lexemes v ≡ g x ∷ [] → (y : A) × taken (λ t. F t.at t.lexeme) y v × (c y ≡ c x)
  token_back x w (a, one, e) v same =
      let o : (t : Token) × (v ≡ t ∷ []) × (t.lexeme ≡ g x) = one_token v (g x) same in
      let n : (y : A) × (F o.0.at a.lexeme ≡ Ok y) × (c y ≡ c x) = h.again a.at o.0.at a.lexeme x e in
      let same_lexeme : o.0.lexeme ≡ a.lexeme = o.2 ∙ h.is a.at a.lexeme x e in
      (n.0, (o.0, o.1, ap (F o.0.at) same_lexeme ∙ n.1), n.2)

  token_kept : (V : Lexeme → Type 0) (x : A) (w : List Token) → taken (λ t. F t.at t.lexeme) x w → All V (lexemes w) → All V (g x ∷ [])
  token_kept V x w (a, one, e) all = subst (λ (l : Lexeme). All V (l ∷ [])) (sym (h.is a.at a.lexeme x e)) (subst (λ (q : List Token). All V (lexemes q)) one all)

  pub token-again : Again (taken λ t. F t.at t.lexeme) (λ x. g x ∷ []) c
  token-again = record { back = token_back; kept = λ V s x w d a. token_kept V x w d a }

sign_tells : (s : Sign) → Tells (sign_of s) (λ at. the s) (λ at. tt {0})
sign_tells s = record {
  is = λ at l x e. sym (by_sign (λ (t : Token). t.lexeme) s (λ a b. refl) (tok at 0 l) x e);
  again = λ at other l x e. (other, by_sign (λ (t : Token). sign_of s other t.lexeme) s (λ a b. given_self (code s) other) (tok at 0 l) x e, refl);
}

pub sign-again : (s : Sign) → Again (taken (is s)) (λ at. the s ∷ []) (λ at. tt {0})
sign-again s = token-again (sign_of s) (λ at. the s) (λ at. tt {0}) (sign_tells s)

name_tells : Tells name_of named bare_name
name_tells = record { is = name_is; again = name_again } where
  name_is : (at : ℕ) (l : Lexeme) (x : P4Name) → name_of at l ≡ Ok x → named x ≡ l
  name_is at (lexeme.Name text) x e = cc
  name_is at (lexeme.Sign s) x e = absurd cc
  name_is at (lexeme.Number v w) x e = absurd cc

  name_again : (at other : ℕ) (l : Lexeme) (x : P4Name) → name_of at l ≡ Ok x → (y : P4Name) × (name_of other l ≡ Ok y) × (bare_name y ≡ bare_name x)
  name_again at other (lexeme.Name text) x e =
      let is : record { at = at; text = text } ≡ x = cc in
      (record { at = other; text = text }, refl, ap bare_name is)
  name_again at other (lexeme.Sign s) x e = absurd cc
  name_again at other (lexeme.Number v w) x e = absurd cc

pub name-again : Again (taken name) name_tokens bare_name
name-again = token-again name_of named bare_name name_tells

number_tells : Tells number_of number_lexeme bare_number
number_tells = record { is = number_is; again = number_again } where
  number_is : (at : ℕ) (l : Lexeme) (x : P4Number) → number_of at l ≡ Ok x → number_lexeme x ≡ l
  number_is at (lexeme.Number v w) x e = cc
  number_is at (lexeme.Name text) x e = absurd cc
  number_is at (lexeme.Sign s) x e = absurd cc

  number_again : (at other : ℕ) (l : Lexeme) (x : P4Number) → number_of at l ≡ Ok x → (y : P4Number) × (number_of other l ≡ Ok y) × (bare_number y ≡ bare_number x)
  number_again at other (lexeme.Number v w) x e =
      let is : record { at = at; value = v; width = w } ≡ x = cc in
      (record { at = other; value = v; width = w }, refl, ap bare_number is)
  number_again at other (lexeme.Name text) x e = absurd cc
  number_again at other (lexeme.Sign s) x e = absurd cc

pub number-again : Again (taken number) (λ n. number_lexeme n ∷ []) bare_number
number-again = token-again number_of number_lexeme bare_number number_tells

-- a name of this text, which isn't kept
text_tells : (text : List ℕ) → Tells (text_of text) (λ at. lexeme.Name text) (λ at. tt {0})
text_tells text = record { is = text_is; again = text_again } where
  tested : (b : Bool) (at x : ℕ) → test b at ≡ Ok x → b ≡ true
  tested true at x e = refl
  tested false at x e = absurd cc

  passed : (b : Bool) (at : ℕ) → b ≡ true → test b at ≡ Ok at
  passed true at e = refl
  passed false at e = absurd cc

  text_is : (at : ℕ) (l : Lexeme) (x : ℕ) → text_of text at l ≡ Ok x → lexeme.Name text ≡ l
  text_is at (lexeme.Name other) x e = ap lexeme.Name (sym (same_bytes other text (tested (bytes_eq other text) at x e)))
  text_is at (lexeme.Sign s) x e = absurd cc
  text_is at (lexeme.Number v w) x e = absurd cc

  text_again : (at other : ℕ) (l : Lexeme) (x : ℕ) → text_of text at l ≡ Ok x → (y : ℕ) × (text_of text other l ≡ Ok y) × (tt {0} ≡ tt {0})
  text_again at other (lexeme.Name word) x e = (other, passed (bytes_eq word text) other (tested (bytes_eq word text) at x e), refl)
  text_again at other (lexeme.Sign s) x e = absurd cc
  text_again at other (lexeme.Number v w) x e = absurd cc

pub text-again : (text : List ℕ) → Again (taken (the_name text)) (λ at. lexeme.Name text ∷ []) (λ at. tt {0})
text-again text = token-again (text_of text) (λ at. lexeme.Name text) (λ at. tt {0}) (text_tells text)

-- ---- tokens by their lexemes

-- a token with lexemes before and behind it
pub record Around (a : List Lexeme) (l : Lexeme) (b : List Lexeme) (v : List Token) : Type 0 where
  pub front : List Token
  pub token : Token
  pub behind : List Token
  pub parted : v ≡ front ++ token ∷ behind
  pub fronts : lexemes front ≡ a
  pub here : token.lexeme ≡ l
  pub behinds : lexemes behind ≡ b

pub around : (a : List Lexeme) (l : Lexeme) (b : List Lexeme) (v : List Token) → lexemes v ≡ a ++ (l ∷ b) → Around a l b v
around a l b v s =
    let p : Parts a (l ∷ b) v = parts a (l ∷ b) v s in
    let q : Parts (l ∷ []) b p.behind = parts (l ∷ []) b p.behind p.behinds in
    let t : (t : Token) × (q.front ≡ t ∷ []) × (t.lexeme ≡ l) = one_token q.front l q.fronts in
    record { front = p.front; token = t.0; behind = q.behind; parted = p.is ∙ ap (λ (r : List Token). p.front ++ r) (q.is ∙ ap (λ (r : List Token). r ++ q.behind) t.1); fronts = p.fronts; here = t.2; behinds = q.behinds }

-- the place of a sign
pub sign_at : (s : Sign) (t : Token) → t.lexeme ≡ the s → is s t ≡ Ok t.at
sign_at s t h = ap (sign_of s t.at) h ∙ given_self (code s) t.at

-- a token of this lexeme that stands first
pub record Leads (l : Lexeme) (b : List Lexeme) (v : List Token) : Type 0 where
  pub token : Token
  pub behind : List Token
  pub parted : v ≡ token ∷ behind
  pub here : token.lexeme ≡ l
  pub behinds : lexemes behind ≡ b

pub leads : (l : Lexeme) (b : List Lexeme) (v : List Token) → lexemes v ≡ l ∷ b → Leads l b v
unfolding tail_of head_of
leads l b [] e = absurd cc
leads l b (t ∷ v) e = record { token = t; behind = v; parted = refl; here = ap (head_of l) e; behinds = ap tail_of e }

-- ---- signs, and repetition

pub words_step : {Y C : Type 0} {p : List Lexeme → List Lexeme} {f : Y → List Lexeme} {b : Y → C} {K M : Lang Y} (ss : List Sign) → Onward (λ r. p (map the ss ++ r)) f b K M → Onward p f b (words ss K) (words ss M)
words_step [] h = h
words_step {p = p} (s ∷ ss) h = step (sign-again s) (λ x y e. words_step {p = λ r. p (the s ∷ r)} ss h)

-- behind one sign
pub behind-again : {A C : Type 0} {L : Lang A} {f : A → List Lexeme} {b : A → C} (s : Sign) → Again L f b → Again (words (s ∷ []) L) (λ x. the s ∷ f x) b
behind-again s h = whole (words_step (s ∷ []) (onto h (λ y. refl)))

module _ {A C : Type 0} (L : Lang A) (f : A → List Lexeme) (b : A → C) (h : Again L f b) where
  many_back : (xs : List A) (w : List Token) → many L xs w → (v : List Token) → lexemes v ≡ all f xs → (ys : List A) × many L ys v × (map b ys ≡ map b xs)
  many_back [] w d v e = ([], none_at v e, refl)
  many_back (x ∷ xs) w (u, r, e, d, ds) v same =
      let q : Parts (f x) (all f xs) v = parts (f x) (all f xs) v same in
      let o : (y : A) × L y q.front × (b y ≡ b x) = h.back x u d q.front q.fronts in
      let n : (ys : List A) × many L ys q.behind × (map b ys ≡ map b xs) = many_back xs r ds q.behind q.behinds in
      (o.0 ∷ n.0, (q.front, q.behind, q.is, o.1, n.1), ap (λ (z : C). z ∷ map b n.0) o.2 ∙ ap (λ (zs : List C). b x ∷ zs) n.2)

  many_kept : (V : Lexeme → Type 0) → Signs V → (xs : List A) (w : List Token) → many L xs w → All V (lexemes w) → All V (all f xs)
  many_kept V s [] w d a = tt
  many_kept V s (x ∷ xs) w (u, r, e, d, ds) a = all_join V (f x) (all f xs) (h.kept V s x u d (all_parts V w u r e a).0) (many_kept V s xs r ds (all_parts V w u r e a).1)

pub many-again : {A C : Type 0} {L : Lang A} {f : A → List Lexeme} {b : A → C} → Again L f b → Again (many L) (all f) (map b)
many-again {L = L} {f = f} {b = b} h = record { back = many_back L f b h; kept = many_kept L f b h }

-- at least one, with this sign between them
pub list-again : {A C : Type 0} {L : Lang A} {f : A → List Lexeme} {b : A → C} (s : Sign) → Again L f b → Again (bind L λ x. bind (many (words (s ∷ []) L)) λ xs. only (x ∷ xs)) (separated s f) (map b)
list-again {b = b} s h = whole (step h λ x y e. last (many-again (behind-again s h)) λ xs ys es. ends refl (ap (λ (z : _). z ∷ map b ys) e ∙ ap (λ (zs : _). b x ∷ zs) es))

-- what may be left out
pub option-again : {A C : Type 0} {L : Lang A} {f : A → List Lexeme} {b : A → C} → Again L f b → Again (either (bind L λ x. only (Some x)) (only None)) (maybe f) (option_map b)
option-again h = whole (fork (last h λ x y e. ends refl (ap Some e)) (done refl refl))

-- ---- what a derivation says of its value, where V holds of its tokens

pub record Says {A : Type 0} (V : Lexeme → Type 0) (L : Lang A) (P : A → Type 0) : Type 0 where
  pub at : (x : A) (w : List Token) → L x w → All V (lexemes w) → P x

says_bind_at : {A B : Type 0} (V : Lexeme → Type 0) (L : Lang A) (P : A → Type 0) (K : A → Lang B) (Q : B → Type 0) → Says V L P → ((x : A) → P x → Says V (K x) Q) → (y : B) (w : List Token) → bind L K y w → All V (lexemes w) → Q y
says_bind_at V L P K Q h k y w (x, u, v, e, d, r) a = (k x (h.at x u d (all_parts V w u v e a).0)).at y v r (all_parts V w u v e a).1

pub says_bind : {A B : Type 0} {V : Lexeme → Type 0} {L : Lang A} {P : A → Type 0} {K : A → Lang B} {Q : B → Type 0} → Says V L P → ((x : A) → P x → Says V (K x) Q) → Says V (bind L K) Q
says_bind {V = V} {L = L} {P = P} {K = K} {Q = Q} h k = record { at = says_bind_at V L P K Q h k }

pub says_only : {A : Type 0} {V : Lexeme → Type 0} {Q : A → Type 0} {x : A} → Q x → Says V (only x) Q
says_only {Q = Q} h = record { at = λ y w d a. subst Q (sym d.0) h }

says_side : {A : Type 0} (V : Lexeme → Type 0) (L M : Lang A) (Q : A → Type 0) → Says V L Q → Says V M Q → (x : A) (w : List Token) → L x w ⊎ M x w → All V (lexemes w) → Q x
says_side V L M Q h k x w (inl d) a = h.at x w d a
says_side V L M Q h k x w (inr d) a = k.at x w d a

pub says_either : {A : Type 0} {V : Lexeme → Type 0} {L M : Lang A} {Q : A → Type 0} → Says V L Q → Says V M Q → Says V (either L M) Q
says_either {V = V} {L = L} {M = M} {Q = Q} h k = record { at = says_side V L M Q h k }

pub says_nothing : {A : Type 0} {V : Lexeme → Type 0} {L : Lang A} → Says V L (λ x. Unit {0})
says_nothing = record { at = λ x w d a. tt {0} }

pub says_words : {A : Type 0} {V : Lexeme → Type 0} {L : Lang A} {Q : A → Type 0} (ss : List Sign) → Says V L Q → Says V (words ss L) Q
says_words [] h = h
says_words (s ∷ ss) h = says_bind says_nothing (λ at u. says_words ss h)

-- tokens that spell x, and V of them
abbrev pub Spelt : {A : Type 0} → (Lexeme → Type 0) → Lang A → A → Type 0
Spelt V L x = (w : List Token) × L x w × All V (lexemes w)

pub says_self : {A : Type 0} {V : Lexeme → Type 0} {L : Lang A} → Says V L (Spelt V L)
says_self = record { at = λ x w d a. (w, d, a) }

pub all_true : (ls : List Lexeme) → All (λ l. Unit {0}) ls
all_true [] = tt
all_true (l ∷ ls) = (tt {0}, all_true ls)

module _ {A : Type 0} (V : Lexeme → Type 0) (L : Lang A) (P : A → Type 0) (h : Says V L P) where
  many_at : (xs : List A) (w : List Token) → many L xs w → All V (lexemes w) → AllByRecursion P xs
  many_at [] w d a = tt
  many_at (x ∷ xs) w (u, v, e, d, ds) a = (h.at x u d (all_parts V w u v e a).0, many_at xs v ds (all_parts V w u v e a).1)

pub says_many : {A : Type 0} {V : Lexeme → Type 0} {L : Lang A} {P : A → Type 0} → Says V L P → Says V (many L) (AllByRecursion P)
says_many {V = V} {L = L} {P = P} h = record { at = many_at V L P h }

-- ---- other forms of the same language

pub again_same : {A C : Type 0} {L M : Lang A} {f : A → List Lexeme} {b : A → C} → Same L M → Again L f b → Again M f b
again_same s h = record {
  back = λ x w d v e. let r : _ = h.back x w (s.back x w d) v e in (r.0, s.to r.0 v r.1, r.2);
  kept = λ V g x w d a. h.kept V g x w (s.back x w d) a;
}

-- the same behind two prefixes that are one
pub onward_as : {Y C : Type 0} {p q : List Lexeme → List Lexeme} {f : Y → List Lexeme} {b : Y → C} {K M O N : Lang Y} → ((r : List Lexeme) → p r ≡ q r) → Same K O → Same M N → Onward q f b O N → Onward p f b K M
onward_as {p = p} {q = q} same k m h = record {
  left = λ apart y w d.
      let l : Left _ _ _ _ y w = h.left (λ x z e. apart x z (same x ∙ e ∙ sym (same z))) y w (k.to y w d) in
      record { more = l.more; is = l.is ∙ sym (same l.more); back = λ v e. ((l.back v e).0, m.back (l.back v e).0 v (l.back v e).1, (l.back v e).2); kept = l.kept };
}

-- of any height
pub any-again : {A C : Type 0} {P : ℕ → Lang A} {f : A → List Lexeme} {b : A → C} → ((k : ℕ) → Again (P k) f b) → Again (Spells P) f b
any-again h = record {
  back = λ x w d v e. let r : _ = (h d.0).back x w d.1 v e in (r.0, (d.0, r.1), r.2);
  kept = λ V s x w d a. (h d.0).kept V s x w d.1 a;
}
