-- A path and a last name of a given text, read as one path.
use Rattle.std.proofs.Common.{◌≡◌, ℕ, Bool, true, false, cond, List, [], ◌∷◌, ◌++◌, Result, Ok, Option, Some, None, refl, sym, ap, subst, ◌∙◌, append_assoc, append-nil}
use Rattle.std.specs.Str.{bytes_eq}
use Rattle.p4_lex.specs.declared.token.Token.{Token}
use Rattle.p4_lex.specs.declared.token.Sign.TheVariants as sign
use Rattle.p4_lex.specs.declared.token.Lexeme.{Lexeme}
use Rattle.p4_lex.specs.declared.token.Lexeme.TheVariants as lexeme
use Rattle.p4_ast.specs.declared.name.P4Name.{P4Name}
use Rattle.p4_grammar.specs.Forms.{Lang, bind, taken, many}
use Rattle.p4_grammar.specs.Tokens.{test, name, name_of, the_name, text_of, words, called, before}
use Rattle.p4_grammar.specs.GrammarExpressions.{names, path}
use Rattle.p4_grammar.proofs.Languages.{Same}

-- ---- one name

text_is : (text other : List ℕ) (at x : ℕ) → test (bytes_eq other text) at ≡ Ok x → bytes_eq other text ≡ true
text_is text other at x e = yes (bytes_eq other text) at x e where
  yes : (b : Bool) (at x : ℕ) → test b at ≡ Ok x → b ≡ true
  yes true at x e = refl
  yes false at x e = absurd cc

pub name_there : (text : List ℕ) (at x : ℕ) (l : Lexeme) → text_of text at l ≡ Ok x → (y : P4Name) × (name_of at l ≡ Ok y) × (bytes_eq y.text text ≡ true)
name_there text at x (lexeme.Name other) e = (record { at = at; text = other }, refl, text_is text other at x e)
name_there text at x (lexeme.Sign s) e = absurd cc
name_there text at x (lexeme.Number v w) e = absurd cc

tested_at : (b : Bool) (at : ℕ) → b ≡ true → test b at ≡ Ok at
tested_at true at e = refl
tested_at false at e = absurd cc

abbrev ok_name : P4Name → Result P4Name (Unit {0})
ok_name x = Ok x

same_name : (x y : P4Name) → ok_name x ≡ ok_name y → x ≡ y
same_name x y e = cc

pub name_back : (text : List ℕ) (at : ℕ) (y : P4Name) (l : Lexeme) → name_of at l ≡ Ok y → bytes_eq y.text text ≡ true → text_of text at l ≡ Ok at
name_back text at y (lexeme.Name other) e h = tested_at (bytes_eq other text) at (subst (λ (q : P4Name). bytes_eq q.text text ≡ true) (sym (same_name (record { at = at; text = other }) y e)) h)
name_back text at y (lexeme.Sign s) e h = absurd cc
name_back text at y (lexeme.Number v w) e h = absurd cc

-- ---- lists of names

abbrev dotted : Lang P4Name
dotted = words (sign.Dot ∷ []) (taken name)

many_snoc : (xs : List P4Name) (y : P4Name) (u v : List Token) → many dotted xs u → dotted y v → many dotted (xs ++ y ∷ []) (u ++ v)
many_snoc [] y u v d e = (v, [], ap (λ (q : List Token). q ++ v) d ∙ sym (append-nil v), e, refl)
many_snoc (x ∷ xs) y w v (a, b, e, d, ds) l = (a, b ++ v, ap (λ (q : List Token). q ++ v) e ∙ append_assoc a b v, d, many_snoc xs y b v ds l)

found : (b : Bool) (x : P4Name) → b ≡ true → cond b (Some (x ∷ [])) None ≡ Some (x ∷ [])
found true x e = refl
found false x e = absurd cc

called_snoc : (text : List ℕ) (x : P4Name) (ps : List P4Name) (y : P4Name) → bytes_eq y.text text ≡ true → called text x (ps ++ y ∷ []) ≡ Some (x ∷ ps)
called_snoc text x [] y h = found (bytes_eq y.text text) x h
called_snoc text x (a ∷ []) y h = ap (before x) (called_snoc text a [] y h)
called_snoc text x (a ∷ b ∷ bs) y h = ap (before x) (called_snoc text a (b ∷ bs) y h)

pub record Ends (text : List ℕ) (x : P4Name) (xs p : List P4Name) (u : List Token) : Type 0 where
  pub front : List P4Name
  pub last : P4Name
  pub before_last : List Token
  pub behind : List Token
  pub is : p ≡ x ∷ front
  pub parts : u ≡ before_last ++ behind
  pub fronts : many dotted front before_last
  pub end : dotted last behind
  pub text_is : bytes_eq last.text text ≡ true

picked : (b : Bool) (x : P4Name) (p : List P4Name) → cond b (Some (x ∷ [])) None ≡ Some p → (b ≡ true) × (p ≡ x ∷ [])
picked true x p e = (refl, cc)
picked false x p e = absurd cc

before_is : (x : P4Name) (o : Option (List P4Name)) (p : List P4Name) → before x o ≡ Some p → (q : List P4Name) × (o ≡ Some q) × (p ≡ x ∷ q)
before_is x None p e = absurd cc
before_is x (Some q) p e = (q, refl, cc)

pub ends : (text : List ℕ) (x : P4Name) (xs p : List P4Name) (u : List Token) → many dotted xs u → called text x xs ≡ Some p → Ends text x xs p u
ends text x [] p u d e = absurd cc
ends text x (y ∷ []) p u (a, b, e, d, ds) h =
    let g = picked (bytes_eq y.text text) x p h in
    record { front = []; last = y; before_last = []; behind = a; is = g.1; parts = e ∙ ap (λ (q : List Token). a ++ q) ds ∙ append-nil a; fronts = refl; end = d; text_is = g.0 }
ends text x (y ∷ z ∷ zs) p u (a, b, e, d, ds) h =
    let g = before_is x (called text y (z ∷ zs)) p h in
    let r = ends text y (z ∷ zs) g.0 b ds g.1 in
    record { front = y ∷ r.front; last = r.last; before_last = a ++ r.before_last; behind = r.behind; is = g.2 ∙ ap (λ (q : List P4Name). x ∷ q) r.is; parts = e ∙ ap (λ (q : List Token). a ++ q) r.parts ∙ sym (append_assoc a r.before_last r.behind); fronts = (a, r.before_last, refl, d, r.fronts); end = r.end; text_is = r.text_is }

-- ---- the two languages

-- what follows a path whose last name has this text
abbrev pub calls : {A : Type 0} → List ℕ → P4Name → List P4Name → (List P4Name → Lang A) → Lang A
calls text x xs K y w = (p : List P4Name) × (called text x xs ≡ Some p) × K p y w

module _ {A : Type 0} (text : List ℕ) (K : List P4Name → Lang A) where
  to : (y : A) (w : List Token) → bind path (λ p. words (sign.Dot ∷ []) (bind (taken (the_name text)) λ at. K p)) y w → bind (taken name) (λ x. bind names λ xs. calls text x xs K) y w
  unfolding path names
  to y w (p, u, v, e, (x, u1, u2, e1, nm, (ps, a1, a2, e2, ms, (is_p, no_rest))), (dot, d1, d2, e3, dt, (at, t1, t2, e4, (t, tis, tt_is), k))) =
      let there = name_there text t.at at t.lexeme tt_is in
      let one : dotted there.0 (d1 ++ t1) = (dot, d1, t1, refl, dt, (t, tis, there.1)) in
      let list : many dotted (ps ++ there.0 ∷ []) (a1 ++ (d1 ++ t1)) = many_snoc ps there.0 a1 (d1 ++ t1) ms one in
      let tail : u2 ≡ a1 = e2 ∙ ap (λ (q : List Token). a1 ++ q) no_rest ∙ append-nil a1 in
      let rest : v ≡ (d1 ++ t1) ++ t2 = e3 ∙ ap (λ (q : List Token). d1 ++ q) e4 ∙ sym (append_assoc d1 t1 t2) in
      let whole : w ≡ u1 ++ ((a1 ++ (d1 ++ t1)) ++ t2) =
      e ∙ ap (λ (q : List Token). q ++ v) (e1 ∙ ap (λ (q : List Token). u1 ++ q) tail) ∙ append_assoc u1 a1 v ∙ ap (λ (q : List Token). u1 ++ (a1 ++ q)) rest ∙ ap (λ (q : List Token). u1 ++ q) (sym (append_assoc a1 (d1 ++ t1) t2)) in
      (x, u1, (a1 ++ (d1 ++ t1)) ++ t2, whole, nm, (ps ++ there.0 ∷ [], a1 ++ (d1 ++ t1), t2, refl, list, (x ∷ ps, called_snoc text x ps there.0 there.2, subst (λ (q : List P4Name). K q y t2) is_p k)))

  back : (y : A) (w : List Token) → bind (taken name) (λ x. bind names λ xs. calls text x xs K) y w → bind path (λ p. words (sign.Dot ∷ []) (bind (taken (the_name text)) λ at. K p)) y w
  unfolding path names
  back y w (x, u1, v1, e, nm, (xs, u2, v2, e2, ms, (p, c, k))) =
      let r = ends text x xs p u2 ms c in
      let last = r.end in
      let tok = last.5.0 in
      let gives : the_name text tok ≡ Ok tok.at = name_back text tok.at r.last tok.lexeme last.5.2 r.text_is in
      let whole : w ≡ (u1 ++ r.before_last) ++ (r.behind ++ v2) =
      e ∙ ap (λ (q : List Token). u1 ++ q) (e2 ∙ ap (λ (q : List Token). q ++ v2) r.parts ∙ append_assoc r.before_last r.behind v2) ∙ sym (append_assoc u1 r.before_last (r.behind ++ v2)) in (
        x ∷ r.front,
        u1 ++ r.before_last,
        r.behind ++ v2,
        whole,
        (x, u1, r.before_last, refl, nm, (r.front, r.before_last, [], sym (append-nil r.before_last), r.fronts, (refl, refl))),
        (last.0, last.1, last.2 ++ v2, ap (λ (q : List Token). q ++ v2) last.3 ∙ append_assoc last.1 last.2 v2, last.4, (tok.at, last.2, v2, refl, (tok, last.5.1, gives), subst (λ (q : List P4Name). K q y v2) r.is k)),
      )

  pub dotted-same : Same (bind path (λ p. words (sign.Dot ∷ []) (bind (taken (the_name text)) λ at. K p))) (bind (taken name) (λ x. bind names λ xs. calls text x xs K))
  dotted-same = record { to = to; back = back }
