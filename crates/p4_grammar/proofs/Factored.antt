-- The grammar's operands and the language that their reader follows; expressions fit.
use Rattle.std.proofs.Common.{◌≡◌, ℕ, zero, suc, Bool, true, false, cond, List, [], ◌∷◌, ◌++◌, Ok, Option, Some, None, refl, sym, ap, subst, ◌∙◌, append-nil, inl, inr, ◌⊎◌}
use Rattle.std.specs.Prelude.{codes}
use Rattle.p4_lex.specs.declared.token.Token.{Token}
use Rattle.p4_lex.specs.declared.token.Sign.TheVariants as sign
use Rattle.p4_lex.specs.declared.token.Lexeme.{Lexeme}
use Rattle.p4_lex.specs.declared.token.Lexeme.TheVariants as lexeme
use Rattle.p4_ast.specs.declared.name.P4Name.{P4Name}
use Rattle.p4_ast.specs.declared.declaration.P4Type.{P4Type}
use Rattle.p4_ast.specs.declared.expression.P4UnaryOp.{P4UnaryOp}
use Rattle.p4_ast.specs.declared.expression.P4Expr.{P4Expr}
use Rattle.p4_grammar.specs.declared.mark.Mark.{Mark}
use Rattle.p4_grammar.specs.declared.mark.Mark.TheVariants as mark
use Rattle.p4_grammar.specs.declared.mark.Spelled.{Spelled}
use Rattle.p4_grammar.specs.Forms.{Lang, none, only, bind, either, taken}
use Rattle.p4_grammar.specs.Tokens.{is, name, number, the_name, words, called}
use Rattle.p4_grammar.specs.Values.{Env, has, of_parens, cast_by, path_value, valid_value, number_value, true_value, false_value, parens_value, cast_value, unary_lexeme, named_type, begins_lexeme, begins_operand}
use Rattle.p4_grammar.specs.GrammarExpressions.{bit_type, bool_type, std_type, word_type, name_type, type_, path, names, sliced, called_path, primary, casts, cast_front, unary_of, sum_of, chain_of, compare_of, and_of, or_of, choice_of, unary, expr_, expr}
use Rattle.p4_grammar.specs.ReadingExpressions.{unary_of_at, unary_at, expr_at}
use Rattle.p4_grammar.proofs.Languages.{Same, same, same_bind, same_either, assoc, dist, factor, bind_only, same_words, words_bind, ◌then◌}
use Rattle.p4_grammar.proofs.Forms.{Reads, fits, stuck-reads}
use Rattle.p4_grammar.proofs.Basics.{tok, Begins, begins_taken, begins_bind, begins_either, begins_any, sign_begins, name_begins, number_begins, any-reads}
use Rattle.p4_grammar.proofs.Facts.{V}
use Rattle.p4_grammar.proofs.Expressions.{asked, named, plain, parens, cast_, closed, open_, signed, name_led, funary}
use Rattle.p4_grammar.proofs.Operands.{funary-reads}
use Rattle.p4_grammar.proofs.Levels.{expr_of-reads}
use Rattle.p4_grammar.proofs.Called.{dotted-same}
use Rattle.p4_grammar.proofs.Alone.{So, expr_so}

-- ---- what an expression begins with

op_begins : (at : ℕ) (l : Lexeme) (x : P4UnaryOp × ℕ) → unary_lexeme at l ≡ Ok x → begins_lexeme l ≡ true
op_begins at (lexeme.Name t) x e = refl
op_begins at (lexeme.Number v w) x e = refl
op_begins at (lexeme.Sign sign.Not) x e = refl
op_begins at (lexeme.Sign sign.Complement) x e = refl
op_begins at (lexeme.Sign sign.Minus) x e = refl
op_begins at (lexeme.Sign s) x e = absurd cc

unary_of-begins : (env : Env) (U E : Lang Spelled) → Begins true begins_operand (unary_of env U E)
unfolding unary_of cast_front primary path called_path
unary_of-begins env U E = begins_either (begins_bind (begins_taken (λ a x e. op_begins a.at a.lexeme x e)))
    (begins_either (begins_bind (sign_begins sign.Open (λ at e. refl)))
    (begins_bind (begins_either (number_begins (λ at e v w. refl))
    (begins_either (sign_begins sign.True (λ at e. refl))
    (begins_either (sign_begins sign.False (λ at e. refl))
    (begins_either (begins_bind (name_begins (λ at e t. refl)))
    (begins_either (begins_bind (begins_bind (name_begins (λ at e t. refl))))
    (sign_begins sign.Open (λ at e. refl)))))))))

or_of-begins : (k : ℕ) (U : Lang Spelled) → Begins true begins_operand U → Begins true begins_operand (or_of k U)
unfolding or_of and_of compare_of sum_of chain_of
or_of-begins k U h = begins_bind (begins_bind (begins_either (begins_bind (begins_bind h)) (begins_bind h)))

pub unary-begins : (k : ℕ) (env : Env) → Begins true begins_operand (unary k env)
unfolding unary
unary-begins zero env = record { at = λ x u m d. absurd d }
unary-begins (suc k) env = unary_of-begins env (unary k env) (expr_ k env)

pub expr_-begins : (k : ℕ) (env : Env) → Begins true begins_operand (expr_ k env)
unfolding expr_ choice_of
expr_-begins zero env = record { at = λ x u m d. absurd d }
expr_-begins (suc k) env = begins_bind (or_of-begins (suc k) (unary_of env (unary k env) (expr_ k env)) (unary_of-begins env (unary k env) (expr_ k env)))

-- ---- a path is an expression

pub path_unary : (env : Env) (U E : Lang Spelled) (p : List P4Name) (u : List Token) → path p u → unary_of env U E (path_value p) u
unfolding unary_of primary sliced
path_unary env U E p u d = inr (inr (path_value p, u, [], sym (append-nil u), inr (inr (inr (inl (p, u, [], sym (append-nil u), d, (refl, refl))))), inr (refl, refl)))

pub up_or : (k : ℕ) (U : Lang Spelled) (v : Spelled) (u : List Token) → U v u → or_of (suc k) U v u
unfolding or_of and_of compare_of sum_of
up_or k U v u d =
    let e : u ≡ u ++ [] = sym (append-nil u) in
    (v, u, [], e, (v, u, [], e, inl (v, u, [], e, (v, u, [], e, d, inr (refl, refl)), inr (refl, refl)), inr (refl, refl)), inr (refl, refl))

pub up_expr : (k : ℕ) (env : Env) (v : Spelled) (u : List Token) → unary_of env (unary k env) (expr_ k env) v u → expr_ (suc k) env v u
unfolding expr_ choice_of
up_expr k env v u d = (v, u, [], sym (append-nil u), up_or k (unary_of env (unary k env) (expr_ k env)) v u d, inr (refl, refl))

path_one : (x : P4Name) (u : List Token) → taken name x u → path (x ∷ []) u
unfolding path names
path_one x u d = (x, u, [], sym (append-nil u), d, ([], [], [], refl, refl, (refl, refl)))

expr_single : (k : ℕ) (env : Env) (x : P4Name) (u : List Token) → taken name x u → expr_ (suc k) env (path_value (x ∷ [])) u
expr_single k env x u d = up_expr k env (path_value (x ∷ [])) u (path_unary env (unary k env) (expr_ k env) (x ∷ []) u (path_one x u d))

-- ---- the front of a cast

when : {A : Type 0} (b : Bool) (L : Lang A) (y : A) (w : List Token) → b ≡ true → (cond b L none) y w → L y w
when true L y w e d = d
when false L y w e d = absurd d

when_back : {A : Type 0} (b : Bool) (L : Lang A) (y : A) (w : List Token) → b ≡ true → L y w → (cond b L none) y w
when_back true L y w e d = d
when_back false L y w e d = absurd cc

was : {A : Type 0} (b : Bool) (L : Lang A) (y : A) (w : List Token) → (cond b L none) y w → (b ≡ true) × L y w
was true L y w d = (refl, d)
was false L y w d = absurd d

none_same : {A B : Type 0} {K : A → Lang B} → Same (bind none K) none
none_same = record { to = λ y w d. absurd d.4; back = λ y w d. absurd d }

cond_same : {A B : Type 0} (b : Bool) (c : A) (K : A → Lang B) → Same (bind (cond b (words (sign.Close ∷ []) (only c)) none) K) (cond b (words (sign.Close ∷ []) (K c)) none)
cond_same true c K = words_bind (sign.Close ∷ []) (only c) K then same_words (sign.Close ∷ []) bind_only
cond_same false c K = none_same

-- a front of a cast and what follows it
abbrev pub casting : {A : Type 0} → Env → (ℕ → P4Type → Lang A) → Lang A
casting env K = bind (taken (is sign.Open)) λ at. bind type_ λ t. cond (casts env t) (words (sign.Close ∷ []) (K at t)) none

pub casting-same : {A : Type 0} (env : Env) (K : ℕ × P4Type → Lang A) → Same (bind (cast_front env) K) (casting env (λ at t. K (at, t)))
unfolding cast_front
casting-same env K = assoc then same_bind same (λ at. assoc then same_bind same (λ t. cond_same (casts env t) (at, t) K))

word_casts : (env : Env) (t : P4Type) (u : List Token) → word_type t u → casts env t ≡ true
unfolding word_type bit_type bool_type std_type
word_casts env t u (inl (at, a, b, e, d, (i, a2, b2, e2, d2, (n, a3, b3, e3, d3, (j, a4, b4, e4, d4, c))))) = ap (casts env) c.0
word_casts env t u (inr (inl (at, a, b, e, d, c))) = ap (casts env) c.0
word_casts env t u (inr (inr (at, a, b, e, d, c))) = ap (casts env) c.0

-- ---- both ways

-- the grammar's primaries with their slices
unfoldable split_primary : Env → Lang Spelled → Lang Spelled
split_primary env E = either (bind (taken number) λ n. sliced (number_value n))
    (either (bind (taken (is sign.True)) λ at. sliced (true_value at))
    (either (bind (taken (is sign.False)) λ at. sliced (false_value at))
    (either (bind path λ p. sliced (path_value p))
    (either (bind path λ p. words (sign.Dot ∷ []) (bind (taken (the_name (codes "isValid"))) λ i. words (sign.Open ∷ sign.Close ∷ []) (sliced (valid_value p))))
    (bind (taken (is sign.Open)) λ at. bind E λ x. words (sign.Close ∷ []) (sliced (parens_value at x.expr (of_parens env x.mark))))))))

primary-same : (env : Env) (E : Lang Spelled) → Same (bind (primary env E) sliced) (split_primary env E)
unfolding split_primary primary called_path
primary-same env E = dist then same_either (assoc then same_bind same (λ k. bind_only))
    (dist then same_either (assoc then same_bind same (λ k. bind_only))
    (dist then same_either (assoc then same_bind same (λ k. bind_only))
    (dist then same_either (assoc then same_bind same (λ k. bind_only))
    (dist then same_either (assoc then (assoc then same_bind same (λ p. (words_bind (sign.Dot ∷ []) _ _ then same_words (sign.Dot ∷ []) (assoc then same_bind same (λ i. words_bind (sign.Open ∷ sign.Close ∷ []) _ _ then same_words (sign.Open ∷ sign.Close ∷ []) (bind_only then bind_only)))))))
    (assoc then same_bind same (λ at. assoc then same_bind same (λ x. words_bind (sign.Close ∷ []) _ _ then same_words (sign.Close ∷ []) bind_only)))))))

-- a path and what follows it, behind its first name
pub path-same : {A : Type 0} {K : List P4Name → Lang A} → Same (bind path K) (bind (taken name) λ x. bind names λ xs. K (x ∷ xs))
unfolding path
path-same = assoc then same_bind same (λ x. assoc then same_bind same (λ xs. bind_only))

some_is : (p q : List P4Name) → Some p ≡ Some q → p ≡ q
some_is p q e = cc

asked_to : (xs : List P4Name) (o : Option (List P4Name)) (y : Spelled) (w : List Token) → either (sliced (path_value xs)) (λ z v. (p : List P4Name) × (o ≡ Some p) × words (sign.Open ∷ sign.Close ∷ []) (sliced (valid_value p)) z v) y w → asked xs o y w
unfolding asked
asked_to xs None y w (inl d) = d
asked_to xs None y w (inr (p, e, k)) = absurd cc
asked_to xs (Some front) y w (inl d) = inr d
asked_to xs (Some front) y w (inr (p, e, k)) = inl (subst (λ (q : List P4Name). words (sign.Open ∷ sign.Close ∷ []) (sliced (valid_value q)) y w) (sym (some_is front p e)) k)

asked_back : (xs : List P4Name) (o : Option (List P4Name)) (y : Spelled) (w : List Token) → asked xs o y w → either (sliced (path_value xs)) (λ z v. (p : List P4Name) × (o ≡ Some p) × words (sign.Open ∷ sign.Close ∷ []) (sliced (valid_value p)) z v) y w
unfolding asked
asked_back xs None y w d = inl d
asked_back xs (Some front) y w (inl k) = inr (front, refl, k)
asked_back xs (Some front) y w (inr d) = inl d

asked-same : (xs : List P4Name) (o : Option (List P4Name)) → Same (either (sliced (path_value xs)) (λ z v. (p : List P4Name) × (o ≡ Some p) × words (sign.Open ∷ sign.Close ∷ []) (sliced (valid_value p)) z v)) (asked xs o)
asked-same xs o = record { to = asked_to xs o; back = asked_back xs o }

valid_end : List P4Name → Lang Spelled
valid_end p = words (sign.Open ∷ sign.Close ∷ []) (sliced (valid_value p))

pub name_led-same : Same (either (bind path λ p. sliced (path_value p)) (bind path λ p. words (sign.Dot ∷ []) (bind (taken (the_name (codes "isValid"))) λ i. words (sign.Open ∷ sign.Close ∷ []) (sliced (valid_value p))))) name_led
unfolding name_led named
name_led-same = same_either path-same (dotted-same (codes "isValid") (λ p. words (sign.Open ∷ sign.Close ∷ []) (sliced (valid_value p)))) then factor then same_bind same (λ x. factor then same_bind same (λ xs. asked-same (x ∷ xs) (called (codes "isValid") x xs)))

-- ---- parentheses

parens_in : (env : Env) (at : ℕ) (m : Mark) (U : Lang Spelled) (e : P4Expr) (y : Spelled) (w : List Token) → sliced (parens_value at e (of_parens env m)) y w → parens at (cast_by env m) U e y w
unfolding parens
parens_in env at (mark.One x) U e y w d = by (has env x.text) d where
  by : (b : Bool) → sliced (parens_value at e (cond b mark.Bare mark.Plain)) y w → parens at (cond b (Some x) None) U e y w
  by true d = inr d
  by false d = d
parens_in env at (mark.Read x) U e y w d = d
parens_in env at (mark.CastRead t x) U e y w d = d
parens_in env at mark.Bare U e y w d = d
parens_in env at mark.Plain U e y w d = d

abbrev IsCast : Env → ℕ → Mark → Lang Spelled → Lang Spelled
IsCast env at m U y w = (n : P4Name) × (m ≡ mark.One n) × (has env n.text ≡ true) × bind U (λ z. only (cast_value at (named_type n) z)) y w

parens_one : (b : Bool) (at : ℕ) (x : P4Name) (U : Lang Spelled) (e : P4Expr) (y : Spelled) (w : List Token) → parens at (cond b (Some x) None) U e y w → (sliced (parens_value at e (cond b mark.Bare mark.Plain)) y w) ⊎ ((b ≡ true) × bind U (λ z. only (cast_value at (named_type x) z)) y w)
unfolding parens
parens_one true at x U e y w (inl d) = inr (refl, d)
parens_one true at x U e y w (inr d) = inl d
parens_one false at x U e y w d = inl d

parens_out : (env : Env) (at : ℕ) (m : Mark) (U : Lang Spelled) (e : P4Expr) (y : Spelled) (w : List Token) → parens at (cast_by env m) U e y w → (sliced (parens_value at e (of_parens env m)) y w) ⊎ IsCast env at m U y w
unfolding parens
parens_out env at (mark.One x) U e y w d = elim (parens_one (has env x.text) at x U e y w d) [
  | inl s ↦ inl s
  | inr c ↦ inr (x, refl, c.0, c.1)
]
parens_out env at (mark.Read x) U e y w d = inl d
parens_out env at (mark.CastRead t x) U e y w d = inl d
parens_out env at mark.Bare U e y w d = inl d
parens_out env at mark.Plain U e y w d = inl d

cast_word : ℕ → P4Type → Lang Spelled → Lang Spelled
cast_word at t U = words (sign.Close ∷ []) (bind U λ x. only (cast_value at t x))

unary_there : (k : ℕ) (env : Env) (y : Spelled) (w : List Token) → unary k env y w → (i : ℕ) × (k ≡ suc i)
unfolding unary
unary_there zero env y w d = absurd d
unary_there (suc k) env y w d = (k, refl)

drop_rest : (w u v : List Token) → w ≡ u ++ v → v ≡ [] → w ≡ u
drop_rest w u v e none_left = e ∙ ap (λ (q : List Token). u ++ q) none_left ∙ append-nil u

-- the grammar's casts and parentheses
abbrev grammar_open : ℕ → Env → Lang Spelled
grammar_open k env = either (casting env (λ at t. bind (unary k env) λ x. only (cast_value at t x))) (bind (taken (is sign.Open)) λ at. bind (expr_ k env) λ x. words (sign.Close ∷ []) (sliced (parens_value at x.expr (of_parens env x.mark))))

name_down : (k : ℕ) (env : Env) (at : ℕ) (x : P4Name) (y : Spelled) (a b w : List Token) → w ≡ a ++ b → taken name x a → (has env x.text ≡ true) × cast_word at (named_type x) (unary k env) y b → bind (expr_ k env) (λ z. closed at env (unary k env) z) y w
unfolding closed parens cast_word
name_down k env at x y a b w e nm (hs, (tc, ac, bc, ec, dc, c)) =
    let there = unary_there k env c.0 c.1 c.4 in
    let single : expr_ k env (path_value (x ∷ [])) a = subst (λ (q : ℕ). expr_ q env (path_value (x ∷ [])) a) (sym there.1) (expr_single there.0 env x a nm) in
    let casting : parens at (cast_by env (mark.One x)) (unary k env) (path_value (x ∷ [])).expr y bc = subst (λ (q : Bool). parens at (cond q (Some x) None) (unary k env) (path_value (x ∷ [])).expr y bc) (sym hs) (inl c) in
    (path_value (x ∷ []), a, b, e, single, (tc, ac, bc, ec, dc, casting))

open_down : (k : ℕ) (env : Env) (y : Spelled) (w : List Token) → grammar_open k env y w → open_ env (unary k env) (expr_ k env) y w
unfolding open_ cast_ type_ name_type cast_word closed
open_down k env y w (inl (at, a, b, e, d, (t, a2, b2, e2, inl wt, c))) = (at, a, b, e, d, inl (t, a2, b2, e2, wt, when (casts env t) (cast_word at t (unary k env)) y b2 (word_casts env t a2 wt) c))
open_down k env y w (inl (at, a, b, e, d, (t, a2, b2, e2, inr (x, a3, b3, e3, nm, (is, none_left)), c))) =
    let c2 = was (has env x.text) (cast_word at (named_type x) (unary k env)) y b2 (subst (λ (q : P4Type). (cond (casts env q) (cast_word at q (unary k env)) none) y b2) is c) in
    (at, a, b, e, d, inr (name_down k env at x y a2 b2 b e2 (subst (λ (q : List Token). taken name x q) (sym (drop_rest a2 a3 b3 e3 none_left)) nm) c2))
open_down k env y w (inr (at, a, b, e, d, (x, a2, b2, e2, d2, s))) = (at, a, b, e, d, inr (x, a2, b2, e2, d2, close_in at x y b2 s)) where
  close_in : (at : ℕ) (x y : Spelled) (w : List Token) → words (sign.Close ∷ []) (sliced (parens_value at x.expr (of_parens env x.mark))) y w → closed at env (unary k env) x y w
  close_in at x y w (t3, a3, b3, e3, d3, s) = (t3, a3, b3, e3, d3, parens_in env at x.mark (unary k env) x.expr y b3 s)

name_up : (k : ℕ) (env : Env) (x : Spelled) (n : P4Name) (a : List Token) → expr_ k env x a → x.mark ≡ mark.One n → type_ (named_type n) a
unfolding type_ name_type So
name_up k env x n a d m =
    let one : So env (mark.One n) a = subst (λ (q : Mark). So env q a) m (expr_so k env x a d) in
    inr (n, a, [], sym (append-nil a), one, (refl, refl))

open_up : (k : ℕ) (env : Env) (y : Spelled) (w : List Token) → open_ env (unary k env) (expr_ k env) y w → grammar_open k env y w
unfolding open_ cast_ type_ cast_word closed
open_up k env y w (at, a, b, e, d, inl (t, a2, b2, e2, wt, c)) = inl (at, a, b, e, d, (t, a2, b2, e2, inl wt, when_back (casts env t) (cast_word at t (unary k env)) y b2 (word_casts env t a2 wt) c))
open_up k env y w (at, a, b, e, d, inr (x, a2, b2, e2, d2, (t3, a3, b3, e3, d3, p))) = elim (parens_out env at x.mark (unary k env) x.expr y b3 p) [
  | inl s ↦ inr (at, a, b, e, d, (x, a2, b2, e2, d2, (t3, a3, b3, e3, d3, s)))
  | inr c ↦ inl (at, a, b, e, d, (named_type c.0, a2, b2, e2, name_up k env x c.0 a2 d2 c.1, when_back (has env (c.0).text) (cast_word at (named_type c.0) (unary k env)) y b2 c.2 (t3, a3, b3, e3, d3, c.3)))
]

-- ---- operands

pub down : (k : ℕ) (env : Env) (y : Spelled) (w : List Token) → unary_of env (unary k env) (expr_ k env) y w → funary env (unary k env) (expr_ k env) y w
unfolding unary_of funary signed split_primary plain
down k env y w (inl d) = inl d
down k env y w (inr (inl d)) = inr (inl (open_down k env y w (inl ((casting-same env (λ c. bind (unary k env) λ x. only (cast_value c.0 c.1 x))).to y w d))))
down k env y w (inr (inr d)) = parts ((primary-same env (expr_ k env)).to y w d) where
  parts : split_primary env (expr_ k env) y w → funary env (unary k env) (expr_ k env) y w
  parts (inl d) = inr (inr (inr (inr (inr d))))
  parts (inr (inl d)) = inr (inr (inr (inl d)))
  parts (inr (inr (inl d))) = inr (inr (inr (inr (inl d))))
  parts (inr (inr (inr (inl d)))) = inr (inr (inl (name_led-same.to y w (inl d))))
  parts (inr (inr (inr (inr (inl d))))) = inr (inr (inl (name_led-same.to y w (inr d))))
  parts (inr (inr (inr (inr (inr d))))) = inr (inl (open_down k env y w (inr d)))

up_parts : (k : ℕ) (env : Env) (y : Spelled) (w : List Token) → split_primary env (expr_ k env) y w → unary_of env (unary k env) (expr_ k env) y w
unfolding unary_of
up_parts k env y w d = inr (inr ((primary-same env (expr_ k env)).back y w d))

up_named : (k : ℕ) (env : Env) (y : Spelled) (w : List Token) → either (bind path λ p. sliced (path_value p)) (bind path λ p. words (sign.Dot ∷ []) (bind (taken (the_name (codes "isValid"))) λ i. words (sign.Open ∷ sign.Close ∷ []) (sliced (valid_value p)))) y w → split_primary env (expr_ k env) y w
unfolding split_primary
up_named k env y w (inl d) = inr (inr (inr (inl d)))
up_named k env y w (inr d) = inr (inr (inr (inr (inl d))))

up_open : (k : ℕ) (env : Env) (y : Spelled) (w : List Token) → grammar_open k env y w → unary_of env (unary k env) (expr_ k env) y w
unfolding unary_of split_primary
up_open k env y w (inl d) = inr (inl ((casting-same env (λ c. bind (unary k env) λ x. only (cast_value c.0 c.1 x))).back y w d))
up_open k env y w (inr d) = up_parts k env y w (inr (inr (inr (inr (inr d)))))

pub up : (k : ℕ) (env : Env) (y : Spelled) (w : List Token) → funary env (unary k env) (expr_ k env) y w → unary_of env (unary k env) (expr_ k env) y w
unfolding unary_of funary signed plain split_primary
up k env y w (inl d) = inl d
up k env y w (inr (inl d)) = up_open k env y w (open_up k env y w d)
up k env y w (inr (inr (inl d))) = up_parts k env y w (up_named k env y w (name_led-same.back y w d))
up k env y w (inr (inr (inr (inl d)))) = up_parts k env y w (inr (inl d))
up k env y w (inr (inr (inr (inr (inl d))))) = up_parts k env y w (inr (inr (inl d)))
up k env y w (inr (inr (inr (inr (inr d))))) = up_parts k env y w (inl d)

-- ---- all together

unary_of-reads : (n k : ℕ) (env : Env) → Reads n (unary k env) (unary (suc n) env) (V 0) (unary_at n env) → Reads n (expr_ k env) (expr_ (suc n) env) (V 5) (expr_at n env) → Reads (suc n) (unary_of env (unary k env) (expr_ k env)) (unary_of env (unary (suc n) env) (expr_ (suc n) env)) (V 0) (unary_of_at n env (unary_at n env) (expr_at n env))
unary_of-reads n k env h e =
    fits (suc n) (funary env (unary k env) (expr_ k env)) (funary env (unary (suc n) env) (expr_ (suc n) env)) (unary_of env (unary k env) (expr_ k env)) (unary_of env (unary (suc n) env) (expr_ (suc n) env)) (V 0) (V 0) (unary_of_at n env (unary_at n env) (expr_at n env))
    (funary-reads n env (unary k env) (unary (suc n) env) (expr_ k env) (expr_ (suc n) env) (unary_at n env) (expr_at n env) h e (unary-begins k env) (expr_-begins k env))
    (down k env) (up (suc n) env) (λ x m end. end)

expr_step-reads : (n k : ℕ) (env : Env) → Reads n (unary k env) (unary (suc n) env) (V 0) (unary_at n env) → Reads n (expr_ k env) (expr_ (suc n) env) (V 5) (expr_at n env) → Reads (suc n) (expr_ (suc k) env) (expr_ (suc (suc n)) env) (V 5) (expr_at (suc n) env)
unfolding expr_ expr_at
expr_step-reads n k env h e = expr_of-reads n _ _ _ (unary_of-reads n k env h e) (expr_ k env) (expr_ (suc n) env) (expr_at n env) e (suc k)

unary_step-reads : (n k : ℕ) (env : Env) → Reads (suc n) (unary_of env (unary k env) (expr_ k env)) (unary_of env (unary (suc n) env) (expr_ (suc n) env)) (V 0) (unary_of_at n env (unary_at n env) (expr_at n env)) → Reads (suc n) (unary (suc k) env) (unary (suc (suc n)) env) (V 0) (unary_at (suc n) env)
unfolding unary unary_at
unary_step-reads n k env h = h

sample : P4Name
sample = record { at = 0; text = [] }

sample_token : List Token
sample_token = tok 0 0 (lexeme.Name []) ∷ []

sample_named : taken name sample sample_token
unfolding sample sample_token
sample_named = (tok 0 0 (lexeme.Name []), refl, refl)

one_unary : (env : Env) → unary 1 env (path_value (sample ∷ [])) sample_token
unfolding unary
one_unary env = path_unary env none none (sample ∷ []) sample_token (path_one sample sample_token sample_named)

unary_none : (env : Env) (x : Spelled) (u : List Token) → unary 0 env x u → ⊥
unfolding unary
unary_none env x u d = d

expr_none : (env : Env) (x : Spelled) (u : List Token) → expr_ 0 env x u → ⊥
unfolding expr_
expr_none env x u d = d

both-zero : (k : ℕ) (env : Env) → Reads 0 (unary k env) (unary 1 env) (V 0) (unary_at 0 env) × Reads 0 (expr_ k env) (expr_ 1 env) (V 5) (expr_at 0 env)
unfolding unary_at expr_at
both-zero k env = (stuck-reads (unary k env) (unary 1 env) (V 0) (path_value (sample ∷ [])) sample_token (one_unary env), stuck-reads (expr_ k env) (expr_ 1 env) (V 5) (path_value (sample ∷ [])) sample_token (expr_single 0 env sample sample_token sample_named))

pub both-reads : (n k : ℕ) (env : Env) → Reads n (unary k env) (unary (suc n) env) (V 0) (unary_at n env) × Reads n (expr_ k env) (expr_ (suc n) env) (V 5) (expr_at n env)
both-reads zero k env = both-zero k env
both-reads (suc n) zero env =
    let h = both-reads n zero env in (
      fits (suc n) _ _ (unary 0 env) _ (V 0) (V 0) _ (unary_step-reads n 0 env (unary_of-reads n 0 env h.0 h.1)) (λ x u d. absurd (unary_none env x u d)) (λ x u d. d) (λ x m end. end),
      fits (suc n) _ _ (expr_ 0 env) _ (V 5) (V 5) _ (expr_step-reads n 0 env h.0 h.1) (λ x u d. absurd (expr_none env x u d)) (λ x u d. d) (λ x m end. end),
    )
both-reads (suc n) (suc k) env =
    let h = both-reads n k env in
    (unary_step-reads n k env (unary_of-reads n k env h.0 h.1), expr_step-reads n k env h.0 h.1)

-- expressions, of any height
pub expr-reads : {n : ℕ} (env : Env) → Reads n (expr env) (expr env) (V 5) (expr_at n env)
expr-reads {n = n} env = any-reads (suc n) (λ k. (both-reads n k env).1)

pub expr-begins : (env : Env) → Begins true begins_operand (expr env)
expr-begins env = begins_any (λ k. expr_-begins k env)
