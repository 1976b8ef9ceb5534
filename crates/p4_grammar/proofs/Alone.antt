-- A value with the mark of a special spelling is spelled so.
use Rattle.std.proofs.Common.{◌≡◌, ℕ, zero, suc, Bool, true, false, cond, List, [], ◌∷◌, ◌++◌, Result, refl, sym, ap, subst, ◌∙◌, append-nil, inl, inr, ◌⊎◌}
use Rattle.std.specs.Prelude.{codes}
use Rattle.std.specs.Str.{bytes_eq}
use Rattle.p4_lex.specs.declared.token.Token.{Token}
use Rattle.p4_lex.specs.declared.token.Sign.TheVariants as sign
use Rattle.p4_ast.specs.declared.name.P4Name.{P4Name}
use Rattle.p4_ast.specs.declared.declaration.P4Type.{P4Type}
use Rattle.p4_ast.specs.declared.expression.P4BinaryOp.TheVariants as binary_op
use Rattle.p4_grammar.specs.declared.mark.Mark.{Mark}
use Rattle.p4_grammar.specs.declared.mark.Mark.TheVariants as mark
use Rattle.p4_grammar.specs.declared.mark.Spelled.{Spelled}
use Rattle.p4_grammar.specs.Forms.{Lang, only, bind, either, taken, chain}
use Rattle.p4_grammar.specs.Tokens.{is, name, the_name, words}
use Rattle.p4_grammar.specs.Values.{Env, has, later, of_cast, of_path, of_parens, path_value, valid_value, number_value, true_value, false_value, parens_value, slice_value, cast_value, unary_value, binary, this, sum_op, compare_op, choice_value}
use Rattle.p4_grammar.specs.GrammarExpressions.{path, names, slice, sliced, primary, cast_front, unary_of, sum_of, chain_of, compare_of, and_of, or_of, choice_of, unary, expr_}
use Rattle.p4_grammar.proofs.Called.{name_back}

-- name "." "read"
unfoldable pub reading : Lang P4Name
reading = bind (taken name) λ c. words (sign.Dot ∷ []) (bind (taken (the_name (codes "read"))) λ at. only c)

-- a cast to this type, and then that
abbrev pub CastReading : Env → P4Type → P4Name → List Token → Type 0
CastReading env t c u = (at : ℕ) × (a : List Token) × (b : List Token) × (u ≡ a ++ b) × cast_front env (at, t) a × reading c b

-- the spelling that a mark stands for
unfoldable pub So : Env → Mark → List Token → Type 0
So env (mark.One x) u = taken name x u
So env (mark.Read c) u = reading c u
So env (mark.CastRead t c) u = CastReading env t c u
So env mark.Bare u = Unit {0}
So env mark.Plain u = Unit {0}

-- every value is spelled as its mark says
abbrev pub Every : Env → Lang Spelled → Type 0
Every env L = (v : Spelled) (u : List Token) → L v u → So env v.mark u

-- a mark that says nothing of the spelling
abbrev pub Late : Mark → Type 0
Late m = (q : Mark) × (m ≡ later q)

later_so : (env : Env) (q : Mark) (u : List Token) → So env (later q) u
unfolding So
later_so env mark.Bare u = tt {0}
later_so env (mark.One x) u = tt {0}
later_so env (mark.Read x) u = tt {0}
later_so env (mark.CastRead t x) u = tt {0}
later_so env mark.Plain u = tt {0}

pub late : (env : Env) (m : Mark) (u : List Token) → Late m → So env m u
late env m u l = subst (λ (q : Mark). So env q u) (sym l.1) (later_so env l.0 u)

drop_rest : (w u v : List Token) → w ≡ u ++ v → v ≡ [] → w ≡ u
drop_rest w u v e none_left = e ∙ ap (λ (q : List Token). u ++ q) none_left ∙ append-nil u

-- a value that nothing follows
kept_so : (env : Env) (L : Lang Spelled) → Every env L → (x v : Spelled) (w u r : List Token) → w ≡ u ++ r → L x u → (v ≡ x) × (r ≡ []) → So env v.mark w
kept_so env L h x v w u r e d s =
    subst (λ (q : Spelled). So env q.mark w) (sym s.0) (subst (λ (q : List Token). So env x.mark q) (sym (drop_rest w u r e s.1)) (h x u d))

chain_end : {O : Type 0} (k : ℕ) (op : Spelled → Token → Result O (Unit {0})) (join : O → Spelled → Spelled → Spelled) → ((o : O) (x y : Spelled) → (join o x y).mark ≡ later y.mark) → (U : Lang Spelled) (x v : Spelled) (u : List Token) → chain k op join U x v u → ((v ≡ x) × (u ≡ [])) ⊎ Late v.mark
chain_end zero op join j U x v u d = absurd d
chain_end (suc k) op join j U x v u (inr d) = inl d
chain_end (suc k) op join j U x v u (inl (o, u1, u2, e, t, (y, a, b, e2, d, c))) = elim (chain_end k op join j U (join o x y) v b c) [
  | inl s ↦ inr (y.mark, ap (λ (q : Spelled). q.mark) s.0 ∙ j o x y)
  | inr l ↦ inr l
]

bind_chain : {O : Type 0} (env : Env) (k : ℕ) (op : Spelled → Token → Result O (Unit {0})) (join : O → Spelled → Spelled → Spelled) → ((o : O) (x y : Spelled) → (join o x y).mark ≡ later y.mark) → (L U : Lang Spelled) → Every env L → Every env (bind L λ x. chain k op join U x)
bind_chain env k op join j L U h v w (x, a, b, e, d, c) = elim (chain_end k op join j U x v b c) [
  | inl s ↦ kept_so env L h x v w a b e d s
  | inr l ↦ late env v.mark w l
]

option_so : (env : Env) (L : Lang Spelled) (K : Spelled → Lang Spelled) → Every env L → ((x v : Spelled) (u : List Token) → K x v u → Late v.mark) → Every env (bind L λ x. either (K x) (only x))
option_so env L K h k v w (x, a, b, e, d, inl c) = late env v.mark w (k x v b c)
option_so env L K h k v w (x, a, b, e, d, inr c) = kept_so env L h x v w a b e d c

mark_is : (v x : Spelled) → v ≡ x → v.mark ≡ x.mark
mark_is v x e = ap (λ (q : Spelled). q.mark) e

sum_so : (env : Env) (k : ℕ) (U : Lang Spelled) → Every env U → Every env (sum_of k U)
unfolding sum_of
sum_so env k U h = bind_chain env k sum_op binary (λ o x y. refl) U U h

compare_so : (env : Env) (k : ℕ) (U : Lang Spelled) → Every env U → Every env (compare_of k U)
unfolding compare_of chain_of
compare_so env k U h v u (inl d) = option_so env (sum_of k U) (λ x. bind (taken compare_op) λ o. bind (sum_of k U) λ y. only (binary o x y)) (sum_so env k U h) (λ x z w c. (c.5.0.mark, mark_is z (binary c.0 x c.5.0) c.5.5.0)) v u d
compare_so env k U h v u (inr (x, a, b, e, d, (o, a2, b2, e2, t, (y, a3, b3, e3, d3, c)))) = elim (chain_end k (λ z. this o) binary (λ p r s. refl) U (binary o x y) v b3 c) [
  | inl s ↦ late env v.mark u (y.mark, mark_is v (binary o x y) s.0)
  | inr l ↦ late env v.mark u l
]

and_so : (env : Env) (k : ℕ) (U : Lang Spelled) → Every env U → Every env (and_of k U)
unfolding and_of
and_so env k U h = bind_chain env k (λ z. this binary_op.And) binary (λ o x y. refl) (compare_of k U) (compare_of k U) (compare_so env k U h)

or_so : (env : Env) (k : ℕ) (U : Lang Spelled) → Every env U → Every env (or_of k U)
unfolding or_of
or_so env k U h = bind_chain env k (λ z. this binary_op.Or) binary (λ o x y. refl) (and_of k U) (and_of k U) (and_so env k U h)

choice_late : (E : Lang Spelled) (x v : Spelled) (u : List Token) → words (sign.Ask ∷ []) (bind E λ y. words (sign.Colon ∷ []) (bind E λ z. only (choice_value x y z))) v u → Late v.mark
choice_late E x v u (t, a, b, e, d, (y, a2, b2, e2, d2, (t3, a3, b3, e3, d3, (z, a4, b4, e4, d4, c)))) = (z.mark, mark_is v (choice_value x y z) c.0)

choice_so : (env : Env) (E O : Lang Spelled) → Every env O → Every env (choice_of E O)
unfolding choice_of
choice_so env E O h = option_so env O (λ x. words (sign.Ask ∷ []) (bind E λ y. words (sign.Colon ∷ []) (bind E λ z. only (choice_value x y z)))) h
    (λ x v u c. choice_late E x v u c)

-- ---- primaries

sliced_so : (env : Env) (L : Lang Spelled) → Every env L → Every env (bind L sliced)
unfolding sliced
sliced_so env L h = option_so env L (λ x. bind slice λ s. only (slice_value x s)) h (λ x v u c. (mark.Plain, mark_is v (slice_value x c.0) c.5.0))

by_read : (env : Env) (b : Bool) (x : P4Name) (u : List Token) → (b ≡ true → reading x u) → So env (cond b (mark.Read x) mark.Plain) u
unfolding So
by_read env true x u h = h refl
by_read env false x u h = tt {0}

path_parts : (env : Env) (x : P4Name) (xs : List P4Name) (u u1 u2 : List Token) → u ≡ u1 ++ u2 → taken name x u1 → names xs u2 → So env (of_path (x ∷ xs)) u
unfolding So names reading
path_parts env x [] u u1 u2 e nm ms = subst (λ (q : List Token). taken name x q) (sym (drop_rest u u1 u2 e ms)) nm
path_parts env x (y ∷ []) u u1 u2 e nm (a, b, e2, (dot, d1, d2, e3, dt, (t, tis, nm2)), no_more) = by_read env (bytes_eq y.text (codes "read")) x u (λ yes.
    (x, u1, u2, e, nm, (dot, d1, d2, drop_rest u2 a b e2 no_more ∙ e3, dt, (t.at, d2, [], sym (append-nil d2), (t, tis, name_back (codes "read") t.at y t.lexeme nm2 yes), (refl, refl)))))
path_parts env x (y ∷ z ∷ zs) u u1 u2 e nm ms = tt {0}

pub path_so : (env : Env) (p : List P4Name) (u : List Token) → path p u → So env (of_path p) u
unfolding path
path_so env p u (x, u1, u2, e, nm, (xs, a, b, e2, ms, (is, no_rest))) = subst (λ (q : List P4Name). So env (of_path q) u) (sym is) (path_parts env x xs u u1 u2 e nm (subst (λ (q : List Token). names xs q) (sym (drop_rest u2 a b e2 no_rest)) ms))

picked_late : (b : Bool) → Late (cond b mark.Bare mark.Plain)
picked_late true = (mark.Bare, refl)
picked_late false = (mark.Plain, refl)

parens_late : (env : Env) (m : Mark) → Late (of_parens env m)
parens_late env (mark.One x) = picked_late (has env x.text)
parens_late env (mark.Read x) = (mark.Plain, refl)
parens_late env (mark.CastRead t x) = (mark.Plain, refl)
parens_late env mark.Bare = (mark.Plain, refl)
parens_late env mark.Plain = (mark.Plain, refl)

as_late : (v x : Spelled) → v ≡ x → Late x.mark → Late v.mark
as_late v x e l = (l.0, mark_is v x e ∙ l.1)

primary_so : (env : Env) (E : Lang Spelled) → Every env (primary env E)
unfolding primary
primary_so env E v u (inl (n, a, b, e, d, c)) = late env v.mark u (as_late v (number_value n) c.0 (mark.Plain, refl))
primary_so env E v u (inr (inl (n, a, b, e, d, c))) = late env v.mark u (as_late v (true_value n) c.0 (mark.Plain, refl))
primary_so env E v u (inr (inr (inl (n, a, b, e, d, c)))) = late env v.mark u (as_late v (false_value n) c.0 (mark.Plain, refl))
primary_so env E v u (inr (inr (inr (inl (p, a, b, e, d, c))))) = subst (λ (q : Mark). So env q u) (sym (mark_is v (path_value p) c.0)) (subst (λ (q : List Token). So env (of_path p) q) (sym (drop_rest u a b e c.1)) (path_so env p a d))
primary_so env E v u (inr (inr (inr (inr (inl (p, a, b, e, d, c)))))) = late env v.mark u (as_late v (valid_value p) c.0 (mark.Plain, refl))
primary_so env E v u (inr (inr (inr (inr (inr (at, a, b, e, d, (x, a2, b2, e2, d2, (t, a3, b3, e3, d3, c)))))))) = late env v.mark u (as_late v (parens_value at x.expr (of_parens env x.mark)) c.0 (parens_late env x.mark))

cast_so : (env : Env) (at : ℕ) (t : P4Type) (m : Mark) (u a b : List Token) → u ≡ a ++ b → cast_front env (at, t) a → So env m b → So env (of_cast t m) u
unfolding So
cast_so env at t mark.Bare u a b e f s = tt {0}
cast_so env at t (mark.One x) u a b e f s = tt {0}
cast_so env at t (mark.Read x) u a b e f s = (at, a, b, e, f, s)
cast_so env at t (mark.CastRead q x) u a b e f s = tt {0}
cast_so env at t mark.Plain u a b e f s = tt {0}

unary_of_so : (env : Env) (U E : Lang Spelled) → Every env U → Every env (unary_of env U E)
unfolding unary_of
unary_of_so env U E h v u (inl (o, a, b, e, d, (x, a2, b2, e2, d2, c))) = late env v.mark u (as_late v (unary_value o.0 o.1 x) c.0 (x.mark, refl))
unary_of_so env U E h v u (inr (inl (f, a, b, e, d, (x, a2, b2, e2, d2, c)))) = subst (λ (q : Mark). So env q u) (sym (mark_is v (cast_value f.0 f.1 x) c.0)) (cast_so env f.0 f.1 x.mark u a a2 (e ∙ ap (λ (q : List Token). a ++ q) (drop_rest b a2 b2 e2 c.1)) d (h x a2 d2))
unary_of_so env U E h v u (inr (inr d)) = sliced_so env (primary env E) (primary_so env E) v u d

pub unary_so : (k : ℕ) (env : Env) → Every env (unary k env)
unfolding unary
unary_so zero env v u d = absurd d
unary_so (suc k) env v u d = unary_of_so env (unary k env) (expr_ k env) (unary_so k env) v u d

pub expr_so : (k : ℕ) (env : Env) → Every env (expr_ k env)
unfolding expr_
expr_so zero env v u d = absurd d
expr_so (suc k) env v u d = choice_so env (expr_ k env) (or_of (suc k) (unary_of env (unary k env) (expr_ k env))) (or_so env (suc k) (unary_of env (unary k env) (expr_ k env)) (unary_of_so env (unary k env) (expr_ k env) (unary_so k env))) v u d
