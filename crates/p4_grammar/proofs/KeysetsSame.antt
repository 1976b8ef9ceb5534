-- The grammar's keysets are what their reader follows.
use Rattle.std.proofs.Common.{◌≡◌, ℕ, suc, ◌+◌, arith, Bool, false, List, [], ◌++◌, Ok, Option, Some, None, refl, sym, ap, subst, ◌∙◌, append_assoc, append-nil, inl, inr, ◌⊎◌}
use Rattle.p4_lex.specs.declared.token.Token.{Token}
use Rattle.p4_lex.specs.declared.token.Sign.TheVariants as sign
use Rattle.p4_lex.specs.declared.token.Lexeme.{Lexeme}
use Rattle.p4_lex.specs.declared.token.Lexeme.TheVariants as lexeme
use Rattle.p4_ast.specs.declared.name.P4Name.{P4Name}
use Rattle.p4_ast.specs.declared.declaration.P4Type.{P4Type}
use Rattle.p4_ast.specs.declared.expression.P4Expr.{P4Expr}
use Rattle.p4_ast.specs.declared.parser.P4Keyset.{P4Keyset}
use Rattle.p4_ast.specs.declared.parser.P4Keyset.TheVariants as keyset
use Rattle.p4_ast.specs.declared.parser.P4One.{P4One}
use Rattle.p4_ast.specs.declared.parser.P4One.TheVariants as one
use Rattle.p4_grammar.specs.declared.mark.Spelled.{Spelled}
use Rattle.p4_grammar.specs.Forms.{Lang, only, bind, either, taken, hand}
use Rattle.p4_grammar.specs.Tokens.{is, in_hand}
use Rattle.p4_grammar.specs.Values.{Env, cast_by, cast_value, unary_lexeme}
use Rattle.p4_grammar.specs.GrammarExpressions.{word_type, names, unary, expr_, expr}
use Rattle.p4_grammar.specs.Grammar.{one_, keyset_}
use Rattle.p4_grammar.specs.Reading.{keyset_at}
use Rattle.p4_grammar.proofs.Forms.{Reads, fits}
use Rattle.p4_grammar.proofs.Basics.{tok, Begins, begins_taken, begins_bind, sign_begins, name_begins}
use Rattle.p4_grammar.proofs.Expressions.{parens, cast_, closed, open_, signed, named, name_led, funary}
use Rattle.p4_grammar.proofs.Operands.{plain_begins}
use Rattle.p4_grammar.proofs.Factored.{down, up}
use Rattle.p4_grammar.proofs.Higher.{Sub, sub_bind, sub_self, sub_either, operand, behind_of, split_expr, join_expr, higher}
use Rattle.p4_grammar.proofs.Conditions.{without}
use Rattle.p4_grammar.proofs.Keysets.{EM, mask_more, masked, any, tuple_rest, one_behind, grouped, open_keyset, fkeyset, fkeyset-reads, one-is, one-was}

drop_rest : (w u v : List Token) → w ≡ u ++ v → v ≡ [] → w ≡ u
drop_rest w u v e none_left = e ∙ ap (λ (q : List Token). u ++ q) none_left ∙ append-nil u

-- ---- parentheses at some height

sub_parens : (at : ℕ) (o : Option P4Name) (U M : Lang Spelled) (e : P4Expr) → Sub U M → Sub (parens at o U e) (parens at o M e)
unfolding parens
sub_parens at None U M e h = sub_self
sub_parens at (Some x) U M e h = sub_either (sub_bind h λ y. sub_self) sub_self

pub record Height (at : ℕ) (o : Option P4Name) (env : Env) (e : P4Expr) (v : Spelled) (u : List Token) : Type 0 where
  pub k : ℕ
  pub there : parens at o (unary k env) e v u

parens_height : (at : ℕ) (o : Option P4Name) (env : Env) (e : P4Expr) (v : Spelled) (u : List Token) → parens at o (operand env) e v u → Height at o env e v u
unfolding parens
parens_height at None env e v u d = record { k = 0; there = d }
parens_height at (Some x) env e v u (inl (y, a, b, eq, (k, d), c)) = record { k = k; there = inl (y, a, b, eq, d, c) }
parens_height at (Some x) env e v u (inr d) = record { k = 0; there = inr d }

lift_unary : (k : ℕ) (env : Env) → Sub (unary k env) (operand env)
lift_unary k env = record { up = λ x u d. (k, d) }

-- ---- down

op_no_open : (at e : ℕ) (l : Lexeme) (o : _) → unary_lexeme at l ≡ Ok o → in_hand sign.Open (tok at e l) ≡ false
op_no_open at i (lexeme.Name t) o e = absurd cc
op_no_open at i (lexeme.Number v w) o e = absurd cc
op_no_open at i (lexeme.Sign sign.Open) o e = absurd cc
op_no_open at i (lexeme.Sign s) o e = refl

signed_no_open : (U : Lang Spelled) → Begins false (in_hand sign.Open) (signed U)
unfolding signed
signed_no_open U = begins_bind (begins_taken (λ a o e. op_no_open a.at a.end a.lexeme o e))

-- an operand begins with `(` exactly where it is one in parentheses or a cast
by_open : (env : Env) (U E : Lang Spelled) (x : Spelled) (u : List Token) → funary env U E x u → open_ env U E x u ⊎ ((m : List Token) → hand (in_hand sign.Open) (u ++ m) ≡ false)
unfolding funary name_led
by_open env U E x u (inl d) = inr (λ m. (signed_no_open U).at x u m d)
by_open env U E x u (inr (inl d)) = inl d
by_open env U E x u (inr (inr (inl d))) = inr (λ m. (name_begins {t = in_hand sign.Open} {K = λ x. bind names λ xs. named x xs} (λ at e t. refl)).at x u m d)
by_open env U E x u (inr (inr (inr d))) = inr (λ m. (plain_begins {t = in_hand sign.Open} (λ at e. refl) (λ at e. refl) (λ at e v w. refl)).at x u m d)

unary_open : (k : ℕ) (env : Env) (x : Spelled) (u : List Token) → unary (suc k) env x u → open_ env (unary k env) (expr_ k env) x u ⊎ ((m : List Token) → hand (in_hand sign.Open) (u ++ m) ≡ false)
unfolding unary
unary_open k env x u d = by_open env (unary k env) (expr_ k env) x u (down k env x u d)

abbrev others : Env → Lang P4Keyset
others env = fkeyset env (without (in_hand sign.Open) (one_ env))

hand_more : (t : Token → Bool) (u v w : List Token) → w ≡ u ++ v → ((m : List Token) → hand t (u ++ m) ≡ false) → (m : List Token) → hand t (w ++ m) ≡ false
hand_more t u v w e h m = ap (λ (q : List Token). hand t (q ++ m)) e ∙ ap (hand t) (append_assoc u v m) ∙ h (v ++ m)

behind_in : (k : ℕ) (env : Env) (v x : Spelled) (o : P4One) (y : P4Keyset) (r s w : List Token) → w ≡ r ++ s → behind_of k env v x r → masked env x o s → y ≡ keyset.One o → one_behind env v y w
unfolding one_behind
behind_in k env v x o y r s w e b m is = (x, r, s, e, (k, b), (o, s, [], sym (append-nil s), m, (is, refl)))

open_in : (k : ℕ) (env : Env) (v : Spelled) (y : P4Keyset) (u r w : List Token) → w ≡ u ++ r → open_ env (unary k env) (expr_ k env) v u → one_behind env v y r → open_keyset env y w
unfolding open_ open_keyset cast_ closed grouped
open_in k env v y u r w e (at, a, b, e2, op, inl (t, c, d, e3, wt, (tc, f, g, e4, cl, (z, h, i, e5, uz, (is, none_left))))) ob =
    let tail : b ++ r ≡ c ++ (f ++ (h ++ r)) = ap (λ (q : List Token). q ++ r) (e3 ∙ ap (λ (q : List Token). c ++ q) (e4 ∙ ap (λ (q : List Token). f ++ q) (drop_rest g h i e5 none_left))) ∙ append_assoc c (f ++ h) r ∙ ap (λ (q : List Token). c ++ q) (append_assoc f h r) in
    (at, a, b ++ r, e ∙ ap (λ (q : List Token). q ++ r) e2 ∙ append_assoc a b r, op, inr (inl (t, c, f ++ (h ++ r), tail, wt, (tc, f, h ++ r, refl, cl, (z, h, r, refl, (k, uz), subst (λ (q : Spelled). one_behind env q y r) is ob)))))
open_in k env v y u r w e (at, a, b, e2, op, inr (x, c, d, e3, ex, (tc, f, g, e4, cl, p))) ob =
    let tail : b ++ r ≡ c ++ (f ++ (g ++ r)) = ap (λ (q : List Token). q ++ r) (e3 ∙ ap (λ (q : List Token). c ++ q) e4) ∙ append_assoc c (f ++ g) r ∙ ap (λ (q : List Token). c ++ q) (append_assoc f g r) in
    (at, a, b ++ r, e ∙ ap (λ (q : List Token). q ++ r) e2 ∙ append_assoc a b r, op, inr (inr (x, c, f ++ (g ++ r), tail, (k, ex), inr (inr (tc, f, g ++ r, refl, cl, (v, g, r, refl, (sub_parens at (cast_by env x.mark) (unary k env) (operand env) x.expr (lift_unary k env)).up v g p, ob))))))

one_down : (env : Env) (o : P4One) (y : P4Keyset) (w : List Token) → either any (bind (expr env) (masked env)) o w → y ≡ keyset.One o → others env y w
unfolding fkeyset any
one_down env o y w (inl d) is = inr (inr (o, w, [], sym (append-nil w), (one-was env o w (inl d), λ m. (sign_begins {t = in_hand sign.Open} {K = λ at. only (one.Any at)} sign.Any (λ i e. refl)).at o w m d), (is, refl)))
one_down env o y w (inr (x, a, b, e, ex, mk)) is = by (split_expr env x a ex) where
  by : (k : ℕ) × bind (unary (suc k) env) (λ v. behind_of k env v) x a → others env y w
  by (k, (v, c, d, e2, uv, bh)) = elim (unary_open k env v c uv) [
    | inl op ↦ inr (inl (open_in k env v y c (d ++ b) w (e ∙ ap (λ (q : List Token). q ++ b) e2 ∙ append_assoc c d b) op (behind_in k env v x o y d b (d ++ b) refl bh mk is)))
    | inr away ↦ inr (inr (o, w, [], sym (append-nil w), (one-was env o w (inr (x, a, b, e, ex, mk)), hand_more (in_hand sign.Open) c (d ++ b) w (e ∙ ap (λ (q : List Token). q ++ b) e2 ∙ append_assoc c d b) away), (is, refl)))
  ]

tuple_down : (env : Env) (at : ℕ) (o : P4One) (y : P4Keyset) (a w u v : List Token) → taken (is sign.Open) at a → either any (bind (expr env) (masked env)) o u → tuple_rest env at o y v → w ≡ a ++ (u ++ v) → open_keyset env y w
unfolding open_keyset grouped masked
tuple_down env at o y a w u v op (inl d) tr e = (at, a, u ++ v, e, op, inl (o, u, v, refl, d, tr))
tuple_down env at o y a w u v op (inr (x, b, c, e2, ex, inl (t, f, g, e3, tm, (m, h, i, e4, em, (is, none_left))))) tr e =
    let tail : u ++ v ≡ b ++ (f ++ (h ++ v)) = ap (λ (q : List Token). q ++ v) (e2 ∙ ap (λ (q : List Token). b ++ q) (e3 ∙ ap (λ (q : List Token). f ++ q) (drop_rest g h i e4 none_left))) ∙ append_assoc b (f ++ h) v ∙ ap (λ (q : List Token). b ++ q) (append_assoc f h v) in
    (at, a, u ++ v, e, op, inr (inr (x, b, f ++ (h ++ v), tail, ex, inl (t, f, h ++ v, refl, tm, (m, h, v, refl, em, subst (λ (q : P4One). tuple_rest env at q y v) is tr)))))
tuple_down env at o y a w u v op (inr (x, b, c, e2, ex, inr (is, none_left))) tr e =
    (at, a, u ++ v, e, op, inr (inr (x, b, v, ap (λ (q : List Token). q ++ v) (drop_rest u b c e2 none_left), ex, inr (inl (subst (λ (q : P4One). tuple_rest env at q y v) is tr)))))

keyset_down : (env : Env) (y : P4Keyset) (w : List Token) → keyset_ env y w → others env y w
unfolding keyset_ fkeyset tuple_rest
keyset_down env y w (inl d) = inl d
keyset_down env y w (inr (inl (o, u, v, e, d, (is, none_left)))) = one_down env o y w (one-is env o w (subst (λ (q : List Token). one_ env o q) (sym (drop_rest w u v e none_left)) d)) is
keyset_down env y w (inr (inr (at, a, b, e, op, (o, u, v, e2, d, tr)))) = inr (inl (tuple_down env at o y a w u v op (one-is env o u d) tr (e ∙ ap (λ (q : List Token). a ++ q) e2)))

-- ---- up

tuple_up : (env : Env) (at : ℕ) (o : P4One) (y : P4Keyset) (w a u v : List Token) → w ≡ a ++ (u ++ v) → taken (is sign.Open) at a → one_ env o u → tuple_rest env at o y v → keyset_ env y w
unfolding keyset_ tuple_rest
tuple_up env at o y w a u v e op d tr = inr (inr (at, a, u ++ v, e, op, (o, u, v, refl, d, tr)))

expr_one : (env : Env) (x : Spelled) (o : P4One) (u v : List Token) → expr env x u → masked env x o v → one_ env o (u ++ v)
expr_one env x o u v d m = one-was env o (u ++ v) (inr (x, u, v, refl, d, m))

behind_up : (env : Env) (v : Spelled) (y : P4Keyset) (u r : List Token) → operand env v u → one_behind env v y r → keyset_ env y (u ++ r)
unfolding one_behind keyset_
behind_up env v y u r d (x, a, b, e, bh, (o, c, f, e2, mk, (is, none_left))) =
    let whole : u ++ r ≡ (u ++ a) ++ c = ap (λ (q : List Token). u ++ q) (e ∙ ap (λ (q : List Token). a ++ q) (drop_rest b c f e2 none_left)) ∙ sym (append_assoc u a c) in
    inr (inl (o, u ++ r, [], sym (append-nil (u ++ r)), subst (λ (q : List Token). one_ env o q) (sym whole) (expr_one env x o (u ++ a) c (join_expr env v x u a d bh) mk), (is, refl)))

in_operand : (k : ℕ) (env : Env) (v : Spelled) (u : List Token) → open_ env (unary k env) (expr_ k env) v u → operand env v u
unfolding funary unary
in_operand k env v u d = (suc k, up k env v u (inr (inl d)))

cast_operand : (env : Env) (at tc : ℕ) (t : P4Type) (z : Spelled) (a c f h : List Token) → taken (is sign.Open) at a → word_type t c → taken (is sign.Close) tc f → operand env z h → operand env (cast_value at t z) (a ++ (c ++ (f ++ h)))
unfolding open_ cast_
cast_operand env at tc t z a c f h op wt cl (k, d) = in_operand k env (cast_value at t z) (a ++ (c ++ (f ++ h))) (at, a, c ++ (f ++ h), refl, op, inl (t, c, f ++ h, refl, wt, (tc, f, h, refl, cl, (z, h, [], sym (append-nil h), d, (refl, refl)))))

group_operand : (env : Env) (at tc : ℕ) (x v : Spelled) (a c f g : List Token) → taken (is sign.Open) at a → expr env x c → taken (is sign.Close) tc f → Height at (cast_by env x.mark) env x.expr v g → operand env v (a ++ (c ++ (f ++ g)))
unfolding open_ closed
group_operand env at tc x v a c f g op (j, ex) cl p = in_operand (j + p.k) env v (a ++ (c ++ (f ++ g))) (at, a, c ++ (f ++ g), refl, op, inr (x, c, f ++ g, refl, (higher j (j + p.k) env (omega arith)).1.up x c ex, (tc, f, g, refl, cl, (sub_parens at (cast_by env x.mark) (unary p.k env) (unary (j + p.k) env) x.expr (higher p.k (j + p.k) env (omega arith)).0).up v g p.there)))

with_mask : (env : Env) (x : Spelled) (o : P4One) (u : List Token) → mask_more env x o u → masked env x o u
unfolding masked
with_mask env x o u d = inl d

no_mask : (env : Env) (x : Spelled) → masked env x (one.Expr x.at x.expr None) []
unfolding masked
no_mask env x = inr (refl, refl)

open_up_ : (env : Env) (y : P4Keyset) (w : List Token) → open_keyset env y w → keyset_ env y w
unfolding open_keyset grouped any
open_up_ env y w (at, a, b, e, op, inl (o, u, v, e2, d, tr)) = tuple_up env at o y w a u v (e ∙ ap (λ (q : List Token). a ++ q) e2) op (one-was env o u (inl d)) tr
open_up_ env y w (at, a, b, e, op, inr (inl (t, c, d, e2, wt, (tc, f, g, e3, cl, (z, h, i, e4, oz, ob))))) =
    let whole : w ≡ (a ++ (c ++ (f ++ h))) ++ i = e ∙ ap (λ (q : List Token). a ++ q) (e2 ∙ ap (λ (q : List Token). c ++ q) (e3 ∙ ap (λ (q : List Token). f ++ q) e4 ∙ sym (append_assoc f h i)) ∙ sym (append_assoc c (f ++ h) i)) ∙ sym (append_assoc a (c ++ (f ++ h)) i) in
    subst (λ (q : List Token). keyset_ env y q) (sym whole) (behind_up env (cast_value at t z) y (a ++ (c ++ (f ++ h))) i (cast_operand env at tc t z a c f h op wt cl oz) ob)
open_up_ env y w (at, a, b, e, op, inr (inr (x, c, d, e2, ex, inl (tm, f, g, e3, mk, (m, h, i, e4, em, tr))))) =
    let o = one.Expr x.at x.expr (Some m) in
    let more : mask_more env x o (f ++ h) = (tm, f, h, refl, mk, (m, h, [], sym (append-nil h), em, (refl, refl))) in
    let whole : w ≡ a ++ ((c ++ (f ++ h)) ++ i) = e ∙ ap (λ (q : List Token). a ++ q) (e2 ∙ ap (λ (q : List Token). c ++ q) (e3 ∙ ap (λ (q : List Token). f ++ q) e4 ∙ sym (append_assoc f h i)) ∙ sym (append_assoc c (f ++ h) i)) in
    tuple_up env at o y w a (c ++ (f ++ h)) i whole op (expr_one env x o c (f ++ h) ex (with_mask env x o (f ++ h) more)) tr
open_up_ env y w (at, a, b, e, op, inr (inr (x, c, d, e2, ex, inr (inl tr)))) =
    let o = one.Expr x.at x.expr None in
    let whole : w ≡ a ++ ((c ++ []) ++ d) = e ∙ ap (λ (q : List Token). a ++ q) (e2 ∙ ap (λ (q : List Token). q ++ d) (sym (append-nil c))) in
    tuple_up env at o y w a (c ++ []) d whole op (expr_one env x o c [] ex (no_mask env x)) tr
open_up_ env y w (at, a, b, e, op, inr (inr (x, c, d, e2, ex, inr (inr (tc, f, g, e3, cl, (v, h, i, e4, pr, ob)))))) =
    let whole : w ≡ (a ++ (c ++ (f ++ h))) ++ i = e ∙ ap (λ (q : List Token). a ++ q) (e2 ∙ ap (λ (q : List Token). c ++ q) (e3 ∙ ap (λ (q : List Token). f ++ q) e4 ∙ sym (append_assoc f h i)) ∙ sym (append_assoc c (f ++ h) i)) ∙ sym (append_assoc a (c ++ (f ++ h)) i) in
    subst (λ (q : List Token). keyset_ env y q) (sym whole) (behind_up env v y (a ++ (c ++ (f ++ h))) i (group_operand env at tc x v a c f h op ex cl (parens_height at (cast_by env x.mark) env x.expr v h pr)) ob)

keyset_up : (env : Env) (y : P4Keyset) (w : List Token) → fkeyset env (one_ env) y w → keyset_ env y w
unfolding fkeyset keyset_
keyset_up env y w (inl d) = inl d
keyset_up env y w (inr (inl d)) = open_up_ env y w d
keyset_up env y w (inr (inr d)) = inr (inl d)

pub keyset-reads : {n : ℕ} (env : Env) → Reads n (keyset_ env) (keyset_ env) (λ k. EM) (keyset_at n env)
keyset-reads {n = n} env = fits n (others env) (fkeyset env (one_ env)) (keyset_ env) (keyset_ env) (λ k. EM) (λ k. EM) (keyset_at n env) (fkeyset-reads env) (keyset_down env) (keyset_up env) (λ x m end. end)
