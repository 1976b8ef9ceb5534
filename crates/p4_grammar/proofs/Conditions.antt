-- The reader of conditions fits.
use Rattle.std.proofs.Common.{◌≡◌, ℕ, zero, suc, Bool, true, false, List, [], ◌∷◌, ◌++◌, Result, Ok, Option, Some, None, refl, sym, ap, subst, ◌∙◌, append_assoc, append-nil, inl, inr, ◌⊎◌}
use Rattle.p4_lex.specs.declared.token.Token.{Token}
use Rattle.p4_lex.specs.declared.token.Sign.TheVariants as sign
use Rattle.p4_lex.specs.declared.token.Lexeme.{Lexeme}
use Rattle.p4_lex.specs.declared.token.Lexeme.TheVariants as lexeme
use Rattle.p4_ast.specs.declared.name.P4Name.{P4Name}
use Rattle.p4_ast.specs.declared.expression.P4UnaryOp.{P4UnaryOp}
use Rattle.p4_ast.specs.declared.expression.P4UnaryOp.TheVariants as op
use Rattle.p4_ast.specs.declared.statement.P4Cond.{P4Cond}
use Rattle.p4_ast.specs.declared.statement.P4Cond.TheVariants as condition
use Rattle.p4_grammar.specs.declared.mark.Spelled.{Spelled}
use Rattle.p4_grammar.specs.Forms.{Lang, only, bind, either, taken, Reader, done_at, bind_at, hand, is_given}
use Rattle.p4_grammar.specs.Tokens.{is, sign_of, name, words, in_hand, is_name}
use Rattle.p4_grammar.specs.Values.{Env, unary_value, unary_lexeme, unary_op}
use Rattle.p4_grammar.specs.GrammarExpressions.{names, unary_of, unary, expr_, expr}
use Rattle.p4_grammar.specs.GrammarStatements.{outcome_, table_cond, not_table_cond, cond_}
use Rattle.p4_grammar.specs.ReadingExpressions.{unary_at, expr_at, behind_at, names_at, named_at}
use Rattle.p4_grammar.specs.ReadingStatements.{applied_at, negated_value, cond_rest_at, is_some, place_or, cond_named_at, cond_at}
use Rattle.p4_grammar.proofs.Languages.{Same}
use Rattle.p4_grammar.proofs.Forms.{IsEnd, Reads, bind-reads, done-reads, fits, either-reads}
use Rattle.p4_grammar.proofs.Basics.{tok, then-reads, words-reads, sign-reads, named-reads, Begins, begins_taken, begins_bind, begins_either, choose-reads, lexeme_is, sign_begins, name_begins}
use Rattle.p4_grammar.proofs.Facts.{V, by_later, all_ends}
use Rattle.p4_grammar.proofs.Expressions.{names-reads, end_end, apart_only, signed, named, name_led, funary}
use Rattle.p4_grammar.proofs.Operands.{named-reads_, named_apart, plain_begins, open_begins}
use Rattle.p4_grammar.proofs.Levels.{apart_both}
use Rattle.p4_grammar.proofs.Factored.{down, up, expr-reads}
use Rattle.p4_grammar.proofs.Plain.{EX, outcome-reads}
use Rattle.p4_grammar.proofs.Higher.{operand, behind, behind_of, operand-reads, behind-reads_, behind_apart, split_expr, join_expr}

-- ---- a list of names, by its first

names_to : {A : Type 0} (K : List P4Name → Lang A) (y : A) (w : List Token) → bind names K y w → either (words (sign.Dot ∷ []) (bind (taken name) λ x. bind names λ xs. K (x ∷ xs))) (K []) y w
unfolding names
names_to K y w ([], u, v, e, d, k) = inr (subst (λ (q : List Token). K [] y q) (sym (e ∙ ap (λ (q : List Token). q ++ v) d)) k)
names_to K y w (x ∷ xs, u, v, e, (a, b, e2, (dot, d1, d2, e3, dt, nm), ds), k) =
    inl (dot, d1, d2 ++ (b ++ v), e ∙ ap (λ (q : List Token). q ++ v) (e2 ∙ ap (λ (q : List Token). q ++ b) e3) ∙ append_assoc (d1 ++ d2) b v ∙ append_assoc d1 d2 (b ++ v), dt, (x, d2, b ++ v, refl, nm, (xs, b, v, refl, ds, k)))

names_back : {A : Type 0} (K : List P4Name → Lang A) (y : A) (w : List Token) → either (words (sign.Dot ∷ []) (bind (taken name) λ x. bind names λ xs. K (x ∷ xs))) (K []) y w → bind names K y w
unfolding names
names_back K y w (inr k) = ([], [], w, refl, refl, k)
names_back K y w (inl (dot, d1, d2, e, dt, (x, a, b, e2, nm, (xs, c, v, e3, ds, k)))) =
    (x ∷ xs, (d1 ++ a) ++ c, v, e ∙ ap (λ (q : List Token). d1 ++ q) (e2 ∙ ap (λ (q : List Token). a ++ q) e3) ∙ sym (append_assoc d1 a (c ++ v)) ∙ sym (append_assoc (d1 ++ a) c v), (d1 ++ a, c, refl, (dot, d1, a, refl, dt, nm), ds), k)

pub names-same : {A : Type 0} {K : List P4Name → Lang A} → Same (bind names K) (either (words (sign.Dot ∷ []) (bind (taken name) λ x. bind names λ xs. K (x ∷ xs))) (K []))
names-same {K = K} = record { to = names_to K; back = names_back K }

-- ---- words that begin otherwise

abbrev pub without : {A : Type 0} → (Token → Bool) → Lang A → Lang A
without t L x w = L x w × ((m : List Token) → hand t (w ++ m) ≡ false)

pub without-reads : {A : Type 0} {n : ℕ} {D U : Lang A} {E : A → Token → Bool} {p : Reader A} (t : Token → Bool) → Reads n D U E p → Reads n (without t D) U E p
without-reads {n = n} {D = D} {U = U} {E = E} {p = p} t h = fits n D U (without t D) U E E p h (λ x u d. d.0) (λ x u d. d) (λ x m end. end)

pub begins_without : {A : Type 0} {t : Token → Bool} {L : Lang A} → Begins false t (without t L)
begins_without = record { at = λ x u m d. d.1 m }

-- words that begin otherwise for another reason as well
pub begins_within : {A : Type 0} {t s : Token → Bool} {L : Lang A} → Begins false t (without s (without t L))
begins_within = record { at = λ x u m d. d.0.1 m }

-- ---- the reader's language

unfoldable pub crest : Env → Option ℕ → Spelled → Lang P4Cond
crest env o v = bind (behind env (negated_value o v)) λ e. only (condition.Expr e.expr)

unfoldable pub applied : ℕ → Bool → P4Name → Lang P4Cond
applied at negated x = words (sign.Apply ∷ sign.Open ∷ sign.Close ∷ sign.Dot ∷ []) (bind outcome_ λ q. only (condition.Apply at negated x q))

abbrev pub led : Env → Option ℕ → P4Name → List P4Name → Lang P4Cond
led env o x xs = bind (named x xs) λ v. crest env o v

unfoldable pub cnamed : Env → Option ℕ → P4Name → Lang P4Cond
cnamed env o x = either (words (sign.Dot ∷ []) (either (applied (place_or x.at o) (is_some o) x) (bind (taken name) λ y. bind names λ ys. led env o x (y ∷ ys)))) (led env o x [])

unfoldable pub fcond : Env → Lang Spelled → Lang Spelled → Lang P4Cond
fcond env L M = either (bind (taken (is sign.Not)) λ at. either (bind (taken name) λ x. cnamed env (Some at) x) (bind L λ v. crest env (Some at) v))
    (either (bind (taken name) λ x. cnamed env None x) (bind M λ e. only (condition.Expr e.expr)))

-- ---- its reader

ex_ends : (x : Spelled) (a : Token) → EX a ≡ false → V 5 x a ≡ false
ex_ends x a e = all_ends _ _ a.lexeme e

crest-reads : {n : ℕ} (env : Env) (o : Option ℕ) (v : Spelled) → Reads n (crest env o v) (crest env o v) (λ c. EX) (cond_rest_at n env o v)
unfolding crest cond_rest_at
crest-reads {n = n} env o v = bind-reads n (behind env (negated_value o v)) (behind env (negated_value o v)) (V 5) (behind_at n env (negated_value o v)) (λ e. only (condition.Expr e.expr)) (λ e. only (condition.Expr e.expr)) (λ c. EX) (λ e. done_at (condition.Expr e.expr)) (behind-reads_ env (negated_value o v)) (λ e. done-reads n (λ c. EX) (condition.Expr e.expr))
    (λ e y w m d end. apart_only (V 5 e) (λ c. EX) (condition.Expr e.expr) (ex_ends e) y w m d end)

negated_end : (o : Option ℕ) (v : Spelled) (m : List Token) → IsEnd (V 0 (negated_value o v)) m → IsEnd (V 0 v) m
negated_end None v m e = e
negated_end (Some at) v m e = end_end (V 0 v) (V 0 (unary_value op.Not at v)) (λ a g. by_later 0 v.mark a.lexeme g) m e

crest_apart : (env : Env) (o : Option ℕ) (v : Spelled) (y : P4Cond) (w m : List Token) → crest env o v y w → IsEnd EX m → IsEnd (V 0 v) (w ++ m)
unfolding crest
crest_apart env o v y w m d end = negated_end o v (w ++ m) (apart_both (behind env (negated_value o v)) (λ e. only (condition.Expr e.expr)) (V 0 (negated_value o v)) (V 5) (λ c. EX)
    (λ e u r b g. behind_apart env (negated_value o v) e u r b g) (λ e z u r c g. apart_only (V 5 e) (λ c. EX) (condition.Expr e.expr) (ex_ends e) z u r c g) y w m d end)

led-reads : {n : ℕ} (env : Env) (o : Option ℕ) (x : P4Name) (xs : List P4Name) → Reads n (led env o x xs) (led env o x xs) (λ c. EX) (bind_at (named_at x xs) λ v. cond_rest_at n env o v)
led-reads {n = n} env o x xs = bind-reads n (named x xs) (named x xs) (V 0) (named_at x xs) (λ v. crest env o v) (λ v. crest env o v) (λ c. EX) (λ v. cond_rest_at n env o v) (named-reads_ x xs) (λ v. crest-reads env o v) (λ v y w m d end. crest_apart env o v y w m d end)

led_apart : (env : Env) (o : Option ℕ) (x : P4Name) (xs : List P4Name) (y : P4Cond) (w m : List Token) → led env o x xs y w → IsEnd EX m → IsEnd (in_hand sign.Dot) (w ++ m)
led_apart env o x xs y w m d end = apart_both (named x xs) (λ v. crest env o v) (in_hand sign.Dot) (V 0) (λ c. EX) (λ v u r b g. named_apart x xs v u r b g) (λ v z u r c g. crest_apart env o v z u r c g) y w m d end

applied-reads : {n : ℕ} (at : ℕ) (b : Bool) (x : P4Name) → Reads n (applied at b x) (applied at b x) (λ c. EX) (applied_at at b x)
unfolding applied applied_at
applied-reads {n = n} at b x = words-reads (sign.Apply ∷ sign.Open ∷ sign.Close ∷ sign.Dot ∷ []) (then-reads outcome-reads λ q. done-reads n _ (condition.Apply at b x q))

applied_begins : (at : ℕ) (b : Bool) (x : P4Name) → Begins true (in_hand sign.Apply) (applied at b x)
unfolding applied
applied_begins at b x = sign_begins sign.Apply (λ i e. refl)

end_is : (E : Token → Bool) (m : List Token) → IsEnd E m → hand E m ≡ false
end_is E [] e = refl
end_is E (a ∷ m) e = e

cnamed-reads : {n : ℕ} (env : Env) (o : Option ℕ) (x : P4Name) → Reads n (cnamed env o x) (cnamed env o x) (λ c. EX) (cond_named_at n env o x)
unfolding cnamed cond_named_at
cnamed-reads {n = n} env o x = either-reads n (in_hand sign.Dot) _ _ (λ c. EX) _ (led env o x []) (led env o x []) _
    (words-reads (sign.Dot ∷ []) (choose-reads (in_hand sign.Apply) (applied-reads (place_or x.at o) (is_some o) x)
    (named-reads λ y. bind-reads n names names (λ ys. in_hand sign.Dot) (names_at n) (λ ys. led env o x (y ∷ ys)) (λ ys. led env o x (y ∷ ys)) (λ c. EX) _ names-reads (λ ys. led-reads env o x (y ∷ ys)) (λ ys z u m d end. led_apart env o x (y ∷ ys) z u m d end))
    (applied_begins (place_or x.at o) (is_some o) x) (name_begins (λ at e t. refl))))
    (led-reads env o x [])
    (sign_begins {t = in_hand sign.Dot} sign.Dot (λ at e. refl)).at
    (λ y u m d end. end_is (in_hand sign.Dot) (u ++ m) (led_apart env o x [] y u m d end))

fcond-reads : {n : ℕ} (env : Env) → Reads n (fcond env (without is_name (operand env)) (without is_name (without (in_hand sign.Not) (expr env)))) (fcond env (operand env) (expr env)) (λ c. EX) (cond_at n env)
unfolding fcond cond_at
fcond-reads {n = n} env = choose-reads (in_hand sign.Not)
    (sign-reads sign.Not λ at. choose-reads is_name (named-reads λ x. cnamed-reads env (Some at) x)
    (bind-reads n (without is_name (operand env)) (operand env) (V 0) (unary_at n env) (λ v. crest env (Some at) v) (λ v. crest env (Some at) v) (λ c. EX) (λ v. cond_rest_at n env (Some at) v) (without-reads is_name (operand-reads env)) (λ v. crest-reads env (Some at) v) (λ v y w m d end. crest_apart env (Some at) v y w m d end))
    (name_begins (λ i e t. refl)) (begins_bind begins_without))
    (choose-reads is_name (named-reads λ x. cnamed-reads env None x)
    (bind-reads n (without is_name (without (in_hand sign.Not) (expr env))) (expr env) (V 5) (expr_at n env) (λ e. only (condition.Expr e.expr)) (λ e. only (condition.Expr e.expr)) (λ c. EX) (λ e. done_at (condition.Expr e.expr)) (without-reads is_name (without-reads (in_hand sign.Not) (expr-reads env))) (λ e. done-reads n (λ c. EX) (condition.Expr e.expr))
    (λ e y w m d end. apart_only (V 5 e) (λ c. EX) (condition.Expr e.expr) (ex_ends e) y w m d end))
    (name_begins (λ i e t. refl)) (begins_bind begins_without))
    (sign_begins sign.Not (λ i e. refl)) (begins_either (name_begins (λ i e t. refl)) (begins_bind begins_within))

-- ---- how an operand begins

drop_rest : (w u v : List Token) → w ≡ u ++ v → v ≡ [] → w ≡ u
drop_rest w u v e none_left = e ∙ ap (λ (q : List Token). u ++ q) none_left ∙ append-nil u

abbrev ok_pair : P4UnaryOp × ℕ → Result (P4UnaryOp × ℕ) (Unit {0})
ok_pair x = Ok x

pair_is : (x y : P4UnaryOp × ℕ) → ok_pair x ≡ ok_pair y → x ≡ y
pair_is x y e = cc

abbrev ok_at : ℕ → Result ℕ (Unit {0})
ok_at n = Ok n

not_is : (at : ℕ) (o : P4UnaryOp × ℕ) → ok_pair (op.Not, at) ≡ ok_pair o → (o.0 ≡ op.Not) × (ok_at at ≡ ok_at o.1)
not_is at o e = let q : (op.Not, at) ≡ o = pair_is (op.Not, at) o e in (sym (ap (λ (r : P4UnaryOp × ℕ). r.0) q), ap (λ (r : P4UnaryOp × ℕ). ok_at r.1) q)

op_cases : (at : ℕ) (l : Lexeme) (o : P4UnaryOp × ℕ) → unary_lexeme at l ≡ Ok o → ((o.0 ≡ op.Not) × (sign_of sign.Not at l ≡ Ok o.1)) ⊎ (is_given (sign_of sign.Not at l) ≡ false)
op_cases at (lexeme.Name t) o e = inr refl
op_cases at (lexeme.Number v w) o e = inr refl
op_cases at (lexeme.Sign sign.Not) o e = inl (not_is at o e)
op_cases at (lexeme.Sign sign.Complement) o e = inr refl
op_cases at (lexeme.Sign sign.Minus) o e = inr refl
op_cases at (lexeme.Sign s) o e = absurd cc

op_no_name : (at e : ℕ) (l : Lexeme) (o : P4UnaryOp × ℕ) → unary_lexeme at l ≡ Ok o → is_name (tok at e l) ≡ false
op_no_name at i (lexeme.Name t) o e = absurd cc
op_no_name at i (lexeme.Number v w) o e = refl
op_no_name at i (lexeme.Sign s) o e = refl

signed_no_name : (U : Lang Spelled) → Begins false is_name (signed U)
unfolding signed
signed_no_name U = begins_bind (begins_taken (λ a o e. op_no_name a.at a.end a.lexeme o e))

-- an operand begins with a name exactly where it is one of a path
by_name_led : (env : Env) (U E : Lang Spelled) (x : Spelled) (u : List Token) → funary env U E x u → name_led x u ⊎ ((m : List Token) → hand is_name (u ++ m) ≡ false)
unfolding funary
by_name_led env U E x u (inl d) = inr (λ m. (signed_no_name U).at x u m d)
by_name_led env U E x u (inr (inl d)) = inr (λ m. (open_begins {t = is_name} env U E (λ at e. refl)).at x u m d)
by_name_led env U E x u (inr (inr (inl d))) = inl d
by_name_led env U E x u (inr (inr (inr d))) = inr (λ m. (plain_begins {t = is_name} (λ at e. refl) (λ at e. refl) (λ at e v w. refl)).at x u m d)

unary_name_led : (k : ℕ) (env : Env) (x : Spelled) (u : List Token) → unary k env x u → name_led x u ⊎ ((m : List Token) → hand is_name (u ++ m) ≡ false)
unfolding unary
unary_name_led zero env x u d = absurd d
unary_name_led (suc k) env x u d = by_name_led env (unary k env) (expr_ k env) x u (down k env x u d)

-- an operand that begins with `!`, by what follows
pub record Negated (k : ℕ) (env : Env) (x : Spelled) (u : List Token) : Type 0 where
  pub at : ℕ
  pub inner : Spelled
  pub front : List Token
  pub rest : List Token
  pub parts : u ≡ front ++ rest
  pub sign_there : taken (is sign.Not) at front
  pub inner_there : unary k env inner rest
  pub value : x ≡ unary_value op.Not at inner

not_by : (k : ℕ) (env : Env) (x : Spelled) (u : List Token) → signed (unary k env) x u → Negated k env x u ⊎ ((m : List Token) → hand (in_hand sign.Not) (u ++ m) ≡ false)
unfolding signed
not_by k env x u (o, a, b, e, (t, tis, gives), (y, a2, b2, e2, d2, (is, none_left))) = elim (op_cases t.at t.lexeme o gives) [
  | inl c ↦ inl (record { at = o.1; inner = y; front = a; rest = b; parts = e; sign_there = (t, tis, c.1); inner_there = subst (λ (q : List Token). unary k env y q) (sym (drop_rest b a2 b2 e2 none_left)) d2; value = is ∙ ap (λ (q : P4UnaryOp). unary_value q o.1 y) c.0 })
  | inr c ↦ inr (λ m. ap (λ (q : List Token). hand (in_hand sign.Not) (q ++ m)) (e ∙ ap (λ (q : List Token). q ++ b) tis) ∙ c)
]

by_not : (k : ℕ) (env : Env) (x : Spelled) (u : List Token) → funary env (unary k env) (expr_ k env) x u → Negated k env x u ⊎ ((m : List Token) → hand (in_hand sign.Not) (u ++ m) ≡ false)
unfolding funary name_led
by_not k env x u (inl d) = not_by k env x u d
by_not k env x u (inr (inl d)) = inr (λ m. (open_begins {t = in_hand sign.Not} env (unary k env) (expr_ k env) (λ at e. refl)).at x u m d)
by_not k env x u (inr (inr (inl d))) = inr (λ m. (name_begins {t = in_hand sign.Not} {K = λ x. bind names λ xs. named x xs} (λ at e t. refl)).at x u m d)
by_not k env x u (inr (inr (inr d))) = inr (λ m. (plain_begins {t = in_hand sign.Not} (λ at e. refl) (λ at e. refl) (λ at e v w. refl)).at x u m d)

unary_not : (k : ℕ) (env : Env) (x : Spelled) (u : List Token) → unary (suc k) env x u → Negated k env x u ⊎ ((m : List Token) → hand (in_hand sign.Not) (u ++ m) ≡ false)
unfolding unary
unary_not k env x u d = by_not k env x u (down k env x u d)

-- ---- both ways

abbrev others : Env → Lang P4Cond
others env = fcond env (without is_name (operand env)) (without is_name (without (in_hand sign.Not) (expr env)))

led_in : (env : Env) (o : Option ℕ) (x : P4Name) (y : P4Cond) (w : List Token) → bind names (λ xs. led env o x xs) y w → cnamed env o x y w
unfolding cnamed
led_in env o x y w d = side ((names-same {K = λ xs. led env o x xs}).to y w d) where
  side : (words (sign.Dot ∷ []) (bind (taken name) λ z. bind names λ zs. led env o x (z ∷ zs)) y w) ⊎ (led env o x [] y w) → (words (sign.Dot ∷ []) (either (applied (place_or x.at o) (is_some o) x) (bind (taken name) λ z. bind names λ ys. led env o x (z ∷ ys))) y w) ⊎ (led env o x [] y w)
  side (inl (dot, a, b, e, d, k)) = inl (dot, a, b, e, d, inr k)
  side (inr d) = inr d

-- an operand that begins with a name, and what stands behind it
name_in : (env : Env) (o : Option ℕ) (v : Spelled) (y : P4Cond) (u r w : List Token) → w ≡ u ++ r → name_led v u → crest env o v y r → bind (taken name) (λ x. cnamed env o x) y w
unfolding name_led
name_in env o v y u r w e (x, a, b, e2, nm, (xs, c, d, e3, ns, k)) rest =
    (x, a, b ++ r, e ∙ ap (λ (q : List Token). q ++ r) e2 ∙ append_assoc a b r, nm, led_in env o x y (b ++ r) (xs, c, d ++ r, ap (λ (q : List Token). q ++ r) e3 ∙ append_assoc c d r, ns, (v, d, r, refl, k, rest)))

crest_in : (env : Env) (o : Option ℕ) (v e : Spelled) (y : P4Cond) (r : List Token) → behind env (negated_value o v) e r → y ≡ condition.Expr e.expr → crest env o v y r
unfolding crest
crest_in env o v e y r b is = (e, r, [], sym (append-nil r), b, (is, refl))

hand_more : (t : Token → Bool) (u v w : List Token) → w ≡ u ++ v → ((m : List Token) → hand t (u ++ m) ≡ false) → (m : List Token) → hand t (w ++ m) ≡ false
hand_more t u v w e h m = ap (λ (q : List Token). hand t (q ++ m)) e ∙ ap (hand t) (append_assoc u v m) ∙ h (v ++ m)

expr_down : (env : Env) (e : Spelled) (y : P4Cond) (w : List Token) → expr env e w → y ≡ condition.Expr e.expr → others env y w
unfolding fcond
expr_down env e y w d is = by (split_expr env e w d) where
  negated : (k : ℕ) (x : Spelled) (u v : List Token) → w ≡ u ++ v → behind_of k env x e v → Negated k env x u → others env y w
  negated k x u v eq b n =
      let rest : crest env (Some n.at) n.inner y v = crest_in env (Some n.at) n.inner e y v (k, subst (λ (q : Spelled). behind_of k env q e v) n.value b) is in
      let whole : w ≡ n.front ++ (n.rest ++ v) = eq ∙ ap (λ (q : List Token). q ++ v) n.parts ∙ append_assoc n.front n.rest v in
      elim (unary_name_led k env n.inner n.rest n.inner_there) [
        | inl d ↦ inl (n.at, n.front, n.rest ++ v, whole, n.sign_there, inl (name_in env (Some n.at) n.inner y n.rest v (n.rest ++ v) refl d rest))
        | inr h ↦ inl (n.at, n.front, n.rest ++ v, whole, n.sign_there, inr (n.inner, n.rest, v, refl, ((k, n.inner_there), h), rest))
      ]

  plain_one : (k : ℕ) (x : Spelled) (u v : List Token) → w ≡ u ++ v → unary (suc k) env x u → behind_of k env x e v → ((m : List Token) → hand (in_hand sign.Not) (u ++ m) ≡ false) → others env y w
  plain_one k x u v eq ux b away = elim (unary_name_led (suc k) env x u ux) [
    | inl d ↦ inr (inl (name_in env None x y u v w eq d (crest_in env None x e y v (k, b) is)))
    | inr h ↦ inr (inr (e, w, [], sym (append-nil w), ((d, hand_more (in_hand sign.Not) u v w eq away), hand_more is_name u v w eq h), (is, refl)))
  ]

  by : (k : ℕ) × bind (unary (suc k) env) (λ x. behind_of k env x) e w → others env y w
  by (k, (x, u, v, eq, ux, b)) = elim (unary_not k env x u ux) [
    | inl n ↦ negated k x u v eq b n
    | inr away ↦ plain_one k x u v eq ux b away
  ]

cond_down : (env : Env) (y : P4Cond) (w : List Token) → cond_ env y w → others env y w
unfolding cond_ fcond table_cond not_table_cond cnamed applied
cond_down env y w (inl (e, u, v, eq, d, (is, none_left))) = expr_down env e y w (subst (λ (q : List Token). expr env e q) (sym (drop_rest w u v eq none_left)) d) is
cond_down env y w (inr (inl (x, u, v, e, nm, (dot, a, b, e2, dt, k)))) = inr (inl (x, u, v, e, nm, inl (dot, a, b, e2, dt, inl k)))
cond_down env y w (inr (inr (at, u, v, e, nt, (x, u2, v2, e2, nm, (dot, a, b, e3, dt, k))))) = inl (at, u, v, e, nt, inl (x, u2, v2, e2, nm, inl (dot, a, b, e3, dt, inl k)))

-- a path is an operand
name_operand : (env : Env) (x : Spelled) (u : List Token) → name_led x u → operand env x u
unfolding unary funary
name_operand env x u d = (1, up 0 env x u (inr (inr (inl d))))

at_is : (at x : ℕ) → sign_of sign.Not at (lexeme.Sign sign.Not) ≡ Ok x → at ≡ x
at_is at x e = ok_is at x e where
  ok_is : (x y : ℕ) → ok_at x ≡ ok_at y → x ≡ y
  ok_is x y e = cc

not_operand : (env : Env) (at : ℕ) (x : Spelled) (a b : List Token) → taken (is sign.Not) at a → operand env x b → operand env (unary_value op.Not at x) (a ++ b)
unfolding unary unary_of
not_operand env at x a b (t, tis, gives) (k, d) =
    let l : t.lexeme ≡ lexeme.Sign sign.Not = lexeme_is sign.Not t.at at t.lexeme gives in
    let same_at : t.at ≡ at = at_is t.at at (subst (λ (q : Lexeme). sign_of sign.Not t.at q ≡ Ok at) l gives) in
    let op_is : unary_op t ≡ Ok (op.Not, at) = ap (unary_lexeme t.at) l ∙ ap (λ (q : ℕ). ok_pair (op.Not, q)) same_at in
    (suc k, inl ((op.Not, at), a, b, refl, (t, tis, op_is), (x, b, [], sym (append-nil b), d, (refl, refl))))

crest_up : (env : Env) (o : Option ℕ) (v : Spelled) (y : P4Cond) (u r : List Token) → operand env (negated_value o v) u → crest env o v y r → cond_ env y (u ++ r)
unfolding crest cond_
crest_up env o v y u r d (e, a, b, e2, bh, (is, none_left)) = inl (e, u ++ r, [], sym (append-nil (u ++ r)), subst (λ (q : List Token). expr env e (u ++ q)) (sym (drop_rest r a b e2 none_left)) (join_expr env (negated_value o v) e u a d bh), (is, refl))

-- a path and what stands behind it, behind `!` or not
led_up : (env : Env) (x : P4Name) (xs : List P4Name) (v : Spelled) (a c d : List Token) → taken name x a → names xs c → named x xs v d → operand env v (a ++ (c ++ d))
unfolding name_led
led_up env x xs v a c d nm ns k = name_operand env v (a ++ (c ++ d)) (x, a, c ++ d, refl, nm, (xs, c, d, refl, ns, k))

named_up : (env : Env) (o : Option ℕ) (front : List Token) → ((v : Spelled) (u : List Token) → operand env v u → operand env (negated_value o v) (front ++ u)) → (x : P4Name) (y : P4Cond) (a b : List Token) → taken name x a → bind names (λ xs. led env o x xs) y b → cond_ env y (front ++ (a ++ b))
named_up env o front h x y a b nm (xs, c, d, e, ns, (v, d1, d2, e2, k, rest)) =
    let whole : front ++ (a ++ b) ≡ (front ++ (a ++ (c ++ d1))) ++ d2 =
    ap (λ (q : List Token). front ++ (a ++ q)) (e ∙ ap (λ (q : List Token). c ++ q) e2 ∙ sym (append_assoc c d1 d2)) ∙ ap (λ (q : List Token). front ++ q) (sym (append_assoc a (c ++ d1) d2)) ∙ sym (append_assoc front (a ++ (c ++ d1)) d2) in
    subst (λ (q : List Token). cond_ env y q) (sym whole) (crest_up env o v y (front ++ (a ++ (c ++ d1))) d2 (h v (a ++ (c ++ d1)) (led_up env x xs v a c d1 nm ns k)) rest)

plain_up : (env : Env) (x : P4Name) (y : P4Cond) (u v w : List Token) → w ≡ u ++ v → taken name x u → cnamed env None x y v → cond_ env y w
unfolding cnamed applied cond_ table_cond
plain_up env x y u v w e nm (inl (dot, a, b, e2, dt, inl k)) = inr (inl (x, u, v, e, nm, (dot, a, b, e2, dt, k)))
plain_up env x y u v w e nm (inl (dot, a, b, e2, dt, inr k)) = subst (λ (q : List Token). cond_ env y q) (sym e) (named_up env None [] (λ z q d. d) x y u v nm ((names-same {K = λ xs. led env None x xs}).back y v (inl (dot, a, b, e2, dt, k))))
plain_up env x y u v w e nm (inr k) = subst (λ (q : List Token). cond_ env y q) (sym e) (named_up env None [] (λ z q d. d) x y u v nm ((names-same {K = λ xs. led env None x xs}).back y v (inr k)))

not_up : (env : Env) (at : ℕ) (front : List Token) → taken (is sign.Not) at front → (x : P4Name) (y : P4Cond) (u v w r : List Token) → w ≡ front ++ r → r ≡ u ++ v → taken name x u → cnamed env (Some at) x y v → cond_ env y w
unfolding cnamed applied cond_ not_table_cond
not_up env at front nt x y u v w r e e1 nm (inl (dot, a, b, e2, dt, inl k)) = inr (inr (at, front, r, e, nt, (x, u, v, e1, nm, (dot, a, b, e2, dt, k))))
not_up env at front nt x y u v w r e e1 nm (inl (dot, a, b, e2, dt, inr k)) = subst (λ (q : List Token). cond_ env y q) (sym (e ∙ ap (λ (q : List Token). front ++ q) e1)) (named_up env (Some at) front (λ z q d. not_operand env at z front q nt d) x y u v nm ((names-same {K = λ xs. led env (Some at) x xs}).back y v (inl (dot, a, b, e2, dt, k))))
not_up env at front nt x y u v w r e e1 nm (inr k) = subst (λ (q : List Token). cond_ env y q) (sym (e ∙ ap (λ (q : List Token). front ++ q) e1)) (named_up env (Some at) front (λ z q d. not_operand env at z front q nt d) x y u v nm ((names-same {K = λ xs. led env (Some at) x xs}).back y v (inr k)))

cond_up : (env : Env) (y : P4Cond) (w : List Token) → fcond env (operand env) (expr env) y w → cond_ env y w
unfolding fcond cond_
cond_up env y w (inl (at, a, b, e, nt, inl (x, u, v, e2, nm, k))) = not_up env at a nt x y u v w b e e2 nm k
cond_up env y w (inl (at, a, b, e, nt, inr (v, u, r, e2, d, k))) = subst (λ (q : List Token). cond_ env y q) (sym (e ∙ ap (λ (q : List Token). a ++ q) e2 ∙ sym (append_assoc a u r))) (crest_up env (Some at) v y (a ++ u) r (not_operand env at v a u nt d) k)
cond_up env y w (inr (inl (x, u, v, e, nm, k))) = plain_up env x y u v w e nm k
cond_up env y w (inr (inr d)) = inl d

pub cond-reads : {n : ℕ} (env : Env) → Reads n (cond_ env) (cond_ env) (λ c. EX) (cond_at n env)
cond-reads {n = n} env = fits n (others env) (fcond env (operand env) (expr env)) (cond_ env) (cond_ env) (λ c. EX) (λ c. EX) (cond_at n env) (fcond-reads env) (cond_down env) (cond_up env) (λ x m end. end)
