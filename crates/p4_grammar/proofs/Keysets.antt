-- The readers of keysets fit.
use Rattle.std.proofs.Common.{◌≡◌, ℕ, Bool, true, false, cond, List, [], ◌∷◌, ◌++◌, Some, None, refl, ap, ◌∙◌, append_assoc}
use Rattle.p4_lex.specs.declared.token.Token.{Token}
use Rattle.p4_lex.specs.declared.token.Sign.TheVariants as sign
use Rattle.p4_lex.specs.declared.token.Lexeme.{Lexeme}
use Rattle.p4_lex.specs.declared.token.Lexeme.TheVariants as lexeme
use Rattle.p4_ast.specs.declared.declaration.P4Type.{P4Type}
use Rattle.p4_ast.specs.declared.parser.P4Keyset.{P4Keyset}
use Rattle.p4_ast.specs.declared.parser.P4Keyset.TheVariants as keyset
use Rattle.p4_ast.specs.declared.parser.P4One.{P4One}
use Rattle.p4_ast.specs.declared.parser.P4One.TheVariants as one
use Rattle.p4_grammar.specs.declared.mark.Spelled.{Spelled}
use Rattle.p4_grammar.specs.Forms.{Lang, only, bind, either, taken, many, done_at, bind_at, hand}
use Rattle.p4_grammar.specs.Tokens.{is, words, in_hand}
use Rattle.p4_grammar.specs.Values.{Env, cast_by, cast_value, begins_lexeme, begins_operand}
use Rattle.p4_grammar.specs.GrammarExpressions.{word_type, expr, expression}
use Rattle.p4_grammar.specs.Grammar.{one_}
use Rattle.p4_grammar.specs.ReadingExpressions.{parens_at, unary_at, expr_at, behind_at, expression_at, word_type as word_test}
use Rattle.p4_grammar.specs.Reading.{masked_at, any_at, one_at, tuple_rest_at, one_behind_at, grouped_at, open_keyset_at, keyset_at}
use Rattle.p4_grammar.proofs.Forms.{IsEnd, Reads, bind-reads, done-reads, fits}
use Rattle.p4_grammar.proofs.Basics.{tok, then-reads, words-reads, sign-reads, Begins, begins_bind, begins_either, begins_any, choose-reads, sign_begins, list_to-reads, behind-reads}
use Rattle.p4_grammar.proofs.Facts.{V, all_ends, by_cast}
use Rattle.p4_grammar.proofs.Expressions.{end_end, apart_option, apart_only, option-reads, word_type-reads, word_type_begins, begins_map, parens}
use Rattle.p4_grammar.proofs.Operands.{operand_words, parens-reads}
use Rattle.p4_grammar.proofs.Levels.{apart_both}
use Rattle.p4_grammar.proofs.Factored.{expr-reads, expr-begins, unary-begins}
use Rattle.p4_grammar.proofs.Plain.{EX, expression-reads}
use Rattle.p4_grammar.proofs.Higher.{operand, behind, operand-reads, behind-reads_, behind_apart}
use Rattle.p4_grammar.proofs.Conditions.{without, without-reads, begins_without}

-- what may go on behind one of a keyset
abbrev pub EM : Token → Bool
EM a = cond (in_hand sign.Mask a) true (EX a)

abbrev pub EC : Token → Bool
EC a = cond (in_hand sign.Comma a) true (EM a)

right : (b c : Bool) → cond b true c ≡ false → c ≡ false
right true c e = absurd cc
right false c e = e

left : (b c : Bool) → cond b true c ≡ false → b ≡ false
left true c e = absurd cc
left false c e = refl

pub begins_many : {A B : Type 0} {b : Bool} {t : Token → Bool} {L : Lang A} {K : List A → Lang B} → Begins b t L → ((xs : List A) → Begins b t (K xs)) → Begins b t (bind (many L) K)
begins_many {b = b} {t = t} {L = L} {K = K} h k = record { at = λ y w m d. by y w m d.0 d.1 d.2 d.3 d.4 d.5 } where
  by : (y : _) (w m : List Token) (xs : List _) (u v : List Token) → w ≡ u ++ v → many L xs u → K xs y v → hand t (w ++ m) ≡ b
  by y w m [] u v e d c = ap (λ (q : List Token). hand t (q ++ m)) (e ∙ ap (λ (q : List Token). q ++ v) d) ∙ (k []).at y v m c
  by y w m (x ∷ xs) u v e (a, r, e2, d, ds) c = ap (λ (q : List Token). hand t (q ++ m)) (e ∙ ap (λ (q : List Token). q ++ v) e2 ∙ append_assoc a r v) ∙ ap (hand t) (append_assoc a (r ++ v) m) ∙ h.at x a ((r ++ v) ++ m) d

-- ---- the reader's languages

abbrev pub mask_more : Env → Spelled → Lang P4One
mask_more env x = words (sign.Mask ∷ []) (bind (expression env) λ m. only (one.Expr x.at x.expr (Some m)))

unfoldable pub masked : Env → Spelled → Lang P4One
masked env x = either (mask_more env x) (only (one.Expr x.at x.expr None))

unfoldable pub any : Lang P4One
any = bind (taken (is sign.Any)) λ at. only (one.Any at)

unfoldable pub tuple_rest : Env → ℕ → P4One → Lang P4Keyset
tuple_rest env at o = words (sign.Comma ∷ []) (bind (one_ env) λ p. bind (many (words (sign.Comma ∷ []) (one_ env))) λ ps. words (sign.Close ∷ []) (only (keyset.Tuple at (o ∷ p ∷ ps))))

unfoldable pub one_behind : Env → Spelled → Lang P4Keyset
one_behind env v = bind (behind env v) λ x. bind (masked env x) λ o. only (keyset.One o)

unfoldable pub grouped : Env → ℕ → Spelled → Lang P4Keyset
grouped env at x = either (words (sign.Mask ∷ []) (bind (expression env) λ m. tuple_rest env at (one.Expr x.at x.expr (Some m))))
    (either (tuple_rest env at (one.Expr x.at x.expr None))
    (words (sign.Close ∷ []) (bind (parens at (cast_by env x.mark) (operand env) x.expr) λ v. one_behind env v)))

unfoldable pub open_keyset : Env → Lang P4Keyset
open_keyset env = bind (taken (is sign.Open)) λ at. either (bind any λ o. tuple_rest env at o)
    (either (bind word_type λ t. words (sign.Close ∷ []) (bind (operand env) λ y. one_behind env (cast_value at t y)))
    (bind (expr env) λ x. grouped env at x))

unfoldable pub fkeyset : Env → Lang P4One → Lang P4Keyset
fkeyset env O = either (bind (taken (is sign.Default)) λ at. only (keyset.Default at)) (either (open_keyset env) (bind O λ o. only (keyset.One o)))

-- ---- their readers

ex_of : (a : Token) → EM a ≡ false → EX a ≡ false
ex_of a e = right (in_hand sign.Mask a) (EX a) e

masked-reads : {n : ℕ} (env : Env) (x : Spelled) → Reads n (masked env x) (masked env x) (λ o. EM) (masked_at n env x)
unfolding masked masked_at
masked-reads {n = n} env x = option-reads (in_hand sign.Mask) (one.Expr x.at x.expr None)
    (words-reads (sign.Mask ∷ []) (bind-reads n (expression env) (expression env) (λ m. EX) (expression_at n env) (λ m. only (one.Expr x.at x.expr (Some m))) (λ m. only (one.Expr x.at x.expr (Some m))) (λ o. EM) (λ m. done_at (one.Expr x.at x.expr (Some m))) (expression-reads env) (λ m. done-reads n (λ o. EM) (one.Expr x.at x.expr (Some m)))
    (λ q y v m d end. apart_only EX (λ o. EM) (one.Expr x.at x.expr (Some q)) ex_of y v m d end)))
    (sign_begins sign.Mask (λ i e. refl)) (λ a e. left (in_hand sign.Mask a) (EX a) e)

never : (b : Bool) → cond b false false ≡ false
never true = refl
never false = refl

mask_apart : (env : Env) (x : Spelled) → Begins false (V 5 x) (mask_more env x)
mask_apart env x = sign_begins sign.Mask (λ i e. never _)

masked_apart : (env : Env) (x : Spelled) (y : P4One) (v m : List Token) → masked env x y v → IsEnd EM m → IsEnd (V 5 x) (v ++ m)
unfolding masked
masked_apart env x y v m d end = apart_option (V 5 x) (λ o. EM) (mask_more env x) (one.Expr x.at x.expr None) (mask_apart env x) (λ a e. all_ends _ _ a.lexeme (ex_of a e)) y v m d end

any-reads_ : {n : ℕ} → Reads n any any (λ o. EM) any_at
unfolding any any_at
any-reads_ {n = n} = sign-reads sign.Any λ at. done-reads n _ (one.Any at)

any_begins : {b : Bool} {t : Token → Bool} → ((at e : ℕ) → t (tok at e (lexeme.Sign sign.Any)) ≡ b) → Begins b t any
unfolding any
any_begins h = sign_begins sign.Any h

operand_any : (l : Lexeme) → begins_lexeme l ≡ true → in_hand sign.Any (tok 0 0 l) ≡ false
operand_any (lexeme.Name t) e = refl
operand_any (lexeme.Number v w) e = refl
operand_any (lexeme.Sign sign.Any) e = absurd cc
operand_any (lexeme.Sign s) e = refl

any_same : (at e : ℕ) (l : Lexeme) → in_hand sign.Any (tok at e l) ≡ in_hand sign.Any (tok 0 0 l)
any_same at e (lexeme.Name t) = refl
any_same at e (lexeme.Number v w) = refl
any_same at e (lexeme.Sign sign.Any) = refl
any_same at e (lexeme.Sign s) = refl

not_any : {A : Type 0} {L : Lang A} → Begins true begins_operand L → Begins false (in_hand sign.Any) L
not_any {L = L} h = begins_map false begins_operand (in_hand sign.Any) L (λ a e. any_same a.at a.end a.lexeme ∙ operand_any a.lexeme e) h

pub one-is : (env : Env) (o : P4One) (w : List Token) → one_ env o w → either any (bind (expr env) (masked env)) o w
unfolding one_ any masked
one-is env o w d = d

pub one-was : (env : Env) (o : P4One) (w : List Token) → either any (bind (expr env) (masked env)) o w → one_ env o w
unfolding one_ any masked
one-was env o w d = d

expr_masked-reads : {n : ℕ} (env : Env) → Reads n (bind (expr env) (masked env)) (bind (expr env) (masked env)) (λ o. EM) (bind_at (expr_at n env) λ x. masked_at n env x)
expr_masked-reads {n = n} env = bind-reads n (expr env) (expr env) (V 5) (expr_at n env) (masked env) (masked env) (λ o. EM) (λ x. masked_at n env x) (expr-reads env) (masked-reads env) (λ x y v m d end. masked_apart env x y v m d end)

pub one-reads : {n : ℕ} (env : Env) → Reads n (one_ env) (one_ env) (λ o. EM) (one_at n env)
unfolding one_at
one-reads {n = n} env = fits n (either any (bind (expr env) (masked env))) (either any (bind (expr env) (masked env))) (one_ env) (one_ env) (λ o. EM) (λ o. EM) _
    (choose-reads (in_hand sign.Any) any-reads_ (expr_masked-reads env) (any_begins (λ i e. refl)) (begins_bind (not_any (expr-begins env)))) (one-is env) (one-was env) (λ x m end. end)

tuple_rest-reads : {n : ℕ} (env : Env) (at : ℕ) (o : P4One) → Reads n (tuple_rest env at o) (tuple_rest env at o) (λ k. EM) (tuple_rest_at n env at o)
unfolding tuple_rest tuple_rest_at
tuple_rest-reads {n = n} env at o =
    let list = list_to-reads (in_hand sign.Comma) EM (words-reads (sign.Comma ∷ []) (one-reads env)) (sign_begins sign.Comma (λ i e. refl)) (sign_begins sign.Comma (λ i e. refl)) (sign_begins sign.Comma (λ i e. refl)) EC (λ a e. right (in_hand sign.Comma a) (EM a) e) (λ a e. left (in_hand sign.Comma a) (EM a) e) in
    words-reads (sign.Comma ∷ []) (behind-reads (one-reads env) (λ p. begins_many (sign_begins sign.Comma (λ i e. refl)) (λ ps. sign_begins sign.Close (λ i e. refl))) λ p. behind-reads list (λ ps. sign_begins sign.Close (λ i e. refl)) λ ps. words-reads (sign.Close ∷ []) (done-reads n _ (keyset.Tuple at (o ∷ p ∷ ps))))

tuple_begins : {b : Bool} {t : Token → Bool} (env : Env) (at : ℕ) (o : P4One) → ((at e : ℕ) → t (tok at e (lexeme.Sign sign.Comma)) ≡ b) → Begins b t (tuple_rest env at o)
unfolding tuple_rest
tuple_begins env at o h = sign_begins sign.Comma h

masked_one-reads : {n : ℕ} (env : Env) (x : Spelled) → Reads n (bind (masked env x) λ o. only (keyset.One o)) (bind (masked env x) λ o. only (keyset.One o)) (λ k. EM) (bind_at (masked_at n env x) λ o. done_at (keyset.One o))
masked_one-reads {n = n} env x = bind-reads n (masked env x) (masked env x) (λ o. EM) (masked_at n env x) (λ o. only (keyset.One o)) (λ o. only (keyset.One o)) (λ k. EM) (λ o. done_at (keyset.One o)) (masked-reads env x) (λ o. done-reads n (λ k. EM) (keyset.One o)) (λ o y v m d end. apart_only EM (λ k. EM) (keyset.One o) (λ a e. e) y v m d end)

masked_one_apart : (env : Env) (x : Spelled) (y : P4Keyset) (w m : List Token) → bind (masked env x) (λ o. only (keyset.One o)) y w → IsEnd EM m → IsEnd (V 5 x) (w ++ m)
masked_one_apart env x y w m d end = apart_both (masked env x) (λ o. only (keyset.One o)) (V 5 x) (λ o. EM) (λ k. EM) (λ o u r b g. masked_apart env x o u r b g) (λ o z u r c g. apart_only EM (λ k. EM) (keyset.One o) (λ a e. e) z u r c g) y w m d end

one_behind-reads : {n : ℕ} (env : Env) (v : Spelled) → Reads n (one_behind env v) (one_behind env v) (λ k. EM) (one_behind_at n env v)
unfolding one_behind one_behind_at
one_behind-reads {n = n} env v = bind-reads n (behind env v) (behind env v) (V 5) (behind_at n env v) (λ x. bind (masked env x) λ o. only (keyset.One o)) (λ x. bind (masked env x) λ o. only (keyset.One o)) (λ k. EM) _ (behind-reads_ env v) (masked_one-reads env) (λ x y w m d end. masked_one_apart env x y w m d end)

one_behind_apart : (env : Env) (v : Spelled) (y : P4Keyset) (w m : List Token) → one_behind env v y w → IsEnd EM m → IsEnd (V 0 v) (w ++ m)
unfolding one_behind
one_behind_apart env v y w m d end = apart_both (behind env v) (λ x. bind (masked env x) λ o. only (keyset.One o)) (V 0 v) (V 5) (λ k. EM) (λ x u r b g. behind_apart env v x u r b g) (λ x z u r c g. masked_one_apart env x z u r c g) y w m d end

operand_begins : (env : Env) → Begins true begins_operand (operand env)
operand_begins env = begins_any (λ k. unary-begins k env)

grouped-reads : {n : ℕ} (env : Env) (at : ℕ) (x : Spelled) → Reads n (grouped env at x) (grouped env at x) (λ k. EM) (grouped_at n env at x)
unfolding grouped grouped_at
grouped-reads {n = n} env at x = choose-reads (in_hand sign.Mask)
    (words-reads (sign.Mask ∷ []) (behind-reads (expression-reads env) (λ m. tuple_begins env at (one.Expr x.at x.expr (Some m)) (λ i e. refl)) λ m. tuple_rest-reads env at (one.Expr x.at x.expr (Some m))))
    (choose-reads (in_hand sign.Comma) (tuple_rest-reads env at (one.Expr x.at x.expr None))
    (words-reads (sign.Close ∷ []) (bind-reads n (parens at (cast_by env x.mark) (operand env) x.expr) (parens at (cast_by env x.mark) (operand env) x.expr) (V 0) (parens_at at (cast_by env x.mark) (unary_at n env) x.expr) (λ v. one_behind env v) (λ v. one_behind env v) (λ k. EM) (λ v. one_behind_at n env v)
    (parens-reads n env (operand env) (operand env) (expr env) (expr env) (unary_at n env) (expr_at n env) (operand-reads env) (expr-reads env) (operand_begins env) (expr-begins env) at (cast_by env x.mark) x.expr) (one_behind-reads env) (λ v y w m d end. one_behind_apart env v y w m d end)))
    (tuple_begins env at (one.Expr x.at x.expr None) (λ i e. refl)) (sign_begins sign.Close (λ i e. refl)))
    (sign_begins sign.Mask (λ i e. refl)) (begins_either (tuple_begins env at (one.Expr x.at x.expr None) (λ i e. refl)) (sign_begins sign.Close (λ i e. refl)))

grouped_apart : (env : Env) (at : ℕ) (x : Spelled) → Begins false (V 5 x) (grouped env at x)
unfolding grouped
grouped_apart env at x = begins_either (sign_begins sign.Mask (λ i e. never _)) (begins_either (tuple_begins env at (one.Expr x.at x.expr None) (λ i e. never _)) (sign_begins sign.Close (λ i e. never _)))

open_keyset-reads : {n : ℕ} (env : Env) → Reads n (open_keyset env) (open_keyset env) (λ k. EM) (open_keyset_at n env)
unfolding open_keyset open_keyset_at
open_keyset-reads {n = n} env = sign-reads sign.Open λ at. choose-reads (in_hand sign.Any) (behind-reads any-reads_ (λ o. tuple_begins env at o (λ i e. refl)) λ o. tuple_rest-reads env at o)
    (choose-reads word_test (then-reads word_type-reads λ t. words-reads (sign.Close ∷ []) (bind-reads n (operand env) (operand env) (V 0) (unary_at n env) (λ y. one_behind env (cast_value at t y)) (λ y. one_behind env (cast_value at t y)) (λ k. EM) (λ y. one_behind_at n env (cast_value at t y)) (operand-reads env) (λ y. one_behind-reads env (cast_value at t y)) (λ y z w m d end. cast_end at t y (w ++ m) (one_behind_apart env (cast_value at t y) z w m d end))))
    (behind-reads (expr-reads env) (λ x. grouped_apart env at x) λ x. grouped-reads env at x)
    (begins_bind (word_type_begins (λ i e. refl) (λ i e. refl) (λ i e. refl))) (begins_bind (begins_map false begins_operand word_test (expr env) operand_words (expr-begins env))))
    (begins_bind (any_begins (λ i e. refl))) (begins_either (begins_bind (word_type_begins (λ i e. refl) (λ i e. refl) (λ i e. refl))) (begins_bind (not_any (expr-begins env)))) where
      cast_end : (at : ℕ) (t : P4Type) (y : Spelled) (m : List Token) → IsEnd (V 0 (cast_value at t y)) m → IsEnd (V 0 y) m
      cast_end at t y m e = end_end (V 0 y) (V 0 (cast_value at t y)) (λ a g. by_cast 0 t y.mark a.lexeme g) m e

one_default : {A : Type 0} {L : Lang A} → Begins true begins_operand L → Begins false (in_hand sign.Default) L
one_default {L = L} h = begins_map false begins_operand (in_hand sign.Default) L (λ a e. default_same a.at a.end a.lexeme e) h where
  default_same : (at i : ℕ) (l : Lexeme) → begins_lexeme l ≡ true → in_hand sign.Default (tok at i l) ≡ false
  default_same at i (lexeme.Name t) e = refl
  default_same at i (lexeme.Number v w) e = refl
  default_same at i (lexeme.Sign sign.Default) e = absurd cc
  default_same at i (lexeme.Sign s) e = refl

one_no_default : (env : Env) → Begins false (in_hand sign.Default) (one_ env)
one_no_default env = record { at = λ o u m d. (begins_either (any_begins {t = in_hand sign.Default} (λ i e. refl)) (begins_bind {K = masked env} (one_default (expr-begins env)))).at o u m (one-is env o u d) }

without_begins : {A : Type 0} {b : Bool} {t s : Token → Bool} {L : Lang A} → Begins b t L → Begins b t (without s L)
without_begins h = record { at = λ x u m d. h.at x u m d.0 }

open_begins_ : {b : Bool} {t : Token → Bool} (env : Env) → ((at e : ℕ) → t (tok at e (lexeme.Sign sign.Open)) ≡ b) → Begins b t (open_keyset env)
unfolding open_keyset
open_begins_ env h = sign_begins sign.Open h

pub fkeyset-reads : {n : ℕ} (env : Env) → Reads n (fkeyset env (without (in_hand sign.Open) (one_ env))) (fkeyset env (one_ env)) (λ k. EM) (keyset_at n env)
unfolding fkeyset keyset_at
fkeyset-reads {n = n} env = choose-reads (in_hand sign.Default) (sign-reads sign.Default λ at. done-reads n _ (keyset.Default at))
    (choose-reads (in_hand sign.Open) (open_keyset-reads env)
    (bind-reads n (without (in_hand sign.Open) (one_ env)) (one_ env) (λ o. EM) (one_at n env) (λ o. only (keyset.One o)) (λ o. only (keyset.One o)) (λ k. EM) (λ o. done_at (keyset.One o)) (without-reads (in_hand sign.Open) (one-reads env)) (λ o. done-reads n _ (keyset.One o)) (λ o y v m d end. apart_only EM (λ k. EM) (keyset.One o) (λ a e. e) y v m d end))
    (open_begins_ env (λ i e. refl)) (begins_bind begins_without))
    (sign_begins sign.Default (λ i e. refl)) (begins_either (open_begins_ env (λ i e. refl)) (begins_bind (without_begins (one_no_default env))))
