-- Expressions are spelled again by their canonical tokens. There every operand is a value or stands in parentheses, so that none ends in a
-- typedef's name in parentheses.
use Rattle.std.proofs.Common.{◌≡◌, ℕ, zero, suc, ◌+◌, ◌≤◌, Bool, true, false, cond, List, [], ◌∷◌, ◌++◌, map, Result, Ok, refl, sym, ap, subst, ◌∙◌, append_assoc, append-nil, arith, inl, inr}
use Rattle.std.specs.Prelude.{codes}
use Rattle.std.specs.Str.{bytes_eq}
use Rattle.p4_lex.specs.declared.token.Token.{Token}
use Rattle.p4_lex.specs.declared.token.Sign.TheVariants as sign
use Rattle.p4_lex.specs.declared.token.Lexeme.{Lexeme}
use Rattle.p4_ast.specs.declared.name.P4Name.{P4Name}
use Rattle.p4_ast.specs.declared.name.P4Number.{P4Number}
use Rattle.p4_ast.specs.declared.name.P4Path.{P4Path}
use Rattle.p4_ast.specs.declared.name.P4Slice.{P4Slice}
use Rattle.p4_ast.specs.declared.declaration.P4Type.{P4Type}
use Rattle.p4_ast.specs.declared.declaration.P4Type.TheVariants as type
use Rattle.p4_ast.specs.declared.expression.P4BinaryOp.{P4BinaryOp}
use Rattle.p4_ast.specs.declared.expression.P4BinaryOp.TheVariants as binary_op
use Rattle.p4_ast.specs.declared.expression.P4UnaryOp.{P4UnaryOp}
use Rattle.p4_ast.specs.declared.expression.P4UnaryOp.TheVariants as op
use Rattle.p4_ast.specs.declared.expression.P4Expr.{P4Expr}
use Rattle.p4_ast.specs.declared.expression.P4Expr.TheVariants as expr
use Rattle.p4_ast.specs.Bare.{bare_name, bare_number, bare_path, bare_slice, bare_type, bare_expr, bare_expr_step}
use Rattle.p4_ast.proofs.Folds.{fold_expr-Choice, fold_expr-Binary, fold_expr-Unary, fold_expr-Cast, fold_expr-Slice, fold_expr-Number, fold_expr-True, fold_expr-False, fold_expr-Path, fold_expr-IsValid}
use Rattle.p4_print.specs.Shared.{the, separated, number as number_lexeme, type_tokens, path_tokens, slice_tokens}
use Rattle.p4_print.specs.Expressions.{binary_sign, unary_sign, wrapped, expr_step, expr_as, expr_tokens, operand_tokens, args_tokens}
use Rattle.p4_print.specs.Statements.{cast_tokens}
use Rattle.p4_print.proofs.Trees.{as-Choice, as-Binary, as-Unary, as-Cast, as-Slice, as-Number, as-True, as-False, as-IsValid}
use Rattle.p4_grammar.specs.declared.mark.Mark.{Mark}
use Rattle.p4_grammar.specs.declared.mark.Mark.TheVariants as mark
use Rattle.p4_grammar.specs.declared.mark.Spelled.{Spelled}
use Rattle.p4_grammar.specs.Forms.{Lang, none, only, taken, chain}
use Rattle.p4_grammar.specs.Tokens.{is, number, words}
use Rattle.p4_grammar.specs.Values.{Env, later, of_cast, of_path, of_parens, is_bare, first_at, path_of, path_value, valid_value, number_value, true_value, false_value, parens_value, slice_value, cast_value, unary_value, unary_lexeme, unary_op, binary, choice_value, this, some_op, compare_op, chain_op, sum_op}
use Rattle.p4_grammar.specs.GrammarExpressions.{type_, path, slice, sliced, called_path, primary, casts, cast_front, unary_of, sum_of, chain_of, compare_of, and_of, or_of, choice_of, unary, expr_, expr, expression, expressions, args}
use Rattle.p4_grammar.proofs.Basics.{tok, is_self}
use Rattle.p4_reread.specs.Again.{lexemes}
use Rattle.p4_reread.proofs.Again.{Parts, parts, Around, around, sign_at, one_token, All, Signs, all_join, Again, Says, says_bind, says_only, says_either, says_nothing, says_words, says_self, Spelt, all_true, sign-again, number-again, whole, step, last, fork, Onward, done, ends, words_step, list-again}
use Rattle.p4_reread.proofs.AgainPlain.{type-again, path-again, slice-again, called-again, names_tokens, called_tokens}

-- ---- trees without their places

bare-Choice : (at : ℕ) (a b c : P4Expr) → bare_expr (expr.Choice at a b c) ≡ expr.Choice 0 (bare_expr a) (bare_expr b) (bare_expr c)
bare-Choice at a b c = fold_expr-Choice P4Expr bare_expr_step at a b c

bare-Binary : (at : ℕ) (o : P4BinaryOp) (a b : P4Expr) → bare_expr (expr.Binary at o a b) ≡ expr.Binary 0 o (bare_expr a) (bare_expr b)
bare-Binary at o a b = fold_expr-Binary P4Expr bare_expr_step at o a b

bare-Unary : (at : ℕ) (o : P4UnaryOp) (a : P4Expr) → bare_expr (expr.Unary at o a) ≡ expr.Unary 0 o (bare_expr a)
bare-Unary at o a = fold_expr-Unary P4Expr bare_expr_step at o a

bare-Cast : (at : ℕ) (t : P4Type) (a : P4Expr) → bare_expr (expr.Cast at t a) ≡ expr.Cast 0 (bare_type t) (bare_expr a)
bare-Cast at t a = fold_expr-Cast P4Expr bare_expr_step at t a

bare-Slice : (at : ℕ) (a : P4Expr) (s : P4Slice) → bare_expr (expr.Slice at a s) ≡ expr.Slice 0 (bare_expr a) (bare_slice s)
bare-Slice at a s = fold_expr-Slice P4Expr bare_expr_step at a s

bare-Number : (at : ℕ) (n : P4Number) → bare_expr (expr.Number at n) ≡ expr.Number 0 (bare_number n)
bare-Number at n = fold_expr-Number P4Expr bare_expr_step at n

bare-True : (at : ℕ) → bare_expr (expr.True at) ≡ expr.True 0
bare-True at = fold_expr-True P4Expr bare_expr_step at

bare-False : (at : ℕ) → bare_expr (expr.False at) ≡ expr.False 0
bare-False at = fold_expr-False P4Expr bare_expr_step at

bare-Path : (at : ℕ) (p : P4Path) → bare_expr (expr.Path at p) ≡ expr.Path 0 (bare_path p)
bare-Path at p = fold_expr-Path P4Expr bare_expr_step at p

bare-IsValid : (at : ℕ) (p : P4Path) → bare_expr (expr.IsValid at p) ≡ expr.IsValid 0 (bare_path p)
bare-IsValid at p = fold_expr-IsValid P4Expr bare_expr_step at p

-- ---- marks

later_plain : (m : Mark) → is_bare m ≡ false → later m ≡ mark.Plain
later_plain mark.Bare e = absurd cc
later_plain (mark.One x) e = refl
later_plain (mark.Read x) e = refl
later_plain (mark.CastRead t x) e = refl
later_plain mark.Plain e = refl

-- what follows a value that doesn't end in a typedef's name in parentheses doesn't become one in parentheses
later_parens : (env : Env) (m : Mark) → is_bare m ≡ false → is_bare (of_parens env (later m)) ≡ false
later_parens env m e = ap (λ (q : Mark). is_bare (of_parens env q)) (later_plain m e)

cast_parens : (env : Env) (t : P4Type) (m : Mark) → is_bare m ≡ false → is_bare (of_parens env (of_cast t m)) ≡ false
cast_parens env t mark.Bare e = absurd cc
cast_parens env t (mark.One x) e = refl
cast_parens env t (mark.Read x) e = refl
cast_parens env t (mark.CastRead u x) e = refl
cast_parens env t mark.Plain e = refl

path_mark : (xs : List P4Name) → is_bare (of_path xs) ≡ false
path_mark [] = refl
path_mark (x ∷ []) = refl
path_mark (x ∷ y ∷ []) = chosen (bytes_eq y.text (codes "read")) where
  chosen : (b : Bool) → is_bare (cond b (mark.Read x) mark.Plain) ≡ false
  chosen true = refl
  chosen false = refl
path_mark (x ∷ y ∷ z ∷ zs) = refl

-- ---- from an operand to an expression

module _ (env : Env) (k : ℕ) (x : Spelled) (v : List Token) where
  pub unary_up : primary env (expr_ k env) x v → unary (suc k) env x v
  unfolding unary unary_of sliced
  unary_up d = inr (inr (x, v, [], sym (append-nil v), d, inr (refl, refl)))

module _ (k : ℕ) (U : Lang Spelled) (x : Spelled) (v : List Token) where
  sum_up : U x v → sum_of (suc k) U x v
  unfolding sum_of
  sum_up d = (x, v, [], sym (append-nil v), d, inr (refl, refl))

  compare_up : sum_of (suc k) U x v → compare_of (suc k) U x v
  unfolding compare_of
  compare_up d = inl (x, v, [], sym (append-nil v), d, inr (refl, refl))

  and_up : compare_of (suc k) U x v → and_of (suc k) U x v
  unfolding and_of
  and_up d = (x, v, [], sym (append-nil v), d, inr (refl, refl))

  or_up : and_of (suc k) U x v → or_of (suc k) U x v
  unfolding or_of
  or_up d = (x, v, [], sym (append-nil v), d, inr (refl, refl))

  up_all : U x v → or_of (suc k) U x v
  up_all d = or_up (and_up (compare_up (sum_up d)))

expr_up : (k : ℕ) (env : Env) (x : Spelled) (v : List Token) → or_of (suc k) (unary (suc k) env) x v → expr_ (suc k) env x v
unfolding unary expr_ choice_of
expr_up k env x v d = (x, v, [], sym (append-nil v), d, inr (refl, refl))

alone_up : (k : ℕ) (env : Env) (x : Spelled) (v : List Token) → unary (suc k) env x v → expr_ (suc k) env x v
alone_up k env x v d = expr_up k env x v (up_all k (unary (suc k) env) x v d)

-- ---- two operands

-- one more operand of a chain
pair : {A O : Type 0} (j : ℕ) (f : A → Token → Result O (Unit {0})) (join : O → A → A → A) (L : Lang A) (x y : A) (o : O) (t : Token) (v : List Token) → f x t ≡ Ok o → L y v → chain (suc (suc j)) f join L x (join o x y) (t ∷ v)
pair j f join L x y o t v e d = inl (o, t ∷ [], v, refl, (t, refl, e), (y, v, [], sym (append-nil v), d, inr (refl, refl)))

module _ (j : ℕ) (U : Lang Spelled) (x y : Spelled) (t : Token) (u v : List Token) (d : U x u) (e : U y v) where
  abbrev n : ℕ
  n = suc (suc j)

  or_two : t.lexeme ≡ the sign.Or → or_of n U (binary binary_op.Or x y) (u ++ t ∷ v)
  unfolding or_of
  or_two h = (x, u, t ∷ v, refl, and_up (suc j) U x u (compare_up (suc j) U x u (sum_up (suc j) U x u d)), pair j (λ z. this binary_op.Or) binary (and_of n U) x y binary_op.Or t v (ap (λ (l : Lexeme). this binary_op.Or (tok t.at t.end l)) h) (and_up (suc j) U y v (compare_up (suc j) U y v (sum_up (suc j) U y v e))))

  and_two : t.lexeme ≡ the sign.And → or_of n U (binary binary_op.And x y) (u ++ t ∷ v)
  unfolding and_of
  and_two h = or_up (suc j) U (binary binary_op.And x y) (u ++ t ∷ v) (x, u, t ∷ v, refl, compare_up (suc j) U x u (sum_up (suc j) U x u d), pair j (λ z. this binary_op.And) binary (compare_of n U) x y binary_op.And t v (ap (λ (l : Lexeme). this binary_op.And (tok t.at t.end l)) h) (compare_up (suc j) U y v (sum_up (suc j) U y v e)))

  over_compare : (z : Spelled) (w : List Token) → compare_of n U z w → or_of n U z w
  over_compare z w c = or_up (suc j) U z w (and_up (suc j) U z w c)

  compare_two : (o : P4BinaryOp) → compare_op t ≡ Ok o → or_of n U (binary o x y) (u ++ t ∷ v)
  unfolding compare_of
  compare_two o h = over_compare (binary o x y) (u ++ t ∷ v) (inl (x, u, t ∷ v, refl, sum_up (suc j) U x u d, inl (o, t ∷ [], v, refl, (t, refl, h), (y, v, [], sym (append-nil v), sum_up (suc j) U y v e, (refl, refl)))))

  sum_two : (o : P4BinaryOp) → sum_op x t ≡ Ok o → or_of n U (binary o x y) (u ++ t ∷ v)
  unfolding sum_of
  sum_two o h = over_compare (binary o x y) (u ++ t ∷ v) (compare_up (suc j) U (binary o x y) (u ++ t ∷ v) (x, u, t ∷ v, refl, d, pair j sum_op binary U x y o t v h e))

  chain_two : (o : P4BinaryOp) → chain_op t ≡ Ok o → or_of n U (binary o x y) (u ++ t ∷ v)
  unfolding compare_of chain_of
  chain_two o h = over_compare (binary o x y) (u ++ t ∷ v) (inr (x, u, t ∷ v, refl, d, (o, t ∷ [], v, refl, (t, refl, h), (y, v, [], sym (append-nil v), e, inr (refl, refl)))))

  two : (o : P4BinaryOp) → is_bare x.mark ≡ false → t.lexeme ≡ the (binary_sign o) → or_of n U (binary o x y) (u ++ t ∷ v)
  two binary_op.Or m h = or_two h
  two binary_op.And m h = and_two h
  two binary_op.Equal m h = compare_two binary_op.Equal (ap (λ (l : Lexeme). compare_op (tok t.at t.end l)) h)
  two binary_op.NotEqual m h = compare_two binary_op.NotEqual (ap (λ (l : Lexeme). compare_op (tok t.at t.end l)) h)
  two binary_op.Less m h = compare_two binary_op.Less (ap (λ (l : Lexeme). compare_op (tok t.at t.end l)) h)
  two binary_op.LessEqual m h = compare_two binary_op.LessEqual (ap (λ (l : Lexeme). compare_op (tok t.at t.end l)) h)
  two binary_op.More m h = compare_two binary_op.More (ap (λ (l : Lexeme). compare_op (tok t.at t.end l)) h)
  two binary_op.MoreEqual m h = compare_two binary_op.MoreEqual (ap (λ (l : Lexeme). compare_op (tok t.at t.end l)) h)
  two binary_op.Plus m h = sum_two binary_op.Plus (ap (λ (l : Lexeme). sum_op x (tok t.at t.end l)) h ∙ ap (λ (q : Bool). some_op (cond q (binary_op.Plus ∷ []) (binary_op.Plus ∷ binary_op.Minus ∷ [])) (tok t.at t.end (the sign.Plus))) m)
  two binary_op.Minus m h = sum_two binary_op.Minus (ap (λ (l : Lexeme). sum_op x (tok t.at t.end l)) h ∙ ap (λ (q : Bool). some_op (cond q (binary_op.Plus ∷ []) (binary_op.Plus ∷ binary_op.Minus ∷ [])) (tok t.at t.end (the sign.Minus))) m)
  two binary_op.SatPlus m h = chain_two binary_op.SatPlus (ap (λ (l : Lexeme). chain_op (tok t.at t.end l)) h)
  two binary_op.SatMinus m h = chain_two binary_op.SatMinus (ap (λ (l : Lexeme). chain_op (tok t.at t.end l)) h)
  two binary_op.BitAnd m h = chain_two binary_op.BitAnd (ap (λ (l : Lexeme). chain_op (tok t.at t.end l)) h)
  two binary_op.BitOr m h = chain_two binary_op.BitOr (ap (λ (l : Lexeme). chain_op (tok t.at t.end l)) h)
  two binary_op.BitXor m h = chain_two binary_op.BitXor (ap (λ (l : Lexeme). chain_op (tok t.at t.end l)) h)
  two binary_op.ShiftLeft m h = chain_two binary_op.ShiftLeft (ap (λ (l : Lexeme). chain_op (tok t.at t.end l)) h)
  two binary_op.ShiftRight m h = chain_two binary_op.ShiftRight (ap (λ (l : Lexeme). chain_op (tok t.at t.end l)) h)
  two binary_op.Concat m h = chain_two binary_op.Concat (ap (λ (l : Lexeme). chain_op (tok t.at t.end l)) h)

-- ---- casts

-- casts go by what a type says, wherever it stands
casts_bare : (env : Env) (t : P4Type) → casts env t ≡ casts env (bare_type t)
casts_bare env (type.Bit at w) = refl
casts_bare env (type.Bool at) = refl
casts_bare env (type.Name at x) = refl
casts_bare env (type.StdT at) = refl

casts_same : (env : Env) (t u : P4Type) → bare_type u ≡ bare_type t → casts env u ≡ casts env t
casts_same env t u e = casts_bare env u ∙ ap (casts env) e ∙ sym (casts_bare env t)

allowed : {A : Type 0} (c : Bool) (L : Lang A) (x : A) (w : List Token) → c ≡ true → L x w → cond c L none x w
allowed true L x w e d = d
allowed false L x w e d = absurd cc

front_again : (env : Env) (t u : P4Type) → bare_type u ≡ bare_type t → casts env t ≡ true → (o c : Token) (w : List Token) → is sign.Open o ≡ Ok o.at → is sign.Close c ≡ Ok c.at → type_ u w → cast_front env (o.at, u) (o ∷ w ++ c ∷ [])
unfolding cast_front
front_again env t u e can o c w opens closes d = (o.at, o ∷ [], w ++ c ∷ [], refl, (o, refl, opens), (u, w, c ∷ [], refl, d, allowed (casts env u) (words (sign.Close ∷ []) (only (o.at, u))) (o.at, u) (c ∷ []) (casts_same env t u e ∙ can) (c.at, c ∷ [], [], refl, (c, refl, closes), (refl, refl))))

-- what may go on where it may
can_onward : {Y C : Type 0} {p : List Lexeme → List Lexeme} {f : Y → List Lexeme} {b : Y → C} {K M : Lang Y} (c d : Bool) → d ≡ c → Onward p f b K M → Onward p f b (cond c K none) (cond d M none)
can_onward true true e h = h
can_onward true false e h = absurd cc
can_onward false d e h = record { left = λ apart y w l. absurd l }

pub cast_front-again : (env : Env) → Again (cast_front env) (λ c. cast_tokens c.1) (λ c. bare_type c.1)
unfolding cast_front
cast_front-again env = whole (step (sign-again sign.Open) λ at other u. step type-again λ t v e. can_onward (casts env t) (casts env v) (casts_same env t v e) (words_step (sign.Close ∷ []) (done refl e)))

-- ---- trees that their tokens spell again

-- these tokens are read as this tree
pub record Reread (L : Lang Spelled) (free : Mark → Bool) (e : P4Expr) (v : List Token) : Type 0 where
  pub value : Spelled
  pub spelt : L value v
  pub same : bare_expr value.expr ≡ bare_expr e
  pub mark : free value.mark ≡ false

-- From some height on the tree's tokens spell it again, alone and as an operand; and V holds of them.
pub record Fine (env : Env) (V : Lexeme → Type 0) (e : P4Expr) : Type 0 where
  pub height : ℕ
  pub operand : (k : ℕ) → height ≤ k → (v : List Token) → lexemes v ≡ expr_as e true → Reread (primary env (expr_ k env)) is_bare e v
  pub alone : (k : ℕ) → height ≤ k → (v : List Token) → lexemes v ≡ expr_as e false → Reread (expr_ k env) (λ m. false) e v
  pub kept : (operand : Bool) → All V (expr_as e operand)

module _ (env : Env) (V : Lexeme → Type 0) (signs : Signs V) where
  -- a value without operands
  module _ (e : P4Expr) (ts : List Lexeme) (spells : (o : Bool) → expr_as e o ≡ ts) (again : (E : Lang Spelled) (v : List Token) → lexemes v ≡ ts → Reread (primary env E) is_bare e v) where
    leaf_alone : (k : ℕ) → 1 ≤ k → (v : List Token) → lexemes v ≡ expr_as e false → Reread (expr_ k env) (λ m. false) e v
    leaf_alone zero h v s = absurd (omega arith)
    leaf_alone (suc k) h v s =
        let r : Reread (primary env (expr_ k env)) is_bare e v = again (expr_ k env) v (s ∙ spells false) in
        record { value = r.value; spelt = alone_up k env r.value v (unary_up env k r.value v r.spelt); same = r.same; mark = refl }

    leaf : All V ts → Fine env V e
    leaf a = record { height = 1; operand = λ k h v s. again (expr_ k env) v (s ∙ spells true); alone = leaf_alone; kept = λ o. subst (All V) (sym (spells o)) a }

  -- an operation, a cast or a slice
  module _ (e : P4Expr) (ts : List Lexeme) (n : ℕ) (spells : (o : Bool) → expr_as e o ≡ wrapped o ts) (again : (k : ℕ) → n ≤ k → (v : List Token) → lexemes v ≡ ts → Reread (expr_ k env) (λ m. is_bare (of_parens env m)) e v) where
    wrap_alone : (k : ℕ) → n ≤ k → (v : List Token) → lexemes v ≡ expr_as e false → Reread (expr_ k env) (λ m. false) e v
    unfolding wrapped
    wrap_alone k h v s =
        let r : Reread (expr_ k env) (λ m. is_bare (of_parens env m)) e v = again k h v (s ∙ spells false ∙ append-nil ts) in
        record { value = r.value; spelt = r.spelt; same = r.same; mark = refl }

    wrap_operand : (k : ℕ) → n ≤ k → (v : List Token) → lexemes v ≡ expr_as e true → Reread (primary env (expr_ k env)) is_bare e v
    unfolding wrapped primary
    wrap_operand k h v s =
        let o : Parts (the sign.Open ∷ []) (ts ++ (the sign.Close ∷ [])) v = parts (the sign.Open ∷ []) (ts ++ (the sign.Close ∷ [])) v (s ∙ spells true) in
        let c : Parts ts (the sign.Close ∷ []) o.behind = parts ts (the sign.Close ∷ []) o.behind o.behinds in
        let r : Reread (expr_ k env) (λ m. is_bare (of_parens env m)) e c.front = again k h c.front c.fronts in
        let opens : (at : ℕ) × taken (is sign.Open) at o.front × (tt {0} ≡ tt {0}) = (sign-again sign.Open).back 0 (tok 0 0 (the sign.Open) ∷ []) (tok 0 0 (the sign.Open), refl, is_self sign.Open) o.front o.fronts in
        let closes : (at : ℕ) × taken (is sign.Close) at c.behind × (tt {0} ≡ tt {0}) = (sign-again sign.Close).back 0 (tok 0 0 (the sign.Close) ∷ []) (tok 0 0 (the sign.Close), refl, is_self sign.Close) c.behind c.behinds in
        record {
          value = parens_value opens.0 r.value.expr (of_parens env r.value.mark);
          spelt = inr (inr (inr (inr (inr (opens.0, o.front, o.behind, o.is, opens.1, (r.value, c.front, c.behind, c.is, r.spelt, (closes.0, c.behind, [], sym (append-nil c.behind), closes.1, (refl, refl))))))));
          same = r.same;
          mark = r.mark;
        }

    wrap : All V ts → Fine env V e
    unfolding wrapped
    wrap a = record { height = n; operand = wrap_operand; alone = wrap_alone; kept = kept } where
      kept : (o : Bool) → All V (expr_as e o)
      kept true = subst (All V) (sym (spells true)) (signs sign.Open, all_join V ts (the sign.Close ∷ []) a (signs sign.Close, tt))
      kept false = subst (All V) (sym (spells false ∙ append-nil ts)) a

  -- ---- each variant

  fine_number : (n : P4Number) → Spelt V (taken number) n → Fine env V (number_value n).expr
  unfolding primary
  fine_number n (w, d, a) = leaf (expr.Number n.at n) (number_lexeme n ∷ []) (as-Number n.at n) again (number-again.kept V signs n w d a) where
    again : (E : Lang Spelled) (v : List Token) → lexemes v ≡ number_lexeme n ∷ [] → Reread (primary env E) is_bare (number_value n).expr v
    again E v s =
        let r : (m : P4Number) × taken number m v × (bare_number m ≡ bare_number n) = number-again.back n w d v s in
        record { value = number_value r.0; spelt = inl (r.0, v, [], sym (append-nil v), r.1, (refl, refl)); same = bare-Number r.0.at r.0 ∙ ap (expr.Number 0) r.2 ∙ sym (bare-Number n.at n); mark = refl }

  fine_true : (at : ℕ) → Fine env V (expr.True at)
  unfolding primary
  fine_true at = leaf (expr.True at) (the sign.True ∷ []) (as-True at) again (signs sign.True, tt) where
    again : (E : Lang Spelled) (v : List Token) → lexemes v ≡ the sign.True ∷ [] → Reread (primary env E) is_bare (expr.True at) v
    again E v s =
        let r : (t : Token) × (v ≡ t ∷ []) × (t.lexeme ≡ the sign.True) = one_token v (the sign.True) s in
        record { value = true_value r.0.at; spelt = inr (inl (r.0.at, v, [], sym (append-nil v), (r.0, r.1, sign_at sign.True r.0 r.2), (refl, refl))); same = bare-True r.0.at ∙ sym (bare-True at); mark = refl }

  fine_false : (at : ℕ) → Fine env V (expr.False at)
  unfolding primary
  fine_false at = leaf (expr.False at) (the sign.False ∷ []) (as-False at) again (signs sign.False, tt) where
    again : (E : Lang Spelled) (v : List Token) → lexemes v ≡ the sign.False ∷ [] → Reread (primary env E) is_bare (expr.False at) v
    again E v s =
        let r : (t : Token) × (v ≡ t ∷ []) × (t.lexeme ≡ the sign.False) = one_token v (the sign.False) s in
        record { value = false_value r.0.at; spelt = inr (inr (inl (r.0.at, v, [], sym (append-nil v), (r.0, r.1, sign_at sign.False r.0 r.2), (refl, refl)))); same = bare-False r.0.at ∙ sym (bare-False at); mark = refl }

  bare_path_of : (p q : List P4Name) → map bare_name q ≡ map bare_name p → bare_path (path_of q) ≡ bare_path (path_of p)
  bare_path_of p q e = λ i. record { at = 0; names = e i }

  fine_path : (p : List P4Name) → Spelt V path p → Fine env V (path_value p).expr
  unfolding path_tokens primary
  fine_path p (w, d, a) = leaf (path_value p).expr (names_tokens p) (λ o. ap (λ (f : Bool → List Lexeme). f o) (fold_expr-Path (Bool → List Lexeme) expr_step (first_at p) (path_of p))) again (path-again.kept V signs p w d a) where
    again : (E : Lang Spelled) (v : List Token) → lexemes v ≡ names_tokens p → Reread (primary env E) is_bare (path_value p).expr v
    again E v s =
        let r : (q : List P4Name) × path q v × (map bare_name q ≡ map bare_name p) = path-again.back p w d v s in
        record { value = path_value r.0; spelt = inr (inr (inr (inl (r.0, v, [], sym (append-nil v), r.1, (refl, refl))))); same = bare-Path (first_at r.0) (path_of r.0) ∙ ap (expr.Path 0) (bare_path_of p r.0 r.2) ∙ sym (bare-Path (first_at p) (path_of p)); mark = path_mark r.0 }

  fine_valid : (p : List P4Name) → Spelt V (called_path (codes "isValid")) p → Fine env V (valid_value p).expr
  unfolding path_tokens primary
  fine_valid p (w, d, a) = leaf (valid_value p).expr (called_tokens (codes "isValid") p) (as-IsValid (first_at p) (path_of p)) again ((called-again (codes "isValid")).kept V signs p w d a) where
    again : (E : Lang Spelled) (v : List Token) → lexemes v ≡ called_tokens (codes "isValid") p → Reread (primary env E) is_bare (valid_value p).expr v
    again E v s =
        let r : (q : List P4Name) × called_path (codes "isValid") q v × (map bare_name q ≡ map bare_name p) = (called-again (codes "isValid")).back p w d v s in
        record { value = valid_value r.0; spelt = inr (inr (inr (inr (inl (r.0, v, [], sym (append-nil v), r.1, (refl, refl)))))); same = bare-IsValid (first_at r.0) (path_of r.0) ∙ ap (expr.IsValid 0) (bare_path_of p r.0 r.2) ∙ sym (bare-IsValid (first_at p) (path_of p)); mark = refl }

  -- an operand where an operand may stand
  abbrev Low : ℕ → P4Expr → List Token → Type 0
  Low k e v = Reread (unary k env) is_bare e v

  low : (k : ℕ) (e : P4Expr) (v : List Token) → Reread (primary env (expr_ k env)) is_bare e v → Low (suc k) e v
  low k e v r = record { value = r.value; spelt = unary_up env k r.value v r.spelt; same = r.same; mark = r.mark }

  fine_binary : (at : ℕ) (o : P4BinaryOp) (a b : P4Expr) → Fine env V a → Fine env V b → Fine env V (expr.Binary at o a b)
  fine_binary at o a b f g = wrap (expr.Binary at o a b) (expr_as a true ++ (the (binary_sign o) ∷ expr_as b true)) (f.height + g.height + 2) (as-Binary at o a b) again (all_join V (expr_as a true) (the (binary_sign o) ∷ expr_as b true) (f.kept true) (signs (binary_sign o), g.kept true)) where
    again : (k : ℕ) → f.height + g.height + 2 ≤ k → (v : List Token) → lexemes v ≡ expr_as a true ++ (the (binary_sign o) ∷ expr_as b true) → Reread (expr_ k env) (λ m. is_bare (of_parens env m)) (expr.Binary at o a b) v
    again zero h v s = absurd (omega (arith, h))
    again (suc zero) h v s = absurd (omega (arith, h))
    again (suc (suc j)) h v s =
        let p : Around (expr_as a true) (the (binary_sign o)) (expr_as b true) v = around (expr_as a true) (the (binary_sign o)) (expr_as b true) v s in
        let x : Low (suc (suc j)) a p.front = low (suc j) a p.front (f.operand (suc j) (omega (arith, h)) p.front p.fronts) in
        let y : Low (suc (suc j)) b p.behind = low (suc j) b p.behind (g.operand (suc j) (omega (arith, h)) p.behind p.behinds) in
        let d : or_of (suc (suc j)) (unary (suc (suc j)) env) (binary o x.value y.value) (p.front ++ p.token ∷ p.behind) = two j (unary (suc (suc j)) env) x.value y.value p.token p.front p.behind x.spelt y.spelt o x.mark p.here in
        record {
          value = binary o x.value y.value;
          spelt = subst (λ (q : List Token). expr_ (suc (suc j)) env (binary o x.value y.value) q) (sym p.parted) (expr_up (suc j) env (binary o x.value y.value) (p.front ++ p.token ∷ p.behind) d);
          same = bare-Binary x.value.at o x.value.expr y.value.expr ∙ ap (λ (q : P4Expr). expr.Binary 0 o q (bare_expr y.value.expr)) x.same ∙ ap (expr.Binary 0 o (bare_expr a)) y.same ∙ sym (bare-Binary at o a b);
          mark = later_parens env y.value.mark y.mark;
        }

  unary_is : (o : P4UnaryOp) (at : ℕ) → unary_lexeme at (the (unary_sign o)) ≡ Ok (o, at)
  unary_is op.Not at = refl
  unary_is op.Complement at = refl
  unary_is op.Negate at = refl

  fine_unary : (at : ℕ) (o : P4UnaryOp) (a : P4Expr) → Fine env V a → Fine env V (expr.Unary at o a)
  unfolding unary unary_of
  fine_unary at o a f = wrap (expr.Unary at o a) (the (unary_sign o) ∷ expr_as a true) (f.height + 2) (as-Unary at o a) again (signs (unary_sign o), f.kept true) where
    spelt : (j : ℕ) (v : List Token) (o : P4UnaryOp) (t : Token) (u r : List Token) (x : Spelled) → v ≡ u ++ t ∷ r → lexemes u ≡ [] → unary_op t ≡ Ok (o, t.at) → unary (suc j) env x r → unary (suc (suc j)) env (unary_value o t.at x) v
    spelt j v o t [] r x e n h d = inl ((o, t.at), t ∷ [], r, e, (t, refl, h), (x, r, [], sym (append-nil r), d, (refl, refl)))
    spelt j v o t (q ∷ u) r x e n h d = absurd cc

    again : (k : ℕ) → f.height + 2 ≤ k → (v : List Token) → lexemes v ≡ the (unary_sign o) ∷ expr_as a true → Reread (expr_ k env) (λ m. is_bare (of_parens env m)) (expr.Unary at o a) v
    again zero h v s = absurd (omega (arith, h))
    again (suc zero) h v s = absurd (omega (arith, h))
    again (suc (suc j)) h v s =
        let p : Around [] (the (unary_sign o)) (expr_as a true) v = around [] (the (unary_sign o)) (expr_as a true) v s in
        let x : Low (suc j) a p.behind = low j a p.behind (f.operand j (omega (arith, h)) p.behind p.behinds) in
        let e : unary_op p.token ≡ Ok (o, p.token.at) = ap (unary_lexeme p.token.at) p.here ∙ unary_is o p.token.at in
        record {
          value = unary_value o p.token.at x.value;
          spelt = alone_up (suc j) env (unary_value o p.token.at x.value) v (spelt j v o p.token p.front p.behind x.value p.parted p.fronts e x.spelt);
          same = bare-Unary p.token.at o x.value.expr ∙ ap (expr.Unary 0 o) x.same ∙ sym (bare-Unary at o a);
          mark = later_parens env x.value.mark x.mark;
        }

  fine_choice : (at : ℕ) (a b c : P4Expr) → Fine env V a → Fine env V b → Fine env V c → Fine env V (expr.Choice at a b c)
  unfolding expr_ choice_of unary
  fine_choice at a b c f g h = wrap (expr.Choice at a b c) (expr_as a true ++ (the sign.Ask ∷ (expr_as b true ++ (the sign.Colon ∷ expr_as c true)))) (f.height + g.height + h.height + 2) (as-Choice at a b c) again kept where
    kept : All V (expr_as a true ++ (the sign.Ask ∷ (expr_as b true ++ (the sign.Colon ∷ expr_as c true))))
    kept = all_join V (expr_as a true) (the sign.Ask ∷ (expr_as b true ++ (the sign.Colon ∷ expr_as c true))) (f.kept true) (signs sign.Ask, all_join V (expr_as b true) (the sign.Colon ∷ expr_as c true) (g.kept true) (signs sign.Colon, h.kept true))

    spelt : (j : ℕ) (v u m r n : List Token) (t q : Token) (x y z : Spelled) → v ≡ u ++ t ∷ m → m ≡ r ++ q ∷ n → is sign.Ask t ≡ Ok t.at → is sign.Colon q ≡ Ok q.at → unary (suc (suc j)) env x u → expr_ (suc j) env y r → expr_ (suc j) env z n → expr_ (suc (suc j)) env (choice_value x y z) v
    spelt j v u m r n t q x y z e i ask colon d l w = (x, u, t ∷ m, e, up_all (suc j) (unary (suc (suc j)) env) x u d, inl (t.at, t ∷ [], m, refl, (t, refl, ask), (y, r, q ∷ n, i, l, (q.at, q ∷ [], n, refl, (q, refl, colon), (z, n, [], sym (append-nil n), w, (refl, refl))))))

    again : (k : ℕ) → f.height + g.height + h.height + 2 ≤ k → (v : List Token) → lexemes v ≡ expr_as a true ++ (the sign.Ask ∷ (expr_as b true ++ (the sign.Colon ∷ expr_as c true))) → Reread (expr_ k env) (λ m. is_bare (of_parens env m)) (expr.Choice at a b c) v
    again zero up v s = absurd (omega (arith, up))
    again (suc zero) up v s = absurd (omega (arith, up))
    again (suc (suc j)) up v s =
        let p : Around (expr_as a true) (the sign.Ask) (expr_as b true ++ (the sign.Colon ∷ expr_as c true)) v = around (expr_as a true) (the sign.Ask) (expr_as b true ++ (the sign.Colon ∷ expr_as c true)) v s in
        let q : Around (expr_as b true) (the sign.Colon) (expr_as c true) p.behind = around (expr_as b true) (the sign.Colon) (expr_as c true) p.behind p.behinds in
        let x : Low (suc (suc j)) a p.front = low (suc j) a p.front (f.operand (suc j) (omega (arith, up)) p.front p.fronts) in
        let y : Low (suc j) b q.front = low j b q.front (g.operand j (omega (arith, up)) q.front q.fronts) in
        let z : Low (suc j) c q.behind = low j c q.behind (h.operand j (omega (arith, up)) q.behind q.behinds) in
        record {
          value = choice_value x.value y.value z.value;
          spelt = spelt j v p.front p.behind q.front q.behind p.token q.token x.value y.value z.value p.parted q.parted (sign_at sign.Ask p.token p.here) (sign_at sign.Colon q.token q.here) x.spelt (alone_up j env y.value q.front y.spelt) (alone_up j env z.value q.behind z.spelt);
          same = bare-Choice x.value.at x.value.expr y.value.expr z.value.expr ∙ ap (λ (i : P4Expr). expr.Choice 0 i (bare_expr y.value.expr) (bare_expr z.value.expr)) x.same ∙ ap (λ (i : P4Expr). expr.Choice 0 (bare_expr a) i (bare_expr z.value.expr)) y.same ∙ ap (expr.Choice 0 (bare_expr a) (bare_expr b)) z.same ∙ sym (bare-Choice at a b c);
          mark = later_parens env z.value.mark z.mark;
        }

  fine_cast : (at : ℕ) (t : P4Type) (a : P4Expr) → Spelt V type_ t → casts env t ≡ true → Fine env V a → Fine env V (expr.Cast at t a)
  unfolding unary unary_of
  fine_cast at t a (w, d, all) can f = wrap (expr.Cast at t a) (the sign.Open ∷ (type_tokens t ++ (the sign.Close ∷ expr_as a true))) (f.height + 2) (as-Cast at t a) again (signs sign.Open, all_join V (type_tokens t) (the sign.Close ∷ expr_as a true) (type-again.kept V signs t w d all) (signs sign.Close, f.kept true)) where
    spelt : (j : ℕ) (v u m r n : List Token) (o c : Token) (y : P4Type) (x : Spelled) → v ≡ u ++ o ∷ m → lexemes u ≡ [] → m ≡ r ++ c ∷ n → cast_front env (o.at, y) (o ∷ r ++ c ∷ []) → unary (suc j) env x n → unary (suc (suc j)) env (cast_value o.at y x) v
    spelt j v [] m r n o c y x e g i front l = inr (inl ((o.at, y), o ∷ r ++ c ∷ [], n, e ∙ ap (λ (q : List Token). o ∷ q) (i ∙ sym (append_assoc r (c ∷ []) n)), front, (x, n, [], sym (append-nil n), l, (refl, refl))))
    spelt j v (q ∷ u) m r n o c y x e g i front l = absurd cc

    again : (k : ℕ) → f.height + 2 ≤ k → (v : List Token) → lexemes v ≡ the sign.Open ∷ (type_tokens t ++ (the sign.Close ∷ expr_as a true)) → Reread (expr_ k env) (λ m. is_bare (of_parens env m)) (expr.Cast at t a) v
    again zero up v s = absurd (omega (arith, up))
    again (suc zero) up v s = absurd (omega (arith, up))
    again (suc (suc j)) up v s =
        let p : Around [] (the sign.Open) (type_tokens t ++ (the sign.Close ∷ expr_as a true)) v = around [] (the sign.Open) (type_tokens t ++ (the sign.Close ∷ expr_as a true)) v s in
        let q : Around (type_tokens t) (the sign.Close) (expr_as a true) p.behind = around (type_tokens t) (the sign.Close) (expr_as a true) p.behind p.behinds in
        let y : (y : P4Type) × type_ y q.front × (bare_type y ≡ bare_type t) = type-again.back t w d q.front q.fronts in
        let x : Low (suc j) a q.behind = low j a q.behind (f.operand j (omega (arith, up)) q.behind q.behinds) in
        let front : cast_front env (p.token.at, y.0) (p.token ∷ q.front ++ q.token ∷ []) = front_again env t y.0 y.2 can p.token q.token q.front (sign_at sign.Open p.token p.here) (sign_at sign.Close q.token q.here) y.1 in
        record {
          value = cast_value p.token.at y.0 x.value;
          spelt = alone_up (suc j) env (cast_value p.token.at y.0 x.value) v (spelt j v p.front p.behind q.front q.behind p.token q.token y.0 x.value p.parted p.fronts q.parted front x.spelt);
          same = bare-Cast p.token.at y.0 x.value.expr ∙ ap (λ (i : P4Type). expr.Cast 0 i (bare_expr x.value.expr)) y.2 ∙ ap (expr.Cast 0 (bare_type t)) x.same ∙ sym (bare-Cast at t a);
          mark = cast_parens env y.0 x.value.mark x.mark;
        }

  fine_slice : (at : ℕ) (a : P4Expr) (s : P4Slice) → Spelt V slice s → Fine env V a → Fine env V (expr.Slice at a s)
  unfolding unary unary_of sliced
  fine_slice at a s (w, d, all) f = wrap (expr.Slice at a s) (expr_as a true ++ slice_tokens s) (f.height + 1) (as-Slice at a s) again (all_join V (expr_as a true) (slice_tokens s) (f.kept true) (slice-again.kept V signs s w d all)) where
    spelt : (k : ℕ) (v u m : List Token) (x : Spelled) (y : P4Slice) → v ≡ u ++ m → primary env (expr_ k env) x u → slice y m → unary (suc k) env (slice_value x y) v
    spelt k v u m x y e l r = inr (inr (x, u, m, e, l, inl (y, m, [], sym (append-nil m), r, (refl, refl))))

    again : (k : ℕ) → f.height + 1 ≤ k → (v : List Token) → lexemes v ≡ expr_as a true ++ slice_tokens s → Reread (expr_ k env) (λ m. is_bare (of_parens env m)) (expr.Slice at a s) v
    again zero up v g = absurd (omega (arith, up))
    again (suc k) up v g =
        let p : Parts (expr_as a true) (slice_tokens s) v = parts (expr_as a true) (slice_tokens s) v g in
        let x : Reread (primary env (expr_ k env)) is_bare a p.front = f.operand k (omega (arith, up)) p.front p.fronts in
        let y : (y : P4Slice) × slice y p.behind × (bare_slice y ≡ bare_slice s) = slice-again.back s w d p.behind p.behinds in
        record {
          value = slice_value x.value y.0;
          spelt = alone_up k env (slice_value x.value y.0) v (spelt k v p.front p.behind x.value y.0 p.is x.spelt y.1);
          same = bare-Slice x.value.at x.value.expr y.0 ∙ ap (λ (i : P4Expr). expr.Slice 0 i (bare_slice y.0)) x.same ∙ ap (expr.Slice 0 (bare_expr a)) y.2 ∙ sym (bare-Slice at a s);
          mark = refl;
        }

  -- ---- every tree that tokens spell

  abbrev FineOf : Spelled → Type 0
  FineOf x = Fine env V x.expr

  primary_fine : (E : Lang Spelled) → Says V E FineOf → Says V (primary env E) FineOf
  unfolding primary
  primary_fine E h = says_either (says_bind says_self λ n d. says_only (fine_number n d))
      (says_either (says_bind says_nothing λ at d. says_only (fine_true at))
      (says_either (says_bind says_nothing λ at d. says_only (fine_false at))
      (says_either (says_bind says_self λ p d. says_only (fine_path p d))
      (says_either (says_bind says_self λ p d. says_only (fine_valid p d))
      (says_bind says_nothing λ at d. says_bind h λ x f. says_words (sign.Close ∷ []) (says_only f))))))

  can_cast : (c : Bool) (K : Lang (ℕ × P4Type)) (Q : ℕ × P4Type → Type 0) → ((c ≡ true) → Says V K Q) → Says V (cond c K none) Q
  can_cast true K Q h = h refl
  can_cast false K Q h = record { at = λ x w d a. absurd d }

  pub front_says : Says V (cast_front env) (λ c. Spelt V type_ c.1 × (casts env c.1 ≡ true))
  unfolding cast_front
  front_says = says_bind says_nothing λ at d. says_bind says_self λ t s. can_cast (casts env t) (words (sign.Close ∷ []) (only (at, t))) _ λ e. says_words (sign.Close ∷ []) (says_only (s, e))

  sliced_fine : (x : Spelled) → FineOf x → Says V (sliced x) FineOf
  unfolding sliced
  sliced_fine x f = says_either (says_bind says_self λ s d. says_only (fine_slice x.at x.expr s d f)) (says_only f)

  unary_of_fine : (U E : Lang Spelled) → Says V U FineOf → Says V E FineOf → Says V (unary_of env U E) FineOf
  unfolding unary_of
  unary_of_fine U E h k = says_either (says_bind says_nothing λ o d. says_bind h λ x f. says_only (fine_unary o.1 o.0 x.expr f))
      (says_either (says_bind front_says λ c d. says_bind h λ x f. says_only (fine_cast c.0 c.1 x.expr d.0 d.1 f))
      (says_bind (primary_fine E k) sliced_fine))

  chain_fine : {O : Type 0} (k : ℕ) (test : Spelled → Token → Result O (Unit {0})) (join : O → Spelled → Spelled → Spelled) (L : Lang Spelled) → ((o : O) (x y : Spelled) → FineOf x → FineOf y → FineOf (join o x y)) → Says V L FineOf → (x : Spelled) → FineOf x → Says V (chain k test join L x) FineOf
  chain_fine zero test join L j h x f = record { at = λ y w d a. absurd d }
  chain_fine (suc k) test join L j h x f = says_either (says_bind says_nothing λ o d. says_bind h λ y g. chain_fine k test join L j h (join o x y) (j o x y f g)) (says_only f)

  both : (o : P4BinaryOp) (x y : Spelled) → FineOf x → FineOf y → FineOf (binary o x y)
  both o x y f g = fine_binary x.at o x.expr y.expr f g

  sum_fine : (k : ℕ) (U : Lang Spelled) → Says V U FineOf → Says V (sum_of k U) FineOf
  unfolding sum_of
  sum_fine k U h = says_bind h λ x f. chain_fine k sum_op binary U both h x f

  compare_fine : (k : ℕ) (U : Lang Spelled) → Says V U FineOf → Says V (compare_of k U) FineOf
  unfolding compare_of chain_of
  compare_fine k U h = says_either
      (says_bind (sum_fine k U h) λ x f. says_either (says_bind says_nothing λ o d. says_bind (sum_fine k U h) λ y g. says_only (both o x y f g)) (says_only f))
      (says_bind h λ x f. says_bind says_nothing λ o d. says_bind h λ y g. chain_fine k (λ z. this o) binary U both h (binary o x y) (both o x y f g))

  or_fine : (k : ℕ) (U : Lang Spelled) → Says V U FineOf → Says V (or_of k U) FineOf
  unfolding or_of and_of
  or_fine k U h = says_bind (and_fine k U h) λ x f. chain_fine k (λ z. this binary_op.Or) binary (and_of k U) both (and_fine k U h) x f where
    and_fine : (k : ℕ) (U : Lang Spelled) → Says V U FineOf → Says V (and_of k U) FineOf
    and_fine k U h = says_bind (compare_fine k U h) λ x f. chain_fine k (λ z. this binary_op.And) binary (compare_of k U) both (compare_fine k U h) x f

  choice_fine : (E O : Lang Spelled) → Says V E FineOf → Says V O FineOf → Says V (choice_of E O) FineOf
  unfolding choice_of
  choice_fine E O h k = says_bind k λ x f. says_either (says_words (sign.Ask ∷ []) (says_bind h λ y g. says_words (sign.Colon ∷ []) (says_bind h λ z l. says_only (fine_choice x.at x.expr y.expr z.expr f g l)))) (says_only f)

  mutual
    unfolding unary expr_

    unary_fine : (k : ℕ) → Says V (unary k env) FineOf
    unary_fine zero = record { at = λ x w d a. absurd d }
    unary_fine (suc k) = unary_of_fine (unary k env) (expr_ k env) (unary_fine k) (expr_fine k)

    pub expr_fine : (k : ℕ) → Says V (expr_ k env) FineOf
    expr_fine zero = record { at = λ x w d a. absurd d }
    expr_fine (suc k) = choice_fine (expr_ k env) (or_of (suc k) (unary_of env (unary k env) (expr_ k env))) (expr_fine k) (or_fine (suc k) (unary_of env (unary k env) (expr_ k env)) (unary_of_fine (unary k env) (expr_ k env) (unary_fine k) (expr_fine k)))

-- ---- the productions

-- every tree of an expression is fine
pub fine : (env : Env) (V : Lexeme → Type 0) → Signs V → (x : Spelled) (w : List Token) → expr env x w → All V (lexemes w) → Fine env V x.expr
fine env V s x w (k, d) a = (expr_fine env V s k).at x w d a

pub fine_always : (env : Env) (x : Spelled) (w : List Token) → expr env x w → Fine env (λ l. Unit {0}) x.expr
fine_always env x w d = fine env (λ l. Unit {0}) (λ s. tt {0}) x w d (all_true (lexemes w))

module _ (env : Env) where
  alone_back : (x : Spelled) (w : List Token) → expr env x w → (v : List Token) → lexemes v ≡ expr_tokens x.expr → (y : Spelled) × expr env y v × (bare_expr y.expr ≡ bare_expr x.expr)
  alone_back x w d v s =
      let f : Fine env (λ l. Unit {0}) x.expr = fine_always env x w d in
      let r : Reread (expr_ f.height env) (λ m. false) x.expr v = f.alone f.height (omega arith) v s in
      (r.value, (f.height, r.spelt), r.same)

  pub expr-again : Again (expr env) (λ x. expr_tokens x.expr) (λ x. bare_expr x.expr)
  expr-again = record { back = alone_back; kept = λ V s x w d a. (fine env V s x w d a).kept false }

  -- A canonical operand doesn't end in a typedef's name alone in parentheses. So no rule on casts keeps `-` from following it.
  pub operand_ends : (x : Spelled) (w : List Token) → expr env x w → (v : List Token) → lexemes v ≡ operand_tokens x.expr → Reread (expr env) is_bare x.expr v
  operand_ends x w d v s =
      let f : Fine env (λ l. Unit {0}) x.expr = fine_always env x w d in
      let r : Reread (primary env (expr_ f.height env)) is_bare x.expr v = f.operand f.height (omega arith) v s in
      record { value = r.value; spelt = (suc f.height, alone_up f.height env r.value v (unary_up env f.height r.value v r.spelt)); same = r.same; mark = r.mark }

  operand_back : (x : Spelled) (w : List Token) → expr env x w → (v : List Token) → lexemes v ≡ operand_tokens x.expr → (y : Spelled) × expr env y v × (bare_expr y.expr ≡ bare_expr x.expr)
  operand_back x w d v s = let r : Reread (expr env) is_bare x.expr v = operand_ends x w d v s in (r.value, r.spelt, r.same)

  -- in parentheses where it isn't a value alone
  pub operand-again : Again (expr env) (λ x. operand_tokens x.expr) (λ x. bare_expr x.expr)
  operand-again = record { back = operand_back; kept = λ V s x w d a. (fine env V s x w d a).kept true }

pub expression-again : (env : Env) → Again (expression env) expr_tokens bare_expr
unfolding expression
expression-again env = whole (last (expr-again env) λ x y e. ends refl e)

pub expressions-again : (env : Env) → Again (expressions env) (separated sign.Comma expr_tokens) (map bare_expr)
unfolding expressions
expressions-again env = list-again sign.Comma (expression-again env)

pub args-again : (env : Env) → Again (args env) args_tokens (map bare_expr)
unfolding args args_tokens
args-again env = whole (words_step (sign.Open ∷ []) (fork (words_step (sign.Close ∷ []) (done refl refl)) (step (expressions-again env) λ xs ys e. words_step (sign.Close ∷ []) (done refl e))))
