-- Derivations may be higher; what stands behind a first operand.
use Rattle.std.proofs.Common.{ℕ, zero, suc, ◌+◌, ◌≤◌, List, [], ◌++◌, Result, refl, arith, inl, inr, ◌⊎◌}
use Rattle.p4_lex.specs.declared.token.Token.{Token}
use Rattle.p4_grammar.specs.declared.mark.Spelled.{Spelled}
use Rattle.p4_grammar.specs.Forms.{Lang, bind, either, chain, Spells}
use Rattle.p4_grammar.specs.Values.{Env}
use Rattle.p4_grammar.specs.GrammarExpressions.{primary, unary_of, sum_of, chain_of, compare_of, and_of, or_of, choice_of, unary, expr_, expr}
use Rattle.p4_grammar.specs.ReadingExpressions.{unary_at, expr_at, behind_at}
use Rattle.p4_grammar.proofs.Forms.{IsEnd, Reads, stuck-reads}
use Rattle.p4_grammar.proofs.Basics.{any-reads}
use Rattle.p4_grammar.proofs.Facts.{V}
use Rattle.p4_grammar.proofs.Levels.{compared, same_op, compare_rest, and_rest, or_rest, asked_choice, expr_rest, expr-same, expr_rest-reads, expr_apart}
use Rattle.p4_grammar.proofs.Factored.{both-reads}

pub record Sub {A : Type 0} (L M : Lang A) : Type 0 where
  pub up : (x : A) (u : List Token) → L x u → M x u

pub sub_self : {A : Type 0} {L : Lang A} → Sub L L
sub_self = record { up = λ x u d. d }

pub sub_bind : {A B : Type 0} {L M : Lang A} {K N : A → Lang B} → Sub L M → ((x : A) → Sub (K x) (N x)) → Sub (bind L K) (bind M N)
sub_bind h k = record { up = λ y w d. (d.0, d.1, d.2, d.3, h.up d.0 d.1 d.4, (k d.0).up y d.2 d.5) }

side : {A B C D : Type 0} → (A → C) → (B → D) → A ⊎ B → C ⊎ D
side f g (inl x) = inl (f x)
side f g (inr x) = inr (g x)

pub sub_either : {A : Type 0} {L M N O : Lang A} → Sub L M → Sub N O → Sub (either L N) (either M O)
sub_either h k = record { up = λ x u. side (h.up x u) (k.up x u) }

sub_none : {A : Type 0} {L M : Lang A} → ((x : A) (u : List Token) → L x u → ⊥) → Sub L M
sub_none h = record { up = λ x u d. absurd (h x u d) }

sub_chain : {O : Type 0} (k j : ℕ) (op : Spelled → Token → Result O (Unit {0})) (join : O → Spelled → Spelled → Spelled) (L M : Lang Spelled) (x : Spelled) → k ≤ j → Sub L M → Sub (chain k op join L x) (chain j op join M x)
sub_chain zero j op join L M x le h = sub_none (λ y u d. d)
sub_chain (suc k) zero op join L M x le h = absurd (omega arith)
sub_chain (suc k) (suc j) op join L M x le h = sub_either (sub_bind sub_self λ o. sub_bind h λ z. sub_chain k j op join L M (join o x z) (omega arith) h) sub_self

module _ (L M : Lang Spelled) (h : Sub L M) (k j : ℕ) (le : k ≤ j) where
  sub_sum : Sub (sum_of k L) (sum_of j M)
  unfolding sum_of
  sub_sum = sub_bind h (λ x. sub_chain k j _ _ L M x le h)

  sub_compare : Sub (compare_of k L) (compare_of j M)
  unfolding compare_of chain_of
  sub_compare = sub_either (sub_bind sub_sum λ x. sub_either (sub_bind sub_self λ o. sub_bind sub_sum λ z. sub_self) sub_self)
      (sub_bind h λ x. sub_bind sub_self λ o. sub_bind h λ z. sub_chain k j _ _ L M _ le h)

  sub_and : Sub (and_of k L) (and_of j M)
  unfolding and_of
  sub_and = sub_bind sub_compare (λ x. sub_chain k j _ _ (compare_of k L) (compare_of j M) x le sub_compare)

  sub_or : Sub (or_of k L) (or_of j M)
  unfolding or_of
  sub_or = sub_bind sub_and (λ x. sub_chain k j _ _ (and_of k L) (and_of j M) x le sub_and)

  sub_compared : (s : Spelled) → Sub (compared k L s) (compared j M s)
  unfolding compared
  sub_compared s = sub_either (sub_bind sub_self λ o. sub_bind sub_sum λ z. sub_self) sub_self

  sub_compare_rest : (x : Spelled) → Sub (compare_rest k L x) (compare_rest j M x)
  unfolding compare_rest same_op
  sub_compare_rest x = sub_either (sub_bind sub_self λ o. sub_bind h λ z. sub_chain k j _ _ L M _ le h) (sub_bind (sub_chain k j _ _ L M x le h) sub_compared)

  sub_and_rest : (x : Spelled) → Sub (and_rest k L x) (and_rest j M x)
  unfolding and_rest
  sub_and_rest x = sub_bind (sub_compare_rest x) (λ z. sub_chain k j _ _ (compare_of k L) (compare_of j M) z le sub_compare)

  sub_or_rest : (x : Spelled) → Sub (or_rest k L x) (or_rest j M x)
  unfolding or_rest
  sub_or_rest x = sub_bind (sub_and_rest x) (λ z. sub_chain k j _ _ (and_of k L) (and_of j M) z le sub_and)

  sub_expr_rest : (E F : Lang Spelled) → Sub E F → (x : Spelled) → Sub (expr_rest k L E x) (expr_rest j M F x)
  unfolding expr_rest asked_choice
  sub_expr_rest E F e x = sub_bind (sub_or_rest x) (λ z. sub_either (sub_bind sub_self λ a. sub_bind e λ q. sub_bind sub_self λ c. sub_bind e λ r. sub_self) sub_self)

  sub_choice : (E F : Lang Spelled) → Sub E F → Sub (choice_of E (or_of k L)) (choice_of F (or_of j M))
  unfolding choice_of
  sub_choice E F e = sub_bind sub_or (λ z. sub_either (sub_bind sub_self λ a. sub_bind e λ q. sub_bind sub_self λ c. sub_bind e λ r. sub_self) sub_self)

sub_unary : (env : Env) (U M E F : Lang Spelled) → Sub U M → Sub E F → Sub (unary_of env U E) (unary_of env M F)
unfolding unary_of primary
sub_unary env U M E F h e = sub_either (sub_bind sub_self λ o. sub_bind h λ x. sub_self) (sub_either (sub_bind sub_self λ c. sub_bind h λ x. sub_self)
    (sub_bind (sub_either sub_self (sub_either sub_self (sub_either sub_self (sub_either sub_self (sub_either sub_self (sub_bind sub_self λ a. sub_bind e λ x. sub_self)))))) (λ x. sub_self)))

pub higher : (k j : ℕ) (env : Env) → k ≤ j → Sub (unary k env) (unary j env) × Sub (expr_ k env) (expr_ j env)
unfolding unary expr_
higher zero j env le = (sub_none (λ x u d. d), sub_none (λ x u d. d))
higher (suc k) zero env le = absurd (omega arith)
higher (suc k) (suc j) env le =
    let h = higher k j env (omega arith) in
    let one = sub_unary env (unary k env) (unary j env) (expr_ k env) (expr_ j env) h.0 h.1 in
    (one, sub_choice (unary_of env (unary k env) (expr_ k env)) (unary_of env (unary j env) (expr_ j env)) one (suc k) (suc j) le (expr_ k env) (expr_ j env) h.1)

-- ---- operands and what stands behind a first one, of any height

abbrev pub operand : Env → Lang Spelled
operand env = Spells (λ k. unary k env)

abbrev pub behind_of : ℕ → Env → Spelled → Lang Spelled
behind_of k env x = expr_rest (suc k) (unary (suc k) env) (expr_ k env) x

abbrev pub behind : Env → Spelled → Lang Spelled
behind env x = Spells (λ k. behind_of k env x)

pub operand-reads : {n : ℕ} (env : Env) → Reads n (operand env) (operand env) (V 0) (unary_at n env)
operand-reads {n = n} env = any-reads (suc n) (λ k. (both-reads n k env).0)

nothing_behind : (k : ℕ) (env : Env) (x : Spelled) → behind_of k env x x []
unfolding expr_rest or_rest and_rest compare_rest compared
nothing_behind k env x = (x, [], [], refl, (x, [], [], refl, (x, [], [], refl, inr (x, [], [], refl, inr (refl, refl), inr (refl, refl)), inr (refl, refl)), inr (refl, refl)), inr (refl, refl))

behind_of-reads : (n k : ℕ) (env : Env) (x : Spelled) → Reads n (behind_of k env x) (behind_of n env x) (V 5) (behind_at n env x)
unfolding behind_at
behind_of-reads zero k env x = stuck-reads (behind_of k env x) (behind_of zero env x) (V 5) x [] (nothing_behind zero env x)
behind_of-reads (suc m) k env x = expr_rest-reads m (unary (suc k) env) (unary (suc (suc m)) env) (unary_at (suc m) env) (both-reads (suc m) (suc k) env).0 (expr_ k env) (expr_ (suc m) env) (expr_at m env) (both-reads m k env).1 (suc k) x

pub behind-reads_ : {n : ℕ} (env : Env) (x : Spelled) → Reads n (behind env x) (behind env x) (V 5) (behind_at n env x)
behind-reads_ {n = n} env x = any-reads n (λ k. behind_of-reads n k env x)

pub behind_apart : (env : Env) (x y : Spelled) (w m : List Token) → behind env x y w → IsEnd (V 5 y) m → IsEnd (V 0 x) (w ++ m)
behind_apart env x y w m (k, d) end = expr_apart 0 (unary (suc k) env) (unary 2 env) (unary_at 1 env) (both-reads 1 (suc k) env).0 (expr_ k env) (expr_ 1 env) (expr_at 0 env) (both-reads 0 k env).1 (suc k) x y w m d end

-- an expression is an operand and what stands behind it
pub split_expr : (env : Env) (y : Spelled) (w : List Token) → expr env y w → (k : ℕ) × bind (unary (suc k) env) (λ x. behind_of k env x) y w
unfolding expr_ unary
split_expr env y w (zero, d) = absurd d
split_expr env y w (suc k, d) = (k, (expr-same (suc k) (unary_of env (unary k env) (expr_ k env)) (expr_ k env)).to y w d)

joined_expr : (k : ℕ) (env : Env) (y : Spelled) (w : List Token) → bind (unary (suc k) env) (λ x. behind_of k env x) y w → expr_ (suc k) env y w
unfolding expr_ unary
joined_expr k env y w d = (expr-same (suc k) (unary_of env (unary k env) (expr_ k env)) (expr_ k env)).back y w d

higher_behind : (k j : ℕ) (env : Env) (x : Spelled) → k ≤ j → Sub (behind_of k env x) (behind_of j env x)
higher_behind k j env x le = sub_expr_rest (unary (suc k) env) (unary (suc j) env) (higher (suc k) (suc j) env (omega arith)).0 (suc k) (suc j) (omega arith) (expr_ k env) (expr_ j env) (higher k j env le).1 x

pub join_expr : (env : Env) (x y : Spelled) (u v : List Token) → operand env x u → behind env x y v → expr env y (u ++ v)
join_expr env x y u v (i, d) (j, c) = (suc (i + j), joined_expr (i + j) env y (u ++ v) (x, u, v, refl, (higher i (suc (i + j)) env (omega arith)).0.up x u d, (higher_behind j (i + j) env x (omega arith)).up y v c))
