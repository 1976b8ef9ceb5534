-- The readers of operators, level by level, fit.
use Rattle.std.proofs.Common.{◌≡◌, ℕ, zero, suc, Bool, true, false, List, [], ◌∷◌, ◌++◌, Result, Ok, refl, sym, ap, subst, ◌∙◌, append_assoc, arith, inl, inr, Err}
use Rattle.p4_lex.specs.declared.token.Token.{Token}
use Rattle.p4_lex.specs.declared.token.Sign.TheVariants as sign
use Rattle.p4_lex.specs.declared.token.Lexeme.{Lexeme}
use Rattle.p4_lex.specs.declared.token.Lexeme.TheVariants as lexeme
use Rattle.p4_ast.specs.declared.expression.P4BinaryOp.{P4BinaryOp}
use Rattle.p4_ast.specs.declared.expression.P4BinaryOp.TheVariants as binary_op
use Rattle.p4_grammar.specs.declared.mark.Spelled.{Spelled}
use Rattle.p4_grammar.specs.Forms.{Lang, only, bind, either, taken, Reader, ◌>>=◌, given, done_at, bind_at, taken_at, hand, is_given, chain, chain_at}
use Rattle.p4_grammar.specs.Tokens.{is, words, in_hand}
use Rattle.p4_grammar.specs.Values.{later, is_bare, binary, choice_value, op_sign, this, sum_op, chain_op, compare_op}
use Rattle.p4_grammar.specs.GrammarExpressions.{sum_of, chain_of, compare_of, and_of, or_of, choice_of}
use Rattle.p4_grammar.specs.ReadingExpressions.{sum_rest_at, sum_at, compared_at, same_op_at, compare_rest_at, compare_at, and_rest_at, and_at, or_rest_at, choice_at, expr_rest_at}
use Rattle.p4_grammar.proofs.Languages.{Same, same, same_bind, same_either, assoc, factor, swap, ◌then◌}
use Rattle.p4_grammar.proofs.Forms.{same-reads, IsEnd, Reads, bind-reads, taken-reads, done-reads, either-reads, chain-reads}
use Rattle.p4_grammar.proofs.Basics.{free, tok, then-reads, words-reads, Begins, begins_taken, begins_bind, said, sign_begins, behind-reads}
use Rattle.p4_grammar.proofs.Facts.{sum_plus, ChainOp, bigger, chain_small, chain_big, big_ok, V, goes_on, is_read, never, lower0, lower1, lower2, lower3, lower4, by_later, sum_goes, sum_stops, sum_no_chain, chain_goes, chain_stops, compare_goes, compare_no_chain, compare_stops, again_goes, again_stops, and_goes, and_stops, or_goes, or_stops, ask_stops}
use Rattle.p4_grammar.proofs.Expressions.{end_end, end_hand, hand_end, apart_option, apart_only, option-reads}
use Rattle.p4_grammar.proofs.Operands.{after_sign}

-- ---- the same languages, behind a first operand

unfoldable pub compared : ℕ → Lang Spelled → Spelled → Lang Spelled
compared k D s = either (bind (taken compare_op) λ o. bind (sum_of k D) λ y. only (binary o s y)) (only s)

unfoldable pub same_op : ℕ → Lang Spelled → Spelled → Lang Spelled
same_op k D x = bind (taken chain_op) λ o. bind D λ y. chain k (λ z. this o) binary D (binary o x y)

unfoldable pub compare_rest : ℕ → Lang Spelled → Spelled → Lang Spelled
compare_rest k D x = either (same_op k D x) (bind (chain k sum_op binary D x) λ s. compared k D s)

unfoldable pub and_rest : ℕ → Lang Spelled → Spelled → Lang Spelled
and_rest k D x = bind (compare_rest k D x) λ y. chain k (λ z. this binary_op.And) binary (compare_of k D) y

unfoldable pub or_rest : ℕ → Lang Spelled → Spelled → Lang Spelled
or_rest k D x = bind (and_rest k D x) λ y. chain k (λ z. this binary_op.Or) binary (and_of k D) y

unfoldable pub asked_choice : Lang Spelled → Spelled → Lang Spelled
asked_choice E x = words (sign.Ask ∷ []) (bind E λ y. words (sign.Colon ∷ []) (bind E λ z. only (choice_value x y z)))

unfoldable pub expr_rest : ℕ → Lang Spelled → Lang Spelled → Spelled → Lang Spelled
expr_rest k D E x = bind (or_rest k D x) λ y. either (asked_choice E y) (only y)

compare-same : (k : ℕ) (D : Lang Spelled) → Same (compare_of k D) (bind D (compare_rest k D))
unfolding compare_rest compare_of sum_of chain_of compared same_op
compare-same k D = same_either assoc same then factor then same_bind same (λ x. swap)

and-same : (k : ℕ) (D : Lang Spelled) → Same (and_of k D) (bind D (and_rest k D))
unfolding and_rest and_of
and-same k D = same_bind (compare-same k D) (λ x. same) then assoc

or-same : (k : ℕ) (D : Lang Spelled) → Same (or_of k D) (bind D (or_rest k D))
unfolding or_rest or_of
or-same k D = same_bind (and-same k D) (λ x. same) then assoc

pub expr-same : (k : ℕ) (D E : Lang Spelled) → Same (choice_of E (or_of k D)) (bind D (expr_rest k D E))
unfolding expr_rest choice_of asked_choice
expr-same k D E = same_bind (or-same k D) (λ x. same) then assoc

-- ---- ends

end_is : (E : Token → Bool) (m : List Token) → IsEnd E m → hand E m ≡ false
end_is E [] e = refl
end_is E (a ∷ m) e = e

-- what stands behind the first operand of a chain
chain_front : {A O : Type 0} (k : ℕ) (op : A → Token → Result O (Unit {0})) (join : O → A → A → A) (L : Lang A) (E : Token → Bool) (E2 : A → Token → Bool) (x : A) → ((a : Token) (o : O) → op x a ≡ Ok o → E a ≡ false) → ((a : Token) → E2 x a ≡ false → E a ≡ false) → (y : A) (v m : List Token) → chain k op join L x y v → IsEnd (E2 y) m → IsEnd E (v ++ m)
chain_front zero op join L E E2 x h k y v m d end = absurd d
chain_front (suc i) op join L E E2 x h k y v m (inr d) end = subst (λ (q : List Token). IsEnd E (q ++ m)) (sym d.1) (end_end E (E2 x) k m (subst (λ (q : _). IsEnd (E2 q) m) d.0 end))
chain_front (suc i) op join L E E2 x h k y v m (inl (o, u1, u2, e, (a, is, gives), d)) end =
    let front : v ≡ (a ∷ []) ++ u2 = e ∙ ap (λ (t : List Token). t ++ u2) is in
    subst (λ (q : List Token). IsEnd E (q ++ m)) (sym front) (h a o gives)

lower02 : (b r : Bool) (l : Lexeme) → goes_on 2 b r l ≡ false → goes_on 0 b r l ≡ false
lower02 b r l e = lower0 b r l (lower1 b r l e)

-- a front and its end, apart from what stands before
pub apart_both : {A B : Type 0} (L : Lang A) (K : A → Lang B) (E : Token → Bool) (E1 : A → Token → Bool) (E2 : B → Token → Bool) → ((y : A) (u m : List Token) → L y u → IsEnd (E1 y) m → IsEnd E (u ++ m)) → ((y : A) (z : B) (v m : List Token) → K y z v → IsEnd (E2 z) m → IsEnd (E1 y) (v ++ m)) → (z : B) (w m : List Token) → bind L K z w → IsEnd (E2 z) m → IsEnd E (w ++ m)
apart_both L K E E1 E2 h k z w m (y, u, v, e, d, c) end =
    subst (λ (q : List Token). IsEnd E q) (sym (append_assoc u v m) ∙ ap (λ (q : List Token). q ++ m) (sym e)) (h y u (v ++ m) d (k y z v m c end))

this_self : (o : P4BinaryOp) → this o (tok 0 0 (lexeme.Sign (op_sign o))) ≡ Ok o
this_self binary_op.Or = refl
this_self o = refl

chain_given : (a : Token) → Bool
chain_given a = is_given (chain_op a)

chain_self : (a : Token) (o : P4BinaryOp) → chain_op a ≡ Ok o → is_given (chain_op a) ≡ true
chain_self a o e = rw e refl

compare_self : (a : Token) (o : P4BinaryOp) → compare_op a ≡ Ok o → is_given (compare_op a) ≡ true
compare_self a o e = rw e refl

small_to : {A : Type 0} (K : P4BinaryOp → Lang A) (y : A) (w : List Token) → bind (taken chain_op) K y w → bind (taken chain_small) (λ o. K o.0) y w
small_to K y w (o, u, v, e, (t, tis, g), k) =
    let s = big_ok (chain_small t) o (sym (chain_big t) ∙ g) in
    (s.0, u, v, e, (t, tis, s.1), subst (λ (q : P4BinaryOp). K q y v) (sym s.2) k)

small_back : {A : Type 0} (K : P4BinaryOp → Lang A) (y : A) (w : List Token) → bind (taken chain_small) (λ o. K o.0) y w → bind (taken chain_op) K y w
small_back K y w (s, u, v, e, (t, tis, g), k) = (s.0, u, v, e, (t, tis, chain_big t ∙ ap bigger g), k)

small-same : {A : Type 0} (K : P4BinaryOp → Lang A) → Same (bind (taken chain_op) K) (bind (taken chain_small) (λ o. K o.0))
small-same K = record { to = small_to K; back = small_back K }

given_big : {A : Type 0} (f : P4BinaryOp → Reader A) (r : Result ChainOp (Unit {0})) (a : Token) (w : List Token) → (given r a w >>= λ q. f (q.0).0 q.1) ≡ (given (bigger r) a w >>= λ q. f q.0 q.1)
given_big f (Ok s) a w = refl
given_big f (Err e) a w = refl

small_at : {A : Type 0} (f : P4BinaryOp → Reader A) (w : List Token) → bind_at (taken_at chain_small) (λ o. f o.0) w ≡ bind_at (taken_at chain_op) f w
small_at f [] = refl
small_at f (a ∷ w) = given_big f (chain_small a) a w ∙ ap (λ (r : Result P4BinaryOp (Unit {0})). given r a w >>= λ q. f q.0 q.1) (sym (chain_big a))

module _ (n : ℕ) (D U : Lang Spelled) (p : Reader Spelled) (h : Reads n D U (V 0) p) where
  sum_chain-reads : (k : ℕ) (x : Spelled) → Reads n (chain k sum_op binary D x) (chain (suc n) sum_op binary U x) (V 1) (chain_at n sum_op binary p x)
  sum_chain-reads k x = chain-reads n sum_op binary D U (V 0) p h (V 1) (λ y. (tok 0 0 (lexeme.Sign sign.Plus), binary_op.Plus, sum_plus (is_bare y.mark)))
      (λ o x y a o2 e. by_later 0 y.mark a.lexeme (sum_goes (is_bare (later y.mark)) (is_read (later y.mark)) a o2 e))
      (λ o x y m end. end_end (V 0 y) (V 1 (binary o x y)) (λ a e. by_later 0 y.mark a.lexeme (lower0 (is_bare (later y.mark)) (is_read (later y.mark)) a.lexeme e)) m end)
      (λ x m end. end_hand (V 1 x) (λ a. is_given (sum_op x a)) (λ a e. sum_stops (is_bare x.mark) (is_read x.mark) a e) m end)
      n k x (omega arith)

  sum-reads : (k : ℕ) → Reads n (sum_of k D) (sum_of (suc n) U) (V 1) (sum_at n p)
  unfolding sum_at sum_of sum_rest_at
  sum-reads k = bind-reads n D U (V 0) p (λ x. chain k sum_op binary D x) (λ x. chain (suc n) sum_op binary U x) (V 1) (λ x. chain_at n sum_op binary p x) h (sum_chain-reads k)
      (λ x y v m d end. chain_front k sum_op binary D (V 0 x) (V 1) x (λ a o e. sum_goes (is_bare x.mark) (is_read x.mark) a o e) (λ a e. lower0 (is_bare x.mark) (is_read x.mark) a.lexeme e) y v m d end)

  op_chain-reads : (k : ℕ) (o : ChainOp) (x : Spelled) → Reads n (chain k (λ z. this o.0) binary D x) (chain (suc n) (λ z. this o.0) binary U x) (V 2) (chain_at n (λ z. this o.0) binary p x)
  op_chain-reads k o x = chain-reads n (λ z. this o.0) binary D U (V 0) p h (V 2) (λ y. (tok 0 0 (lexeme.Sign (op_sign o.0)), o.0, this_self o.0))
      (λ o1 x y a o2 e. again_goes o o2 (is_bare y.mark) (is_read y.mark) a e)
      (λ o1 x y m end. end_end (V 0 y) (V 2 (binary o1 x y)) (λ a e. by_later 0 y.mark a.lexeme (lower02 (is_bare (later y.mark)) (is_read (later y.mark)) a.lexeme e)) m end)
      (λ x m end. end_hand (V 2 x) (λ a. is_given (this o.0 a)) (λ a e. again_stops o (is_bare x.mark) (is_read x.mark) a e) m end)
      n k x (omega arith)

  compare_begins : (k : ℕ) (s : Spelled) → Begins true (λ a. is_given (compare_op a)) (bind (taken compare_op) λ o. bind (sum_of k D) λ y. only (binary o s y))
  compare_begins k s = begins_bind (begins_taken compare_self)

  compared-reads : (k : ℕ) (s : Spelled) → Reads n (compared k D s) (compared (suc n) U s) (V 2) (compared_at n p s)
  unfolding compared compared_at
  compared-reads k s = option-reads (λ a. is_given (compare_op a)) s
      (then-reads (taken-reads n compare_op free (tok 0 0 (lexeme.Sign sign.Equal)) binary_op.Equal refl) λ o. bind-reads n (sum_of k D) (sum_of (suc n) U) (V 1) (sum_at n p) (λ y. only (binary o s y)) (λ y. only (binary o s y)) (V 2) (λ y. done_at (binary o s y)) (sum-reads k) (λ y. done-reads n (V 2) (binary o s y))
      (λ y z v m d end. apart_only (V 1 y) (V 2) (binary o s y) (λ a e. by_later 1 y.mark a.lexeme (lower1 (is_bare (later y.mark)) (is_read (later y.mark)) a.lexeme e)) z v m d end))
      (compare_begins k s)
      (λ a e. compare_stops (is_bare s.mark) (is_read s.mark) a e)

  -- what goes on with a sum isn't a comparison
  compared_apart : (k : ℕ) (s y : Spelled) (v m : List Token) → compared k D s y v → IsEnd (V 2 y) m → IsEnd (V 1 s) (v ++ m)
  unfolding compared
  compared_apart k s y v m d end = apart_option (V 1 s) (V 2) (bind (taken compare_op) λ o. bind (sum_of k D) λ z. only (binary o s z)) s (begins_bind (begins_taken (λ a o e. compare_goes (is_bare s.mark) (is_read s.mark) a o e))) (λ a e. lower1 (is_bare s.mark) (is_read s.mark) a.lexeme e) y v m d end

  compared_no_chain : (k : ℕ) (s y : Spelled) (v m : List Token) → compared k D s y v → IsEnd (V 2 y) m → IsEnd chain_given (v ++ m)
  unfolding compared chain_given
  compared_no_chain k s y v m d end = apart_option chain_given (V 2) (bind (taken compare_op) λ o. bind (sum_of k D) λ z. only (binary o s z)) s (begins_bind (begins_taken (λ a o e. compare_no_chain a o e))) (λ a e. chain_stops (is_bare s.mark) (is_read s.mark) a e) y v m d end

  summed : ℕ → Lang Spelled → Spelled → Lang Spelled
  summed k L x = bind (chain k sum_op binary L x) λ s. compared k L s

  summed-reads : (k : ℕ) (x : Spelled) → Reads n (summed k D x) (summed (suc n) U x) (V 2) (bind_at (sum_rest_at n p x) λ s. compared_at n p s)
  unfolding summed sum_rest_at
  summed-reads k x = bind-reads n (chain k sum_op binary D x) (chain (suc n) sum_op binary U x) (V 1) (chain_at n sum_op binary p x) (compared k D) (compared (suc n) U) (V 2) (compared_at n p) (sum_chain-reads k x) (compared-reads k) (compared_apart k)

  summed_away : (k : ℕ) (x y : Spelled) (w m : List Token) → summed k D x y w → IsEnd (V 2 y) m → hand chain_given (w ++ m) ≡ false
  unfolding summed chain_given
  summed_away k x y w m d end = end_is chain_given (w ++ m) (apart_both (chain k sum_op binary D x) (compared k D) chain_given (λ z. chain_given) (V 2)
      (λ s u q c rest. chain_front k sum_op binary D chain_given (λ z. chain_given) x (λ a o e. sum_no_chain (is_bare x.mark) a o e) (λ a e. e) s u q c rest)
      (λ s z v q c e. compared_no_chain k s z v q c e) y w m d end)

  same_op_begins : (k : ℕ) (x : Spelled) → Begins true chain_given (same_op k D x)
  unfolding same_op chain_given
  same_op_begins k x = begins_bind (begins_taken chain_self)

  -- what stands behind the first operand doesn't go on with it
  compare_apart : (k : ℕ) (x y : Spelled) (w m : List Token) → compare_rest k D x y w → IsEnd (V 2 y) m → IsEnd (V 0 x) (w ++ m)
  unfolding compare_rest same_op
  compare_apart k x y w m (inl d) end = hand_end (V 0 x) (w ++ m) ((begins_bind {b = false} {t = V 0 x} {K = λ o. bind D λ z. chain k (λ r. this o) binary D (binary o x z)} (begins_taken (λ a o e. lower0 (is_bare x.mark) (is_read x.mark) a.lexeme (chain_goes (is_bare x.mark) (is_read x.mark) a o e)))).at y w m d)
  compare_apart k x y w m (inr d) end = apart_both (chain k sum_op binary D x) (compared k D) (V 0 x) (V 1) (V 2)
      (λ s u q c rest. chain_front k sum_op binary D (V 0 x) (V 1) x (λ a o e. sum_goes (is_bare x.mark) (is_read x.mark) a o e) (λ a e. lower0 (is_bare x.mark) (is_read x.mark) a.lexeme e) s u q c rest)
      (λ s z v q c e. compared_apart k s z v q c e) y w m d end

  -- the same, with the operator known as one of chains
  small : ℕ → Lang Spelled → Spelled → ChainOp → Lang Spelled
  small k L x o = bind L λ y. chain k (λ z. this o.0) binary L (binary o.0 x y)

  small-reads : (k : ℕ) (x : Spelled) (o : ChainOp) → Reads n (small k D x o) (small (suc n) U x o) (V 2) (bind_at p λ y. chain_at n (λ z. this o.0) binary p (binary o.0 x y))
  unfolding small
  small-reads k x o = bind-reads n D U (V 0) p (λ y. chain k (λ z. this o.0) binary D (binary o.0 x y)) (λ y. chain (suc n) (λ z. this o.0) binary U (binary o.0 x y)) (V 2) (λ y. chain_at n (λ z. this o.0) binary p (binary o.0 x y)) h (λ y. op_chain-reads k o (binary o.0 x y))
      (λ y z v m d end. chain_front k (λ z. this o.0) binary D (V 0 y) (V 2) (binary o.0 x y) (λ a o2 e. again_goes o o2 (is_bare y.mark) (is_read y.mark) a e) (λ a e. by_later 0 y.mark a.lexeme (lower02 (is_bare (later y.mark)) (is_read (later y.mark)) a.lexeme e)) z v m d end)

  same_op-reads : (k : ℕ) (x : Spelled) → Reads n (same_op k D x) (same_op (suc n) U x) (V 2) (same_op_at n p x)
  unfolding same_op same_op_at small
  same_op-reads k x = said (same-reads n _ _ (V 2) (bind_at (taken_at chain_small) λ o. bind_at p λ y. chain_at n (λ z. this o.0) binary p (binary o.0 x y)) (bind_at (taken_at chain_op) λ o. bind_at p λ y. chain_at n (λ z. this o) binary p (binary o x y)) (small_at (λ o. bind_at p λ y. chain_at n (λ z. this o) binary p (binary o x y)))
      (then-reads (taken-reads n chain_small free (tok 0 0 (lexeme.Sign sign.BitAnd)) (binary_op.BitAnd, refl) refl) (small-reads k x)))
      (small-same (λ o. bind D λ y. chain k (λ z. this o) binary D (binary o x y))) (small-same (λ o. bind U λ y. chain (suc n) (λ z. this o) binary U (binary o x y)))

  compare_rest-reads : (k : ℕ) (x : Spelled) → Reads n (compare_rest k D x) (compare_rest (suc n) U x) (V 2) (compare_rest_at n p x)
  unfolding compare_rest_at compare_rest summed chain_given
  compare_rest-reads k x = either-reads n chain_given (same_op k D x) (same_op (suc n) U x) (V 2) (same_op_at n p x) (summed k D x) (summed (suc n) U x) _
      (same_op-reads k x) (summed-reads k x) (same_op_begins k x).at (summed_away k x)

  compare-reads : (k : ℕ) → Reads n (compare_of k D) (compare_of (suc n) U) (V 2) (compare_at n p)
  unfolding compare_at
  compare-reads k = said (bind-reads n D U (V 0) p (compare_rest k D) (compare_rest (suc n) U) (V 2) (compare_rest_at n p) h (compare_rest-reads k) (compare_apart k)) (compare-same k D) (compare-same (suc n) U)

  -- `&&`
  and_chain-reads : (k : ℕ) (y : Spelled) → Reads n (chain k (λ z. this binary_op.And) binary (compare_of k D) y) (chain (suc n) (λ z. this binary_op.And) binary (compare_of (suc n) U) y) (V 3) (chain_at n (λ z. this binary_op.And) binary (compare_at n p) y)
  and_chain-reads k y = chain-reads n (λ z. this binary_op.And) binary (compare_of k D) (compare_of (suc n) U) (V 2) (compare_at n p) (compare-reads k) (V 3) (λ y. (tok 0 0 (lexeme.Sign sign.And), binary_op.And, refl))
      (λ o1 x y a o2 e. and_goes (is_bare y.mark) (is_read y.mark) a o2 e)
      (λ o1 x y m end. end_end (V 2 y) (V 3 (binary o1 x y)) (λ a e. by_later 2 y.mark a.lexeme (lower2 (is_bare (later y.mark)) (is_read (later y.mark)) a.lexeme e)) m end)
      (λ x m end. end_hand (V 3 x) (λ a. is_given (this binary_op.And a)) (λ a e. and_stops (is_bare x.mark) (is_read x.mark) a e) m end)
      n k y (omega arith)

  and_front : (k : ℕ) (x y : Spelled) (v m : List Token) → chain k (λ z. this binary_op.And) binary (compare_of k D) x y v → IsEnd (V 3 y) m → IsEnd (V 2 x) (v ++ m)
  and_front k x y v m d end = chain_front k (λ z. this binary_op.And) binary (compare_of k D) (V 2 x) (V 3) x (λ a o e. and_goes (is_bare x.mark) (is_read x.mark) a o e) (λ a e. lower2 (is_bare x.mark) (is_read x.mark) a.lexeme e) y v m d end

  and_rest-reads : (k : ℕ) (x : Spelled) → Reads n (and_rest k D x) (and_rest (suc n) U x) (V 3) (and_rest_at n p x)
  unfolding and_rest and_rest_at
  and_rest-reads k x = bind-reads n (compare_rest k D x) (compare_rest (suc n) U x) (V 2) (compare_rest_at n p x) _ _ (V 3) _ (compare_rest-reads k x) (and_chain-reads k) (and_front k)

  and_apart : (k : ℕ) (x y : Spelled) (w m : List Token) → and_rest k D x y w → IsEnd (V 3 y) m → IsEnd (V 0 x) (w ++ m)
  unfolding and_rest
  and_apart k x y w m d end = apart_both (compare_rest k D x) (λ s. chain k (λ z. this binary_op.And) binary (compare_of k D) s) (V 0 x) (V 2) (V 3) (λ s u q c rest. compare_apart k x s u q c rest) (λ s z v q c e. and_front k s z v q c e) y w m d end

  and-reads : (k : ℕ) → Reads n (and_of k D) (and_of (suc n) U) (V 3) (and_at n p)
  unfolding and_at
  and-reads k = said (bind-reads n D U (V 0) p (and_rest k D) (and_rest (suc n) U) (V 3) (and_rest_at n p) h (and_rest-reads k) (and_apart k)) (and-same k D) (and-same (suc n) U)

  -- `||`
  or_chain-reads : (k : ℕ) (y : Spelled) → Reads n (chain k (λ z. this binary_op.Or) binary (and_of k D) y) (chain (suc n) (λ z. this binary_op.Or) binary (and_of (suc n) U) y) (V 4) (chain_at n (λ z. this binary_op.Or) binary (and_at n p) y)
  or_chain-reads k y = chain-reads n (λ z. this binary_op.Or) binary (and_of k D) (and_of (suc n) U) (V 3) (and_at n p) (and-reads k) (V 4) (λ y. (tok 0 0 (lexeme.Sign sign.Or), binary_op.Or, refl))
      (λ o1 x y a o2 e. or_goes (is_bare y.mark) (is_read y.mark) a o2 e)
      (λ o1 x y m end. end_end (V 3 y) (V 4 (binary o1 x y)) (λ a e. by_later 3 y.mark a.lexeme (lower3 (is_bare (later y.mark)) (is_read (later y.mark)) a.lexeme e)) m end)
      (λ x m end. end_hand (V 4 x) (λ a. is_given (this binary_op.Or a)) (λ a e. or_stops (is_bare x.mark) (is_read x.mark) a e) m end)
      n k y (omega arith)

  or_front : (k : ℕ) (x y : Spelled) (v m : List Token) → chain k (λ z. this binary_op.Or) binary (and_of k D) x y v → IsEnd (V 4 y) m → IsEnd (V 3 x) (v ++ m)
  or_front k x y v m d end = chain_front k (λ z. this binary_op.Or) binary (and_of k D) (V 3 x) (V 4) x (λ a o e. or_goes (is_bare x.mark) (is_read x.mark) a o e) (λ a e. lower3 (is_bare x.mark) (is_read x.mark) a.lexeme e) y v m d end

  or_rest-reads : (k : ℕ) (x : Spelled) → Reads n (or_rest k D x) (or_rest (suc n) U x) (V 4) (or_rest_at n p x)
  unfolding or_rest or_rest_at
  or_rest-reads k x = bind-reads n (and_rest k D x) (and_rest (suc n) U x) (V 3) (and_rest_at n p x) _ _ (V 4) _ (and_rest-reads k x) (or_chain-reads k) (or_front k)

  or_apart : (k : ℕ) (x y : Spelled) (w m : List Token) → or_rest k D x y w → IsEnd (V 4 y) m → IsEnd (V 0 x) (w ++ m)
  unfolding or_rest
  or_apart k x y w m d end = apart_both (and_rest k D x) (λ s. chain k (λ z. this binary_op.Or) binary (and_of k D) s) (V 0 x) (V 3) (V 4) (λ s u q c rest. and_apart k x s u q c rest) (λ s z v q c e. or_front k s z v q c e) y w m d end

ask_goes : (E : Lang Spelled) (x : Spelled) → Begins false (V 4 x) (asked_choice E x)
unfolding asked_choice
ask_goes E x = sign_begins sign.Ask (λ at e. never (is_bare x.mark))

ask_begins : (E : Lang Spelled) (x : Spelled) → Begins true (in_hand sign.Ask) (asked_choice E x)
unfolding asked_choice
ask_begins E x = sign_begins sign.Ask (λ at e. refl)

module _ (m : ℕ) (D U : Lang Spelled) (p : Reader Spelled) (h : Reads (suc m) D U (V 0) p) (D2 U2 : Lang Spelled) (q : Reader Spelled) (i : Reads m D2 U2 (V 5) q) where
  choice_end-reads : (x : Spelled) → Reads (suc m) (either (asked_choice D2 x) (only x)) (either (asked_choice U2 x) (only x)) (V 5) (choice_at q x)
  unfolding asked_choice choice_at
  choice_end-reads x = option-reads (in_hand sign.Ask) x
      (after_sign sign.Ask λ t. behind-reads i (λ y. sign_begins sign.Colon (λ at e. never (is_bare y.mark))) λ y. words-reads (sign.Colon ∷ []) (bind-reads m D2 U2 (V 5) q (λ z. only (choice_value x y z)) (λ z. only (choice_value x y z)) (V 5) (λ z. done_at (choice_value x y z)) i (λ z. done-reads m (V 5) (choice_value x y z))
      (λ z r v m d end. apart_only (V 5 z) (V 5) (choice_value x y z) (λ a e. by_later 5 z.mark a.lexeme e) r v m d end)))
      (ask_begins D2 x)
      (λ a e. ask_stops (is_bare x.mark) (is_read x.mark) a e)

  choice_front : (x y : Spelled) (v w : List Token) → either (asked_choice D2 x) (only x) y v → IsEnd (V 5 y) w → IsEnd (V 4 x) (v ++ w)
  choice_front x y v w d end = apart_option (V 4 x) (V 5) (asked_choice D2 x) x (ask_goes D2 x) (λ a e. lower4 (is_bare x.mark) (is_read x.mark) a.lexeme e) y v w d end

  pub expr_rest-reads : (k : ℕ) (x : Spelled) → Reads (suc m) (expr_rest k D D2 x) (expr_rest (suc (suc m)) U U2 x) (V 5) (expr_rest_at (suc m) p q x)
  unfolding expr_rest expr_rest_at
  expr_rest-reads k x = bind-reads (suc m) (or_rest k D x) (or_rest (suc (suc m)) U x) (V 4) (or_rest_at (suc m) p x) _ _ (V 5) _ (or_rest-reads (suc m) D U p h k x) choice_end-reads choice_front

  pub expr_apart : (k : ℕ) (x y : Spelled) (w t : List Token) → expr_rest k D D2 x y w → IsEnd (V 5 y) t → IsEnd (V 0 x) (w ++ t)
  unfolding expr_rest
  expr_apart k x y w t d end = apart_both (or_rest k D x) (λ s. either (asked_choice D2 s) (only s)) (V 0 x) (V 4) (V 5) (λ s u r c rest. or_apart (suc m) D U p h k x s u r c rest) (λ s z v r c e. choice_front s z v r c e) y w t d end

  pub expr_of-reads : (k : ℕ) → Reads (suc m) (choice_of D2 (or_of k D)) (choice_of U2 (or_of (suc (suc m)) U)) (V 5) (bind_at p λ x. expr_rest_at (suc m) p q x)
  expr_of-reads k = said (bind-reads (suc m) D U (V 0) p (expr_rest k D D2) (expr_rest (suc (suc m)) U U2) (V 5) (λ x. expr_rest_at (suc m) p q x) h (expr_rest-reads k) (expr_apart k)) (expr-same k D D2) (expr-same (suc (suc m)) U U2)
