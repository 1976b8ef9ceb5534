-- The readers of operands fit.
use Rattle.std.proofs.Common.{◌≡◌, ℕ, suc, Bool, true, false, cond, List, [], ◌∷◌, ◌++◌, Ok, Option, Some, None, refl, sym, ap, subst, ◌∙◌, inl, inr}
use Rattle.std.specs.Prelude.{codes}
use Rattle.std.specs.Str.{bytes_eq}
use Rattle.p4_lex.specs.declared.token.Token.{Token}
use Rattle.p4_lex.specs.declared.token.Sign.{Sign}
use Rattle.p4_lex.specs.declared.token.Sign.TheVariants as sign
use Rattle.p4_lex.specs.declared.token.Lexeme.{Lexeme}
use Rattle.p4_lex.specs.declared.token.Lexeme.TheVariants as lexeme
use Rattle.p4_ast.specs.declared.name.P4Name.{P4Name}
use Rattle.p4_ast.specs.declared.declaration.P4Type.{P4Type}
use Rattle.p4_ast.specs.declared.expression.P4UnaryOp.{P4UnaryOp}
use Rattle.p4_ast.specs.declared.expression.P4UnaryOp.TheVariants as op
use Rattle.p4_ast.specs.declared.expression.P4Expr.{P4Expr}
use Rattle.p4_grammar.specs.declared.mark.Mark.TheVariants as mark
use Rattle.p4_grammar.specs.declared.mark.Spelled.{Spelled}
use Rattle.p4_grammar.specs.Forms.{Lang, only, bind, taken, Reader, done_at, bind_at, taken_at, hand, is_given}
use Rattle.p4_grammar.specs.Tokens.{is, name, words, in_hand, is_name, called}
use Rattle.p4_grammar.specs.Values.{Env, of_path, is_bare, cast_by, path_value, valid_value, number_value, true_value, false_value, parens_value, cast_value, unary_value, named_type, unary_op, begins_lexeme, begins_operand}
use Rattle.p4_grammar.specs.GrammarExpressions.{names, sliced}
use Rattle.p4_grammar.specs.ReadingExpressions.{names_at, sliced_at, asked_at, named_at, plain_at, parens_at, cast_at, closed_at, open_at, unary_of_at, word_type as word_test}
use Rattle.p4_grammar.proofs.Forms.{IsEnd, Reads, bind-reads, done-reads, either-reads, after-reads}
use Rattle.p4_grammar.proofs.Basics.{tok, then-reads, is_self, words-reads, sign-reads, numbered-reads, Begins, begins_taken, begins_bind, begins_either, choose-reads, sign_begins, name_begins, number_begins, behind-reads}
use Rattle.p4_grammar.proofs.Facts.{V, goes_on, is_read, by_later, by_cast, more_dot, more_open, bare_operand}
use Rattle.std.specs.Cmp.Lexicographic.{same_text}
use Rattle.p4_grammar.proofs.Expressions.{word_type-reads, word_type_begins, hand_end, begins_map, apart_only, names-reads, sliced-reads, sliced_apart, asked, named, plain, parens, cast_, closed, open_, signed, name_led, funary}

-- ---- paths that may ask

pub same_bytes : (xs ys : List ℕ) → bytes_eq xs ys ≡ true → xs ≡ ys
same_bytes xs ys e = same_text xs ys (sym e)

given_some : (b : Bool) (f g : List P4Name) → cond b (Some f) None ≡ Some g → b ≡ true
given_some true f g e = refl
given_some false f g e = absurd cc

-- a path that asks isn't one of `read`
asks_unread : (x : P4Name) (xs front : List P4Name) → called (codes "isValid") x xs ≡ Some front → is_read (of_path (x ∷ xs)) ≡ false
asks_unread x [] front e = absurd cc
asks_unread x (y ∷ []) front e =
    let text : y.text ≡ codes "isValid" = same_bytes y.text (codes "isValid") (given_some (bytes_eq y.text (codes "isValid")) (x ∷ []) front e) in
    ap (λ (t : List ℕ). is_read (cond (bytes_eq t (codes "read")) (mark.Read x) mark.Plain)) text
asks_unread x (y ∷ z ∷ zs) front e = refl

open_stops : (x : Spelled) → is_read x.mark ≡ false → (a : Token) → V 0 x a ≡ false → in_hand sign.Open a ≡ false
open_stops x r a e = more_open (is_bare x.mark) a.at a.lexeme (subst (λ (b : Bool). goes_on 0 (is_bare x.mark) b a.lexeme ≡ false) r e)

asked-reads : {n : ℕ} (xs : List P4Name) (o : Option (List P4Name)) → ((front : List P4Name) → o ≡ Some front → is_read (of_path xs) ≡ false) → Reads n (asked xs o) (asked xs o) (V 0) (asked_at xs o)
unfolding asked asked_at
asked-reads xs None h = sliced-reads (path_value xs)
asked-reads {n = n} xs (Some front) h = either-reads n (in_hand sign.Open) _ _ (V 0) _ (sliced (path_value xs)) (sliced (path_value xs)) (sliced_at (path_value xs))
    (words-reads (sign.Open ∷ sign.Close ∷ []) (sliced-reads (valid_value front)))
    (sliced-reads (path_value xs))
    (sign_begins {t = in_hand sign.Open} sign.Open (λ at e. refl)).at
    (λ y u m d end. end_is (in_hand sign.Open) (u ++ m) (sliced_apart (in_hand sign.Open) (path_value xs) (λ at e. refl) (open_stops (path_value xs) (h front refl)) y u m d end)) where
      end_is : (E : Token → Bool) (m : List Token) → IsEnd E m → hand E m ≡ false
      end_is E [] e = refl
      end_is E (a ∷ m) e = e

pub named-reads_ : {n : ℕ} (x : P4Name) (xs : List P4Name) → Reads n (named x xs) (named x xs) (V 0) (named_at x xs)
unfolding named named_at
named-reads_ x xs = asked-reads (x ∷ xs) (called (codes "isValid") x xs) (λ front e. asks_unread x xs front e)

-- behind the names of a path stands no dot
asked_apart : (xs : List P4Name) (o : Option (List P4Name)) (y : Spelled) (v m : List Token) → asked xs o y v → IsEnd (V 0 y) m → IsEnd (in_hand sign.Dot) (v ++ m)
unfolding asked
asked_apart xs None y v m d end = sliced_apart (in_hand sign.Dot) (path_value xs) (λ at e. refl) (λ a e. more_dot (is_bare (of_path xs)) (is_read (of_path xs)) a.at a.lexeme e) y v m d end
asked_apart xs (Some front) y v m (inl d) end = hand_end (in_hand sign.Dot) (v ++ m) ((sign_begins {t = in_hand sign.Dot} {K = λ i. words (sign.Close ∷ []) (sliced (valid_value front))} sign.Open (λ at e. refl)).at y v m d)
asked_apart xs (Some front) y v m (inr d) end = sliced_apart (in_hand sign.Dot) (path_value xs) (λ at e. refl) (λ a e. more_dot (is_bare (of_path xs)) (is_read (of_path xs)) a.at a.lexeme e) y v m d end

pub named_apart : (x : P4Name) (xs : List P4Name) (y : Spelled) (v m : List Token) → named x xs y v → IsEnd (V 0 y) m → IsEnd (in_hand sign.Dot) (v ++ m)
unfolding named
named_apart x xs y v m d end = asked_apart (x ∷ xs) (called (codes "isValid") x xs) y v m d end

-- names and then an operand that begins with them
pub names_named-reads : {n : ℕ} (x : P4Name) → Reads n (bind names λ xs. named x xs) (bind names λ xs. named x xs) (V 0) (bind_at (names_at n) λ xs. named_at x xs)
names_named-reads {n = n} x = bind-reads n names names (λ xs. in_hand sign.Dot) (names_at n) (λ xs. named x xs) (λ xs. named x xs) (V 0) (λ xs. named_at x xs) names-reads (λ xs. named-reads_ x xs) (λ xs y v m d end. named_apart x xs y v m d end)

-- ---- operands

pub after_sign : {B : Type 0} {n : ℕ} {D2 U2 : ℕ → Lang B} {E2 : B → Token → Bool} {q : ℕ → Reader B} (s : Sign) → ((at : ℕ) → Reads n (D2 at) (U2 at) E2 (q at)) → Reads (suc n) (bind (taken (is s)) D2) (bind (taken (is s)) U2) E2 (bind_at (taken_at (is s)) q)
after_sign {n = n} {D2 = D2} {U2 = U2} {E2 = E2} {q = q} s k = after-reads n (is s) (tok 0 0 (lexeme.Sign s)) 0 (is_self s) D2 U2 E2 q k

pub after_name : {B : Type 0} {n : ℕ} {D2 U2 : P4Name → Lang B} {E2 : B → Token → Bool} {q : P4Name → Reader B} → ((x : P4Name) → Reads n (D2 x) (U2 x) E2 (q x)) → Reads (suc n) (bind (taken name) D2) (bind (taken name) U2) E2 (bind_at (taken_at name) q)
after_name {n = n} {D2 = D2} {U2 = U2} {E2 = E2} {q = q} k = after-reads n name (tok 0 0 (lexeme.Name [])) (record { at = 0; text = [] }) refl D2 U2 E2 q k

plain-reads : {n : ℕ} → Reads n plain plain (V 0) plain_at
unfolding plain plain_at
plain-reads = choose-reads (in_hand sign.True) (sign-reads sign.True λ at. sliced-reads (true_value at))
    (choose-reads (in_hand sign.False) (sign-reads sign.False λ at. sliced-reads (false_value at)) (numbered-reads λ k. sliced-reads (number_value k))
    (sign_begins sign.False (λ at e. refl)) (number_begins (λ at e v w. refl)))
    (sign_begins sign.True (λ at e. refl)) (begins_either (sign_begins sign.False (λ at e. refl)) (number_begins (λ at e v w. refl)))

pub plain_begins : {b : Bool} {t : Token → Bool} → ((at e : ℕ) → t (tok at e (lexeme.Sign sign.True)) ≡ b) → ((at e : ℕ) → t (tok at e (lexeme.Sign sign.False)) ≡ b) → ((at e value : ℕ) (width : Option ℕ) → t (tok at e (lexeme.Number value width)) ≡ b) → Begins b t plain
unfolding plain
plain_begins h i j = begins_either (sign_begins sign.True h) (begins_either (sign_begins sign.False i) (number_begins j))

pub name_led_begins : {b : Bool} {t : Token → Bool} → ((at e : ℕ) (text : List ℕ) → t (tok at e (lexeme.Name text)) ≡ b) → Begins b t name_led
unfolding name_led
name_led_begins h = name_begins h

pub open_begins : {b : Bool} {t : Token → Bool} (env : Env) (U E : Lang Spelled) → ((at e : ℕ) → t (tok at e (lexeme.Sign sign.Open)) ≡ b) → Begins b t (open_ env U E)
unfolding open_
open_begins env U E h = sign_begins sign.Open h

op_given : (a : Token) (x : P4UnaryOp × ℕ) → unary_op a ≡ Ok x → is_given (unary_op a) ≡ true
op_given a x e = rw e refl

signed_begins : (U : Lang Spelled) → Begins true (λ a. is_given (unary_op a)) (signed U)
unfolding signed
signed_begins U = begins_bind (begins_taken op_given)

operand_word : (at : ℕ) (l : Lexeme) → begins_lexeme l ≡ true → word_test (tok 0 0 l) ≡ false
operand_word at (lexeme.Name x) e = refl
operand_word at (lexeme.Number x w) e = refl
operand_word at (lexeme.Sign sign.Bit) e = absurd cc
operand_word at (lexeme.Sign sign.Bool) e = absurd cc
operand_word at (lexeme.Sign sign.StdT) e = absurd cc
operand_word at (lexeme.Sign s) e = refl

word_same : (at e : ℕ) (l : Lexeme) → word_test (tok at e l) ≡ word_test (tok 0 0 l)
word_same at e (lexeme.Name x) = refl
word_same at e (lexeme.Number x w) = refl
word_same at e (lexeme.Sign sign.Bit) = refl
word_same at e (lexeme.Sign s) = refl

pub operand_words : (a : Token) → begins_operand a ≡ true → word_test a ≡ false
operand_words a e = word_same a.at a.end a.lexeme ∙ operand_word a.at a.lexeme e

module _ (n : ℕ) (env : Env) (D U D2 U2 : Lang Spelled) (p q : Reader Spelled) (h : Reads n D U (V 0) p) (k : Reads n D2 U2 (V 5) q) (begins : Begins true begins_operand D) (begins2 : Begins true begins_operand D2) where
  cast_to-reads : (at : ℕ) (t : P4Type) → Reads n (bind D λ y. only (cast_value at t y)) (bind U λ y. only (cast_value at t y)) (V 0) (bind_at p λ y. done_at (cast_value at t y))
  cast_to-reads at t = bind-reads n D U (V 0) p (λ y. only (cast_value at t y)) (λ y. only (cast_value at t y)) (V 0) (λ y. done_at (cast_value at t y)) h (λ y. done-reads n (V 0) (cast_value at t y))
      (λ y z v m d end. apart_only (V 0 y) (V 0) (cast_value at t y) (λ a e. by_cast 0 t y.mark a.lexeme e) z v m d end)

  bare_away : (at : ℕ) (e : P4Expr) (y : Spelled) (u m : List Token) → sliced (parens_value at e mark.Bare) y u → IsEnd (V 0 y) m → hand begins_operand (u ++ m) ≡ false
  bare_away at e y u m d end = end_is begins_operand (u ++ m) (sliced_apart begins_operand (parens_value at e mark.Bare) (λ i j. refl) (λ a g. bare_operand a.lexeme g) y u m d end) where
    end_is : (E : Token → Bool) (m : List Token) → IsEnd E m → hand E m ≡ false
    end_is E [] e = refl
    end_is E (a ∷ m) e = e

  pub parens-reads : (at : ℕ) (o : Option P4Name) (e : P4Expr) → Reads n (parens at o D e) (parens at o U e) (V 0) (parens_at at o p e)
  unfolding parens parens_at
  parens-reads at None e = sliced-reads (parens_value at e mark.Plain)
  parens-reads at (Some x) e = either-reads n begins_operand _ _ (V 0) _ _ _ _
      (cast_to-reads at (named_type x))
      (sliced-reads (parens_value at e mark.Bare))
      (begins_bind begins).at
      (bare_away at e)

  closed-reads : (at : ℕ) (x : Spelled) → Reads n (closed at env D x) (closed at env U x) (V 0) (closed_at at env p x)
  unfolding closed closed_at
  closed-reads at x = words-reads (sign.Close ∷ []) (parens-reads at (cast_by env x.mark) x.expr)

  cast-reads : (at : ℕ) → Reads n (cast_ at D) (cast_ at U) (V 0) (cast_at at p)
  unfolding cast_ cast_at
  cast-reads at = then-reads word_type-reads λ t. words-reads (sign.Close ∷ []) (cast_to-reads at t)

  close_goes : (x : Spelled) (at e : ℕ) → V 5 x (tok at e (lexeme.Sign sign.Close)) ≡ false
  close_goes x at e = never (is_bare x.mark) where
    never : (b : Bool) → cond b false false ≡ false
    never true = refl
    never false = refl

  group-reads : (at : ℕ) → Reads n (bind D2 λ x. closed at env D x) (bind U2 λ x. closed at env U x) (V 0) (bind_at q λ x. closed_at at env p x)
  unfolding closed
  group-reads at = behind-reads k (λ x. sign_begins sign.Close (close_goes x)) (closed-reads at)

  group_word : (at : ℕ) → Begins false word_test (bind D2 λ x. closed at env D x)
  group_word at = begins_bind (begins_map false begins_operand word_test D2 operand_words begins2)

  cast_word : (at : ℕ) → Begins true word_test (cast_ at D)
  unfolding cast_
  cast_word at = begins_bind (word_type_begins (λ i j. refl) (λ i j. refl) (λ i j. refl))

  signed-reads : Reads (suc n) (signed D) (signed U) (V 0) (bind_at (taken_at unary_op) λ o. bind_at p λ x. done_at (unary_value o.0 o.1 x))
  unfolding signed
  signed-reads = after-reads n unary_op (tok 0 0 (lexeme.Sign sign.Minus)) (op.Negate, 0) refl _ _ _ _ (λ o. bind-reads n _ _ _ _ (λ x. only (unary_value o.0 o.1 x)) (λ x. only (unary_value o.0 o.1 x)) (V 0) (λ x. done_at (unary_value o.0 o.1 x)) h (λ x. done-reads n (V 0) (unary_value o.0 o.1 x))
      (λ x y v m d end. apart_only (V 0 x) (V 0) (unary_value o.0 o.1 x) (λ a e. by_later 0 x.mark a.lexeme e) y v m d end))

  open-reads : Reads (suc n) (open_ env D D2) (open_ env U U2) (V 0) (open_at env p q)
  unfolding open_ open_at
  open-reads = after_sign sign.Open λ at. choose-reads word_test (cast-reads at) (group-reads at) (cast_word at) (group_word at)

  name_led-reads : Reads (suc n) name_led name_led (V 0) (bind_at (taken_at name) λ x. bind_at (names_at n) λ xs. named_at x xs)
  unfolding name_led
  name_led-reads = after_name λ x. names_named-reads x

  pub funary-reads : Reads (suc n) (funary env D D2) (funary env U U2) (V 0) (unary_of_at n env p q)
  unfolding funary unary_of_at
  funary-reads = choose-reads (λ a. is_given (unary_op a)) signed-reads
      (choose-reads (in_hand sign.Open) open-reads
      (choose-reads is_name name_led-reads plain-reads (name_led_begins (λ at e t. refl)) (plain_begins (λ at e. refl) (λ at e. refl) (λ at e v w. refl)))
      (open_begins env D D2 (λ at e. refl)) (begins_either (name_led_begins (λ at e t. refl)) (plain_begins (λ at e. refl) (λ at e. refl) (λ at e v w. refl))))
      (signed_begins D) (begins_either (open_begins env D D2 (λ at e. refl)) (begins_either (name_led_begins (λ at e t. refl)) (plain_begins (λ at e. refl) (λ at e. refl) (λ at e v w. refl))))
