-- The readers of types, paths and operands fit.
use Rattle.std.proofs.Common.{◌≡◌, ℕ, Bool, true, false, List, [], ◌∷◌, ◌++◌, Option, Some, None, refl, sym, subst, inl, inr}
use Rattle.std.specs.Prelude.{codes}
use Rattle.p4_lex.specs.declared.token.Token.{Token}
use Rattle.p4_lex.specs.declared.token.Sign.TheVariants as sign
use Rattle.p4_lex.specs.declared.token.Lexeme.TheVariants as lexeme
use Rattle.p4_ast.specs.declared.name.P4Name.{P4Name}
use Rattle.p4_ast.specs.declared.declaration.P4Type.TheVariants as type
use Rattle.p4_ast.specs.declared.expression.P4Expr.{P4Expr}
use Rattle.p4_grammar.specs.declared.mark.Mark.TheVariants as mark
use Rattle.p4_grammar.specs.declared.mark.Spelled.{Spelled}
use Rattle.p4_grammar.specs.Forms.{Lang, only, bind, either, taken, Reader, done_at, hand, either_at}
use Rattle.p4_grammar.specs.Tokens.{is, name, number, words, in_hand, called}
use Rattle.p4_grammar.specs.Values.{Env, is_bare, cast_by, path_value, valid_value, number_value, true_value, false_value, parens_value, slice_value, cast_value, unary_value, named_type, unary_op}
use Rattle.p4_grammar.specs.GrammarExpressions.{bit_type, bool_type, std_type, word_type, name_type, type_, names, path, slice, sliced}
use Rattle.p4_grammar.specs.ReadingExpressions.{bit_type_at, bool_type_at, std_type_at, word_type_at, name_type_at, type_at, names_at, path_at, slice_at, sliced_at, word_type as word_test}
use Rattle.p4_grammar.proofs.Forms.{IsEnd, Reads, bind-reads, done-reads, either-reads}
use Rattle.p4_grammar.proofs.Basics.{free, tok, then-reads, name-reads, words-reads, sign-reads, named-reads, numbered-reads, Begins, begins_bind, begins_either, choose-reads, sign_begins, name_begins, list-reads}
use Rattle.p4_grammar.proofs.Facts.{V, is_read, more_slice}

-- ---- types

pub bit_type-reads : {n : ℕ} → Reads n bit_type bit_type free bit_type_at
unfolding bit_type bit_type_at
bit_type-reads {n = n} = sign-reads sign.Bit λ at. words-reads (sign.Less ∷ []) (numbered-reads λ k. words-reads (sign.More ∷ []) (done-reads n free (type.Bit at k)))

pub bool_type-reads : {n : ℕ} → Reads n bool_type bool_type free bool_type_at
unfolding bool_type bool_type_at
bool_type-reads {n = n} = sign-reads sign.Bool λ at. done-reads n free (type.Bool at)

pub std_type-reads : {n : ℕ} → Reads n std_type std_type free std_type_at
unfolding std_type std_type_at
std_type-reads {n = n} = sign-reads sign.StdT λ at. done-reads n free (type.StdT at)

pub word_type_begins : {b : Bool} {t : Token → Bool} → ((at e : ℕ) → t (tok at e (lexeme.Sign sign.Bit)) ≡ b) → ((at e : ℕ) → t (tok at e (lexeme.Sign sign.Bool)) ≡ b) → ((at e : ℕ) → t (tok at e (lexeme.Sign sign.StdT)) ≡ b) → Begins b t word_type
unfolding word_type bit_type bool_type std_type
word_type_begins h i j = begins_either (sign_begins sign.Bit h) (begins_either (sign_begins sign.Bool i) (sign_begins sign.StdT j))

pub word_type-reads : {n : ℕ} → Reads n word_type word_type free word_type_at
unfolding word_type word_type_at bit_type bool_type std_type
word_type-reads {n = n} = choose-reads (in_hand sign.Bit) bit_type-reads (choose-reads (in_hand sign.Bool) bool_type-reads std_type-reads (sign_begins sign.Bool (λ at e. refl)) (sign_begins sign.StdT (λ at e. refl)))
    (sign_begins sign.Bit (λ at e. refl)) (begins_either (sign_begins sign.Bool (λ at e. refl)) (sign_begins sign.StdT (λ at e. refl)))

pub name_type-reads : {n : ℕ} → Reads n name_type name_type free name_type_at
unfolding name_type name_type_at
name_type-reads {n = n} = named-reads λ x. done-reads n free (named_type x)

pub name_type_begins : {b : Bool} {t : Token → Bool} → ((at e : ℕ) (text : List ℕ) → t (tok at e (lexeme.Name text)) ≡ b) → Begins b t name_type
unfolding name_type
name_type_begins h = name_begins h

pub type-reads : {n : ℕ} → Reads n type_ type_ free type_at
unfolding type_ type_at
type-reads {n = n} = choose-reads word_test word_type-reads name_type-reads (word_type_begins (λ at e. refl) (λ at e. refl) (λ at e. refl)) (name_type_begins (λ at e text. refl))

pub type_begins : {b : Bool} {t : Token → Bool} → ((at e : ℕ) → t (tok at e (lexeme.Sign sign.Bit)) ≡ b) → ((at e : ℕ) → t (tok at e (lexeme.Sign sign.Bool)) ≡ b) → ((at e : ℕ) → t (tok at e (lexeme.Sign sign.StdT)) ≡ b) → ((at e : ℕ) (text : List ℕ) → t (tok at e (lexeme.Name text)) ≡ b) → Begins b t type_
unfolding type_
type_begins h i j k = begins_either (word_type_begins h i j) (name_type_begins k)

-- ---- ends

pub end_end : (E E2 : Token → Bool) → ((a : Token) → E2 a ≡ false → E a ≡ false) → (m : List Token) → IsEnd E2 m → IsEnd E m
end_end E E2 h [] e = tt
end_end E E2 h (a ∷ m) e = h a e

pub end_hand : (E t : Token → Bool) → ((a : Token) → E a ≡ false → t a ≡ false) → (m : List Token) → IsEnd E m → hand t m ≡ false
end_hand E t h [] e = refl
end_hand E t h (a ∷ m) e = h a e

pub hand_end : (E : Token → Bool) (m : List Token) → hand E m ≡ false → IsEnd E m
hand_end E [] e = tt
hand_end E (a ∷ m) e = e

pub hand_map : (b : Bool) (t t2 : Token → Bool) → ((a : Token) → t a ≡ true → t2 a ≡ b) → (m : List Token) → hand t m ≡ true → hand t2 m ≡ b
hand_map b t t2 h [] e = absurd cc
hand_map b t t2 h (a ∷ m) e = h a e

pub begins_map : {A : Type 0} (b : Bool) (t t2 : Token → Bool) (L : Lang A) → ((a : Token) → t a ≡ true → t2 a ≡ b) → Begins true t L → Begins b t2 L
begins_map b t t2 L h k = record { at = λ x u m d. hand_map b t t2 h (u ++ m) (k.at x u m d) }

-- what follows may be left out
pub apart_option : {A : Type 0} (E : Token → Bool) (E2 : A → Token → Bool) (K : Lang A) (x : A) → Begins false E K → ((a : Token) → E2 x a ≡ false → E a ≡ false) → (y : A) (v m : List Token) → either K (only x) y v → IsEnd (E2 y) m → IsEnd E (v ++ m)
apart_option E E2 K x h k y v m (inl d) end = hand_end E (v ++ m) (h.at y v m d)
apart_option E E2 K x h k y v m (inr d) end = subst (λ (q : List Token). IsEnd E (q ++ m)) (sym d.1) (end_end E (E2 x) k m (subst (λ (q : _). IsEnd (E2 q) m) d.0 end))

pub apart_only : {A : Type 0} (E : Token → Bool) (E2 : A → Token → Bool) (x : A) → ((a : Token) → E2 x a ≡ false → E a ≡ false) → (y : A) (v m : List Token) → only x y v → IsEnd (E2 y) m → IsEnd E (v ++ m)
apart_only E E2 x k y v m d end = subst (λ (q : List Token). IsEnd E (q ++ m)) (sym d.1) (end_end E (E2 x) k m (subst (λ (q : _). IsEnd (E2 q) m) d.0 end))

pub apart_begins : {A : Type 0} (E : Token → Bool) (E2 : A → Token → Bool) (K : Lang A) → Begins false E K → (y : A) (v m : List Token) → K y v → IsEnd (E2 y) m → IsEnd E (v ++ m)
apart_begins E E2 K h y v m d end = hand_end E (v ++ m) (h.at y v m d)

-- one alternative behind a value, or nothing more
pub option-reads : {A : Type 0} {n : ℕ} {D U : Lang A} {E : A → Token → Bool} {p : Reader A} (t : Token → Bool) (x : A) → Reads n D U E p → Begins true t D → ((a : Token) → E x a ≡ false → t a ≡ false) → Reads n (either D (only x)) (either U (only x)) E (either_at t p (done_at x))
option-reads {n = n} {D = D} {U = U} {E = E} {p = p} t x h k stops = either-reads n t D U E p (only x) (only x) (done_at x) h (done-reads n E x) k.at
    (λ y u m d end. subst (λ (q : List Token). hand t (q ++ m) ≡ false) (sym d.1) (end_hand (E x) t stops m (subst (λ (q : _). IsEnd (E q) m) d.0 end)))

-- ---- paths and slices

pub names-reads : {n : ℕ} → Reads n names names (λ xs. in_hand sign.Dot) (names_at n)
unfolding names names_at
names-reads {n = n} = list-reads (in_hand sign.Dot) (words-reads (sign.Dot ∷ []) name-reads) (sign_begins sign.Dot (λ at e. refl)) (sign_begins sign.Dot (λ at e. refl))

pub path-reads : {n : ℕ} → Reads n path path (λ p. in_hand sign.Dot) (path_at n)
unfolding path path_at
path-reads {n = n} = named-reads λ x. bind-reads n names names (λ xs. in_hand sign.Dot) (names_at n) (λ xs. only (x ∷ xs)) (λ xs. only (x ∷ xs)) (λ p. in_hand sign.Dot) (λ xs. done_at (x ∷ xs)) names-reads (λ xs. done-reads n _ (x ∷ xs)) (λ xs y v m d end. apart_only (in_hand sign.Dot) (λ p. in_hand sign.Dot) (x ∷ xs) (λ a e. e) y v m d end)

pub slice-reads : {n : ℕ} → Reads n slice slice free slice_at
unfolding slice slice_at
slice-reads {n = n} = sign-reads sign.OpenSlice λ at. numbered-reads λ high. words-reads (sign.Colon ∷ []) (numbered-reads λ low. words-reads (sign.CloseSlice ∷ []) (done-reads n free (record { at = at; high = high; low = low })))

pub slice_begins : {b : Bool} {t : Token → Bool} → ((at e : ℕ) → t (tok at e (lexeme.Sign sign.OpenSlice)) ≡ b) → Begins b t slice
unfolding slice
slice_begins h = sign_begins sign.OpenSlice h

pub sliced-reads : {n : ℕ} (x : Spelled) → Reads n (sliced x) (sliced x) (V 0) (sliced_at x)
unfolding sliced sliced_at
sliced-reads {n = n} x = option-reads (in_hand sign.OpenSlice) x (then-reads slice-reads λ s. done-reads n (V 0) (slice_value x s)) (begins_bind (slice_begins (λ at e. refl))) (λ a e. more_slice 0 (is_bare x.mark) (is_read x.mark) a.at a.lexeme e)

-- what stands behind a value that may be sliced
pub sliced_apart : (E : Token → Bool) (x : Spelled) → ((at e : ℕ) → E (tok at e (lexeme.Sign sign.OpenSlice)) ≡ false) → ((a : Token) → V 0 x a ≡ false → E a ≡ false) → (y : Spelled) (v m : List Token) → sliced x y v → IsEnd (V 0 y) m → IsEnd E (v ++ m)
unfolding sliced
sliced_apart E x h k y v m d end = apart_option E (V 0) (bind slice λ s. only (slice_value x s)) x (begins_bind (slice_begins h)) k y v m d end

-- ---- operands, as the reader finds them

unfoldable pub asked : List P4Name → Option (List P4Name) → Lang Spelled
asked xs None = sliced (path_value xs)
asked xs (Some front) = either (words (sign.Open ∷ sign.Close ∷ []) (sliced (valid_value front))) (sliced (path_value xs))

unfoldable pub named : P4Name → List P4Name → Lang Spelled
named x xs = asked (x ∷ xs) (called (codes "isValid") x xs)

unfoldable pub plain : Lang Spelled
plain = either (bind (taken (is sign.True)) λ at. sliced (true_value at)) (either (bind (taken (is sign.False)) λ at. sliced (false_value at)) (bind (taken number) λ k. sliced (number_value k)))

unfoldable pub parens : ℕ → Option P4Name → Lang Spelled → P4Expr → Lang Spelled
parens at None U e = sliced (parens_value at e mark.Plain)
parens at (Some x) U e = either (bind U λ y. only (cast_value at (named_type x) y)) (sliced (parens_value at e mark.Bare))

unfoldable pub cast_ : ℕ → Lang Spelled → Lang Spelled
cast_ at U = bind word_type λ t. words (sign.Close ∷ []) (bind U λ y. only (cast_value at t y))

unfoldable pub closed : ℕ → Env → Lang Spelled → Spelled → Lang Spelled
closed at env U x = words (sign.Close ∷ []) (parens at (cast_by env x.mark) U x.expr)

unfoldable pub open_ : Env → Lang Spelled → Lang Spelled → Lang Spelled
open_ env U E = bind (taken (is sign.Open)) λ at. either (cast_ at U) (bind E λ x. closed at env U x)

unfoldable pub signed : Lang Spelled → Lang Spelled
signed U = bind (taken unary_op) λ o. bind U λ x. only (unary_value o.0 o.1 x)

unfoldable pub name_led : Lang Spelled
name_led = bind (taken name) λ x. bind names λ xs. named x xs

unfoldable pub funary : Env → Lang Spelled → Lang Spelled → Lang Spelled
funary env U E = either (signed U) (either (open_ env U E) (either name_led plain))
