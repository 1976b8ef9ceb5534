-- The readers of productions that the token in hand decides.
use Rattle.std.proofs.Common.{◌≡◌, ℕ, Bool, true, false, cond, List, [], ◌∷◌, ◌++◌, Ok, Some, None, refl, sym, ap, subst, ◌∙◌, append_assoc, inl, inr, ◌⊎◌}
use Rattle.std.specs.Prelude.{codes}
use Rattle.p4_lex.specs.declared.token.Token.{Token}
use Rattle.p4_lex.specs.declared.token.Sign.{Sign}
use Rattle.p4_lex.specs.declared.token.Sign.TheVariants as sign
use Rattle.p4_lex.specs.declared.token.Lexeme.{Lexeme}
use Rattle.p4_lex.specs.declared.token.Lexeme.TheVariants as lexeme
use Rattle.p4_ast.specs.declared.name.P4Name.{P4Name}
use Rattle.p4_ast.specs.declared.name.P4Number.{P4Number}
use Rattle.p4_ast.specs.declared.declaration.P4Type.{P4Type}
use Rattle.p4_ast.specs.declared.declaration.P4Type.TheVariants as type
use Rattle.p4_ast.specs.declared.declaration.P4Declaration.TheVariants as declaration
use Rattle.p4_ast.specs.declared.expression.P4Expr.{P4Expr}
use Rattle.p4_ast.specs.declared.control.P4Var.{P4Var}
use Rattle.p4_ast.specs.declared.control.P4Cell.TheVariants as cell
use Rattle.p4_ast.specs.declared.table.P4Match.TheVariants as matching
use Rattle.p4_ast.specs.declared.statement.P4Outcome.TheVariants as outcome
use Rattle.p4_grammar.specs.Forms.{Lang, only, bind, either, taken, many, Reader, done_at, bind_at, hand, many_at, is_given}
use Rattle.p4_grammar.specs.Tokens.{is, name, number, the_name, text_of, words, words_at, in_hand, but}
use Rattle.p4_grammar.specs.Values.{Env, type_place, path_of, begins_lexeme, begins_operand}
use Rattle.p4_grammar.specs.Trees.{field_of}
use Rattle.p4_grammar.specs.GrammarExpressions.{bit_type, bool_type, std_type, name_type, word_type, type_, expr, expression, expressions, args}
use Rattle.p4_grammar.specs.GrammarStatements.{outcome_, var, slice_or_none}
use Rattle.p4_grammar.specs.Grammar.{field, fields, header, struct_, typedef, const_, declaration_, param, match_, key, keys, act, acts, call, size, flow_cell, flow_array, closed_type, typed, typed_list, last_param, emit, deparser, instance_, package_}
use Rattle.p4_grammar.specs.ReadingExpressions.{type_at, expr_at, expression_at, expressions_at, args_at}
use Rattle.p4_grammar.specs.ReadingStatements.{outcome_at, var_rest_at, var_at, slice_or_none_at}
use Rattle.p4_grammar.specs.Reading.{field_at, fields_at, header_at, struct_at, typedef_at, const_at, declaration_at, param_at, match_at, key_of_at, keys_at, act_at, acts_at, call_at, size_at, flow_cell_at, flow_array_at, bit_closed_at, closed_type_at, typed_at, typed_list_at, last_param_at, emit_at, deparser_at, instance_at, package_at}
use Rattle.p4_grammar.proofs.Languages.{Same, same, same_bind, same_either, assoc, dist, factor, bind_only, same_words, words_bind, factor_words, ◌then◌}
use Rattle.p4_grammar.proofs.Forms.{IsEnd, Reads, bind-reads, done-reads}
use Rattle.p4_grammar.proofs.Basics.{free, tok, then-reads, the_name-reads, words-reads, sign-reads, named-reads, numbered-reads, Begins, begins_taken, begins_bind, begins_either, choose-reads, said, sign_begins, name_begins, list-reads, list_to-reads, behind-reads}
use Rattle.p4_grammar.proofs.Facts.{test_true, V, ends_all, all_ends}
use Rattle.p4_grammar.proofs.Expressions.{type-reads, type_begins, bool_type-reads, std_type-reads, name_type-reads, name_type_begins, path-reads, slice-reads, slice_begins, apart_only, option-reads, hand_end, end_end, begins_map}
use Rattle.p4_grammar.proofs.Levels.{apart_both}
use Rattle.p4_grammar.proofs.Operands.{same_bytes}
use Rattle.std.specs.Str.{bytes_eq}
use Rattle.p4_grammar.proofs.Factored.{expr-reads, expr-begins}

-- ---- lists of expressions

-- what may go on behind an expression as a tree alone
abbrev pub EX : Token → Bool
EX a = ends_all a.lexeme

pub expression-reads : {n : ℕ} (env : Env) → Reads n (expression env) (expression env) (λ x. EX) (expression_at n env)
unfolding expression expression_at
expression-reads {n = n} env = bind-reads n (expr env) (expr env) (V 5) (expr_at n env) (λ x. only x.expr) (λ x. only x.expr) (λ x. EX) (λ x. done_at x.expr) (expr-reads env) (λ x. done-reads n (λ y. EX) x.expr)
    (λ x y v m d end. apart_only (V 5 x) (λ y. EX) x.expr (λ a e. all_ends _ _ a.lexeme e) y v m d end)

pub expression_begins : (env : Env) → Begins true begins_operand (expression env)
unfolding expression
expression_begins env = begins_bind (expr-begins env)

-- an expression and then this sign, with which none goes on
pub closed_by-reads : {A : Type 0} {n : ℕ} {D2 U2 : P4Expr → Lang A} {E2 : A → Token → Bool} {f : P4Expr → Reader A} (env : Env) (s : Sign) → ((at e : ℕ) → EX (tok at e (lexeme.Sign s)) ≡ false) → ((x : P4Expr) → Reads n (D2 x) (U2 x) E2 (f x)) → Reads n (bind (expression env) λ x. words (s ∷ []) (D2 x)) (bind (expression env) λ x. words (s ∷ []) (U2 x)) E2 (bind_at (expression_at n env) λ x. words_at (s ∷ []) (f x))
closed_by-reads env s h k = behind-reads (expression-reads env) (λ x. sign_begins s h) (λ x. words-reads (s ∷ []) (k x))

-- what stands behind a repetition
pub list_apart : {A : Type 0} (L : Lang A) (E E2 : Token → Bool) → Begins false E L → ((a : Token) → E2 a ≡ false → E a ≡ false) → (xs : List A) (u m : List Token) → many L xs u → IsEnd E2 m → IsEnd E (u ++ m)
list_apart L E E2 h k [] u m d end = subst (λ (q : List Token). IsEnd E (q ++ m)) (sym d) (end_end E E2 k m end)
list_apart L E E2 h k (z ∷ zs) u m (a, b, e, d, ds) end = hand_end E (u ++ m) (ap (λ (q : List Token). hand E (q ++ m)) e ∙ ap (hand E) (append_assoc a b m) ∙ h.at z a (b ++ m) d)

-- what may go on behind a list of them
abbrev pub EL : Token → Bool
EL a = cond (in_hand sign.Comma a) true (EX a)

el_ex : (b c : Bool) → cond b true c ≡ false → c ≡ false
el_ex true c e = absurd cc
el_ex false c e = e

el_comma : (b c : Bool) → cond b true c ≡ false → b ≡ false
el_comma true c e = absurd cc
el_comma false c e = refl

pub expressions-reads : {n : ℕ} (env : Env) → Reads n (expressions env) (expressions env) (λ xs. EL) (expressions_at n env)
unfolding expressions expressions_at
expressions-reads {n = n} env =
    let more : Reads n (words (sign.Comma ∷ []) (expression env)) (words (sign.Comma ∷ []) (expression env)) (λ x. EX) (words_at (sign.Comma ∷ []) (expression_at n env)) = words-reads (sign.Comma ∷ []) (expression-reads env) in
    let list = list_to-reads (in_hand sign.Comma) EX more (sign_begins sign.Comma (λ at e. refl)) (sign_begins sign.Comma (λ at e. refl)) (sign_begins sign.Comma (λ at e. refl)) EL (λ a e. el_ex (in_hand sign.Comma a) (EX a) e) (λ a e. el_comma (in_hand sign.Comma a) (EX a) e) in
    bind-reads n (expression env) (expression env) (λ x. EX) (expression_at n env) _ _ (λ xs. EL) _ (expression-reads env)
    (λ x. bind-reads n _ _ (λ xs. EL) _ (λ xs. only (x ∷ xs)) (λ xs. only (x ∷ xs)) (λ xs. EL) (λ xs. done_at (x ∷ xs)) list (λ xs. done-reads n (λ y. EL) (x ∷ xs)) (λ xs y v m d end. apart_only EL (λ y. EL) (x ∷ xs) (λ a e. e) y v m d end))
    (λ x y w m d end. apart_both (many (words (sign.Comma ∷ []) (expression env))) (λ xs. only (x ∷ xs)) EX (λ xs. EL) (λ y. EL)
    (λ xs u r c e. list_apart (words (sign.Comma ∷ []) (expression env)) EX EL (sign_begins sign.Comma (λ at e. refl)) (λ a h. el_ex (in_hand sign.Comma a) (EX a) h) xs u r c e)
    (λ xs z v r c e. apart_only EL (λ y. EL) (x ∷ xs) (λ a h. h) z v r c e) y w m d end)

pub expressions_begins : (env : Env) → Begins true begins_operand (expressions env)
unfolding expressions
expressions_begins env = begins_bind (expression_begins env)

operand_close : (l : Lexeme) → begins_lexeme l ≡ true → in_hand sign.Close (tok 0 0 l) ≡ false
operand_close (lexeme.Name t) e = refl
operand_close (lexeme.Number v w) e = refl
operand_close (lexeme.Sign sign.Close) e = absurd cc
operand_close (lexeme.Sign s) e = refl

close_same : (at e : ℕ) (l : Lexeme) → in_hand sign.Close (tok at e l) ≡ in_hand sign.Close (tok 0 0 l)
close_same at e (lexeme.Name t) = refl
close_same at e (lexeme.Number v w) = refl
close_same at e (lexeme.Sign sign.Close) = refl
close_same at e (lexeme.Sign s) = refl

pub not_close : {A : Type 0} {L : Lang A} → Begins true begins_operand L → Begins false (in_hand sign.Close) L
not_close {L = L} h = begins_map false begins_operand (in_hand sign.Close) L (λ a e. close_same a.at a.end a.lexeme ∙ operand_close a.lexeme e) h

pub args-reads : {n : ℕ} (env : Env) → Reads n (args env) (args env) free (args_at n env)
unfolding args args_at
args-reads {n = n} env = words-reads (sign.Open ∷ []) (choose-reads (in_hand sign.Close) (words-reads (sign.Close ∷ []) (done-reads n free []))
    (behind-reads (expressions-reads env) (λ xs. sign_begins sign.Close (λ at e. refl)) (λ xs. words-reads (sign.Close ∷ []) (done-reads n free xs)))
    (sign_begins sign.Close (λ at e. refl)) (begins_bind (not_close (expressions_begins env))))

-- ---- repetitions up to a sign

pub listed-reads : {A B : Type 0} {n : ℕ} {D U : Lang A} {p : Reader A} {D2 U2 : List A → Lang B} {E2 : B → Token → Bool} {f : List A → Reader B} (s : Sign) → ((at e : ℕ) → but s (tok at e (lexeme.Sign s)) ≡ false) → Reads n D U free p → Begins true (but s) D → Begins true (but s) U → ((xs : List A) → Reads n (D2 xs) (U2 xs) E2 (f xs)) → Reads n (bind (many D) λ xs. words (s ∷ []) (D2 xs)) (bind (many U) λ xs. words (s ∷ []) (U2 xs)) E2 (bind_at (many_at n (but s) p) λ xs. words_at (s ∷ []) (f xs))
listed-reads s h r b c k = behind-reads (list-reads (but s) r b c) (λ xs. sign_begins s h) (λ xs. words-reads (s ∷ []) (k xs))

-- ---- declarations

pub field-reads : {n : ℕ} → Reads n field field free field_at
unfolding field field_at
field-reads {n = n} = then-reads type-reads λ t. named-reads λ x. words-reads (sign.Semicolon ∷ []) (done-reads n free (field_of t x))

field_goes : Begins true (but sign.CloseBrace) field
unfolding field
field_goes = begins_bind (type_begins (λ at e. refl) (λ at e. refl) (λ at e. refl) (λ at e t. refl))

pub fields-reads : {n : ℕ} → Reads n fields fields free (fields_at n)
unfolding fields fields_at
fields-reads {n = n} = words-reads (sign.OpenBrace ∷ []) (listed-reads sign.CloseBrace (λ at e. refl) field-reads field_goes field_goes λ fs. done-reads n free fs)

pub header-reads : {n : ℕ} → Reads n header header free (header_at n)
unfolding header header_at
header-reads {n = n} = sign-reads sign.Header λ at. named-reads λ x. then-reads fields-reads λ fs. done-reads n free (record { at = at; name = x; fields = fs })

pub struct-reads : {n : ℕ} → Reads n struct_ struct_ free (struct_at n)
unfolding struct_ struct_at
struct-reads {n = n} = sign-reads sign.Struct λ at. named-reads λ x. then-reads fields-reads λ fs. done-reads n free (record { at = at; name = x; fields = fs })

pub typedef-reads : {n : ℕ} → Reads n typedef typedef free typedef_at
unfolding typedef typedef_at
typedef-reads {n = n} = sign-reads sign.Typedef λ at. then-reads type-reads λ t. named-reads λ x. words-reads (sign.Semicolon ∷ []) (done-reads n free (record { at = at; type_ = t; name = x }))

pub const-reads : {n : ℕ} (env : Env) → Reads n (const_ env) (const_ env) free (const_at n env)
unfolding const_ const_at
const-reads {n = n} env = sign-reads sign.Const λ at. then-reads type-reads λ t. named-reads λ x. words-reads (sign.Assign ∷ []) (closed_by-reads env sign.Semicolon (λ i e. refl) λ e. done-reads n free (record { at = at; type_ = t; name = x; expr = e }))

pub const_begins : {b : Bool} {t : Token → Bool} (env : Env) → ((at e : ℕ) → t (tok at e (lexeme.Sign sign.Const)) ≡ b) → Begins b t (const_ env)
unfolding const_
const_begins env h = sign_begins sign.Const h

header_begins : {b : Bool} {t : Token → Bool} → ((at e : ℕ) → t (tok at e (lexeme.Sign sign.Header)) ≡ b) → Begins b t header
unfolding header
header_begins h = sign_begins sign.Header h

struct_begins : {b : Bool} {t : Token → Bool} → ((at e : ℕ) → t (tok at e (lexeme.Sign sign.Struct)) ≡ b) → Begins b t struct_
unfolding struct_
struct_begins h = sign_begins sign.Struct h

typedef_begins : {b : Bool} {t : Token → Bool} → ((at e : ℕ) → t (tok at e (lexeme.Sign sign.Typedef)) ≡ b) → Begins b t typedef
unfolding typedef
typedef_begins h = sign_begins sign.Typedef h

pub declaration-reads : {n : ℕ} (env : Env) → Reads n (declaration_ env) (declaration_ env) free (declaration_at n env)
unfolding declaration_ declaration_at
declaration-reads {n = n} env = choose-reads (in_hand sign.Header) (then-reads header-reads λ h. done-reads n free (declaration.Header h))
    (choose-reads (in_hand sign.Struct) (then-reads struct-reads λ s. done-reads n free (declaration.Struct s))
    (choose-reads (in_hand sign.Typedef) (then-reads typedef-reads λ t. done-reads n free (declaration.Typedef t)) (then-reads (const-reads env) λ c. done-reads n free (declaration.Const c))
    (begins_bind (typedef_begins (λ at e. refl))) (begins_bind (const_begins env (λ at e. refl))))
    (begins_bind (struct_begins (λ at e. refl))) (begins_either (begins_bind (typedef_begins (λ at e. refl))) (begins_bind (const_begins env (λ at e. refl)))))
    (begins_bind (header_begins (λ at e. refl))) (begins_either (begins_bind (struct_begins (λ at e. refl))) (begins_either (begins_bind (typedef_begins (λ at e. refl))) (begins_bind (const_begins env (λ at e. refl)))))

pub declaration_begins : {b : Bool} {t : Token → Bool} (env : Env) → ((at e : ℕ) → t (tok at e (lexeme.Sign sign.Header)) ≡ b) → ((at e : ℕ) → t (tok at e (lexeme.Sign sign.Struct)) ≡ b) → ((at e : ℕ) → t (tok at e (lexeme.Sign sign.Typedef)) ≡ b) → ((at e : ℕ) → t (tok at e (lexeme.Sign sign.Const)) ≡ b) → Begins b t (declaration_ env)
unfolding declaration_
declaration_begins env h i j k = begins_either (begins_bind (header_begins h)) (begins_either (begins_bind (struct_begins i)) (begins_either (begins_bind (typedef_begins j)) (begins_bind (const_begins env k))))

-- ---- parameters

pub param-reads : {n : ℕ} (s : Sign) → Reads n (param s) (param s) free (param_at s)
unfolding param param_at
param-reads {n = n} s = sign-reads s λ at. named-reads λ t. named-reads λ x. done-reads n free (record { at = at; type_ = t; name = x })

-- an option behind which anything may stand but what it begins with
pub last_param-reads : {n : ℕ} → Reads n last_param last_param (λ o. in_hand sign.Comma) last_param_at
unfolding last_param last_param_at
last_param-reads {n = n} = option-reads (in_hand sign.Comma) None (words-reads (sign.Comma ∷ []) (then-reads (param-reads sign.Inout) λ p. done-reads n _ (Some p))) (sign_begins sign.Comma (λ at e. refl)) (λ a e. e)

-- ---- tables

pub match-reads : {n : ℕ} → Reads n match_ match_ free match_at
unfolding match_ match_at
match-reads {n = n} = choose-reads (in_hand sign.Exact) (words-reads (sign.Exact ∷ []) (done-reads n free matching.Exact))
    (choose-reads (in_hand sign.Lpm) (words-reads (sign.Lpm ∷ []) (done-reads n free matching.Lpm)) (words-reads (sign.Ternary ∷ []) (done-reads n free matching.Ternary)) (sign_begins sign.Lpm (λ at e. refl)) (sign_begins sign.Ternary (λ at e. refl)))
    (sign_begins sign.Exact (λ at e. refl)) (begins_either (sign_begins sign.Lpm (λ at e. refl)) (sign_begins sign.Ternary (λ at e. refl)))

never_by : (b : Bool) → cond b false false ≡ false
never_by true = refl
never_by false = refl

pub key-reads : {n : ℕ} (env : Env) → Reads n (key env) (key env) free (key_of_at n env)
unfolding key key_of_at
key-reads {n = n} env = behind-reads (expr-reads env) (λ x. sign_begins sign.Colon (λ at e. never_by _)) λ x. words-reads (sign.Colon ∷ []) (then-reads match-reads λ m. words-reads (sign.Semicolon ∷ []) (done-reads n free (record { at = x.at; expr = x.expr; matching = m })))

operand_brace : (l : Lexeme) → begins_lexeme l ≡ true → but sign.CloseBrace (tok 0 0 l) ≡ true
operand_brace (lexeme.Name t) e = refl
operand_brace (lexeme.Number v w) e = refl
operand_brace (lexeme.Sign sign.CloseBrace) e = absurd cc
operand_brace (lexeme.Sign s) e = refl

brace_same : (at e : ℕ) (l : Lexeme) → but sign.CloseBrace (tok at e l) ≡ but sign.CloseBrace (tok 0 0 l)
brace_same at e (lexeme.Name t) = refl
brace_same at e (lexeme.Number v w) = refl
brace_same at e (lexeme.Sign sign.CloseBrace) = refl
brace_same at e (lexeme.Sign s) = refl

pub operand_goes : {A : Type 0} {L : Lang A} → Begins true begins_operand L → Begins true (but sign.CloseBrace) L
operand_goes {L = L} h = begins_map true begins_operand (but sign.CloseBrace) L (λ a e. brace_same a.at a.end a.lexeme ∙ operand_brace a.lexeme e) h

key_goes : (env : Env) → Begins true (but sign.CloseBrace) (key env)
unfolding key
key_goes env = begins_bind (operand_goes (expr-begins env))

pub keys-reads : {n : ℕ} (env : Env) → Reads n (keys env) (keys env) free (keys_at n env)
unfolding keys keys_at
keys-reads {n = n} env = sign-reads sign.Key λ at. words-reads (sign.Assign ∷ sign.OpenBrace ∷ []) (listed-reads sign.CloseBrace (λ i e. refl) (key-reads env) (key_goes env) (key_goes env) λ ks. done-reads n free (record { at = at; keys = ks }))

pub act-reads : {n : ℕ} → Reads n act act free act_at
unfolding act act_at
act-reads {n = n} = named-reads λ x. words-reads (sign.Semicolon ∷ []) (done-reads n free x)

act_goes : Begins true (but sign.CloseBrace) act
unfolding act
act_goes = name_begins (λ at e t. refl)

pub acts-reads : {n : ℕ} → Reads n acts acts free (acts_at n)
unfolding acts acts_at
acts-reads {n = n} = sign-reads sign.Actions λ at. words-reads (sign.Assign ∷ sign.OpenBrace ∷ []) (listed-reads sign.CloseBrace (λ i e. refl) act-reads act_goes act_goes λ xs. done-reads n free (record { at = at; names = xs }))

args_begin : (env : Env) → Begins true (in_hand sign.Open) (args env)
unfolding args
args_begin env = sign_begins sign.Open (λ at e. refl)

pub call-reads : {n : ℕ} (env : Env) → Reads n (call env) (call env) (λ c. in_hand sign.Open) (call_at n env)
unfolding call call_at
call-reads {n = n} env = named-reads λ x. option-reads (in_hand sign.Open) (record { at = x.at; name = x; args = [] }) (then-reads (args-reads env) λ xs. done-reads n _ (record { at = x.at; name = x; args = xs })) (begins_bind (args_begin env)) (λ a e. e)

pub size-reads : {n : ℕ} → Reads n size size free size_at
unfolding size size_at
size-reads {n = n} = sign-reads sign.Size λ at. words-reads (sign.Assign ∷ []) (numbered-reads λ k. words-reads (sign.Semicolon ∷ []) (done-reads n free (record { at = at; number = k })))

-- ---- the deparser and the package

pub emit-reads : {n : ℕ} → Reads n emit emit free (emit_at n)
unfolding emit emit_at
emit-reads {n = n} = named-reads λ x. words-reads (sign.Dot ∷ []) (then-reads (the_name-reads (codes "emit") refl) λ i. words-reads (sign.Open ∷ []) (behind-reads path-reads (λ q. sign_begins sign.Close (λ at e. refl)) λ q. words-reads (sign.Close ∷ sign.Semicolon ∷ []) (done-reads n free (record { at = x.at; name = x; path = path_of q }))))

emit_goes : Begins true (but sign.CloseBrace) emit
unfolding emit
emit_goes = name_begins (λ at e t. refl)

pub deparser-reads : {n : ℕ} → Reads n deparser deparser free (deparser_at n)
unfolding deparser deparser_at
deparser-reads {n = n} = sign-reads sign.Control λ at. named-reads λ x. words-reads (sign.Open ∷ sign.PacketOut ∷ []) (named-reads λ p. words-reads (sign.Comma ∷ []) (then-reads (param-reads sign.In) λ h. words-reads (sign.Close ∷ sign.OpenBrace ∷ sign.Apply ∷ sign.OpenBrace ∷ []) (listed-reads sign.CloseBrace (λ i e. refl) emit-reads emit_goes emit_goes λ es. words-reads (sign.CloseBrace ∷ []) (done-reads n free (record { at = at; name = x; packet = p; headers = h; emits = es })))))

pub instance-reads : {n : ℕ} → Reads n instance_ instance_ free instance_at
unfolding instance_ instance_at
instance-reads {n = n} = named-reads λ x. words-reads (sign.Open ∷ sign.Close ∷ []) (done-reads n free x)

pub package-reads : {n : ℕ} → Reads n package_ package_ free package_at
unfolding package_ package_at
package-reads {n = n} = sign-reads sign.RpSwitch λ at. words-reads (sign.Open ∷ []) (then-reads instance-reads λ p. words-reads (sign.Comma ∷ []) (then-reads instance-reads λ i. words-reads (sign.Comma ∷ []) (then-reads instance-reads λ d. words-reads (sign.Close ∷ []) (then-reads (the_name-reads (codes "main") refl) λ m. words-reads (sign.Semicolon ∷ []) (done-reads n free (record { at = at; parser = p; ingress = i; deparser = d }))))))

-- ---- cells, actions' parameters, variables

cell_shuffle : {A : Type 0} {L M N O P : Lang A} → Same (either (either (either L (either M N)) O) P) (either (either L P) (either M (either N O)))
cell_shuffle {A = A} {L = L} {M = M} {N = N} {O = O} {P = P} = record { to = to; back = back } where
  to : (x : A) (u : List Token) → ((L x u ⊎ (M x u ⊎ N x u)) ⊎ O x u) ⊎ P x u → (L x u ⊎ P x u) ⊎ (M x u ⊎ (N x u ⊎ O x u))
  to x u (inl (inl (inl d))) = inl (inl d)
  to x u (inl (inl (inr (inl d)))) = inr (inl d)
  to x u (inl (inl (inr (inr d)))) = inr (inr (inl d))
  to x u (inl (inr d)) = inr (inr (inr d))
  to x u (inr d) = inl (inr d)

  back : (x : A) (u : List Token) → (L x u ⊎ P x u) ⊎ (M x u ⊎ (N x u ⊎ O x u)) → ((L x u ⊎ (M x u ⊎ N x u)) ⊎ O x u) ⊎ P x u
  back x u (inl (inl d)) = inl (inl (inl d))
  back x u (inl (inr d)) = inr d
  back x u (inr (inl d)) = inl (inl (inr (inl d)))
  back x u (inr (inr (inl d))) = inl (inl (inr (inr d)))
  back x u (inr (inr (inr d))) = inl (inr d)

-- the two ends of a "bit" type share a front
bit_end : ℕ → P4Number → Lang P4Type
bit_end at k = either (words (sign.More ∷ sign.More ∷ []) (only (type.Bit at k))) (words (sign.ShiftRight ∷ []) (only (type.Bit at k)))

and_more : Lang P4Type → Lang P4Type
and_more L = bind L λ t. words (sign.More ∷ []) (only t)

fclosed : Lang P4Type
fclosed = either (bind (taken (is sign.Bit)) λ at. words (sign.Less ∷ []) (bind (taken number) λ k. bit_end at k)) (either (and_more bool_type) (either (and_more std_type) (and_more name_type)))

bool_begins : {b : Bool} {t : Token → Bool} → ((at e : ℕ) → t (tok at e (lexeme.Sign sign.Bool)) ≡ b) → Begins b t bool_type
unfolding bool_type
bool_begins h = sign_begins sign.Bool h

std_begins : {b : Bool} {t : Token → Bool} → ((at e : ℕ) → t (tok at e (lexeme.Sign sign.StdT)) ≡ b) → Begins b t std_type
unfolding std_type
std_begins h = sign_begins sign.StdT h

more-reads : {n : ℕ} {D U : Lang P4Type} {p : Reader P4Type} → Reads n D U free p → Reads n (and_more D) (and_more U) free (bind_at p λ t. words_at (sign.More ∷ []) (done_at t))
unfolding and_more
more-reads {n = n} h = then-reads h λ t. words-reads (sign.More ∷ []) (done-reads n free t)

bit_end-reads : {n : ℕ} (at : ℕ) (k : P4Number) → Reads n (bit_end at k) (bit_end at k) free (bit_closed_at at k)
unfolding bit_end bit_closed_at
bit_end-reads {n = n} at k = choose-reads (in_hand sign.More) (words-reads (sign.More ∷ sign.More ∷ []) (done-reads n free (type.Bit at k))) (words-reads (sign.ShiftRight ∷ []) (done-reads n free (type.Bit at k))) (sign_begins sign.More (λ at e. refl)) (sign_begins sign.ShiftRight (λ at e. refl))

fclosed-reads : {n : ℕ} → Reads n fclosed fclosed free closed_type_at
unfolding fclosed closed_type_at and_more
fclosed-reads {n = n} = choose-reads (in_hand sign.Bit) (sign-reads sign.Bit λ at. words-reads (sign.Less ∷ []) (numbered-reads λ k. bit_end-reads at k))
    (choose-reads (in_hand sign.Bool) (more-reads bool_type-reads)
    (choose-reads (in_hand sign.StdT) (more-reads std_type-reads) (more-reads name_type-reads) (begins_bind (std_begins (λ at e. refl))) (begins_bind (name_type_begins (λ at e t. refl))))
    (begins_bind (bool_begins (λ at e. refl))) (begins_either (begins_bind (std_begins (λ at e. refl))) (begins_bind (name_type_begins (λ at e t. refl)))))
    (sign_begins sign.Bit (λ at e. refl)) (begins_either (begins_bind (bool_begins (λ at e. refl))) (begins_either (begins_bind (std_begins (λ at e. refl))) (begins_bind (name_type_begins (λ at e t. refl)))))

closed-same : Same closed_type fclosed
unfolding closed_type fclosed type_ word_type bit_type and_more bit_end
closed-same =
    same_either (dist then same_either (dist then same_either
    (assoc then same_bind same (λ at. words_bind (sign.Less ∷ []) _ _ then same_words (sign.Less ∷ []) (assoc then same_bind same (λ k. words_bind (sign.More ∷ []) _ _ then same_words (sign.More ∷ []) bind_only))))
    dist) same) same
    then cell_shuffle then same_either (factor then same_bind same (λ at. factor_words (sign.Less ∷ []) _ _ then same_words (sign.Less ∷ []) factor)) same

pub closed_type-reads : {n : ℕ} → Reads n closed_type closed_type free closed_type_at
closed_type-reads = said fclosed-reads closed-same closed-same

pub flow_cell-reads : {n : ℕ} → Reads n flow_cell flow_cell free flow_cell_at
unfolding flow_cell flow_cell_at
flow_cell-reads {n = n} = sign-reads sign.FlowCell λ at. words-reads (sign.Less ∷ []) (then-reads closed_type-reads λ t. words-reads (sign.Open ∷ sign.Close ∷ []) (named-reads λ x. words-reads (sign.Semicolon ∷ []) (done-reads n free (cell.Cell at t x))))

pub flow_array-reads : {n : ℕ} → Reads n flow_array flow_array free flow_array_at
unfolding flow_array flow_array_at
flow_array-reads {n = n} = sign-reads sign.FlowArray λ at. words-reads (sign.Less ∷ []) (then-reads closed_type-reads λ t. words-reads (sign.Open ∷ []) (numbered-reads λ k. words-reads (sign.Close ∷ []) (named-reads λ x. words-reads (sign.Semicolon ∷ []) (done-reads n free (cell.Array at t k x)))))

pub typed-reads : {n : ℕ} → Reads n typed typed free typed_at
unfolding typed typed_at
typed-reads {n = n} = then-reads type-reads λ t. named-reads λ x. done-reads n free (field_of t x)

typed_begins : Begins false (in_hand sign.Close) typed
unfolding typed
typed_begins = begins_bind (type_begins (λ at e. refl) (λ at e. refl) (λ at e. refl) (λ at e t. refl))

pub typed_list-reads : {n : ℕ} → Reads n typed_list typed_list free (typed_list_at n)
unfolding typed_list typed_list_at
typed_list-reads {n = n} = words-reads (sign.Open ∷ []) (choose-reads (in_hand sign.Close) (words-reads (sign.Close ∷ []) (done-reads n free []))
    (then-reads typed-reads λ p. behind-reads (list-reads (in_hand sign.Comma) (words-reads (sign.Comma ∷ []) typed-reads) (sign_begins sign.Comma (λ at e. refl)) (sign_begins sign.Comma (λ at e. refl))) (λ ps. sign_begins sign.Close (λ at e. refl)) λ ps. words-reads (sign.Close ∷ []) (done-reads n free (p ∷ ps)))
    (sign_begins sign.Close (λ at e. refl)) (begins_bind typed_begins))

pub var_rest : Env → P4Type → P4Name → Lang P4Var
var_rest env t x = either (words (sign.Assign ∷ []) (bind (expression env) λ e. words (sign.Semicolon ∷ []) (only (record { at = type_place t; type_ = t; name = x; expr = Some e })))) (words (sign.Semicolon ∷ []) (only (record { at = type_place t; type_ = t; name = x; expr = None })))

pub var_rest-reads : {n : ℕ} (env : Env) (t : P4Type) (x : P4Name) → Reads n (var_rest env t x) (var_rest env t x) free (var_rest_at n env (type_place t) t x)
unfolding var_rest var_rest_at
var_rest-reads {n = n} env t x = choose-reads (in_hand sign.Assign)
    (words-reads (sign.Assign ∷ []) (closed_by-reads env sign.Semicolon (λ i e. refl) λ e. done-reads n free (record { at = type_place t; type_ = t; name = x; expr = Some e })))
    (words-reads (sign.Semicolon ∷ []) (done-reads n free (record { at = type_place t; type_ = t; name = x; expr = None })))
    (sign_begins sign.Assign (λ at e. refl)) (sign_begins sign.Semicolon (λ at e. refl))

-- variables of types that one reader finds
pub var_of-reads : {n : ℕ} {T : Lang P4Type} {p : Reader P4Type} (env : Env) → Reads n T T free p → Reads n (bind T λ t. bind (taken name) λ x. var_rest env t x) (bind T λ t. bind (taken name) λ x. var_rest env t x) free (var_at n env p)
unfolding var_at
var_of-reads env h = then-reads h λ t. named-reads λ x. var_rest-reads env t x

pub var-is : (env : Env) → Same (var env) (bind type_ λ t. bind (taken name) λ x. var_rest env t x)
unfolding var var_rest
var-is env = same

pub var-reads : {n : ℕ} (env : Env) → Reads n (var env) (var env) free (var_at n env type_at)
var-reads env = said (var_of-reads env type-reads) (var-is env) (var-is env)

pub slice_or_none-reads : {n : ℕ} → Reads n slice_or_none slice_or_none (λ o. in_hand sign.OpenSlice) slice_or_none_at
unfolding slice_or_none slice_or_none_at
slice_or_none-reads {n = n} = option-reads (in_hand sign.OpenSlice) None (then-reads slice-reads λ s. done-reads n _ (Some s)) (begins_bind (slice_begins (λ at e. refl))) (λ a e. e)

same_word : (word : List ℕ) (a : Token) (x : ℕ) → the_name word a ≡ Ok x → is_given (the_name word a) ≡ true
same_word word a x e = rw e refl

other_word_of : (at : ℕ) (l : Lexeme) (x : ℕ) → text_of (codes "miss") at l ≡ Ok x → is_given (text_of (codes "hit") at l) ≡ false
other_word_of at (lexeme.Name t) x e = ap (λ (q : List ℕ). is_given (text_of (codes "hit") at (lexeme.Name q))) (same_bytes t (codes "miss") (test_true (bytes_eq t (codes "miss")) at x e))
other_word_of at (lexeme.Sign s) x e = refl
other_word_of at (lexeme.Number v w) x e = refl

pub outcome-reads : {n : ℕ} → Reads n outcome_ outcome_ free outcome_at
unfolding outcome_ outcome_at
outcome-reads {n = n} = choose-reads (λ a. is_given (the_name (codes "hit") a)) (then-reads (the_name-reads (codes "hit") refl) λ at. done-reads n free outcome.Hit) (then-reads (the_name-reads (codes "miss") refl) λ at. done-reads n free outcome.Miss)
    (begins_bind (begins_taken (same_word (codes "hit")))) (begins_bind (begins_taken (λ a x e. other_word_of a.at a.lexeme x e)))
