-- Declarations, parameters and the parser are spelled again by their canonical tokens.
use Rattle.std.proofs.Common.{◌≡◌, ℕ, zero, suc, List, [], ◌∷◌, ◌++◌, map, Some, None, refl, sym, ap, subst, ◌∙◌, append_assoc, append-nil}
use Rattle.std.specs.Prelude.{codes}
use Rattle.std.proofs.lemmas.List.{map-append}
use Rattle.p4_lex.specs.declared.token.Sign.{Sign}
use Rattle.p4_lex.specs.declared.token.Sign.TheVariants as sign
use Rattle.p4_lex.specs.declared.token.Lexeme.{Lexeme}
use Rattle.p4_ast.specs.declared.declaration.P4Field.{P4Field}
use Rattle.p4_ast.specs.declared.declaration.P4Declaration.{P4Declaration}
use Rattle.p4_ast.specs.declared.declaration.P4Declaration.TheVariants as declaration
use Rattle.p4_ast.specs.declared.parser.P4Step.TheVariants as step
use Rattle.p4_ast.specs.declared.parser.P4Target.TheVariants as target
use Rattle.p4_ast.specs.declared.parser.P4Keyset.TheVariants as keyset
use Rattle.p4_ast.specs.declared.parser.P4One.{P4One}
use Rattle.p4_ast.specs.declared.parser.P4One.TheVariants as one
use Rattle.p4_ast.specs.Bare.{bare_field, bare_param, bare_expr}
use Rattle.p4_ast.specs.BareProgram.{bare_header, bare_struct, bare_typedef, bare_const, bare_declaration, bare_one, bare_keyset, bare_case, bare_target, bare_step, bare_state, bare_parser}
use Rattle.p4_print.specs.Shared.{the, all, separated, maybe, field_tokens, param_tokens, path_tokens, left_tokens, slice_tokens}
use Rattle.p4_print.specs.Expressions.{expr_tokens, operand_tokens}
use Rattle.p4_print.specs.Statements.{assign_tokens}
use Rattle.p4_print.specs.Tables.{masked_tokens, one_tokens, keyset_tokens}
use Rattle.p4_print.specs.Programs.{header_tokens, struct_tokens, typedef_tokens, const_tokens, declaration_tokens, case_tokens, select_tokens, target_tokens, extract_tokens, step_tokens, state_tokens, parameters_tokens, parser_tokens}
use Rattle.p4_grammar.specs.Forms.{Lang, only, bind, steps}
use Rattle.p4_grammar.specs.Values.{Env, known}
use Rattle.p4_grammar.specs.Trees.{Declared, declared_more}
use Rattle.p4_grammar.specs.GrammarExpressions.{expression}
use Rattle.p4_grammar.specs.Grammar.{field, fields, header, struct_, typedef, const_, declaration_, declarations, param, one_, keyset_, extract, state_assign, step_, case_, select, target_, state, states, parser}
use Rattle.p4_grammar.proofs.Languages.{Same, same, same_bind, same_either, assoc, factor, bind_only, ◌then◌}
use Rattle.p4_reread.proofs.Again.{Again, Onward, whole, step, last, fork, onto, done, ends, sign-again, name-again, text-again, words_step, behind-again, many-again, again_same, onward_as, any-again}
use Rattle.p4_reread.proofs.AgainPlain.{type-again, path-again, names_tokens}
use Rattle.p4_reread.proofs.AgainExprs.{expr-again, operand-again, expression-again, expressions-again}
use Rattle.p4_reread.proofs.AgainStatements.{slice_or_none-again}

-- ---- declarations

pub field-again : Again field field_tokens bare_field
unfolding field field_tokens
field-again = whole (step type-again λ t u e. step name-again λ x y g. words_step (sign.Semicolon ∷ []) (done refl (λ i. record { at = 0; type_ = e i; name = g i })))

-- fields in braces
abbrev pub fields_tokens : List P4Field → List Lexeme
fields_tokens fs = the sign.OpenBrace ∷ (all field_tokens fs ++ (the sign.CloseBrace ∷ []))

fields-again : Again fields fields_tokens (map bare_field)
unfolding fields
fields-again = whole (words_step (sign.OpenBrace ∷ []) (step (many-again field-again) λ fs gs e. words_step (sign.CloseBrace ∷ []) (done refl e)))

header-again : Again header header_tokens bare_header
unfolding header header_tokens
header-again = whole (step (sign-again sign.Header) λ at other u. step name-again λ x y e. last fields-again λ fs gs g. ends refl (λ i. record { at = 0; name = e i; fields = g i }))

struct-again : Again struct_ struct_tokens bare_struct
unfolding struct_ struct_tokens
struct-again = whole (step (sign-again sign.Struct) λ at other u. step name-again λ x y e. last fields-again λ fs gs g. ends refl (λ i. record { at = 0; name = e i; fields = g i }))

typedef-again : Again typedef typedef_tokens bare_typedef
unfolding typedef typedef_tokens
typedef-again = whole (step (sign-again sign.Typedef) λ at other u. step type-again λ t v e. step name-again λ x y g. words_step (sign.Semicolon ∷ []) (done refl (λ i. record { at = 0; type_ = e i; name = g i })))

pub const-again : (env : Env) → Again (const_ env) const_tokens bare_const
unfolding const_ const_tokens
const-again env = whole (step (sign-again sign.Const) λ at other u. step type-again λ t v e. step name-again λ x y g. words_step (sign.Assign ∷ []) (step (expression-again env) λ a b h. words_step (sign.Semicolon ∷ []) (done refl (λ i. record { at = 0; type_ = e i; name = g i; expr = h i }))))

declaration-again : (env : Env) → Again (declaration_ env) declaration_tokens bare_declaration
unfolding declaration_ declaration_tokens
declaration-again env = whole (fork (last header-again λ h k e. ends refl (ap declaration.Header e))
    (fork (last struct-again λ s t e. ends refl (ap declaration.Struct e))
    (fork (last typedef-again λ t u e. ends refl (ap declaration.Typedef e))
    (last (const-again env) λ c d e. ends refl (ap declaration.Const e)))))

-- the typedefs go by the texts of names, wherever these stand
known_bare : (env : Env) (d : P4Declaration) → known env d ≡ known env (bare_declaration d)
known_bare env (declaration.Header h) = refl
known_bare env (declaration.Struct s) = refl
known_bare env (declaration.Typedef t) = refl
known_bare env (declaration.Const c) = refl

known_same : (env : Env) (d e : P4Declaration) → bare_declaration e ≡ bare_declaration d → known env e ≡ known env d
known_same env d e h = known_bare env e ∙ ap (known env) h ∙ sym (known_bare env d)

-- the typedefs, and the declarations without places
abbrev pub bare_declared : Declared → Declared
bare_declared s = (s.0, map bare_declaration s.1)

abbrev pub declared_tokens : Declared → List Lexeme
declared_tokens s = all declaration_tokens s.1

abbrev more : Declared → Lang Declared
more s = bind (declaration_ s.0) λ d. only (declared_more s d)

all_snoc : (ds : List P4Declaration) (d : P4Declaration) (r : List Lexeme) → all declaration_tokens ds ++ (declaration_tokens d ++ r) ≡ all declaration_tokens (ds ++ d ∷ []) ++ r
all_snoc [] d r = ap (λ (q : List Lexeme). q ++ r) (sym (append-nil (declaration_tokens d)))
all_snoc (c ∷ ds) d r = append_assoc (declaration_tokens c) (all declaration_tokens ds) (declaration_tokens d ++ r) ∙ ap (λ (q : List Lexeme). declaration_tokens c ++ q) (all_snoc ds d r) ∙ sym (append_assoc (declaration_tokens c) (all declaration_tokens (ds ++ d ∷ [])) r)

-- one declaration, and then the others
one_more : (k : ℕ) (s : Declared) → Same (bind (more s) λ r. steps k more r) (bind (declaration_ s.0) λ d. steps k more (declared_more s d))
one_more k s = assoc then same_bind same (λ d. bind_only)

declared_onward : (k : ℕ) (env : Env) (ds es : List P4Declaration) → map bare_declaration es ≡ map bare_declaration ds → Onward (λ r. all declaration_tokens ds ++ r) declared_tokens bare_declared (steps k more (env, ds)) (steps k more (env, es))
declared_onward zero env ds es e = record { left = λ apart y w d. absurd d }
declared_onward (suc k) env ds es e = fork
    (onward_as (λ r. refl) (one_more k (env, ds)) (one_more k (env, es)) (step (declaration-again env) λ d c g. onward_as (λ r. all_snoc ds d r) same same (moved d c g (declared_onward k (known env d) (ds ++ d ∷ []) (es ++ c ∷ []) (longer d c g)))))
    (done (sym (append-nil (all declaration_tokens ds))) (ap (λ (q : List P4Declaration). (env, q)) e)) where
      longer : (d c : P4Declaration) → bare_declaration c ≡ bare_declaration d → map bare_declaration (es ++ c ∷ []) ≡ map bare_declaration (ds ++ d ∷ [])
      longer d c g = map-append bare_declaration es (c ∷ []) ∙ ap (λ (q : List P4Declaration). q ++ bare_declaration c ∷ []) e ∙ ap (λ (q : P4Declaration). map bare_declaration ds ++ q ∷ []) g ∙ sym (map-append bare_declaration ds (d ∷ []))

      moved : (d c : P4Declaration) → bare_declaration c ≡ bare_declaration d → Onward (λ r. all declaration_tokens (ds ++ d ∷ []) ++ r) declared_tokens bare_declared (steps k more (known env d, ds ++ d ∷ [])) (steps k more (known env d, es ++ c ∷ [])) → Onward (λ r. all declaration_tokens (ds ++ d ∷ []) ++ r) declared_tokens bare_declared (steps k more (known env d, ds ++ d ∷ [])) (steps k more (known env c, es ++ c ∷ []))
      moved d c g h = subst (λ (n : Env). Onward (λ r. all declaration_tokens (ds ++ d ∷ []) ++ r) declared_tokens bare_declared (steps k more (known env d, ds ++ d ∷ [])) (steps k more (n, es ++ c ∷ []))) (sym (known_same env d c g)) h

pub declarations-again : Again declarations declared_tokens bare_declared
unfolding declarations
declarations-again = any-again λ k. whole (declared_onward k [] [] [] refl)

-- ---- parameters and keysets

pub param-again : (s : Sign) → Again (param s) (λ p. the s ∷ param_tokens p) bare_param
unfolding param
param-again s = whole (step (sign-again s) λ at other u. step name-again λ t v e. step name-again λ x y g. done refl (λ i. record { at = 0; type_ = e i; name = g i }))

-- an expression as an operand
side-again : (env : Env) → Again (expression env) operand_tokens bare_expr
unfolding expression
side-again env = whole (last (operand-again env) λ x y e. ends refl e)

one-again : (env : Env) → Again (one_ env) one_tokens bare_one
unfolding one_ one_tokens masked_tokens
one-again env = again_same (same_either same factor) (whole (fork (step (sign-again sign.Any) λ at other u. done refl refl)
    (fork (step (operand-again env) λ x y e. words_step (sign.Mask ∷ []) (last (side-again env) λ m n g. ends refl (λ i. one.Expr 0 (e i) (Some (g i)))))
    (last (expr-again env) λ x y e. ends refl (λ i. one.Expr 0 (e i) None)))))

-- at least two in parentheses
tuple_tokens : (o p : P4One) (ps : List P4One) → the sign.Open ∷ (separated sign.Comma one_tokens (o ∷ p ∷ ps) ++ (the sign.Close ∷ [])) ≡ the sign.Open ∷ (one_tokens o ++ (the sign.Comma ∷ (one_tokens p ++ (all (λ q. the sign.Comma ∷ one_tokens q) ps ++ (the sign.Close ∷ [])))))
tuple_tokens o p ps =
    let others : List Lexeme = all (λ q. the sign.Comma ∷ one_tokens q) ps in
    ap (λ (q : List Lexeme). the sign.Open ∷ q) (append_assoc (one_tokens o) (the sign.Comma ∷ (one_tokens p ++ others)) (the sign.Close ∷ []) ∙ ap (λ (q : List Lexeme). one_tokens o ++ (the sign.Comma ∷ q)) (append_assoc (one_tokens p) others (the sign.Close ∷ [])))

pub keyset-again : (env : Env) → Again (keyset_ env) keyset_tokens bare_keyset
unfolding keyset_ keyset_tokens
keyset-again env = whole (fork (step (sign-again sign.Default) λ at other u. done refl refl)
    (fork (last (one-again env) λ o p e. ends refl (ap keyset.One e))
    (step (sign-again sign.Open) λ at other u. step (one-again env) λ o n e. words_step (sign.Comma ∷ []) (step (one-again env) λ p q g. step (many-again (behind-again sign.Comma (one-again env))) λ ps qs h. words_step (sign.Close ∷ []) (done (tuple_tokens o p ps) (λ i. keyset.Tuple 0 (e i ∷ (g i ∷ h i))))))))

-- ---- the parser

extract-again : Again extract step_tokens bare_step
unfolding extract step_tokens extract_tokens path_tokens
extract-again = whole (step name-again λ x y e. words_step (sign.Dot ∷ []) (step (text-again (codes "extract")) λ at other u. words_step (sign.Open ∷ []) (step path-again λ p q g. words_step (sign.Close ∷ sign.Semicolon ∷ []) (done refl (λ i. step.Extract (record { at = 0; name = e i; path = record { at = 0; names = g i } }))))))

state_assign-again : (env : Env) → Again (state_assign env) step_tokens bare_step
unfolding state_assign step_tokens assign_tokens left_tokens path_tokens
state_assign-again env = whole (step path-again λ p q e. step slice_or_none-again λ s t g. words_step (sign.Assign ∷ []) (step (expression-again env) λ a b h. words_step (sign.Semicolon ∷ []) (done
    (append_assoc (names_tokens p) (maybe slice_tokens s) (the sign.Assign ∷ (expr_tokens a ++ (the sign.Semicolon ∷ []))))
    (λ i. step.Assign (record { at = 0; left = record { at = 0; path = record { at = 0; names = e i }; slice = g i }; expr = h i })))))

step-again : (env : Env) → Again (step_ env) step_tokens bare_step
unfolding step_
step-again env = whole (fork (onto extract-again (λ y. refl)) (onto (state_assign-again env) (λ y. refl)))

case-again : (env : Env) → Again (case_ env) case_tokens bare_case
unfolding case_ case_tokens
case-again env = whole (step (keyset-again env) λ k l e. words_step (sign.Colon ∷ []) (step name-again λ x y g. words_step (sign.Semicolon ∷ []) (done refl (λ i. record { at = 0; keyset = e i; name = g i }))))

target-again : (env : Env) → Again (target_ env) target_tokens bare_target
unfolding target_ select target_tokens select_tokens
target-again env = whole (fork
    (step (sign-again sign.Select) λ at other u. words_step (sign.Open ∷ []) (step (expressions-again env) λ es fs e. words_step (sign.Close ∷ sign.OpenBrace ∷ []) (step (many-again (case-again env)) λ cs ds g. words_step (sign.CloseBrace ∷ []) (done refl (λ i. target.Select 0 (e i) (g i))))))
    (step name-again λ x y e. words_step (sign.Semicolon ∷ []) (done refl (λ i. target.Name 0 (e i)))))

state-again : (env : Env) → Again (state env) state_tokens bare_state
unfolding state state_tokens
state-again env = whole (step (sign-again sign.State) λ at other u. step name-again λ x y e. words_step (sign.OpenBrace ∷ []) (step (many-again (step-again env)) λ ss ts g. words_step (sign.Transition ∷ []) (step (target-again env) λ t v h. words_step (sign.CloseBrace ∷ []) (done refl (λ i. record { at = 0; name = e i; steps = g i; target = h i })))))

states-again : (env : Env) → Again (states env) (λ ss. the sign.OpenBrace ∷ (all state_tokens ss ++ (the sign.CloseBrace ∷ []))) (map bare_state)
unfolding states
states-again env = whole (words_step (sign.OpenBrace ∷ []) (step (many-again (state-again env)) λ ss ts e. words_step (sign.CloseBrace ∷ []) (done refl e)))

pub parser-again : (env : Env) → Again (parser env) parser_tokens bare_parser
unfolding parser parser_tokens parameters_tokens
parser-again env = whole (step (sign-again sign.Parser) λ at other u. step name-again λ x y e. words_step (sign.Open ∷ sign.PacketIn ∷ []) (step name-again λ p q g. words_step (sign.Comma ∷ []) (step (param-again sign.Out) λ h k l. words_step (sign.Comma ∷ []) (step (param-again sign.Inout) λ m n o. words_step (sign.Comma ∷ sign.Inout ∷ sign.StdT ∷ []) (step name-again λ s t r. words_step (sign.Close ∷ []) (last (states-again env) λ ss ts f. ends refl (λ i. record { at = 0; name = e i; packet = g i; headers = l i; meta = o i; std = r i; states = f i })))))))
