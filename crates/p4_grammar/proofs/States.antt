-- The readers of states and of the parser fit.
use Rattle.std.proofs.Common.{◌≡◌, ℕ, Bool, true, List, [], ◌∷◌, Option, Some, None, refl, sym, subst, inl, inr}
use Rattle.std.specs.Prelude.{codes}
use Rattle.p4_lex.specs.declared.token.Token.{Token}
use Rattle.p4_lex.specs.declared.token.Sign.TheVariants as sign
use Rattle.p4_lex.specs.declared.token.Lexeme.TheVariants as lexeme
use Rattle.p4_ast.specs.declared.name.P4Name.{P4Name}
use Rattle.p4_ast.specs.declared.parser.P4Step.{P4Step}
use Rattle.p4_ast.specs.declared.parser.P4Step.TheVariants as step
use Rattle.p4_ast.specs.declared.parser.P4Target.TheVariants as target
use Rattle.p4_grammar.specs.Forms.{Lang, only, bind, either, taken}
use Rattle.p4_grammar.specs.Tokens.{name, words, in_hand, but, called}
use Rattle.p4_grammar.specs.Values.{Env, path_of, first_at}
use Rattle.p4_grammar.specs.Trees.{alone, left_of, keyset_place}
use Rattle.p4_grammar.specs.GrammarExpressions.{path, names, expr, expression}
use Rattle.p4_grammar.specs.GrammarStatements.{slice_or_none}
use Rattle.p4_grammar.specs.Grammar.{one_, keyset_, extract, state_assign, step_, case_, select, target_, state, states, parser}
use Rattle.p4_grammar.specs.Reading.{state_assign_at, extract_rest_at, or_extract_at, step_at, case_at, select_at, target_at, state_at, states_at, parser_at}
use Rattle.p4_grammar.proofs.Languages.{Same, same, same_bind, same_either, ◌then◌}
use Rattle.p4_grammar.proofs.Forms.{Reads, done-reads}
use Rattle.p4_grammar.proofs.Basics.{free, tok, then-reads, words-reads, sign-reads, named-reads, Begins, begins_bind, begins_either, choose-reads, said, sign_begins, name_begins, behind-reads}
use Rattle.p4_grammar.proofs.Expressions.{names-reads, path-reads}
use Rattle.p4_grammar.proofs.Factored.{path-same, expr-begins}
use Rattle.p4_grammar.proofs.Plain.{closed_by-reads, listed-reads, expressions-reads, slice_or_none-reads, param-reads, operand_goes}
use Rattle.p4_grammar.proofs.Paths.{calls_one, one-same, begins_or_none}
use Rattle.p4_grammar.proofs.PathsSame.{both}
use Rattle.p4_grammar.proofs.Keysets.{any, masked, one-is}
use Rattle.p4_grammar.proofs.KeysetsSame.{keyset-reads}

-- ---- statements of states

unfoldable extract_rest : P4Name → Lang P4Step
extract_rest x = words (sign.Open ∷ []) (bind path λ q. words (sign.Close ∷ sign.Semicolon ∷ []) (only (step.Extract (record { at = x.at; name = x; path = path_of q }))))

unfoldable state_assigns : Env → List P4Name → Lang P4Step
state_assigns env xs = bind slice_or_none λ s. words (sign.Assign ∷ []) (bind (expression env) λ e. words (sign.Semicolon ∷ []) (only (step.Assign (record { at = first_at xs; left = left_of xs s; expr = e }))))

unfoldable or_extract : Option P4Name → Lang P4Step → Lang P4Step
or_extract None P = P
or_extract (Some x) P = either (extract_rest x) P

extract_rest-reads : {n : ℕ} (x : P4Name) → Reads n (extract_rest x) (extract_rest x) free (extract_rest_at n x)
unfolding extract_rest extract_rest_at
extract_rest-reads {n = n} x = words-reads (sign.Open ∷ []) (behind-reads path-reads (λ q. sign_begins sign.Close (λ at e. refl)) λ q. words-reads (sign.Close ∷ sign.Semicolon ∷ []) (done-reads n free (step.Extract (record { at = x.at; name = x; path = path_of q }))))

extract_begins : {b : Bool} {t : Token → Bool} (x : P4Name) → ((at e : ℕ) → t (tok at e (lexeme.Sign sign.Open)) ≡ b) → Begins b t (extract_rest x)
unfolding extract_rest
extract_begins x h = sign_begins sign.Open h

state_assigns-reads : {n : ℕ} (env : Env) (xs : List P4Name) → Reads n (state_assigns env xs) (state_assigns env xs) free (state_assign_at n env xs)
unfolding state_assigns state_assign_at
state_assigns-reads {n = n} env xs = behind-reads slice_or_none-reads (λ s. sign_begins sign.Assign (λ at e. refl)) λ s. words-reads (sign.Assign ∷ []) (closed_by-reads env sign.Semicolon (λ at e. refl) λ e. done-reads n free (step.Assign (record { at = first_at xs; left = left_of xs s; expr = e })))

assigns_begins : {b : Bool} {t : Token → Bool} (env : Env) (xs : List P4Name) → ((at e : ℕ) → t (tok at e (lexeme.Sign sign.OpenSlice)) ≡ b) → ((at e : ℕ) → t (tok at e (lexeme.Sign sign.Assign)) ≡ b) → Begins b t (state_assigns env xs)
unfolding state_assigns
assigns_begins env xs h k = begins_or_none h (λ s. sign_begins sign.Assign k)

or_extract-reads : {n : ℕ} (env : Env) (xs : List P4Name) (o : Option P4Name) → Reads n (or_extract o (state_assigns env xs)) (or_extract o (state_assigns env xs)) free (or_extract_at n o (state_assign_at n env xs))
unfolding or_extract or_extract_at
or_extract-reads env xs None = state_assigns-reads env xs
or_extract-reads env xs (Some x) = choose-reads (in_hand sign.Open) (extract_rest-reads x) (state_assigns-reads env xs) (extract_begins x (λ at e. refl)) (assigns_begins env xs (λ at e. refl) (λ at e. refl))

or_extract_begins : {b : Bool} {t : Token → Bool} (env : Env) (xs : List P4Name) (o : Option P4Name) → ((at e : ℕ) → t (tok at e (lexeme.Sign sign.Open)) ≡ b) → ((at e : ℕ) → t (tok at e (lexeme.Sign sign.OpenSlice)) ≡ b) → ((at e : ℕ) → t (tok at e (lexeme.Sign sign.Assign)) ≡ b) → Begins b t (or_extract o (state_assigns env xs))
unfolding or_extract
or_extract_begins env xs None h i j = assigns_begins env xs i j
or_extract_begins env xs (Some x) h i j = begins_either (extract_begins x h) (assigns_begins env xs i j)

fstep : Env → Lang P4Step
fstep env = bind (taken name) λ x. bind names λ xs. or_extract (alone (called (codes "extract") x xs)) (state_assigns env (x ∷ xs))

fstep-reads : {n : ℕ} (env : Env) → Reads n (fstep env) (fstep env) free (step_at n env)
unfolding fstep step_at
fstep-reads env = named-reads λ x. behind-reads names-reads (λ xs. or_extract_begins env (x ∷ xs) (alone (called (codes "extract") x xs)) (λ at e. refl) (λ at e. refl) (λ at e. refl)) λ xs. or_extract-reads env (x ∷ xs) (alone (called (codes "extract") x xs))

some_is : (p q : P4Name) → Some p ≡ Some q → p ≡ q
some_is p q e = cc

extract_to : (o : Option P4Name) (P : Lang P4Step) (y : P4Step) (w : List Token) → either (λ z u. (c : P4Name) × (o ≡ Some c) × extract_rest c z u) P y w → or_extract o P y w
unfolding or_extract
extract_to None P y w (inr d) = d
extract_to None P y w (inl (p, e, k)) = absurd cc
extract_to (Some q) P y w (inr d) = inr d
extract_to (Some q) P y w (inl (p, e, k)) = inl (subst (λ (r : P4Name). extract_rest r y w) (sym (some_is q p e)) k)

extract_back : (o : Option P4Name) (P : Lang P4Step) (y : P4Step) (w : List Token) → or_extract o P y w → either (λ z u. (c : P4Name) × (o ≡ Some c) × extract_rest c z u) P y w
unfolding or_extract
extract_back None P y w d = inr d
extract_back (Some q) P y w (inl k) = inl (q, refl, k)
extract_back (Some q) P y w (inr d) = inr d

or_extract-same : (o : Option P4Name) (P : Lang P4Step) → Same (either (λ z u. (c : P4Name) × (o ≡ Some c) × extract_rest c z u) P) (or_extract o P)
or_extract-same o P = record { to = extract_to o P; back = extract_back o P }

extract-same : Same extract (bind (taken name) λ x. bind names λ xs. calls_one (codes "extract") x xs extract_rest)
unfolding extract extract_rest
extract-same = one-same (codes "extract") (λ x. words (sign.Open ∷ []) (bind path λ q. words (sign.Close ∷ sign.Semicolon ∷ []) (only (step.Extract (record { at = x.at; name = x; path = path_of q })))))

assign-same : (env : Env) → Same (state_assign env) (bind (taken name) λ x. bind names λ xs. state_assigns env (x ∷ xs))
unfolding state_assign state_assigns
assign-same env = path-same

step-same : (env : Env) → Same (step_ env) (fstep env)
unfolding step_ fstep
step-same env = same_either extract-same (assign-same env) then both then same_bind same (λ x. same_bind same (λ xs. or_extract-same (alone (called (codes "extract") x xs)) (state_assigns env (x ∷ xs))))

pub step-reads : {n : ℕ} (env : Env) → Reads n (step_ env) (step_ env) free (step_at n env)
step-reads env = said (fstep-reads env) (step-same env) (step-same env)

fstep_goes : (env : Env) → Begins true (but sign.Transition) (fstep env)
unfolding fstep
fstep_goes env = name_begins (λ at e t. refl)

step_goes : (env : Env) → Begins true (but sign.Transition) (step_ env)
step_goes env = record { at = λ x u m d. (fstep_goes env).at x u m ((step-same env).to x u d) }

-- ---- targets, states and the parser

one_goes : (env : Env) → Begins true (but sign.CloseBrace) (either any (bind (expr env) (masked env)))
unfolding any
one_goes env = begins_either (sign_begins sign.Any (λ i e. refl)) (begins_bind (operand_goes (expr-begins env)))

one_goes_ : (env : Env) → Begins true (but sign.CloseBrace) (one_ env)
one_goes_ env = record { at = λ x u m d. (one_goes env).at x u m (one-is env x u d) }

pub keyset_goes : (env : Env) → Begins true (but sign.CloseBrace) (keyset_ env)
unfolding keyset_
keyset_goes env = begins_either (sign_begins sign.Default (λ i e. refl)) (begins_either (begins_bind (one_goes_ env)) (sign_begins sign.Open (λ i e. refl)))

case-reads : {n : ℕ} (env : Env) → Reads n (case_ env) (case_ env) free (case_at n env)
unfolding case_ case_at
case-reads {n = n} env = behind-reads (keyset-reads env) (λ k. sign_begins sign.Colon (λ i e. refl)) λ k. words-reads (sign.Colon ∷ []) (named-reads λ x. words-reads (sign.Semicolon ∷ []) (done-reads n free (record { at = keyset_place k; keyset = k; name = x })))

case_goes : (env : Env) → Begins true (but sign.CloseBrace) (case_ env)
unfolding case_
case_goes env = begins_bind (keyset_goes env)

select-reads : {n : ℕ} (env : Env) → Reads n (select env) (select env) free (select_at n env)
unfolding select select_at
select-reads {n = n} env = sign-reads sign.Select λ at. words-reads (sign.Open ∷ []) (behind-reads (expressions-reads env) (λ es. sign_begins sign.Close (λ i e. refl)) λ es. words-reads (sign.Close ∷ sign.OpenBrace ∷ []) (listed-reads sign.CloseBrace (λ i e. refl) (case-reads env) (case_goes env) (case_goes env) λ cs. done-reads n free (target.Select at es cs)))

select_begins : (env : Env) → Begins true (in_hand sign.Select) (select env)
unfolding select
select_begins env = sign_begins sign.Select (λ i e. refl)

target-reads : {n : ℕ} (env : Env) → Reads n (target_ env) (target_ env) free (target_at n env)
unfolding target_ target_at
target-reads {n = n} env = choose-reads (in_hand sign.Select) (select-reads env) (named-reads λ x. words-reads (sign.Semicolon ∷ []) (done-reads n free (target.Name x.at x))) (select_begins env) (name_begins (λ i e t. refl))

state-reads : {n : ℕ} (env : Env) → Reads n (state env) (state env) free (state_at n env)
unfolding state state_at
state-reads {n = n} env = sign-reads sign.State λ at. named-reads λ x. words-reads (sign.OpenBrace ∷ []) (listed-reads sign.Transition (λ i e. refl) (step-reads env) (step_goes env) (step_goes env) λ ss. then-reads (target-reads env) λ t. words-reads (sign.CloseBrace ∷ []) (done-reads n free (record { at = at; name = x; steps = ss; target = t })))

state_goes : (env : Env) → Begins true (but sign.CloseBrace) (state env)
unfolding state
state_goes env = sign_begins sign.State (λ i e. refl)

states-reads : {n : ℕ} (env : Env) → Reads n (states env) (states env) free (states_at n env)
unfolding states states_at
states-reads {n = n} env = words-reads (sign.OpenBrace ∷ []) (listed-reads sign.CloseBrace (λ i e. refl) (state-reads env) (state_goes env) (state_goes env) λ ss. done-reads n free ss)

pub parser-reads : {n : ℕ} (env : Env) → Reads n (parser env) (parser env) free (parser_at n env)
unfolding parser parser_at
parser-reads {n = n} env = sign-reads sign.Parser λ at. named-reads λ x. words-reads (sign.Open ∷ sign.PacketIn ∷ []) (named-reads λ p. words-reads (sign.Comma ∷ []) (then-reads (param-reads sign.Out) λ h. words-reads (sign.Comma ∷ []) (then-reads (param-reads sign.Inout) λ m. words-reads (sign.Comma ∷ sign.Inout ∷ sign.StdT ∷ []) (named-reads λ s. words-reads (sign.Close ∷ []) (then-reads (states-reads env) λ ss. done-reads n free (record { at = at; name = x; packet = p; headers = h; meta = m; std = s; states = ss }))))))

pub parser_begins : {b : Bool} {t : Token → Bool} (env : Env) → ((at e : ℕ) → t (tok at e (lexeme.Sign sign.Parser)) ≡ b) → Begins b t (parser env)
unfolding parser
parser_begins env h = sign_begins sign.Parser h
