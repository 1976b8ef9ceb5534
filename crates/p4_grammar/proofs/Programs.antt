-- The readers of controls and of programs fit.
use Rattle.std.proofs.Common.{◌≡◌, ℕ, suc, ◌<◌, length, arith, Bool, true, List, [], ◌∷◌, Result, Ok, Err, refl, sym, ◌∙◌}
use Rattle.p4_lex.specs.declared.token.Token.{Token}
use Rattle.p4_lex.specs.declared.token.Sign.TheVariants as sign
use Rattle.p4_lex.specs.declared.token.Lexeme.TheVariants as lexeme
use Rattle.p4_ast.specs.declared.control.P4Local.TheVariants as local
use Rattle.p4_ast.specs.declared.program.P4Program.{P4Program}
use Rattle.p4_grammar.specs.Forms.{only, bind, done_at, bind_at, IsFault}
use Rattle.p4_grammar.specs.Tokens.{in_hand, but}
use Rattle.p4_grammar.specs.Values.{Env}
use Rattle.p4_grammar.specs.Trees.{declared_more, program_of}
use Rattle.p4_grammar.specs.GrammarStatements.{var}
use Rattle.p4_grammar.specs.Grammar.{declaration_, declarations, table, flow_cell, flow_array, action, local_, ingress, program}
use Rattle.p4_grammar.specs.Reading.{declaration_at, begins_declaration, declarations_at, action_at, local_at, ingress_at, program_at, programs_of}
use Rattle.p4_grammar.proofs.Forms.{Reads, done-reads, whole_sound, whole_complete, whole_fault}
use Rattle.p4_grammar.proofs.Basics.{free, tok, then-reads, words-reads, sign-reads, named-reads, Begins, begins_bind, begins_either, choose-reads, sign_begins, behind-reads}
use Rattle.p4_grammar.proofs.Expressions.{type_begins}
use Rattle.p4_grammar.proofs.Plain.{declaration-reads, declaration_begins, const-reads, const_begins, param-reads, last_param-reads, flow_cell-reads, flow_array-reads, typed_list-reads, var-reads, listed-reads, deparser-reads, package-reads}
use Rattle.p4_grammar.proofs.Statements.{block-reads}
use Rattle.p4_grammar.proofs.States.{parser-reads, parser_begins}
use Rattle.p4_grammar.proofs.Steps.{steps-reads}
use Rattle.p4_grammar.proofs.Tables.{table-reads}

-- ---- what is declared in the ingress control

action-reads : {n : ℕ} (env : Env) → Reads n (action env) (action env) free (action_at n env)
unfolding action action_at
action-reads {n = n} env = sign-reads sign.Action λ at. named-reads λ x. then-reads typed_list-reads λ ps. then-reads (block-reads env) λ b. done-reads n free (record { at = at; name = x; params = ps; block = b })

cell_begins : {b : Bool} {t : Token → Bool} → ((at e : ℕ) → t (tok at e (lexeme.Sign sign.FlowCell)) ≡ b) → Begins b t flow_cell
unfolding flow_cell
cell_begins h = sign_begins sign.FlowCell h

array_begins : {b : Bool} {t : Token → Bool} → ((at e : ℕ) → t (tok at e (lexeme.Sign sign.FlowArray)) ≡ b) → Begins b t flow_array
unfolding flow_array
array_begins h = sign_begins sign.FlowArray h

action_begins : {b : Bool} {t : Token → Bool} (env : Env) → ((at e : ℕ) → t (tok at e (lexeme.Sign sign.Action)) ≡ b) → Begins b t (action env)
unfolding action
action_begins env h = sign_begins sign.Action h

table_begins : {b : Bool} {t : Token → Bool} (env : Env) → ((at e : ℕ) → t (tok at e (lexeme.Sign sign.Table)) ≡ b) → Begins b t (table env)
unfolding table
table_begins env h = sign_begins sign.Table h

var_begins : {b : Bool} {t : Token → Bool} (env : Env) → ((at e : ℕ) → t (tok at e (lexeme.Sign sign.Bit)) ≡ b) → ((at e : ℕ) → t (tok at e (lexeme.Sign sign.Bool)) ≡ b) → ((at e : ℕ) → t (tok at e (lexeme.Sign sign.StdT)) ≡ b) → ((at e : ℕ) (text : List ℕ) → t (tok at e (lexeme.Name text)) ≡ b) → Begins b t (var env)
unfolding var
var_begins env h i j k = begins_bind (type_begins h i j k)

local-reads : {n : ℕ} (env : Env) → Reads n (local_ env) (local_ env) free (local_at n env)
unfolding local_ local_at
local-reads {n = n} env = choose-reads (in_hand sign.Const) (then-reads (const-reads env) λ c. done-reads n free (local.Const c))
    (choose-reads (in_hand sign.FlowCell) (then-reads flow_cell-reads λ c. done-reads n free (local.Cell c))
    (choose-reads (in_hand sign.FlowArray) (then-reads flow_array-reads λ c. done-reads n free (local.Cell c))
    (choose-reads (in_hand sign.Action) (then-reads (action-reads env) λ a. done-reads n free (local.Action a))
    (choose-reads (in_hand sign.Table) (then-reads (table-reads env) λ t. done-reads n free (local.Table t)) (then-reads (var-reads env) λ v. done-reads n free (local.Var v))
    (begins_bind (table_begins env (λ i e. refl))) (begins_bind (var_begins env (λ i e. refl) (λ i e. refl) (λ i e. refl) (λ i e t. refl))))
    (begins_bind (action_begins env (λ i e. refl))) (begins_either (begins_bind (table_begins env (λ i e. refl))) (begins_bind (var_begins env (λ i e. refl) (λ i e. refl) (λ i e. refl) (λ i e t. refl)))))
    (begins_bind (array_begins (λ i e. refl))) (begins_either (begins_bind (action_begins env (λ i e. refl))) (begins_either (begins_bind (table_begins env (λ i e. refl))) (begins_bind (var_begins env (λ i e. refl) (λ i e. refl) (λ i e. refl) (λ i e t. refl))))))
    (begins_bind (cell_begins (λ i e. refl))) (begins_either (begins_bind (array_begins (λ i e. refl))) (begins_either (begins_bind (action_begins env (λ i e. refl))) (begins_either (begins_bind (table_begins env (λ i e. refl))) (begins_bind (var_begins env (λ i e. refl) (λ i e. refl) (λ i e. refl) (λ i e t. refl)))))))
    (begins_bind (const_begins env (λ i e. refl))) (begins_either (begins_bind (cell_begins (λ i e. refl))) (begins_either (begins_bind (array_begins (λ i e. refl))) (begins_either (begins_bind (action_begins env (λ i e. refl))) (begins_either (begins_bind (table_begins env (λ i e. refl))) (begins_bind (var_begins env (λ i e. refl) (λ i e. refl) (λ i e. refl) (λ i e t. refl)))))))

local_goes : (env : Env) → Begins true (but sign.Apply) (local_ env)
unfolding local_
local_goes env = begins_either (begins_bind (const_begins env (λ i e. refl))) (begins_either (begins_bind (cell_begins (λ i e. refl))) (begins_either (begins_bind (array_begins (λ i e. refl))) (begins_either (begins_bind (action_begins env (λ i e. refl))) (begins_either (begins_bind (table_begins env (λ i e. refl))) (begins_bind (var_begins env (λ i e. refl) (λ i e. refl) (λ i e. refl) (λ i e t. refl)))))))

ingress-reads : {n : ℕ} (env : Env) → Reads n (ingress env) (ingress env) free (ingress_at n env)
unfolding ingress ingress_at
ingress-reads {n = n} env = sign-reads sign.Control λ at. named-reads λ x. words-reads (sign.Open ∷ []) (then-reads (param-reads sign.Inout) λ h. words-reads (sign.Comma ∷ []) (then-reads (param-reads sign.Inout) λ m. words-reads (sign.Comma ∷ sign.Inout ∷ sign.StdT ∷ []) (named-reads λ s. behind-reads last_param-reads (λ rp. sign_begins sign.Close (λ i e. refl)) λ rp. words-reads (sign.Close ∷ sign.OpenBrace ∷ []) (listed-reads sign.Apply (λ i e. refl) (local-reads env) (local_goes env) (local_goes env) λ ls. then-reads (block-reads env) λ b. words-reads (sign.CloseBrace ∷ []) (done-reads n free (record { at = at; name = x; headers = h; meta = m; std = s; rp = rp; locals = ls; block = b }))))))

-- ---- programs

declarations-reads : {n : ℕ} → Reads n declarations declarations (λ s. begins_declaration) (declarations_at n)
unfolding declarations declarations_at
declarations-reads {n = n} = steps-reads n begins_declaration (λ s. bind (declaration_ s.0) λ d. only (declared_more s d)) (λ s. bind_at (declaration_at n s.0) λ d. done_at (declared_more s d))
    (λ s. then-reads (declaration-reads s.0) λ d. done-reads n free (declared_more s d))
    (λ s. begins_bind (declaration_begins s.0 (λ i e. refl) (λ i e. refl) (λ i e. refl) (λ i e. refl))) ([], [])

pub program-reads : (n : ℕ) → Reads n program program free (program_at n)
unfolding program program_at
program-reads n = behind-reads declarations-reads (λ s. begins_bind (parser_begins s.0 (λ i e. refl))) λ s. then-reads (parser-reads s.0) λ p. then-reads (ingress-reads s.0) λ i. then-reads deparser-reads λ d. then-reads package-reads λ k. done-reads n free (program_of s.1 p i d k)

-- ---- the whole text

longer : (w : List Token) → length w < suc (length w)
longer w = omega arith

pub program_sound : (w : List Token) (x : P4Program) → programs_of w ≡ Ok x → program x w
unfolding programs_of
program_sound w x e = whole_sound program free (program_at (suc (length w))) w (suc (length w)) (longer w) (program-reads (suc (length w))) x e

pub program_complete : (w : List Token) (x : P4Program) → program x w → programs_of w ≡ Ok x
unfolding programs_of
program_complete w x d = whole_complete program free (program_at (suc (length w))) w (suc (length w)) (longer w) (program-reads (suc (length w))) x d

pub program_fault : (w r : List Token) → programs_of w ≡ Err r → IsFault program w r
unfolding programs_of
program_fault w r e = whole_fault program free (program_at (suc (length w))) w (suc (length w)) (longer w) (program-reads (suc (length w))) r e

abbrev ok_program : P4Program → Result P4Program (List Token)
ok_program x = Ok x

same_program : (x y : P4Program) → ok_program x ≡ ok_program y → x ≡ y
same_program x y e = cc

pub program_one : (w : List Token) (x y : P4Program) → program x w → program y w → x ≡ y
program_one w x y d e = same_program x y (sym (program_complete w x d) ∙ program_complete w y e)
