-- The ingress control, the deparser, the package and the program are spelled again by their canonical tokens.
use Rattle.std.proofs.Common.{◌≡◌, List, [], ◌∷◌, ◌++◌, map, Option, Some, refl, sym, ap, subst, append_assoc, inl, inr, ◌⊎◌}
use Rattle.std.specs.Prelude.{codes, option_map}
use Rattle.p4_lex.specs.declared.token.Token.{Token}
use Rattle.p4_lex.specs.declared.token.Sign.TheVariants as sign
use Rattle.p4_lex.specs.declared.token.Lexeme.{Lexeme}
use Rattle.p4_lex.specs.declared.token.Lexeme.TheVariants as lexeme
use Rattle.p4_ast.specs.declared.declaration.P4Type.{P4Type}
use Rattle.p4_ast.specs.declared.declaration.P4Type.TheVariants as type
use Rattle.p4_ast.specs.declared.declaration.P4Field.{P4Field}
use Rattle.p4_ast.specs.declared.declaration.P4Declaration.{P4Declaration}
use Rattle.p4_ast.specs.declared.name.P4Name.{P4Name}
use Rattle.p4_ast.specs.declared.control.P4Param.{P4Param}
use Rattle.p4_ast.specs.declared.statement.P4Block.{P4Block}
use Rattle.p4_ast.specs.declared.control.P4Local.{P4Local}
use Rattle.p4_ast.specs.declared.control.P4Local.TheVariants as local
use Rattle.p4_ast.specs.declared.control.P4Cell.TheVariants as cell
use Rattle.p4_ast.specs.declared.program.P4Program.{P4Program}
use Rattle.p4_ast.specs.Bare.{bare_name, bare_type, bare_field, bare_param}
use Rattle.p4_ast.specs.BareProgram.{bare_declaration, bare_action, bare_cell, bare_local, bare_ingress, bare_emit, bare_deparser, bare_package, bare_program}
use Rattle.p4_print.specs.Shared.{the, named, all, separated, maybe, type_tokens, path_tokens, argument_tokens}
use Rattle.p4_print.specs.Statements.{block_tokens}
use Rattle.p4_print.specs.Programs.{declaration_tokens, cell_tokens, action_tokens, local_tokens, rp_tokens, inputs_tokens, ingress_tokens, emit_tokens, deparser_tokens, part_tokens, package_tokens, program_tokens}
use Rattle.p4_grammar.specs.Forms.{Lang, only, bind, either, taken}
use Rattle.p4_grammar.specs.Tokens.{is, number, words}
use Rattle.p4_grammar.specs.Values.{Env}
use Rattle.p4_grammar.specs.Trees.{Declared, program_of}
use Rattle.p4_grammar.specs.GrammarExpressions.{type_, bit_type, word_type}
use Rattle.p4_grammar.specs.Grammar.{parser, closed_type, flow_cell, flow_array, typed, typed_list, action, local_, last_param, ingress, emit, deparser, instance_, package_, program}
use Rattle.p4_grammar.proofs.Basics.{tok}
use Rattle.p4_reread.specs.Again.{lexemes}
use Rattle.p4_reread.proofs.Again.{all_parts, All, Signs, Again, Onward, whole, step, last, fork, done, ends, sign-again, name-again, number-again, text-again, words_step, behind-again, many-again}
use Rattle.p4_reread.proofs.AgainPlain.{type-again, path-again}
use Rattle.p4_reread.proofs.AgainStatements.{var-again}
use Rattle.p4_reread.proofs.AgainBlocks.{block-again}
use Rattle.p4_reread.proofs.AgainDeclarations.{const-again, declared_tokens, declarations-again, param-again, parser-again}
use Rattle.p4_reread.proofs.AgainTables.{table-again}

-- ---- cells

abbrev plainly : Lang P4Type
plainly = bind type_ λ t. words (sign.More ∷ []) (only t)

abbrev shifted : Lang P4Type
shifted = bind (taken (is sign.Bit)) λ at. words (sign.Less ∷ []) (bind (taken number) λ n. words (sign.ShiftRight ∷ []) (only (type.Bit at n)))

abbrev closed_tokens : P4Type → List Lexeme
closed_tokens t = type_tokens t ++ (the sign.More ∷ [])

plainly-again : Again plainly closed_tokens bare_type
plainly-again = whole (step type-again λ t u e. words_step (sign.More ∷ []) (done refl e))

-- a type that `>>` closes, spelled with two signs
record Apart (t : P4Type) (w : List Token) : Type 1 where
  pub tokens : List Token
  pub spelt : plainly t tokens
  pub kept : (V : Lexeme → Type 0) → Signs V → All V (lexemes w) → All V (lexemes tokens)

apart_as : (t : P4Type) (w : List Token) → shifted t w → Apart t w
unfolding type_ word_type bit_type
apart_as t w (at, u1, v1, e1, d1, (b, u2, v2, e2, d2, (n, u3, v3, e3, (a, one, g), (c, u4, v4, e4, d4, l)))) = record {
  tokens = tok at 0 (the sign.Bit) ∷ tok 0 0 (the sign.Less) ∷ a ∷ tok 0 0 (the sign.More) ∷ tok 0 0 (the sign.More) ∷ [];
  spelt = subst (λ (q : P4Type). plainly q (tok at 0 (the sign.Bit) ∷ tok 0 0 (the sign.Less) ∷ a ∷ tok 0 0 (the sign.More) ∷ tok 0 0 (the sign.More) ∷ [])) (sym l.0) (
    type.Bit at n,
    tok at 0 (the sign.Bit) ∷ tok 0 0 (the sign.Less) ∷ a ∷ tok 0 0 (the sign.More) ∷ [],
    tok 0 0 (the sign.More) ∷ [],
    refl,
    inl (inl (at, tok at 0 (the sign.Bit) ∷ [], tok 0 0 (the sign.Less) ∷ a ∷ tok 0 0 (the sign.More) ∷ [], refl, (tok at 0 (the sign.Bit), refl, refl), (0, tok 0 0 (the sign.Less) ∷ [], a ∷ tok 0 0 (the sign.More) ∷ [], refl, (tok 0 0 (the sign.Less), refl, refl), (n, a ∷ [], tok 0 0 (the sign.More) ∷ [], refl, (a, refl, g), (0, tok 0 0 (the sign.More) ∷ [], [], refl, (tok 0 0 (the sign.More), refl, refl), (refl, refl)))))),
    (0, tok 0 0 (the sign.More) ∷ [], [], refl, (tok 0 0 (the sign.More), refl, refl), (refl, refl)),
  );
  kept = λ V s h. (s sign.Bit, (s sign.Less, (digits V h, (s sign.More, (s sign.More, tt)))));
} where
  digits : (V : Lexeme → Type 0) → All V (lexemes w) → V a.lexeme
  digits V h =
      let h1 : All V (lexemes v1) = (all_parts V w u1 v1 e1 h).1 in
      let h2 : All V (lexemes v2) = (all_parts V v1 u2 v2 e2 h1).1 in
      let h3 : All V (lexemes u3) = (all_parts V v2 u3 v3 e3 h2).0 in
      (subst (λ (q : List Token). All V (lexemes q)) one h3).0

closed_back : (t : P4Type) (w : List Token) → plainly t w ⊎ shifted t w → (v : List Token) → lexemes v ≡ closed_tokens t → (u : P4Type) × either plainly shifted u v × (bare_type u ≡ bare_type t)
closed_back t w (inl d) v e = let r : (u : P4Type) × plainly u v × (bare_type u ≡ bare_type t) = plainly-again.back t w d v e in (r.0, inl r.1, r.2)
closed_back t w (inr d) v e = let r : (u : P4Type) × plainly u v × (bare_type u ≡ bare_type t) = plainly-again.back t (apart_as t w d).tokens (apart_as t w d).spelt v e in (r.0, inl r.1, r.2)

closed_kept : (V : Lexeme → Type 0) → Signs V → (t : P4Type) (w : List Token) → plainly t w ⊎ shifted t w → All V (lexemes w) → All V (closed_tokens t)
closed_kept V s t w (inl d) a = plainly-again.kept V s t w d a
closed_kept V s t w (inr d) a = plainly-again.kept V s t (apart_as t w d).tokens (apart_as t w d).spelt ((apart_as t w d).kept V s a)

closed-again : Again closed_type closed_tokens bare_type
unfolding closed_type
closed-again = record { back = closed_back; kept = closed_kept }

flow_cell-again : Again flow_cell cell_tokens bare_cell
unfolding flow_cell cell_tokens
flow_cell-again = whole (step (sign-again sign.FlowCell) λ at other u. words_step (sign.Less ∷ []) (step closed-again λ t v e. words_step (sign.Open ∷ sign.Close ∷ []) (step name-again λ x y g. words_step (sign.Semicolon ∷ []) (done
    (ap (λ (q : List Lexeme). the sign.FlowCell ∷ the sign.Less ∷ q) (sym (append_assoc (type_tokens t) (the sign.More ∷ []) (the sign.Open ∷ the sign.Close ∷ lexeme.Name x.text ∷ the sign.Semicolon ∷ []))))
    (λ i. cell.Cell 0 (e i) (g i))))))

flow_array-again : Again flow_array cell_tokens bare_cell
unfolding flow_array cell_tokens
flow_array-again = whole (step (sign-again sign.FlowArray) λ at other u. words_step (sign.Less ∷ []) (step closed-again λ t v e. words_step (sign.Open ∷ []) (step number-again λ n m h. words_step (sign.Close ∷ []) (step name-again λ x y g. words_step (sign.Semicolon ∷ []) (done
    (ap (λ (q : List Lexeme). the sign.FlowArray ∷ the sign.Less ∷ q) (sym (append_assoc (type_tokens t) (the sign.More ∷ []) (the sign.Open ∷ lexeme.Number n.value n.width ∷ the sign.Close ∷ lexeme.Name x.text ∷ the sign.Semicolon ∷ []))))
    (λ i. cell.Array 0 (e i) (h i) (g i)))))))

-- ---- actions

typed-again : Again typed argument_tokens bare_field
unfolding typed
typed-again = whole (step type-again λ t u e. step name-again λ x y g. done refl (λ i. record { at = 0; type_ = e i; name = g i }))

abbrev params_tokens : List P4Field → List Lexeme
params_tokens ps = the sign.Open ∷ (separated sign.Comma argument_tokens ps ++ (the sign.Close ∷ []))

params_closed : (p : P4Field) (ps : List P4Field) → params_tokens (p ∷ ps) ≡ the sign.Open ∷ (argument_tokens p ++ (all (λ q. the sign.Comma ∷ argument_tokens q) ps ++ (the sign.Close ∷ [])))
params_closed p ps = ap (λ (q : List Lexeme). the sign.Open ∷ q) (append_assoc (argument_tokens p) (all (λ q. the sign.Comma ∷ argument_tokens q) ps) (the sign.Close ∷ []))

typed_list-again : Again typed_list params_tokens (map bare_field)
unfolding typed_list
typed_list-again = whole (words_step (sign.Open ∷ []) (fork (words_step (sign.Close ∷ []) (done refl refl))
    (step typed-again λ p q e. step (many-again (behind-again sign.Comma typed-again)) λ ps qs g. words_step (sign.Close ∷ []) (done (params_closed p ps) (λ i. e i ∷ g i)))))

action-again : (env : Env) → Again (action env) action_tokens bare_action
unfolding action action_tokens
action-again env = whole (step (sign-again sign.Action) λ at other u. step name-again λ x y e. step typed_list-again λ ps qs g. last (block-again env) λ b c h. ends
    (ap (λ (q : List Lexeme). the sign.Action ∷ lexeme.Name x.text ∷ the sign.Open ∷ q) (sym (append_assoc (separated sign.Comma argument_tokens ps) (the sign.Close ∷ []) (block_tokens b))))
    (λ i. record { at = 0; name = e i; params = g i; block = h i }))

-- ---- the controls

local-again : (env : Env) → Again (local_ env) local_tokens bare_local
unfolding local_ local_tokens
local-again env = whole (fork (last (const-again env) λ c d e. ends refl (ap local.Const e))
    (fork (last flow_cell-again λ c d e. ends refl (ap local.Cell e))
    (fork (last flow_array-again λ c d e. ends refl (ap local.Cell e))
    (fork (last (action-again env) λ c d e. ends refl (ap local.Action e))
    (fork (last (table-again env) λ c d e. ends refl (ap local.Table e))
    (last (var-again env) λ c d e. ends refl (ap local.Var e)))))))

last_param-again : Again last_param (maybe rp_tokens) (option_map bare_param)
unfolding last_param
last_param-again = whole (fork (words_step (sign.Comma ∷ []) (last (param-again sign.Inout) λ p q e. ends refl (ap Some e))) (done refl refl))

-- the tokens of an ingress control, from the first to the last
opening : (x : P4Name) (h m : P4Param) (s : P4Name) (rp : Option P4Param) (ls : List P4Local) (b : P4Block) → the sign.Control ∷ named x ∷ the sign.Open ∷ the sign.Inout ∷ named h.type_ ∷ named h.name ∷ the sign.Comma ∷ the sign.Inout ∷ named m.type_ ∷ named m.name ∷ the sign.Comma ∷ the sign.Inout ∷ the sign.StdT ∷ named s ∷ ((maybe rp_tokens rp ++ (the sign.Close ∷ [])) ++ (the sign.OpenBrace ∷ (all local_tokens ls ++ (the sign.Apply ∷ (block_tokens b ++ (the sign.CloseBrace ∷ []))))))
    ≡ the sign.Control ∷ named x ∷ the sign.Open ∷ the sign.Inout ∷ named h.type_ ∷ named h.name ∷ the sign.Comma ∷ the sign.Inout ∷ named m.type_ ∷ named m.name ∷ the sign.Comma ∷ the sign.Inout ∷ the sign.StdT ∷ named s ∷ (maybe rp_tokens rp ++ (the sign.Close ∷ the sign.OpenBrace ∷ (all local_tokens ls ++ (the sign.Apply ∷ (block_tokens b ++ (the sign.CloseBrace ∷ []))))))
opening x h m s rp ls b = ap (λ (q : List Lexeme). the sign.Control ∷ named x ∷ the sign.Open ∷ the sign.Inout ∷ named h.type_ ∷ named h.name ∷ the sign.Comma ∷ the sign.Inout ∷ named m.type_ ∷ named m.name ∷ the sign.Comma ∷ the sign.Inout ∷ the sign.StdT ∷ named s ∷ q) (append_assoc (maybe rp_tokens rp) (the sign.Close ∷ []) (the sign.OpenBrace ∷ (all local_tokens ls ++ (the sign.Apply ∷ (block_tokens b ++ (the sign.CloseBrace ∷ []))))))

ingress-again : (env : Env) → Again (ingress env) ingress_tokens bare_ingress
unfolding ingress ingress_tokens inputs_tokens
ingress-again env = whole (step (sign-again sign.Control) λ at other u. step name-again λ x y e. words_step (sign.Open ∷ []) (step (param-again sign.Inout) λ h k g. words_step (sign.Comma ∷ []) (step (param-again sign.Inout) λ m n l. words_step (sign.Comma ∷ sign.Inout ∷ sign.StdT ∷ []) (step name-again λ s t r. step last_param-again λ p q f. words_step (sign.Close ∷ sign.OpenBrace ∷ []) (step (many-again (local-again env)) λ ls ks z. words_step (sign.Apply ∷ []) (step (block-again env) λ b c w. words_step (sign.CloseBrace ∷ []) (done (opening x h m s p ls b) (λ i. record { at = 0; name = e i; headers = g i; meta = l i; std = r i; rp = f i; locals = z i; block = w i }))))))))

emit-again : Again emit emit_tokens bare_emit
unfolding emit emit_tokens path_tokens
emit-again = whole (step name-again λ x y e. words_step (sign.Dot ∷ []) (step (text-again (codes "emit")) λ at other u. words_step (sign.Open ∷ []) (step path-again λ p q g. words_step (sign.Close ∷ sign.Semicolon ∷ []) (done refl (λ i. record { at = 0; name = e i; path = record { at = 0; names = g i } })))))

deparser-again : Again deparser deparser_tokens bare_deparser
unfolding deparser deparser_tokens
deparser-again = whole (step (sign-again sign.Control) λ at other u. step name-again λ x y e. words_step (sign.Open ∷ sign.PacketOut ∷ []) (step name-again λ p q g. words_step (sign.Comma ∷ []) (step (param-again sign.In) λ h k l. words_step (sign.Close ∷ sign.OpenBrace ∷ sign.Apply ∷ sign.OpenBrace ∷ []) (step (many-again emit-again) λ es fs r. words_step (sign.CloseBrace ∷ sign.CloseBrace ∷ []) (done refl (λ i. record { at = 0; name = e i; packet = g i; headers = l i; emits = r i }))))))

-- ---- the program

instance-again : Again instance_ part_tokens bare_name
unfolding instance_
instance-again = whole (step name-again λ x y e. words_step (sign.Open ∷ sign.Close ∷ []) (done refl e))

package-again : Again package_ package_tokens bare_package
unfolding package_ package_tokens
package-again = whole (step (sign-again sign.RpSwitch) λ at other u. words_step (sign.Open ∷ []) (step instance-again λ p q e. words_step (sign.Comma ∷ []) (step instance-again λ i j g. words_step (sign.Comma ∷ []) (step instance-again λ d c h. words_step (sign.Close ∷ []) (step (text-again (codes "main")) λ m n u. words_step (sign.Semicolon ∷ []) (done refl (λ z. record { at = 0; parser = e z; ingress = g z; deparser = h z })))))))

-- what stands behind the declarations, behind these typedefs
abbrev rest : Env → List P4Declaration → Lang P4Program
rest env ds = bind (parser env) λ p. bind (ingress env) λ i. bind deparser λ d. bind package_ λ k. only (program_of ds p i d k)

rest_onward : (env : Env) (ds es : List P4Declaration) → map bare_declaration es ≡ map bare_declaration ds → Onward (λ r. all declaration_tokens ds ++ r) program_tokens bare_program (rest env ds) (rest env es)
unfolding program_tokens
rest_onward env ds es e = step (parser-again env) λ p q g. step (ingress-again env) λ i j h. step deparser-again λ d c l. last package-again λ k m r. ends refl (λ z. record { at = 0; declarations = e z; parser = g z; ingress = h z; deparser = l z; «package» = r z })

pub program-again : Again program program_tokens bare_program
unfolding program
program-again = whole (step declarations-again λ s t e. subst (λ (n : Env). Onward (λ r. declared_tokens s ++ r) program_tokens bare_program (rest s.0 s.1) (rest n t.1)) (sym (ap (λ (q : Declared). q.0) e)) (rest_onward s.0 s.1 t.1 (ap (λ (q : Declared). q.1) e)))
