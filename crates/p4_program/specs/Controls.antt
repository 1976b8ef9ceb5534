-- Parts of controls that are functions of their own.
use Rattle.std.specs.Prelude.{ℕ, List, [], ◌∷◌}
use Rattle.p4_lex.specs.declared.token.Sign.TheVariants as sign
use Rattle.p4_ast.specs.declared.declaration.P4Field.{P4Field}
use Rattle.p4_ast.specs.declared.name.P4Name.{P4Name}
use Rattle.p4_ast.specs.declared.control.P4Param.{P4Param}
use Rattle.p4_ast.specs.declared.control.P4Local.{P4Local}
use Rattle.p4_ast.specs.declared.control.P4Ingress.{P4Ingress}
use Rattle.p4_ast.specs.declared.statement.P4Block.{P4Block}
use Rattle.p4_grammar.specs.Forms.{Reader, bind_at, done_at, taken_at, many_at}
use Rattle.p4_grammar.specs.Tokens.{name, in_hand, but, words_at}
use Rattle.p4_grammar.specs.Values.{Env}
use Rattle.p4_grammar.specs.Reading.{typed_at, param_at, last_param_at, local_at}
use Rattle.p4_grammar.specs.ReadingStatements.{block_at}
use Rattle.p4_program.specs.declared.control.IngressFront.{IngressFront}

-- parameters of an action, each behind a comma
abbrev pub typed_rest_at : ℕ → Reader (List P4Field)
typed_rest_at n = many_at n (in_hand sign.Comma) (words_at (sign.Comma ∷ []) typed_at)

-- the ingress control of these parts
abbrev pub ingress_with : IngressFront → List P4Local → P4Block → P4Ingress
ingress_with f ls b = record { at = f.at; name = f.name; headers = f.headers; meta = f.meta; std = f.std; rp = f.rp; locals = ls; block = b }

-- the ingress control behind its parameters
abbrev pub behind_params_at : ℕ → Env → IngressFront → Reader P4Ingress
behind_params_at n env f = words_at (sign.Close ∷ sign.OpenBrace ∷ []) (bind_at (many_at n (but sign.Apply) (local_at n env)) λ ls. words_at (sign.Apply ∷ []) (bind_at (block_at n env) λ b. words_at (sign.CloseBrace ∷ []) (done_at (ingress_with f ls b))))

-- the ingress control behind its first parameter
abbrev pub params_at : ℕ → Env → ℕ → P4Name → P4Param → Reader P4Ingress
params_at n env at x h = bind_at (param_at sign.Inout) λ m. words_at (sign.Comma ∷ sign.Inout ∷ sign.StdT ∷ []) (bind_at (taken_at name) λ s. bind_at last_param_at λ rp. behind_params_at n env (record { at = at; name = x; headers = h; meta = m; std = s; rp = rp }))
