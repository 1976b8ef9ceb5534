-- Parts of the parser and of the deparser that are functions of their own.
use Rattle.std.specs.Prelude.{ℕ, List, [], ◌∷◌}
use Rattle.p4_lex.specs.declared.token.Sign.TheVariants as sign
use Rattle.p4_ast.specs.declared.name.P4Name.{P4Name}
use Rattle.p4_ast.specs.declared.parser.P4Parser.{P4Parser}
use Rattle.p4_ast.specs.declared.parser.P4State.{P4State}
use Rattle.p4_ast.specs.declared.program.P4Deparser.{P4Deparser}
use Rattle.p4_ast.specs.declared.program.P4Emit.{P4Emit}
use Rattle.p4_grammar.specs.Forms.{Reader, bind_at, done_at, many_at, taken_at}
use Rattle.p4_grammar.specs.Tokens.{name, but, words_at}
use Rattle.p4_grammar.specs.Values.{Env}
use Rattle.p4_grammar.specs.Reading.{param_at, states_at, emit_at}
use Rattle.p4_read.specs.declared.parser.ParserFront.{ParserFront}
use Rattle.p4_read.specs.declared.deparser.DeparserFront.{DeparserFront}

-- the parser of these parts
abbrev pub parser_with : ParserFront → P4Name → List P4State → P4Parser
parser_with f s ss = record { at = f.at; name = f.name; packet = f.packet; headers = f.headers; meta = f.meta; std = s; states = ss }

-- the parser behind its parameters of headers and metadata
abbrev pub behind_params_at : ℕ → Env → ParserFront → Reader P4Parser
behind_params_at n env f = words_at (sign.Comma ∷ sign.Inout ∷ sign.StdT ∷ []) (bind_at (taken_at name) λ s. words_at (sign.Close ∷ []) (bind_at (states_at n env) λ ss. done_at (parser_with f s ss)))

-- the parser behind its first parameter
abbrev pub params_at : ℕ → Env → ℕ → P4Name → P4Name → Reader P4Parser
params_at n env at x p = bind_at (param_at sign.Out) λ h. words_at (sign.Comma ∷ []) (bind_at (param_at sign.Inout) λ m. behind_params_at n env (record { at = at; name = x; packet = p; headers = h; meta = m }))

-- the deparser of these parts
abbrev pub deparser_with : DeparserFront → List P4Emit → P4Deparser
deparser_with f es = record { at = f.at; name = f.name; packet = f.packet; headers = f.headers; emits = es }

-- the deparser behind its parameters
abbrev pub emits_at : ℕ → DeparserFront → Reader P4Deparser
emits_at n f = words_at (sign.Close ∷ sign.OpenBrace ∷ sign.Apply ∷ sign.OpenBrace ∷ []) (bind_at (many_at n (but sign.CloseBrace) (emit_at n)) λ es. words_at (sign.CloseBrace ∷ sign.CloseBrace ∷ []) (done_at (deparser_with f es)))
