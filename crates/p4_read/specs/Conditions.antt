-- Parts of conditions that are functions of their own.
use Rattle.std.specs.Prelude.{ℕ, ◌∷◌, Option, Some}
use Rattle.p4_lex.specs.declared.token.Sign.TheVariants as sign
use Rattle.p4_ast.specs.declared.name.P4Name.{P4Name}
use Rattle.p4_ast.specs.declared.statement.P4Cond.{P4Cond}
use Rattle.p4_grammar.specs.Forms.{Reader, bind_at, either_at, taken_at}
use Rattle.p4_grammar.specs.Tokens.{is, name, is_name}
use Rattle.p4_grammar.specs.Values.{Env}
use Rattle.p4_grammar.specs.ReadingExpressions.{names_at, named_at, unary_at}
use Rattle.p4_grammar.specs.ReadingStatements.{cond_rest_at, cond_named_at}

-- behind a name and a dot, where no table is applied
abbrev pub cond_path_at : ℕ → Env → Option ℕ → P4Name → Reader P4Cond
cond_path_at n env o x = bind_at (taken_at name) λ y. bind_at (names_at n) λ ys. bind_at (named_at x (y ∷ ys)) λ v. cond_rest_at n env o v

-- a condition that begins with `!`
abbrev pub negated_at : ℕ → Env → Reader P4Cond
negated_at n env = bind_at (taken_at (is sign.Not)) λ at. either_at is_name (bind_at (taken_at name) λ x. cond_named_at n env (Some at) x) (bind_at (unary_at n env) λ v. cond_rest_at n env (Some at) v)
