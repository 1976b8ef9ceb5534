-- Parts of tables that are functions of their own.
use Rattle.std.specs.Prelude.{ℕ, Bool, true, false, Some}
use Rattle.p4_lex.specs.declared.token.Sign.TheVariants as sign
use Rattle.p4_grammar.specs.declared.mark.Properties.{Properties}
use Rattle.p4_grammar.specs.Forms.{Reader, bind_at, either_at}
use Rattle.p4_grammar.specs.Tokens.{in_hand}
use Rattle.p4_grammar.specs.Values.{Env}
use Rattle.p4_grammar.specs.Trees.{with_default, with_entries}
use Rattle.p4_grammar.specs.Reading.{Part, default_at, entries_at, properties_at}

-- the default action, and the properties behind it
abbrev pub default_behind_at : ℕ → Env → ℕ → Properties → Part
default_behind_at n env left a c = bind_at (default_at n env c) λ d. properties_at n env left (with_default a d)

-- the entries, and the properties behind them
abbrev pub entries_behind_at : ℕ → Env → ℕ → Properties → Part
entries_behind_at n env left a c = bind_at (entries_at n env c) λ e. properties_at n env left (with_entries a e)

-- behind `const`, where the first two say which of d and e may still come
abbrev pub after_const_at : Bool → Bool → Part → Part → ℕ → Reader Properties
after_const_at true true d e at = either_at (in_hand sign.DefaultAction) (d (Some at)) (e (Some at))
after_const_at true false d e at = d (Some at)
after_const_at false true d e at = e (Some at)
after_const_at false false d e at = e (Some at)
