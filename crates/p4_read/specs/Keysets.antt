-- Parts of keysets that are functions of their own.
use Rattle.std.specs.Prelude.{ℕ, List, [], ◌∷◌, ◌++◌, Some}
use Rattle.p4_lex.specs.declared.token.Sign.TheVariants as sign
use Rattle.p4_ast.specs.declared.parser.P4Keyset.{P4Keyset}
use Rattle.p4_ast.specs.declared.parser.P4Keyset.TheVariants as keyset
use Rattle.p4_ast.specs.declared.parser.P4One.{P4One}
use Rattle.p4_ast.specs.declared.parser.P4One.TheVariants as one
use Rattle.p4_grammar.specs.declared.mark.Spelled.{Spelled}
use Rattle.p4_grammar.specs.Forms.{Reader, bind_at, done_at, many_at}
use Rattle.p4_grammar.specs.Tokens.{in_hand, words_at}
use Rattle.p4_grammar.specs.Values.{Env, cast_value}
use Rattle.p4_grammar.specs.ReadingExpressions.{word_type_at, unary_at, expression_at}
use Rattle.p4_grammar.specs.Reading.{one_at, tuple_rest_at, one_behind_at}

-- behind the first two of a tuple
abbrev pub tuple_end_at : ℕ → Env → ℕ → List P4One → Reader P4Keyset
tuple_end_at n env at two = bind_at (many_at n (in_hand sign.Comma) (words_at (sign.Comma ∷ []) (one_at n env))) λ ps. words_at (sign.Close ∷ []) (done_at (keyset.Tuple at (two ++ ps)))

-- a tuple behind its first value, which has a mask
abbrev pub masked_tuple_at : ℕ → Env → ℕ → Spelled → Reader P4Keyset
masked_tuple_at n env at x = words_at (sign.Mask ∷ []) (bind_at (expression_at n env) λ m. tuple_rest_at n env at (one.Expr x.at x.expr (Some m)))

-- behind `(`, where a type begins with a word
abbrev pub cast_keyset_at : ℕ → Env → ℕ → Reader P4Keyset
cast_keyset_at n env at = bind_at word_type_at λ t. words_at (sign.Close ∷ []) (bind_at (unary_at n env) λ y. one_behind_at n env (cast_value at t y))
