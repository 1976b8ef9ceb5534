-- Types, paths and slices are spelled again by their canonical tokens.
use Rattle.std.proofs.Common.{ℕ, List, [], ◌∷◌, ◌++◌, map, refl, ap}
use Rattle.p4_lex.specs.declared.token.Sign.TheVariants as sign
use Rattle.p4_lex.specs.declared.token.Lexeme.{Lexeme}
use Rattle.p4_lex.specs.declared.token.Lexeme.TheVariants as lexeme
use Rattle.p4_ast.specs.declared.name.P4Name.{P4Name}
use Rattle.p4_ast.specs.declared.declaration.P4Type.TheVariants as type
use Rattle.p4_ast.specs.Bare.{bare_name, bare_slice, bare_type}
use Rattle.p4_grammar.specs.GrammarExpressions.{bit_type, bool_type, std_type, word_type, name_type, type_, names, path, slice, called_path}
use Rattle.p4_print.specs.Shared.{the, separated, name_tokens, type_tokens, slice_tokens}
use Rattle.p4_reread.proofs.Again.{Again, whole, step, fork, done, sign-again, name-again, number-again, text-again, words_step, list-again}

pub type-again : Again type_ type_tokens bare_type
unfolding type_ word_type bit_type bool_type std_type name_type type_tokens
type-again = whole (fork
    (fork (step (sign-again sign.Bit) λ at other u. words_step (sign.Less ∷ []) (step number-again λ n m e. words_step (sign.More ∷ []) (done refl (ap (type.Bit 0) e))))
    (fork (step (sign-again sign.Bool) λ at other u. done refl refl)
    (step (sign-again sign.StdT) λ at other u. done refl refl)))
    (step name-again λ x y e. done refl (ap (type.Name 0) e)))

-- the tokens of a path's names
abbrev pub names_tokens : List P4Name → List Lexeme
names_tokens xs = separated sign.Dot name_tokens xs

pub path-again : Again path names_tokens (map bare_name)
unfolding path names
path-again = list-again sign.Dot name-again

pub slice-again : Again slice slice_tokens bare_slice
unfolding slice slice_tokens
slice-again = whole (step (sign-again sign.OpenSlice) λ at other u. step number-again λ h i e. words_step (sign.Colon ∷ []) (step number-again λ l m g. words_step (sign.CloseSlice ∷ []) (done refl (λ j. record { at = 0; high = e j; low = g j }))))

-- a path, and behind it a last name of this text with empty parentheses
abbrev pub called_tokens : List ℕ → List P4Name → List Lexeme
called_tokens text xs = names_tokens xs ++ (the sign.Dot ∷ lexeme.Name text ∷ the sign.Open ∷ the sign.Close ∷ [])

pub called-again : (text : List ℕ) → Again (called_path text) (called_tokens text) (map bare_name)
unfolding called_path
called-again text = whole (step path-again λ p q e. words_step (sign.Dot ∷ []) (step (text-again text) λ at other u. words_step (sign.Open ∷ sign.Close ∷ []) (done refl e)))
