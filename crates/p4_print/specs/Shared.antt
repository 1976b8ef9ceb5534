-- The tokens of names, types and paths.
use Rattle.std.specs.Prelude.{List, [], ◌∷◌, ◌++◌, Option, Some, None}
use Rattle.p4_lex.specs.declared.token.Sign.{Sign}
use Rattle.p4_lex.specs.declared.token.Sign.TheVariants as sign
use Rattle.p4_lex.specs.declared.token.Lexeme.{Lexeme}
use Rattle.p4_lex.specs.declared.token.Lexeme.TheVariants as lexeme
use Rattle.p4_ast.specs.declared.name.P4Name.{P4Name}
use Rattle.p4_ast.specs.declared.name.P4Number.{P4Number}
use Rattle.p4_ast.specs.declared.name.P4Path.{P4Path}
use Rattle.p4_ast.specs.declared.name.P4Slice.{P4Slice}
use Rattle.p4_ast.specs.declared.name.P4Left.{P4Left}
use Rattle.p4_ast.specs.declared.declaration.P4Type.{P4Type}
use Rattle.p4_ast.specs.declared.declaration.P4Type.TheVariants as type
use Rattle.p4_ast.specs.declared.declaration.P4Field.{P4Field}
use Rattle.p4_ast.specs.declared.control.P4Param.{P4Param}

-- tokens and then more, at the level of one token before others
infixr 67 ◌+>◌
abbrev pub ◌+>◌ : List Lexeme → List Lexeme → List Lexeme
ts +> more = ts ++ more

-- a reserved word or a sign
abbrev pub the : Sign → Lexeme
the s = lexeme.Sign s

abbrev pub named : P4Name → Lexeme
named n = lexeme.Name n.text

abbrev pub number : P4Number → Lexeme
number n = lexeme.Number n.value n.width

-- the tokens of each, one after the other
abbrev pub all : {A : Type 0} → (A → List Lexeme) → List A → List Lexeme
all f [] = []
all f (x ∷ xs) = f x +> all f xs

-- the tokens of each, with this sign between them
abbrev pub separated : {A : Type 0} → Sign → (A → List Lexeme) → List A → List Lexeme
separated s f [] = []
separated s f (x ∷ xs) = f x +> all (λ y. the s ∷ f y) xs

-- the tokens of what may be left out
abbrev pub maybe : {A : Type 0} → (A → List Lexeme) → Option A → List Lexeme
maybe f None = []
maybe f (Some x) = f x

abbrev pub name_tokens : P4Name → List Lexeme
name_tokens n = named n ∷ []

unfoldable pub path_tokens : P4Path → List Lexeme
path_tokens p = separated sign.Dot name_tokens p.names

unfoldable pub slice_tokens : P4Slice → List Lexeme
slice_tokens s = the sign.OpenSlice ∷ number s.high ∷ the sign.Colon ∷ number s.low ∷ the sign.CloseSlice ∷ []

unfoldable pub left_tokens : P4Left → List Lexeme
left_tokens l = path_tokens l.path +> maybe slice_tokens l.slice

unfoldable pub type_tokens : P4Type → List Lexeme
type_tokens (type.Bit at width) = the sign.Bit ∷ the sign.Less ∷ number width ∷ the sign.More ∷ []
type_tokens (type.Bool at) = the sign.Bool ∷ []
type_tokens (type.Name at n) = named n ∷ []
type_tokens (type.StdT at) = the sign.StdT ∷ []

-- a field of a header or a structure
unfoldable pub field_tokens : P4Field → List Lexeme
field_tokens f = type_tokens f.type_ +> named f.name ∷ the sign.Semicolon ∷ []

-- a parameter of an action
abbrev pub argument_tokens : P4Field → List Lexeme
argument_tokens f = type_tokens f.type_ +> named f.name ∷ []

-- a parameter of a parser or control, without `in`, `out` or `inout` before it
abbrev pub param_tokens : P4Param → List Lexeme
param_tokens p = named p.type_ ∷ named p.name ∷ []
