-- The signs, the longest first.
use Rattle.std.specs.Prelude.{ℕ, List, [], ◌∷◌, length, Option, Some, None, if◌then◌else◌, nat_eq}
use Rattle.std.specs.List.{starts_with}
use Rattle.p4_lex.specs.declared.token.Sign.{Sign}
use Rattle.p4_lex.specs.declared.token.Sign.TheVariants as sign
use Rattle.p4_lex.specs.Words.{or_else}
use Rattle.p4_lex.specs.Spelling.{spelling}

abbrev pub of_three : List Sign
of_three = sign.SatPlus ∷ sign.SatMinus ∷ sign.Mask ∷ []

abbrev pub of_two : List Sign
of_two =
    sign.ShiftLeft ∷ sign.ShiftRight ∷ sign.Concat ∷ sign.Equal
    ∷ sign.NotEqual ∷ sign.LessEqual ∷ sign.MoreEqual ∷ sign.And
    ∷ sign.Or ∷ []

abbrev pub brackets : List Sign
brackets =
    sign.OpenBrace ∷ sign.CloseBrace ∷ sign.Open ∷ sign.Close
    ∷ sign.OpenSlice ∷ sign.CloseSlice ∷ sign.Less ∷ sign.More
    ∷ sign.Dot ∷ sign.Comma ∷ sign.Semicolon ∷ sign.Colon ∷ []

abbrev pub operators : List Sign
operators =
    sign.Assign ∷ sign.Ask ∷ sign.Not ∷ sign.Complement
    ∷ sign.Plus ∷ sign.Minus ∷ sign.BitAnd ∷ sign.BitOr
    ∷ sign.BitXor ∷ []

-- the first of these that the bytes begin with, and its length
abbrev pub first_of : List Sign → List ℕ → Option (Sign × ℕ)
first_of [] bytes = None
first_of (s ∷ signs) bytes = if starts_with nat_eq bytes (spelling s) then Some (s, length (spelling s)) else first_of signs bytes

-- the longest sign that the bytes begin with, and its length
abbrev pub sign_at : List ℕ → Option (Sign × ℕ)
sign_at bytes = or_else (first_of of_three bytes) (or_else (first_of of_two bytes) (or_else (first_of brackets bytes) (first_of operators bytes)))
