-- The words that can't be names.
use Rattle.std.specs.Prelude.{ℕ, List, [], ◌∷◌, Option, Some, None, if◌then◌else◌}
use Rattle.std.specs.Str.{bytes_eq}
use Rattle.p4_lex.specs.declared.token.Sign.{Sign}
use Rattle.p4_lex.specs.declared.token.Sign.TheVariants as sign
use Rattle.p4_lex.specs.Spelling.{spelling}

abbrev pub of_declarations : List Sign
of_declarations =
    sign.Header ∷ sign.Struct ∷ sign.Typedef ∷ sign.Const
    ∷ sign.Parser ∷ sign.State ∷ sign.Control ∷ sign.Action
    ∷ sign.Table ∷ sign.RpSwitch ∷ []

abbrev pub of_types : List Sign
of_types =
    sign.Bit ∷ sign.Bool ∷ sign.StdT ∷ sign.FlowCell
    ∷ sign.FlowArray ∷ sign.True ∷ sign.False ∷ []

abbrev pub of_parameters : List Sign
of_parameters =
    sign.PacketIn ∷ sign.PacketOut ∷ sign.In ∷ sign.Out
    ∷ sign.Inout ∷ []

abbrev pub of_statements : List Sign
of_statements =
    sign.If ∷ sign.Else ∷ sign.Apply ∷ sign.FlowKey
    ∷ sign.Transition ∷ sign.Select ∷ sign.Default ∷ []

abbrev pub of_tables : List Sign
of_tables =
    sign.Key ∷ sign.Actions ∷ sign.DefaultAction ∷ sign.Entries
    ∷ sign.Size ∷ sign.Exact ∷ sign.Lpm ∷ sign.Ternary ∷ []

-- which of these a word is
abbrev pub found : List Sign → List ℕ → Option Sign
found [] word = None
found (s ∷ signs) word = if bytes_eq word (spelling s) then Some s else found signs word

-- the first that is there
abbrev pub or_else : {A : Type 0} → Option A → Option A → Option A
or_else (Some x) other = Some x
or_else None other = other

-- which reserved word a word is
abbrev pub reserved : List ℕ → Option Sign
reserved word =
    or_else (found of_declarations word) (or_else (found of_types word) (or_else (found of_parameters word)
    (or_else (found of_statements word) (found of_tables word))))
