-- Each sign is read again before what follows it.
use Rattle.std.proofs.Common.{ℕ, List, Bool, true, false, ◌++◌, refl}
use Rattle.p4_lex.specs.declared.token.Sign.{Sign}
use Rattle.p4_lex.specs.declared.token.Sign.TheVariants as sign
use Rattle.p4_lex.specs.declared.token.Lexeme.TheVariants as lexeme
use Rattle.p4_lex.specs.Spelling.{spelling}
use Rattle.p4_lex.specs.Lexing.{front, word_piece}
use Rattle.p4_print.specs.Text.{behind}
use Rattle.p4_reread.proofs.LexWords.{Reads, Separates, Spells, blank, line_feed}

-- this sign is read, at the line's begin or not
abbrev ReadsSign : Sign → Bool → Type 0
ReadsSign s fresh = (rest : List ℕ) (at : ℕ) → Reads at fresh (spelling s) (behind s ++ rest) (lexeme.Sign s)

both : (s : Sign) → ReadsSign s true → ReadsSign s false → (rest : List ℕ) (at : ℕ) (fresh : Bool) → Reads at fresh (spelling s) (behind s ++ rest) (lexeme.Sign s)
both s p q rest at true = p rest at
both s p q rest at false = q rest at

so : (s : Sign) → Separates (behind s) → ReadsSign s true → ReadsSign s false → Spells (spelling s) (behind s) (lexeme.Sign s)
so s gap p q = record { reads = both s p q; ends = gap }

pub sign-spells : (s : Sign) → Spells (spelling s) (behind s) (lexeme.Sign s)
unfolding front word_piece
sign-spells sign.Header = so sign.Header blank (λ rest at. refl) (λ rest at. refl)
sign-spells sign.Struct = so sign.Struct blank (λ rest at. refl) (λ rest at. refl)
sign-spells sign.Typedef = so sign.Typedef blank (λ rest at. refl) (λ rest at. refl)
sign-spells sign.Const = so sign.Const blank (λ rest at. refl) (λ rest at. refl)
sign-spells sign.Parser = so sign.Parser blank (λ rest at. refl) (λ rest at. refl)
sign-spells sign.State = so sign.State blank (λ rest at. refl) (λ rest at. refl)
sign-spells sign.Control = so sign.Control blank (λ rest at. refl) (λ rest at. refl)
sign-spells sign.Action = so sign.Action blank (λ rest at. refl) (λ rest at. refl)
sign-spells sign.Table = so sign.Table blank (λ rest at. refl) (λ rest at. refl)
sign-spells sign.RpSwitch = so sign.RpSwitch blank (λ rest at. refl) (λ rest at. refl)
sign-spells sign.Bit = so sign.Bit blank (λ rest at. refl) (λ rest at. refl)
sign-spells sign.Bool = so sign.Bool blank (λ rest at. refl) (λ rest at. refl)
sign-spells sign.StdT = so sign.StdT blank (λ rest at. refl) (λ rest at. refl)
sign-spells sign.FlowCell = so sign.FlowCell blank (λ rest at. refl) (λ rest at. refl)
sign-spells sign.FlowArray = so sign.FlowArray blank (λ rest at. refl) (λ rest at. refl)
sign-spells sign.True = so sign.True blank (λ rest at. refl) (λ rest at. refl)
sign-spells sign.False = so sign.False blank (λ rest at. refl) (λ rest at. refl)
sign-spells sign.PacketIn = so sign.PacketIn blank (λ rest at. refl) (λ rest at. refl)
sign-spells sign.PacketOut = so sign.PacketOut blank (λ rest at. refl) (λ rest at. refl)
sign-spells sign.In = so sign.In blank (λ rest at. refl) (λ rest at. refl)
sign-spells sign.Out = so sign.Out blank (λ rest at. refl) (λ rest at. refl)
sign-spells sign.Inout = so sign.Inout blank (λ rest at. refl) (λ rest at. refl)
sign-spells sign.If = so sign.If blank (λ rest at. refl) (λ rest at. refl)
sign-spells sign.Else = so sign.Else blank (λ rest at. refl) (λ rest at. refl)
sign-spells sign.Apply = so sign.Apply blank (λ rest at. refl) (λ rest at. refl)
sign-spells sign.FlowKey = so sign.FlowKey blank (λ rest at. refl) (λ rest at. refl)
sign-spells sign.Transition = so sign.Transition blank (λ rest at. refl) (λ rest at. refl)
sign-spells sign.Select = so sign.Select blank (λ rest at. refl) (λ rest at. refl)
sign-spells sign.Default = so sign.Default blank (λ rest at. refl) (λ rest at. refl)
sign-spells sign.Key = so sign.Key blank (λ rest at. refl) (λ rest at. refl)
sign-spells sign.Actions = so sign.Actions blank (λ rest at. refl) (λ rest at. refl)
sign-spells sign.DefaultAction = so sign.DefaultAction blank (λ rest at. refl) (λ rest at. refl)
sign-spells sign.Entries = so sign.Entries blank (λ rest at. refl) (λ rest at. refl)
sign-spells sign.Size = so sign.Size blank (λ rest at. refl) (λ rest at. refl)
sign-spells sign.Exact = so sign.Exact blank (λ rest at. refl) (λ rest at. refl)
sign-spells sign.Lpm = so sign.Lpm blank (λ rest at. refl) (λ rest at. refl)
sign-spells sign.Ternary = so sign.Ternary blank (λ rest at. refl) (λ rest at. refl)
sign-spells sign.SatPlus = so sign.SatPlus blank (λ rest at. refl) (λ rest at. refl)
sign-spells sign.SatMinus = so sign.SatMinus blank (λ rest at. refl) (λ rest at. refl)
sign-spells sign.Mask = so sign.Mask blank (λ rest at. refl) (λ rest at. refl)
sign-spells sign.ShiftLeft = so sign.ShiftLeft blank (λ rest at. refl) (λ rest at. refl)
sign-spells sign.ShiftRight = so sign.ShiftRight blank (λ rest at. refl) (λ rest at. refl)
sign-spells sign.Concat = so sign.Concat blank (λ rest at. refl) (λ rest at. refl)
sign-spells sign.Equal = so sign.Equal blank (λ rest at. refl) (λ rest at. refl)
sign-spells sign.NotEqual = so sign.NotEqual blank (λ rest at. refl) (λ rest at. refl)
sign-spells sign.LessEqual = so sign.LessEqual blank (λ rest at. refl) (λ rest at. refl)
sign-spells sign.MoreEqual = so sign.MoreEqual blank (λ rest at. refl) (λ rest at. refl)
sign-spells sign.And = so sign.And blank (λ rest at. refl) (λ rest at. refl)
sign-spells sign.Or = so sign.Or blank (λ rest at. refl) (λ rest at. refl)
sign-spells sign.OpenBrace = so sign.OpenBrace line_feed (λ rest at. refl) (λ rest at. refl)
sign-spells sign.CloseBrace = so sign.CloseBrace line_feed (λ rest at. refl) (λ rest at. refl)
sign-spells sign.Open = so sign.Open blank (λ rest at. refl) (λ rest at. refl)
sign-spells sign.Close = so sign.Close blank (λ rest at. refl) (λ rest at. refl)
sign-spells sign.OpenSlice = so sign.OpenSlice blank (λ rest at. refl) (λ rest at. refl)
sign-spells sign.CloseSlice = so sign.CloseSlice blank (λ rest at. refl) (λ rest at. refl)
sign-spells sign.Less = so sign.Less blank (λ rest at. refl) (λ rest at. refl)
sign-spells sign.More = so sign.More blank (λ rest at. refl) (λ rest at. refl)
sign-spells sign.Dot = so sign.Dot blank (λ rest at. refl) (λ rest at. refl)
sign-spells sign.Comma = so sign.Comma blank (λ rest at. refl) (λ rest at. refl)
sign-spells sign.Semicolon = so sign.Semicolon line_feed (λ rest at. refl) (λ rest at. refl)
sign-spells sign.Colon = so sign.Colon blank (λ rest at. refl) (λ rest at. refl)
sign-spells sign.Assign = so sign.Assign blank (λ rest at. refl) (λ rest at. refl)
sign-spells sign.Ask = so sign.Ask blank (λ rest at. refl) (λ rest at. refl)
sign-spells sign.Not = so sign.Not blank (λ rest at. refl) (λ rest at. refl)
sign-spells sign.Complement = so sign.Complement blank (λ rest at. refl) (λ rest at. refl)
sign-spells sign.Plus = so sign.Plus blank (λ rest at. refl) (λ rest at. refl)
sign-spells sign.Minus = so sign.Minus blank (λ rest at. refl) (λ rest at. refl)
sign-spells sign.BitAnd = so sign.BitAnd blank (λ rest at. refl) (λ rest at. refl)
sign-spells sign.BitOr = so sign.BitOr blank (λ rest at. refl) (λ rest at. refl)
sign-spells sign.BitXor = so sign.BitXor blank (λ rest at. refl) (λ rest at. refl)
sign-spells sign.Any = so sign.Any blank (λ rest at. refl) (λ rest at. refl)
