-- Tokens: which sign, name or number one is.
use Rattle.std.specs.Prelude.{ℕ, Bool, true, false, cond, List, [], ◌∷◌, Result, Ok, Err, Option, Some, None, nat_eq}
use Rattle.std.specs.Str.{bytes_eq}
use Rattle.p4_lex.specs.declared.token.Sign.{Sign}
use Rattle.p4_lex.specs.declared.token.Sign.TheVariants as sign
use Rattle.p4_lex.specs.declared.token.Lexeme.{Lexeme}
use Rattle.p4_lex.specs.declared.token.Lexeme.TheVariants as lexeme
use Rattle.p4_lex.specs.declared.token.Token.{Token}
use Rattle.p4_ast.specs.declared.name.P4Name.{P4Name}
use Rattle.p4_ast.specs.declared.name.P4Number.{P4Number}
use Rattle.p4_grammar.specs.Forms.{Lang, Reader, bind, taken, bind_at, taken_at, is_given}

-- a number for each sign, so that two can be compared
abbrev pub code : Sign → ℕ
code sign.Action = 0
code sign.Actions = 1
code sign.Apply = 2
code sign.Bit = 3
code sign.Bool = 4
code sign.Const = 5
code sign.Control = 6
code sign.Default = 7
code sign.DefaultAction = 8
code sign.Else = 9
code sign.Entries = 10
code sign.Exact = 11
code sign.False = 12
code sign.FlowKey = 13
code sign.FlowArray = 14
code sign.FlowCell = 15
code sign.Header = 16
code sign.If = 17
code sign.In = 18
code sign.Inout = 19
code sign.Key = 20
code sign.Lpm = 21
code sign.Out = 22
code sign.PacketIn = 23
code sign.PacketOut = 24
code sign.Parser = 25
code sign.Select = 26
code sign.Size = 27
code sign.State = 28
code sign.StdT = 29
code sign.Struct = 30
code sign.Table = 31
code sign.Ternary = 32
code sign.Transition = 33
code sign.True = 34
code sign.Typedef = 35
code sign.RpSwitch = 36
code sign.OpenBrace = 37
code sign.CloseBrace = 38
code sign.Open = 39
code sign.Close = 40
code sign.OpenSlice = 41
code sign.CloseSlice = 42
code sign.Less = 43
code sign.More = 44
code sign.Dot = 45
code sign.Comma = 46
code sign.Semicolon = 47
code sign.Colon = 48
code sign.Assign = 49
code sign.Ask = 50
code sign.Not = 51
code sign.Complement = 52
code sign.Plus = 53
code sign.Minus = 54
code sign.SatPlus = 55
code sign.SatMinus = 56
code sign.BitAnd = 57
code sign.BitOr = 58
code sign.BitXor = 59
code sign.ShiftLeft = 60
code sign.ShiftRight = 61
code sign.Concat = 62
code sign.Equal = 63
code sign.NotEqual = 64
code sign.LessEqual = 65
code sign.MoreEqual = 66
code sign.And = 67
code sign.Or = 68
code sign.Mask = 69
code sign.Any = 70

-- this value where the test holds
abbrev pub test : {A : Type 0} → Bool → A → Result A (Unit {0})
test b x = cond b (Ok x) (Err tt)

abbrev pub sign_of : Sign → ℕ → Lexeme → Result ℕ (Unit {0})
sign_of s at (lexeme.Sign r) = test (nat_eq (code s) (code r)) at
sign_of s at (lexeme.Name text) = Err tt
sign_of s at (lexeme.Number value width) = Err tt

-- the place of this sign
abbrev pub is : Sign → Token → Result ℕ (Unit {0})
is s t = sign_of s t.at t.lexeme

abbrev pub name_of : ℕ → Lexeme → Result P4Name (Unit {0})
name_of at (lexeme.Name text) = Ok (record { at = at; text = text })
name_of at (lexeme.Sign r) = Err tt
name_of at (lexeme.Number value width) = Err tt

-- a name
abbrev pub name : Token → Result P4Name (Unit {0})
name t = name_of t.at t.lexeme

abbrev pub text_of : List ℕ → ℕ → Lexeme → Result ℕ (Unit {0})
text_of text at (lexeme.Name other) = test (bytes_eq other text) at
text_of text at (lexeme.Sign r) = Err tt
text_of text at (lexeme.Number value width) = Err tt

-- the place of this name, which isn't kept
abbrev pub the_name : List ℕ → Token → Result ℕ (Unit {0})
the_name text t = text_of text t.at t.lexeme

abbrev pub number_of : ℕ → Lexeme → Result P4Number (Unit {0})
number_of at (lexeme.Number value width) = Ok (record { at = at; value = value; width = width })
number_of at (lexeme.Name text) = Err tt
number_of at (lexeme.Sign r) = Err tt

-- a number
abbrev pub number : Token → Result P4Number (Unit {0})
number t = number_of t.at t.lexeme

-- these signs, and then more
abbrev pub words : {A : Type 0} → List Sign → Lang A → Lang A
words [] L = L
words (s ∷ ss) L = bind (taken (is s)) λ at. words ss L

abbrev pub words_at : {A : Type 0} → List Sign → Reader A → Reader A
words_at [] p = p
words_at (s ∷ ss) p = bind_at (taken_at (is s)) λ at. words_at ss p

-- whether a token is this sign
abbrev pub in_hand : Sign → Token → Bool
in_hand s a = is_given (is s a)

-- whether a token isn't this sign
abbrev pub but : Sign → Token → Bool
but s a = cond (in_hand s a) false true

-- whether a token is one of these signs
abbrev pub one_of : List Sign → Token → Bool
one_of [] a = false
one_of (s ∷ ss) a = cond (in_hand s a) true (one_of ss a)

abbrev pub is_name : Token → Bool
is_name a = is_given (name a)

abbrev pub before : P4Name → Option (List P4Name) → Option (List P4Name)
before x None = None
before x (Some xs) = Some (x ∷ xs)

-- the path x and xs before its last name, where that has this text and isn't x
abbrev pub called : List ℕ → P4Name → List P4Name → Option (List P4Name)
called text x [] = None
called text x (y ∷ []) = cond (bytes_eq y.text text) (Some (x ∷ [])) None
called text x (y ∷ z ∷ zs) = before x (called text y (z ∷ zs))
