-- The four counts that keep trees shallow, over tokens alone.
use Rattle.std.specs.Prelude.{ℕ, ◌+◌, ◌-◌, List, [], ◌∷◌, Bool, false, ◌||◌, ◌&&◌, Option, Some, None, if◌then◌else◌, nat_lt}
use Rattle.p4_lex.specs.declared.token.Sign.TheVariants as sign
use Rattle.p4_lex.specs.declared.token.Token.{Token}
use Rattle.p4_grammar.specs.Tokens.{in_hand, one_of}
use Rattle.p4_part.specs.declared.deep.Counts.{Counts}

-- `(`, `[` and `{`
abbrev pub opens : Token → Bool
opens t = one_of (sign.Open ∷ sign.OpenSlice ∷ sign.OpenBrace ∷ []) t

-- `)`, `]` and `}`
abbrev pub closes : Token → Bool
closes t = one_of (sign.Close ∷ sign.CloseSlice ∷ sign.CloseBrace ∷ []) t

-- the present run is empty at these tokens
abbrev pub ends_run : Token → Bool
ends_run t = one_of (sign.Semicolon ∷ sign.OpenBrace ∷ sign.CloseBrace ∷ []) t

-- one more where this is so
abbrev pub one_more : Bool → ℕ → ℕ
one_more b n = if b then n + 1 else n

-- the counts up to and with one more token
abbrev pub counted : Counts → Token → Counts
counted c t = record {
  opened = one_more (opens t) c.opened;
  closed = one_more (closes t) c.closed;
  run = if ends_run t then 0 else c.run + 1;
  ifs = if ends_run t then 0 else one_more (in_hand sign.If t) c.ifs;
  elses = one_more (in_hand sign.If t && c.behind_else) c.elses;
  behind_else = in_hand sign.Else t;
}

-- whether a count is past its limit: open brackets, tokens of the run, its words `if`, words `if` behind `else`
abbrev pub over : Counts → Bool
over c = nat_lt 256 (c.opened - c.closed) || (nat_lt 512 c.run || (nat_lt 4 c.ifs || nat_lt 128 c.elses))

-- the counts before the first token
abbrev pub nothing : Counts
nothing = record { opened = 0; closed = 0; run = 0; ifs = 0; elses = 0; behind_else = false }

-- the same where tokens with these counts stand before
abbrev pub deep_from : Counts → List Token → Option ℕ
deep_from c [] = None
deep_from c (t ∷ ts) = if over (counted c t) then Some t.at else deep_from (counted c t) ts

-- the place of the first token at which a count passes its limit
abbrev pub deep : List Token → Option ℕ
deep ts = deep_from nothing ts
