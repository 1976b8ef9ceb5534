-- The tokens of keysets and tables.
use Rattle.std.specs.Prelude.{List, [], ◌∷◌, Option, Some, None}
use Rattle.p4_lex.specs.declared.token.Sign.{Sign}
use Rattle.p4_lex.specs.declared.token.Sign.TheVariants as sign
use Rattle.p4_lex.specs.declared.token.Lexeme.{Lexeme}
use Rattle.p4_ast.specs.declared.name.P4Name.{P4Name}
use Rattle.p4_ast.specs.declared.expression.P4Expr.{P4Expr}
use Rattle.p4_ast.specs.declared.parser.P4One.{P4One}
use Rattle.p4_ast.specs.declared.parser.P4One.TheVariants as one
use Rattle.p4_ast.specs.declared.parser.P4Keyset.{P4Keyset}
use Rattle.p4_ast.specs.declared.parser.P4Keyset.TheVariants as keyset
use Rattle.p4_ast.specs.declared.table.P4Table.{P4Table}
use Rattle.p4_ast.specs.declared.table.P4Keys.{P4Keys}
use Rattle.p4_ast.specs.declared.table.P4Key.{P4Key}
use Rattle.p4_ast.specs.declared.table.P4Match.{P4Match}
use Rattle.p4_ast.specs.declared.table.P4Match.TheVariants as matching
use Rattle.p4_ast.specs.declared.table.P4Acts.{P4Acts}
use Rattle.p4_ast.specs.declared.table.P4Default.{P4Default}
use Rattle.p4_ast.specs.declared.table.P4Entries.{P4Entries}
use Rattle.p4_ast.specs.declared.table.P4Entry.{P4Entry}
use Rattle.p4_ast.specs.declared.table.P4Size.{P4Size}
use Rattle.p4_ast.specs.declared.table.P4Call.{P4Call}
use Rattle.p4_print.specs.Shared.{◌+>◌, the, named, number, all, separated, maybe}
use Rattle.p4_print.specs.Expressions.{expr_tokens, operand_tokens, args_tokens, where_so}

-- the sides of `&&&` are operands
unfoldable pub masked_tokens : P4Expr → Option P4Expr → List Lexeme
masked_tokens e None = expr_tokens e
masked_tokens e (Some mask) = operand_tokens e +> the sign.Mask ∷ operand_tokens mask

unfoldable pub one_tokens : P4One → List Lexeme
one_tokens (one.Any at) = the sign.Any ∷ []
one_tokens (one.Expr at e mask) = masked_tokens e mask

unfoldable pub keyset_tokens : P4Keyset → List Lexeme
keyset_tokens (keyset.Default at) = the sign.Default ∷ []
keyset_tokens (keyset.One o) = one_tokens o
keyset_tokens (keyset.Tuple at ones) = the sign.Open ∷ separated sign.Comma one_tokens ones +> the sign.Close ∷ []

abbrev pub match_sign : P4Match → Sign
match_sign matching.Exact = sign.Exact
match_sign matching.Lpm = sign.Lpm
match_sign matching.Ternary = sign.Ternary

unfoldable pub key_tokens : P4Key → List Lexeme
key_tokens k = expr_tokens k.expr +> the sign.Colon ∷ the (match_sign k.matching) ∷ the sign.Semicolon ∷ []

unfoldable pub keys_tokens : P4Keys → List Lexeme
keys_tokens k = the sign.Key ∷ the sign.Assign ∷ the sign.OpenBrace ∷ all key_tokens k.keys +> the sign.CloseBrace ∷ []

abbrev pub act_tokens : P4Name → List Lexeme
act_tokens n = named n ∷ the sign.Semicolon ∷ []

unfoldable pub acts_tokens : P4Acts → List Lexeme
acts_tokens a = the sign.Actions ∷ the sign.Assign ∷ the sign.OpenBrace ∷ all act_tokens a.names +> the sign.CloseBrace ∷ []

-- a call always has its parentheses
unfoldable pub call_tokens : P4Call → List Lexeme
call_tokens c = named c.name ∷ args_tokens c.args

unfoldable pub default_tokens : P4Default → List Lexeme
default_tokens d = where_so d.const_ sign.Const +> the sign.DefaultAction ∷ the sign.Assign ∷ call_tokens d.call +> the sign.Semicolon ∷ []

unfoldable pub entry_tokens : P4Entry → List Lexeme
entry_tokens e = keyset_tokens e.keyset +> the sign.Colon ∷ call_tokens e.call +> the sign.Semicolon ∷ []

unfoldable pub entries_tokens : P4Entries → List Lexeme
entries_tokens e =
    where_so e.const_ sign.Const +> the sign.Entries ∷ the sign.Assign ∷ the sign.OpenBrace ∷ all entry_tokens e.entries +> the sign.CloseBrace ∷ []

unfoldable pub size_tokens : P4Size → List Lexeme
size_tokens s = the sign.Size ∷ the sign.Assign ∷ number s.number ∷ the sign.Semicolon ∷ []

unfoldable pub table_tokens : P4Table → List Lexeme
table_tokens t =
    the sign.Table ∷ named t.name ∷ the sign.OpenBrace ∷ keys_tokens t.keys +> acts_tokens t.acts +> maybe default_tokens t.default
    +> maybe entries_tokens t.entries +> maybe size_tokens t.size +> the sign.CloseBrace ∷ []
