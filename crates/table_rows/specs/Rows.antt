-- The entries of a table as rows of conditions.
use Rattle.std.specs.Prelude.{ℕ, zero, suc, ◌≡◌, List, [], ◌∷◌, map, length, Option, Some, None, slice_get}
use Rattle.p4_ast.specs.declared.table.P4Entry.{P4Entry}
use Rattle.p4_ast.specs.declared.table.P4Key.{P4Key}
use Rattle.p4_ast.specs.declared.table.P4Match.{P4Match}
use Rattle.p4_ast.specs.declared.table.P4Match.TheVariants as matching
use Rattle.app_data.specs.declared.value.Match.{Match}
use Rattle.app_data.specs.declared.value.Value.{Value}
use Rattle.app_meaning.specs.Slots.{Scope}
use Rattle.app_meaning.specs.Matches.{keyset_row, winner}
use Rattle.app_meaning.specs.Actions.{lpm_place, rows}
use Rattle.match_tables.specs.declared.entries.MatchKind.{MatchKind}
use Rattle.match_tables.specs.declared.entries.MatchKind.TheVariants as kind
use Rattle.match_tables.specs.declared.entries.MatchCond.{MatchCond}
use Rattle.match_tables.specs.declared.entries.Entries.{Entries}
use Rattle.match_tables.specs.Winning.{look}

-- how a key is matched
abbrev pub kind_of : P4Match → MatchKind
kind_of matching.Exact = kind.Exact
kind_of matching.Lpm = kind.Lpm
kind_of matching.Ternary = kind.Ternary

-- what one key must be
abbrev pub cond_of : Match → MatchCond
cond_of m = record { value = m.value; mask = m.mask }

-- a row for so many keys: a key that it doesn't speak of has any value
abbrev pub conds : ℕ → List Match → List MatchCond
conds zero ms = []
conds (suc n) [] = record { value = 0; mask = 0 } ∷ conds n []
conds (suc n) (m ∷ ms) = cond_of m ∷ conds n ms

-- the rows of entries for so many keys
abbrev pub rows_of : Scope → ℕ → List P4Entry → List (List MatchCond)
rows_of sc n es = map (λ e. conds n (keyset_row sc e.keyset)) es

-- the row of a number
abbrev pub row_at : {A : Type 0} → List A → Option ℕ → Option A
row_at rs None = None
row_at rs (Some n) = slice_get rs n

-- the numbers of values
abbrev pub numbers : List Value → List ℕ
numbers values = map (λ v. v.number) values

-- a table finds the row that wins
pub record IsTableOf (sc : Scope) (keys : List P4Key) (es : List P4Entry) (table : Entries) : Type 0 where
  pub long : length table.keys ≡ length keys
  pub finds : (values : List Value) → length values ≡ length keys → row_at (rows sc es) (look table (numbers values)) ≡ winner (lpm_place keys) values (rows sc es)
