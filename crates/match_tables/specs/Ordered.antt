-- How a table's entries are searched.
use Rattle.std.specs.Prelude.{◌≡◌, length, All, None, true}
use Rattle.std.specs.List.{list_any}
use Rattle.match_tables.specs.declared.entries.Entries.{Entries}
use Rattle.match_tables.specs.declared.table.Order.{Order}
use Rattle.match_tables.specs.declared.table.Order.TheVariants as order
use Rattle.match_tables.specs.Winning.{lpm_place, is_ternary}
use Rattle.match_tables.specs.Standing.{IsPlaced}

-- the order in which a table is searched is right for its entries
abbrev pub IsOrder : Entries → Order → Type 0
IsOrder e order.InTurn = (lpm_place e.keys ≡ None) × (list_any (λ k. is_ternary k.0) e.keys ≡ true)
IsOrder e (order.Sorted p) = IsPlaced (lpm_place e.keys) e.rows p

-- each entry has one condition for each key, and they are searched rightly
pub record IsTable (e : Entries) (o : Order) : Type 0 where
  pub long : All (λ r. length r ≡ length e.keys) e.rows
  pub searched : IsOrder e o
