-- Tables that can be searched.
use Rattle.std.specs.Prelude.{ℕ, ◌≡◌, List, length, Some, slice_get, ⊤}
use Rattle.exec_tables.specs.declared.local.Local.{Local}
use Rattle.exec_tables.specs.declared.local.Local.TheVariants as local

-- a table has as many codes as its entries have keys
abbrev pub IsReady : Local → Type 0
IsReady (local.Action a) = ⊤
IsReady (local.Table t) = length t.keys ≡ length t.rows.keys
IsReady local.Other = ⊤

-- so has each table of some locals
abbrev pub AreReady : List Local → Type 0
AreReady ls = (i : ℕ) (l : Local) → slice_get ls i ≡ Some l → IsReady l
