-- The records of a store, with how many cells each flow has.
use Rattle.std.specs.Prelude.{ℕ, ◌≡◌, Some, length}
use Rattle.key_table.specs.Table.{Key, get}
use Rattle.proto_data.specs.declared.message.Entry.{Entry}
use Rattle.proto_data.specs.declared.message.Record.{Record}
use Rattle.proto_model.specs.Records.{Records, applied}

-- a store's records, and how many cells each flow has
pub record Leases : Type 0 where
  pub cell_count : ℕ
  pub records : Records

-- each record has as many cells
abbrev pub HaveCells : ℕ → Records → Type 0
HaveCells cells records = (key : Key) (r : Record) → get records key ≡ Some r → length r.cells ≡ cells

-- the table after an entry that is applied at `now`
abbrev pub after_entry : Leases → Entry → ℕ → Leases
after_entry t entry now = record t { records = applied t.cell_count t.records entry now }
