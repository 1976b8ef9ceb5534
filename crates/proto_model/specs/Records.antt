-- What a store keeps of each flow, and how an entry of the book changes it.
use Rattle.std.specs.Prelude.{ℕ, ◌+◌, Bool, false, ◌&&◌, ◌==◌, List, [], Option, Some, None, nat_lt, length, fold}
use Rattle.std.specs.List.{list_all}
use Rattle.proto_data.specs.declared.message.Record.{Record}
use Rattle.proto_data.specs.declared.message.Entry.{Entry}
use Rattle.rp_app.specs.Application.{Delta, written, zeros}
use Rattle.key_table.specs.Table.{Key, Table, get, put}

-- records in order of first Grant
abbrev pub Records : Type 0
Records = Table Record

abbrev pub cells_of : ℕ → Option Record → List ℕ
cells_of cells None = zeros cells
cells_of cells (Some r) = r.cells

abbrev pub next_epoch : Option Record → ℕ
next_epoch None = 1
next_epoch (Some r) = r.epoch + 1

-- a Put's cells are written at `now`; there is no record of a flow that was never granted
abbrev pub put_applied : Records → Key → ℕ → Delta → ℕ → Option Record → Records
put_applied records key number delta now None = records
put_applied records key number delta now (Some r) =
    put records key (record r { last = number; cells = written r.cells delta; moment = now })

abbrev pub snap_applied : Records → Key → ℕ → List ℕ → ℕ → Option Record → Records
snap_applied records key round cells now None = records
snap_applied records key round cells now (Some r) = put records key (record r { last = round; cells = cells; moment = now })

-- The records after one entry, applied at `now`. The first number is that of the cells of a flow.
abbrev pub applied : ℕ → Records → Entry → ℕ → Records
applied cells records (Entry.Grant key epoch switch inc nonce) now =
    put records key
    (record {
      epoch = epoch;
      switch = switch;
      inc = inc;
      nonce = nonce;
      last = 0;
      cells = cells_of cells (get records key);
      moment = now;
    })
applied cells records (Entry.Put key epoch number delta) now = put_applied records key number delta now (get records key)
applied cells records (Entry.Snap key epoch round values) now = snap_applied records key round values now (get records key)

-- an entry of a book, with the clock and the number of the event at which it was applied
pub record Booked : Type 0 where
  pub entry : Entry
  pub moment : ℕ
  pub event : ℕ

-- the records after a book
abbrev pub records_of : ℕ → List Booked → Records
records_of cells book = fold (λ records b. applied cells records b.entry b.moment) [] book

-- whether each cell of a delta is among so many
abbrev pub delta_within : ℕ → Delta → Bool
delta_within cells delta = list_all (λ d. nat_lt d.0 cells) delta

abbrev pub fits_at : ℕ → ℕ → Bool → Option Record → Bool
fits_at epoch number within None = false
fits_at epoch number within (Some r) = (r.epoch == epoch) && ((number == r.last + 1) && within)

-- whether the entry comes next for its flow
abbrev pub entry_fits : ℕ → Records → Entry → Bool
entry_fits cells records (Entry.Grant key epoch switch inc nonce) = epoch == next_epoch (get records key)
entry_fits cells records (Entry.Put key epoch number delta) = fits_at epoch number (delta_within cells delta) (get records key)
entry_fits cells records (Entry.Snap key epoch round values) = fits_at epoch round (length values == cells) (get records key)
