-- What a picked row is in the words of the definitions, and what holds of what it appends.
use Rattle.std.specs.Prelude.{◌<◌, ◌≤◌, ℕ, ◌-◌, drop, ◌≡◌, true}
use Rattle.proto_data.specs.declared.message.Body.{Body}
use Rattle.proto_model.specs.Records.{entry_fits, fits_at}
use Rattle.proto_model.specs.ReplicaState.{Replica, StoreStep, record_at, store_sent, to_predecessor, whole_cells}
use Rattle.proto_model.specs.ReplicaRows.{StoreRow, Loses, Answers, Echoes, Appends, Commits, Adopts, Resends, gathered_row}
use Rattle.store_replica.specs.declared.part.Part.{Part}
use Rattle.store_replica.specs.declared.row.Row.{Row}
use Rattle.store_replica.specs.Gatherings.{gathered_with, IsPart}

-- a chunk of the next round is kept, and the round appended where it is whole
abbrev pub part_row : Replica → Part → StoreRow
part_row s p = gathered_row p.key p.epoch p.round (gathered_with s.gathered p) (whole_cells (gathered_with s.gathered p))

-- the row of the definitions that a row of the code is
abbrev pub row_of : Replica → Row → StoreRow
row_of s (Row.Loses cause) = Loses cause
row_of s (Row.Answers to body) = Answers to body
row_of s (Row.Echoes of load) = Echoes of load
row_of s (Row.Appends entry load) = Appends entry load
row_of s (Row.Gathers part) = part_row s part
row_of s (Row.Commits index) = Commits index
row_of s (Row.Adopts config) = Adopts config
row_of s Row.Resends = Resends

-- a chunk of the next round of its flow
pub record IsNextPart (s : Replica) (p : Part) : Type 0 where
  pub is_part : IsPart s.cell_count p
  pub next : fits_at p.epoch p.round true (record_at s p.key) ≡ true

-- what is appended comes next for its flow, and what is committed is applied
abbrev pub ComesNext : Replica → Row → Type 0
ComesNext s (Row.Loses cause) = Unit {0}
ComesNext s (Row.Answers to body) = Unit {0}
ComesNext s (Row.Echoes of load) = Unit {0}
ComesNext s (Row.Appends entry load) = entry_fits s.cell_count s.records entry ≡ true
ComesNext s (Row.Gathers part) = IsNextPart s part
ComesNext s (Row.Commits index) = (s.known < index) × (index ≤ s.applied)
ComesNext s (Row.Adopts config) = Unit {0}
ComesNext s Row.Resends = Unit {0}

-- so many entries are known to be committed, and the predecessor is told
abbrev pub committed_to : Replica → ℕ → StoreStep
committed_to s index = (
  record s { known = index; pending = drop (index - s.known) s.pending },
  store_sent (to_predecessor s (Body.Have index)),
)
