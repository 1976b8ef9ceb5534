-- A slot's cells with the round of snapshots that runs, and the chunks of a round.
use Rattle.std.specs.Prelude.{ℕ, ◌≡◌, ◌+◌, ◌<◌, ◌≤◌, ◌^◌, ⊤, List, Option, Some, None, option_map, length, if◌then◌else◌, nat_lt}
use Rattle.lazy_snap.specs.Snap.{Snap}
use Rattle.proto_model.specs.Slot.{Round, chunk_count, chunk_of}
use Rattle.switch_slot.specs.declared.cells.Part.{Part}

-- the cells, and the round that runs
pub record CellsAt : Type 0 where
  pub cells : List ℕ
  pub round : Option Round

-- a round of snapshots that began at this moment, with its next chunk
abbrev pub round_from : ℕ → ℕ → ℕ × List ℕ → Round
round_from begun chunk r = record { number = r.0; begun = begun; chunk = chunk; cells = r.1 }

-- the same of cells as snapshots see them
abbrev pub seen : Snap → ℕ → ℕ → CellsAt
seen snap begun chunk = record { cells = snap.cells; round = option_map (round_from begun chunk) snap.round }

-- the chunk that goes next
abbrev pub part_of : Round → Part
part_of r = record { round = r.number; chunk = r.chunk; chunks = chunk_count (length r.cells); cells = chunk_of r.chunk r.cells }

-- and the round behind it
abbrev pub advanced : Round → Round
advanced r = record r { chunk = if nat_lt (r.chunk + 1) (chunk_count (length r.cells)) then r.chunk + 1 else 0 }

-- the cells once the round's next chunk went, and the chunk; without a round none goes
abbrev pub after_part : CellsAt → Option Round → CellsAt × Option Part
after_part s None = (s, None)
after_part s (Some r) = (record s { round = Some (advanced r) }, Some (part_of r))

-- what holds of every slot's cells: there are at most 256, and the next chunk is one of the round's
abbrev pub IsNext : CellsAt → Option Round → Type 0
IsNext s None = ⊤
IsNext s (Some r) = (length r.cells ≡ length s.cells) × (r.chunk < chunk_count (length r.cells))

-- a round's begin is at most 2^62
abbrev pub IsEarly : Option Round → Type 0
IsEarly None = ⊤
IsEarly (Some r) = r.begun ≤ 2 ^ 62

-- these cells and their round are those of a slot
pub record IsSlotCells (s : CellsAt) : Type 0 where
  pub few : length s.cells ≤ 256
  pub next : IsNext s s.round
  pub early : IsEarly s.round
