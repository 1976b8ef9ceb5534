-- The chunks that came of the flows' rounds, with how many cells a flow has.
use Rattle.std.specs.Prelude.{ℕ, ◌≡◌, ◌≤◌, ◌<◌, ◌-◌, List, [], ◌∷◌, Option, Some, None, length}
use Rattle.rp_app.specs.Application.{zeros}
use Rattle.key_table.specs.Table.{Key, Table, get, put}
use Rattle.proto_model.specs.Slot.{chunk_count, chunk_of}
use Rattle.proto_model.specs.ReplicaState.{Gathered, gathering_of, with_part}
use Rattle.snap_mode.specs.declared.gather.Gathered.{Gathered as Answer}
use Rattle.store_replica.specs.declared.part.Part.{Part}

-- how many cells a flow has, and what came of each flow's round
pub record Gatherings : Type 0 where
  pub cell_count : ℕ
  pub table : Table Gathered

-- the gathering of a chunk's flow once the chunk came
abbrev pub gathered_with : Table Gathered → Part → Gathered
gathered_with table p = with_part (gathering_of p.epoch p.round p.chunks (get table p.key)) p.chunk p.cells

-- the gatherings once a chunk came
abbrev pub after_part : Gatherings → Part → Gatherings
after_part g p = record g { table = put g.table p.key (gathered_with g.table p) }

-- the chunk is one of a flow with so many cells
pub record IsPart (cells : ℕ) (p : Part) : Type 0 where
  pub place : p.chunk < p.chunks
  pub count : p.chunks ≡ chunk_count cells
  pub long : length p.cells ≡ length (chunk_of p.chunk (zeros cells))

-- a chunk that came has so many cells
abbrev pub HasLength : ℕ → Option (List ℕ) → Type 0
HasLength n None = Unit {0}
HasLength n (Some cells) = length cells ≡ n

-- the cells of a whole round are so many
abbrev pub HasWhole : ℕ → Answer → Type 0
HasWhole n Answer.More = Unit {0}
HasWhole n (Answer.Whole cells) = length cells ≡ n

-- so many cells in chunks of 32, the last of which has what is left
abbrev pub AreChunks : ℕ → List (Option (List ℕ)) → Type 0
AreChunks cells [] = ⊥
AreChunks cells (p ∷ []) = (cells ≤ 32) × HasLength cells p
AreChunks cells (p ∷ q ∷ ps) = (32 < cells) × HasLength 32 p × AreChunks (cells - 32) (q ∷ ps)

-- the chunks of a round of a flow with so many cells
pub record IsGathering (cells : ℕ) (g : Gathered) : Type 0 where
  pub size : length g.parts ≡ chunk_count cells
  pub chunks : AreChunks cells g.parts

-- each gathering is one of a flow with so many cells
abbrev pub AreGatherings : ℕ → Table Gathered → Type 0
AreGatherings cells table = (key : Key) (g : Gathered) → get table key ≡ Some g → IsGathering cells g
