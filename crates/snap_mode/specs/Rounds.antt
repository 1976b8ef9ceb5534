-- What a chunk of a round makes of its gathering, and the answer to it.
use Rattle.std.specs.Prelude.{ℕ, List, Option, Some, None}
use Rattle.proto_model.specs.ReplicaState.{Gathered, gathering_of, with_part}
use Rattle.snap_mode.specs.declared.gather.Gathered.{Gathered as Answer}
use Rattle.snap_mode.specs.declared.gather.SnapPart.{SnapPart}

-- what is gathered once a chunk came
abbrev pub after_part : Gathered → SnapPart → Gathered
after_part g p = with_part (gathering_of p.epoch p.round p.chunks (Some g)) p.chunk p.cells

-- the answer to a chunk, by the cells of the round where each chunk is there
abbrev pub told : Option (List ℕ) → Answer
told None = Answer.More
told (Some cells) = Answer.Whole cells
