use Rattle.std.proofs.Common.{refl}
use Rattle.proto_safety.proofs.Paths.StraightRows.{put_path, ask_path, one_path}
use Rattle.proto_safety.proofs.worked_rows.straight_paths_compute.Goals as goal

pub returns : goal.returns
returns c = record { put = put_path; ask = ask_path; one = one_path; released = refl }
