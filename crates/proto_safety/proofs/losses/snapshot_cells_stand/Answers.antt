use Rattle.proto_safety.proofs.Snapshots.SnapRun.{snapshot_cells}
use Rattle.proto_safety.proofs.losses.snapshot_cells_stand.Goals as goal

pub returns : goal.returns
returns c = snapshot_cells
