use Rattle.proto_safety.proofs.Snapshots.LossRun.{histories_stand}
use Rattle.proto_safety.proofs.losses.snapshot_histories_stand.Goals as goal

pub returns : goal.returns
returns c = histories_stand
