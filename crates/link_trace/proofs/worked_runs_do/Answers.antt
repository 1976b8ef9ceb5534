use Rattle.std.proofs.Common.{refl}
use Rattle.link_trace.proofs.worked_runs_do.Goals as goal

pub returns : goal.returns
returns c = record { packet = refl; stranger = refl }
