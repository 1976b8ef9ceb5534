use Rattle.link_trace.proofs.Told.{goes_behind}
use Rattle.link_trace.proofs.doings_go_on.Goals as goal

pub returns : goal.returns
returns c = goes_behind
