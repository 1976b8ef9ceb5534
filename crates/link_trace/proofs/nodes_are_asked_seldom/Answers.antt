use Rattle.link_trace.proofs.Told.{node_hears}
use Rattle.link_trace.proofs.nodes_are_asked_seldom.Goals as goal

pub returns : goal.returns
returns c = node_hears
