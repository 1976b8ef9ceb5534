use Rattle.proto_safety.proofs.Nodes.NodesSay.{switch_says}
use Rattle.proto_safety.proofs.rows.switches_say_what_they_are.Goals as goal

pub returns : goal.returns
returns c = switch_says
