use Rattle.proto_safety.proofs.Nodes.NodesSay.{replica_says}
use Rattle.proto_safety.proofs.rows.replicas_say_what_their_books_have.Goals as goal

pub returns : goal.returns
returns c = replica_says
