use Rattle.proto_safety.proofs.Store.WorldStands.{all_stand}
use Rattle.proto_safety.proofs.books.replicas_stand.Goals as goal

pub returns : goal.returns
returns c = all_stand
