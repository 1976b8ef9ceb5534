use Rattle.proto_safety.proofs.Messages.WorldOrigins.{origins_hold, came_of_requests}
use Rattle.proto_safety.proofs.requests.entries_come_of_requests.Goals as goal

pub returns : goal.returns
returns c = λ app setup events. came_of_requests _ (origins_hold app setup events)
