use Rattle.proto_safety.proofs.Size.WorldSizes.{event_sized}
use Rattle.proto_safety.proofs.sizes.events_keep_sizes.Goals as goal

pub returns : goal.returns
returns c = event_sized
