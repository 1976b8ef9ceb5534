use Rattle.proto_safety.proofs.Size.WorldSizes.{event_sized_at, hand_sized}
use Rattle.proto_safety.proofs.sizes.turns_keep_sizes.Goals as goal

pub returns : goal.returns
returns c = record { events = event_sized_at; hands = hand_sized }
