use Rattle.proto_safety.proofs.Size.WorldSizes.{opened_sized}
use Rattle.proto_safety.proofs.sizes.opened_worlds_are_sized.Goals as goal

pub returns : goal.returns
returns c = opened_sized
