use Rattle.proto_safety.proofs.Size.WorldSizes.{sized_short}
use Rattle.proto_safety.proofs.sizes.sized_frames_are_short.Goals as goal

pub returns : goal.returns
returns c = sized_short
