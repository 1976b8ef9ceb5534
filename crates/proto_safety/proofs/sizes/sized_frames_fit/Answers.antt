use Rattle.proto_safety.proofs.Size.WorldSizes.{sized_fits}
use Rattle.proto_safety.proofs.sizes.sized_frames_fit.Goals as goal

pub returns : goal.returns
returns c = sized_fits
