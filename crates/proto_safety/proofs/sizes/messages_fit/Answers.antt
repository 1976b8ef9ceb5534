use Rattle.proto_safety.proofs.Size.WorldSizes.{run_fits}
use Rattle.proto_safety.proofs.sizes.messages_fit.Goals as goal

pub returns : goal.returns
returns c = run_fits
