use Rattle.proto_safety.proofs.Link.LinkedSizes.{linked_fits}
use Rattle.proto_safety.proofs.sizes.linked_messages_fit.Goals as goal

pub returns : goal.returns
returns c = linked_fits
