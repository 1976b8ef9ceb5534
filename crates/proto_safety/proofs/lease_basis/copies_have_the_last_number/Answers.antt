use Rattle.proto_safety.proofs.Leasing.FlowCopies.{copies_have_last}
use Rattle.proto_safety.proofs.lease_basis.copies_have_the_last_number.Goals as goal

pub returns : goal.returns
returns c = copies_have_last
