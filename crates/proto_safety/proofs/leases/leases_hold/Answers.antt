use Rattle.proto_safety.proofs.Leasing.LeasesStand as stand
use Rattle.proto_safety.proofs.leases.leases_hold.Goals as goal

pub returns : goal.returns
returns c = stand.leases_hold
