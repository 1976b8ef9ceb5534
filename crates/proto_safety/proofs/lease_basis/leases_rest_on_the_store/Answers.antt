use Rattle.proto_safety.proofs.Leasing.LeasesRest.{leases_rest}
use Rattle.proto_safety.proofs.lease_basis.leases_rest_on_the_store.Goals as goal

pub returns : goal.returns
returns c = leases_rest
