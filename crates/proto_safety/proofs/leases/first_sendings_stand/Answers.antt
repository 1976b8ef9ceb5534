use Rattle.proto_safety.proofs.Leasing.FirstsOnce.{are_firsts, first_now}
use Rattle.proto_safety.proofs.leases.first_sendings_stand.Goals as goal

pub returns : goal.returns
returns c = record { requests = are_firsts; moments = first_now }
