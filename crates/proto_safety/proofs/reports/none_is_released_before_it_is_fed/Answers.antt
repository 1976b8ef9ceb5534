use Rattle.proto_safety.proofs.Legality.ReleasedLate as late
use Rattle.proto_safety.proofs.reports.none_is_released_before_it_is_fed.Goals as goal

pub returns : goal.returns
returns c = late.none_early
