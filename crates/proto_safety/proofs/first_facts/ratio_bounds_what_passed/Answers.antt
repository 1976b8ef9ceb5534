use Rattle.proto_safety.proofs.Time.ClockSums.{ratio_between}
use Rattle.proto_safety.proofs.first_facts.ratio_bounds_what_passed.Goals as goal

pub returns : goal.returns
returns c = ratio_between
