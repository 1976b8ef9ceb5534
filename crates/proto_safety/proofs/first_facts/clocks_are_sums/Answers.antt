use Rattle.proto_safety.proofs.Time.ClockSums.{clock_is_sum}
use Rattle.proto_safety.proofs.first_facts.clocks_are_sums.Goals as goal

pub returns : goal.returns
returns c = λ run n node reading at. clock_is_sum run n node reading at
