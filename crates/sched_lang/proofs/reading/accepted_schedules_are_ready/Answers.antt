use Rattle.sched_lang.proofs.Accepted.{accepted-ready}
use Rattle.sched_lang.proofs.reading.accepted_schedules_are_ready.Goals as goal

pub returns : goal.returns
returns c = accepted-ready
