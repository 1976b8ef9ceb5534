use Rattle.sched_gen.specs.Generated.{generated}
use Rattle.sched_print.proofs.Again.{schedule-again}
use Rattle.sched_print.proofs.Generated.{generated-fits}
use Rattle.sched_print.proofs.printing.generated_schedules_are_read.Goals as goal

pub returns : goal.returns
returns c = λ n fits. schedule-again (generated n) (generated-fits n) fits
