use Rattle.sched_print.proofs.Again.{schedule-again}
use Rattle.sched_print.proofs.printing.printed_schedules_are_read.Goals as goal

pub returns : goal.returns
returns c = schedule-again
