use Rattle.std.specs.Prelude.{ℕ}
use Rattle.sched_lang.specs.Ready.{IsReady}
use Rattle.sched_lang.specs.declared.schedule.Schedule.{Schedule}
use Rattle.sched_lang.specs.Reading.{schedule_of}
use Rattle.sched_lang.proofs.Behind.{of_given}
use Rattle.sched_lang.proofs.Accepted.{accepted-ready}
use Rattle.sched_lang.proofs.reading.read_with_mode.Goals as goal

pub returns-clause-ready : goal.returns-clause-ready
returns-clause-ready c = of_given (λ (x : Schedule × ℕ). x.0) IsReady c.schedule.result (schedule_of c.args.b.now) c.schedule.ensures.exact (accepted-ready c.args.b.now)
