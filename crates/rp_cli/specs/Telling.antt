-- What is told on standard error.
use Rattle.std.specs.Prelude.{ℕ, List, [], ◌∷◌, ◌++◌, codes, decimal}
use Rattle.rp_base.specs.declared.refused.Why.{Why}
use Rattle.rp_base.specs.declared.refused.Why.TheVariants as cause
use Rattle.sched_lang.specs.declared.schedule.SchedWhy.{SchedWhy}
use Rattle.sched_lang.specs.declared.schedule.SchedWhy.TheVariants as why
use Rattle.run_core.specs.declared.status.Status.{Status}
use Rattle.run_core.specs.declared.status.Status.TheVariants as status

-- the name of the cause for which a program is refused
abbrev pub cause_text : Why → List ℕ
cause_text cause.BadByte = codes "BadByte"
cause_text cause.BadNumber = codes "BadNumber"
cause_text cause.OpenComment = codes "OpenComment"
cause_text cause.Directive = codes "Directive"
cause_text cause.TooLong = codes "TooLong"
cause_text cause.Deep = codes "Deep"
cause_text cause.Mixed = codes "Mixed"
cause_text cause.Unexpected = codes "Unexpected"
cause_text cause.Unknown = codes "Unknown"
cause_text cause.Twice = codes "Twice"
cause_text cause.Kind = codes "Kind"
cause_text cause.Width = codes "Width"
cause_text cause.Fit = codes "Fit"
cause_text cause.Cycle = codes "Cycle"
cause_text cause.Key = codes "Key"
cause_text cause.Cells = codes "Cells"
cause_text cause.Entry = codes "Entry"

-- the name of the cause for which a schedule is refused
abbrev pub why_text : SchedWhy → List ℕ
why_text why.TooLong = codes "TooLong"
why_text why.Many = codes "Many"
why_text why.Form = codes "Form"
why_text why.Number = codes "Number"
why_text why.Node = codes "Node"
why_text why.Terms = codes "Terms"
why_text why.Cells = codes "Cells"
why_text why.Mode = codes "Mode"
why_text why.NotYet = codes "NotYet"

-- how the program ended, in words
abbrev pub status_text : Status → List ℕ
status_text status.Done = codes "done"
status_text status.Usage = codes "usage"
status_text (status.ProgramRefused at why) = codes "program " ++ decimal at ++ codes " " ++ cause_text why
status_text (status.ScheduleRefused line why) = codes "schedule " ++ decimal line ++ codes " " ++ why_text why
status_text status.InputFault = codes "input fault"
status_text status.OutputFault = codes "output fault"
status_text status.NoMemory = codes "no memory"

-- the line on standard error, with its line feed; none where all is written
abbrev pub status_line : Status → List ℕ
status_line status.Done = []
status_line status.Usage = codes "rp: " ++ status_text status.Usage ++ 10 ∷ []
status_line (status.ProgramRefused at why) = codes "rp: " ++ status_text (status.ProgramRefused at why) ++ 10 ∷ []
status_line (status.ScheduleRefused line why) = codes "rp: " ++ status_text (status.ScheduleRefused line why) ++ 10 ∷ []
status_line status.InputFault = codes "rp: " ++ status_text status.InputFault ++ 10 ∷ []
status_line status.OutputFault = codes "rp: " ++ status_text status.OutputFault ++ 10 ∷ []
status_line status.NoMemory = codes "rp: " ++ status_text status.NoMemory ++ 10 ∷ []
