-- What the judgement of a report is, against the events of its schedule.
use Rattle.std.specs.Prelude.{ℕ, ◌≡◌, Bool, List, length, Result, Ok, Err, nat_eq}
use Rattle.std.specs.List.{list_any}
use Rattle.rp_base.specs.declared.event.Event.{Event}
use Rattle.rp_base.specs.declared.legality.Fed.{Fed}
use Rattle.rp_app.specs.Application.{Application}
use Rattle.proto_model.specs.Legal.{Legal}
use Rattle.proto_safety.specs.LegalLines.{LeastFailing, feeds_from}
use Rattle.report_read.specs.declared.report.Report.{Report}
use Rattle.report_read.specs.Reading.{Fault, report_of}
use Rattle.report_judge.specs.declared.judgement.JudgeEnd.{JudgeEnd}
use Rattle.report_judge.specs.declared.judgement.JudgeEnd.TheVariants as end

-- whether an event is one of these
abbrev pub is_among : List ℕ → ℕ → Bool
is_among refused n = list_any (nat_eq n) refused

-- the packets of the `feed` and `feedat` events but the refused ones, each with the number of its event
abbrev pub feeds_but : List Event → List ℕ → List Fed
feeds_but events refused = feeds_from (is_among refused) 1 events

-- what a judge answers
abbrev pub Judgement : Type 0
Judgement = Result (Unit {0}) JudgeEnd

-- The judgement of what a text reads as: its first line that fails, the least rule that the report fails, or that it is legal.
abbrev pub IsJudgement : Application → List Event → Result Report Fault → Judgement → Type 0
IsJudgement app events (Err fault) (Err (end.Refused line why)) = fault ≡ (line, why)
IsJudgement app events (Ok report) (Err (end.NotLegal rule)) = LeastFailing app (feeds_but events report.refused) report.releases report.flows rule
IsJudgement app events (Ok report) (Ok done) = Legal app (feeds_but events report.refused) report.releases report.flows
IsJudgement app events read answer = ⊥

-- the judgement of a report's text, unless memory ran out
abbrev pub Judges : Application → List Event → List ℕ → Judgement → Type 0
Judges app events text (Err end.NoMemory) = Unit {0}
Judges app events text answer = IsJudgement app events (report_of (length events) text) answer
