-- A report's lines that are legal are read as what is judged legal, and a report has one judgement.
use Rattle.std.proofs.Common.{◌≡◌, ◌∙◌, ℕ, ◌≤◌, List, [], ◌∷◌, ◌++◌, Bool, true, false, ◌||◌, Result, Ok, Err, length, refl, sym, ap, subst, All, eqb-true, eq-eqb}
use Rattle.std.specs.Prelude.{nat_eq, ◌==◌, if◌then◌else◌}
use Rattle.std.proofs.Math.Bool.{or_assoc}
use Rattle.std.proofs.lemmas.Bool.{false≢true}
use Rattle.std.proofs.lemmas.List.{append-nil}
use Rattle.key_table.proofs.Tables.{same_key-refl}
use Rattle.rp_base.specs.declared.event.Event.{Event}
use Rattle.rp_base.specs.declared.legality.Flow.{Flow}
use Rattle.rp_base.specs.declared.line.Line.{Line}
use Rattle.rp_app.specs.Application.{Application}
use Rattle.proto_safety.specs.LegalLines.{LegalLines, is_refused, flows_in, releases_in as released_by}
use Rattle.proto_safety.proofs.Legality.ReportLegal.{same_lists}
use Rattle.proto_safety.proofs.Legality.RulesOneByOne.{least_once, one_fails}
use Rattle.proto_safety.proofs.Legality.RunLines.{feeds_same}
use Rattle.run_report.specs.Report.{lines_text}
use Rattle.report_read.specs.declared.report.Report.{Report}
use Rattle.report_read.specs.declared.report.ReportWhy.{ReportWhy}
use Rattle.report_read.specs.Printed.{IsReportLine}
use Rattle.report_read.specs.Reading.{Fault, report_of}
use Rattle.report_read.specs.Whole.{AreEventLines, HaveKeys, flow_lines, refused_in, releases_in, whole_lines}
use Rattle.report_read.proofs.Again.{text-again}
use Rattle.report_read.proofs.Whole.{whole-said}
use Rattle.report_judge.specs.declared.judgement.JudgeEnd.TheVariants as end
use Rattle.report_judge.specs.Judging.{IsJudgement, Judgement, Judges, feeds_but, is_among}

-- ---- one judgement

same_fault : (fault : Fault) (line number : ℕ) (cause other : ReportWhy) → fault ≡ (line, cause) → fault ≡ (number, other) → end.Refused line cause ≡ end.Refused number other
same_fault fault line number cause other h k = ap (λ (f : Fault). end.Refused f.0 f.1) (sym h ∙ k)

pub one_judgement : (app : Application) (events : List Event) (read : Result Report Fault) (a b : Judgement) → IsJudgement app events read a → IsJudgement app events read b → a ≡ b
one_judgement app events (Err fault) (Err (end.Refused line cause)) (Err (end.Refused number other)) h k = ap (λ e. Err e) (same_fault fault line number cause other h k)
one_judgement app events (Err fault) (Err (end.Refused line cause)) (Err (end.NotLegal rule)) h k = absurd k
one_judgement app events (Err fault) (Err (end.Refused line cause)) (Err end.NoMemory) h k = absurd k
one_judgement app events (Err fault) (Err (end.Refused line cause)) (Ok done) h k = absurd k
one_judgement app events (Err fault) (Err (end.NotLegal rule)) b h k = absurd h
one_judgement app events (Err fault) (Err end.NoMemory) b h k = absurd h
one_judgement app events (Err fault) (Ok done) b h k = absurd h
one_judgement app events (Ok report) (Err (end.NotLegal rule)) (Err (end.NotLegal other)) h k =
    ap (λ n. Err (end.NotLegal n)) (least_once app (feeds_but events report.refused) report.releases report.flows rule other h k)
one_judgement app events (Ok report) (Err (end.NotLegal rule)) (Ok done) h k = absurd (one_fails app (feeds_but events report.refused) report.releases report.flows rule h k)
one_judgement app events (Ok report) (Err (end.NotLegal rule)) (Err (end.Refused line cause)) h k = absurd k
one_judgement app events (Ok report) (Err (end.NotLegal rule)) (Err end.NoMemory) h k = absurd k
one_judgement app events (Ok report) (Ok done) (Err (end.NotLegal rule)) h k = absurd (one_fails app (feeds_but events report.refused) report.releases report.flows rule k h)
one_judgement app events (Ok report) (Ok done) (Ok also) h k = refl
one_judgement app events (Ok report) (Ok done) (Err (end.Refused line cause)) h k = absurd k
one_judgement app events (Ok report) (Ok done) (Err end.NoMemory) h k = absurd k
one_judgement app events (Ok report) (Err (end.Refused line cause)) b h k = absurd h
one_judgement app events (Ok report) (Err end.NoMemory) b h k = absurd h

-- ---- what lines say

nat_eq_turned : (a b : ℕ) → (a == b) ≡ nat_eq b a
nat_eq_turned a b = by (a == b) (nat_eq b a) refl refl
  where
    by : (x y : Bool) → (a == b) ≡ x → nat_eq b a ≡ y → x ≡ y
    by true true h k = refl
    by false false h k = refl
    by true false h k = absurd (false≢true (sym k ∙ eq-eqb b a (sym (eqb-true a b h))))
    by false true h k = absurd (false≢true (sym h ∙ eq-eqb a b (sym (eqb-true b a k))))

module _ (events : ℕ) (rest : List Line) where
  event_releases : (last : ℕ) (ls : List Line) → AreEventLines events last ls → released_by (ls ++ rest) ≡ releases_in ls ++ released_by rest
  event_releases last [] are = refl
  event_releases last (Line.Release event mark port bytes ∷ ls) are = ap (λ rs. record { event = event; output = record { mark = mark; port = port; bytes = bytes } } ∷ rs) (event_releases event ls are.3)
  event_releases last (Line.Drop event mark cause ∷ ls) are = event_releases event ls are.3
  event_releases last (Line.Lost event cause ∷ ls) are = event_releases event ls are.3
  event_releases last (Line.Refused event cause ∷ ls) are = event_releases event ls are.3
  event_releases last (Line.Stranger event node ∷ ls) are = event_releases event ls are.3
  event_releases last (Line.Send event frame from to kind bytes ∷ ls) are = absurd are.0
  event_releases last (Line.Serial key marks ∷ ls) are = absurd are.0
  event_releases last (Line.Epoch key epoch kept marks ∷ ls) are = absurd are.0
  event_releases last (Line.Cells key cells ∷ ls) are = absurd are.0
  event_releases last (Line.End ∷ ls) are = absurd are.0

  event_refusals : (last : ℕ) (ls : List Line) (n : ℕ) → AreEventLines events last ls → is_refused (ls ++ rest) n ≡ (is_among (refused_in ls) n || is_refused rest n)
  event_refusals last [] n are = refl
  event_refusals last (Line.Release event mark port bytes ∷ ls) n are = event_refusals event ls n are.3
  event_refusals last (Line.Drop event mark cause ∷ ls) n are = event_refusals event ls n are.3
  event_refusals last (Line.Lost event cause ∷ ls) n are = event_refusals event ls n are.3
  event_refusals last (Line.Refused event cause ∷ ls) n are =
      ap (λ b. b || is_refused (ls ++ rest) n) (nat_eq_turned event n)
      ∙ (ap (λ b. nat_eq n event || b) (event_refusals event ls n are.3) ∙ sym (or_assoc (nat_eq n event) (is_among (refused_in ls) n) (is_refused rest n)))
  event_refusals last (Line.Stranger event node ∷ ls) n are = event_refusals event ls n are.3
  event_refusals last (Line.Send event frame from to kind bytes ∷ ls) n are = absurd are.0
  event_refusals last (Line.Serial key marks ∷ ls) n are = absurd are.0
  event_refusals last (Line.Epoch key epoch kept marks ∷ ls) n are = absurd are.0
  event_refusals last (Line.Cells key cells ∷ ls) n are = absurd are.0
  event_refusals last (Line.End ∷ ls) n are = absurd are.0

  event_flows : (last : ℕ) (ls : List Line) → AreEventLines events last ls → flows_in (ls ++ rest) ≡ flows_in rest
  event_flows last [] are = refl
  event_flows last (Line.Release event mark port bytes ∷ ls) are = event_flows event ls are.3
  event_flows last (Line.Drop event mark cause ∷ ls) are = event_flows event ls are.3
  event_flows last (Line.Lost event cause ∷ ls) are = event_flows event ls are.3
  event_flows last (Line.Refused event cause ∷ ls) are = event_flows event ls are.3
  event_flows last (Line.Stranger event node ∷ ls) are = event_flows event ls are.3
  event_flows last (Line.Send event frame from to kind bytes ∷ ls) are = absurd are.0
  event_flows last (Line.Serial key marks ∷ ls) are = absurd are.0
  event_flows last (Line.Epoch key epoch kept marks ∷ ls) are = absurd are.0
  event_flows last (Line.Cells key cells ∷ ls) are = absurd are.0
  event_flows last (Line.End ∷ ls) are = absurd are.0

-- the lines behind the event lines
abbrev behind : List Flow → List Line
behind fs = flow_lines fs ++ Line.End ∷ []

none_released : (fs : List Flow) → released_by (behind fs) ≡ []
none_released [] = refl
none_released (f ∷ fs) = none_released fs

none_refused : (fs : List Flow) (n : ℕ) → is_refused (behind fs) n ≡ false
none_refused [] n = refl
none_refused (f ∷ fs) n = none_refused fs n

flows_again : (fs : List Flow) → flows_in (behind fs) ≡ fs
flows_again [] = refl
flows_again (f ∷ fs) = ap (λ b. record { key = f.key; marks = f.marks; cells = if b then f.cells else [] } ∷ flows_in (behind fs)) (same_key-refl f.key) ∙ ap (λ gs. f ∷ gs) (flows_again fs)

or_none : (b : Bool) → (b || false) ≡ b
or_none true = refl
or_none false = refl

module _ (app : Application) (events : List Event) (ls : List Line) (fs : List Flow) (lines : AreEventLines (length events) 0 ls) where
  releases_same : releases_in ls ≡ released_by (whole_lines ls fs)
  releases_same = sym (event_releases (length events) (behind fs) 0 ls lines ∙ (ap (λ rs. releases_in ls ++ rs) (none_released fs) ∙ append-nil (releases_in ls)))

  refusals_same : (n : ℕ) → is_among (refused_in ls) n ≡ is_refused (whole_lines ls fs) n
  refusals_same n = sym (event_refusals (length events) (behind fs) 0 ls n lines ∙ (ap (λ b. is_among (refused_in ls) n || b) (none_refused fs n) ∙ or_none (is_among (refused_in ls) n)))

  flows_same : fs ≡ flows_in (whole_lines ls fs)
  flows_same = sym (event_flows (length events) (behind fs) 0 ls lines ∙ flows_again fs)

  pub judged_legal : All IsReportLine (whole_lines ls fs) → HaveKeys fs → length (lines_text (whole_lines ls fs)) ≤ 67108864 → LegalLines app events (whole_lines ls fs) →
      IsJudgement app events (report_of (length events) (lines_text (whole_lines ls fs))) (Ok tt)
  judged_legal are keys fits legal =
      subst (λ (read : Result Report Fault). IsJudgement app events read (Ok tt)) (sym (text-again (length events) (whole_lines ls fs) are fits ∙ whole-said (length events) ls fs lines keys))
      (same_lists app (feeds_same (is_among (refused_in ls)) (is_refused (whole_lines ls fs)) 1 events (λ k le. refusals_same k)) releases_same flows_same legal)

-- where a report is judged legal, a judge that has memory answers nothing else
pub only_legal : (app : Application) (events : List Event) (text : List ℕ) → IsJudgement app events (report_of (length events) text) (Ok tt) →
    (answer : Judgement) → Judges app events text answer → (answer ≡ Err end.NoMemory → ⊥) → answer ≡ Ok tt
only_legal app events text legal (Ok done) judged memory = refl
only_legal app events text legal (Err (end.Refused line cause)) judged memory = one_judgement app events (report_of (length events) text) _ _ judged legal
only_legal app events text legal (Err (end.NotLegal rule)) judged memory = one_judgement app events (report_of (length events) text) _ _ judged legal
only_legal app events text legal (Err end.NoMemory) judged memory = absurd (memory refl)
