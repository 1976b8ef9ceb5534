-- What was written of a run is legal, or loses boundedly, since it is a report or a front of one.
use Rattle.std.proofs.Common.{◌≡◌, sym, subst, refl, ap, Bool, List, [], ℕ, Option, Some, None, Result, Ok, Err, IfSome, IfOk}
use Rattle.std.proofs.lemmas.List.{append-nil}
use Rattle.rp_base.specs.Outside.{Grows, GrowsByFront}
use Rattle.rp_base.specs.declared.refused.Refused.{Refused}
use Rattle.rp_app.specs.Application.{Application, IsApplication, counting}
use Rattle.rp_app.specs.Counting.{counting_promised}
use Rattle.p4_ast.specs.declared.program.P4Program.{P4Program}
use Rattle.app_meaning.specs.Programs.{application}
use Rattle.p4_parse.specs.Parsing.{parsed}
use Rattle.p4_check.specs.Programs.{bad_tree, checked}
use Rattle.p4_checked.specs.Reading.{checked_of, checked_parsed, unless_bad}
use Rattle.check_laws.proofs.Sound.{application_of}
use Rattle.rp_frame.specs.Spelling.{kind, spelling}
use Rattle.run_history.specs.Shown.{shown}
use Rattle.proto_model.specs.EndLines.{report}
use Rattle.proto_safety.proofs.Legality.ReportLegal.{reports_are_legal}
use Rattle.loss_laws.proofs.LinesBounded.{reports_lose}
use Rattle.sched_lang.specs.declared.schedule.Schedule.{Schedule}
use Rattle.sched_lang.specs.declared.schedule.SchedWhy.{SchedWhy}
use Rattle.sched_lang.specs.Reading.{Fault, schedule_of, mode_at}
use Rattle.sched_lang.specs.Ready.{IsReady}
use Rattle.sched_lang.proofs.Accepted.{accepted-ready}
use Rattle.run_text.specs.Texts.{report_text}
use Rattle.run_core.specs.declared.status.Status.{Status}
use Rattle.run_core.specs.declared.status.Status.TheVariants as status
use Rattle.run_core.specs.declared.loading.Machine.{Machine}
use Rattle.run_core.specs.Commands.{Command, Plain, Run, Subject, Counting, Program, form_of}
use Rattle.run_core.specs.Outcomes.{◌>>=◌, fitting, judged, mode_fault, mode_of, outcome, outcome_at, program_in, read_or_refused, schedule_in, setup_of, subject_in, unless_at}
use Rattle.run_core.specs.Answers.{Answers}
use Rattle.run_core.specs.Runs.{Asked, IsBoundedText, IsLegalText, Wrote, WroteBounded, WroteLegal, asked, asked_at, ok_of}

-- ---- what runs keeps what is promised of an application

checked_promised : (r : Result P4Program Refused) (t : P4Program) → checked_parsed r ≡ Ok t → IsApplication (application t)
checked_promised (Err f) t e = absurd cc
checked_promised (Ok p) t e = by (bad_tree p) refl e
  where
    by : (o : Option Refused) → bad_tree p ≡ o → unless_bad o (checked p) ≡ Ok t → IsApplication (application t)
    by None good is = let same : checked p ≡ t = cc in subst (λ x. IsApplication (application x)) same (application_of p good)
    by (Some f) bad is = absurd cc

judged_promised : (r : Result P4Program Refused) (a : Application) → ((t : P4Program) → r ≡ Ok t → IsApplication (application t)) → judged r ≡ Ok a → IsApplication a
judged_promised (Err f) a h e = absurd cc
judged_promised (Ok t) a h e = let same : application t ≡ a = cc in subst IsApplication same (h t refl)

program_promised : (content : Option (List ℕ)) (a : Application) → program_in content ≡ Ok a → IsApplication a
program_promised None a e = absurd cc
program_promised (Some text) a e = judged_promised (checked_of text) a (checked_promised (parsed text)) e

subject_promised : (subject : Subject) (contents : List ℕ → Option (List ℕ)) (a : Application) → subject_in subject contents ≡ Ok a → IsApplication a
subject_promised Counting contents a e = let same : counting ≡ a = cc in subst IsApplication same counting_promised
subject_promised (Program name) contents a e = program_promised (contents name) a e

-- ---- a schedule that a machine takes is ready to run

ready_unless : (line : ℕ) (o : Option SchedWhy) (x s : Schedule) → IsReady x → unless_at line o x ≡ Ok s → IsReady s
ready_unless line None x s h e = let same : x ≡ s = cc in subst IsReady same h
ready_unless line (Some cause) x s h e = absurd cc

ready_read : (machine : Machine) (cells line : ℕ) (r : Result Schedule Fault) (s : Schedule) → (IfOk r IsReady) → (read_or_refused r >>= (λ x. unless_at line (mode_fault machine cells x.snapshot) x)) ≡ Ok s → IsReady s
ready_read machine cells line (Err f) s h e = absurd cc
ready_read machine cells line (Ok x) s h e = ready_unless line (mode_fault machine cells x.snapshot) x s h e

ready_in : (machine : Machine) (cells : ℕ) (content : Option (List ℕ)) (s : Schedule) → schedule_in machine cells content ≡ Ok s → IsReady s
ready_in machine cells None s e = absurd cc
ready_in machine cells (Some text) s e = ready_read machine cells (mode_at text) (schedule_of text) s (accepted-ready text) e

-- ---- the run that is asked for

-- the outcome is the report of the run that is asked for
record IsRun (command : Option Command) (contents : List ℕ → Option (List ℕ)) (a : Asked) : Type 0 where
  frames : Bool
  says : outcome_at command contents ≡ Ok (report_text frames a.app (setup_of a.schedule) a.schedule.events)
  promised : IsApplication a.app
  ready : IsReady a.schedule

module _ (subject : Subject) (schedule : List ℕ) (frames : Bool) (contents : List ℕ → Option (List ℕ)) (a : Asked) where
  -- what is said where the application is this one
  abbrev Said : Result Application Status → Type 0
  Said r = (r >>= (λ app. schedule_in Machine.World app.cell_count (contents schedule) >>= (λ s. Ok (report_text frames app (setup_of s) s.events)))) ≡ Ok (report_text frames a.app (setup_of a.schedule) a.schedule.events)

  by_schedule : (app : Application) (o : Result Schedule Status) → schedule_in Machine.World app.cell_count (contents schedule) ≡ o →
      ok_of (o >>= (λ s. Ok (record { app = app; schedule = s }))) ≡ Some a → Said (Ok app) × ((a.app ≡ app) × IsReady a.schedule)
  by_schedule app (Err answer) is e = absurd cc
  by_schedule app (Ok s) is e =
      let same : ◌≡◌ {A = Asked} (record { app = app; schedule = s }) a = cc in
      let app_is : a.app ≡ app = sym (ap (λ (x : Asked). x.app) same) in
      let said : (schedule_in Machine.World app.cell_count (contents schedule) >>= (λ x. Ok (report_text frames app (setup_of x) x.events))) ≡ Ok (report_text frames a.app (setup_of a.schedule) a.schedule.events) =
      rw is (ap (λ (x : Asked). Ok (report_text frames x.app (setup_of x.schedule) x.schedule.events)) same) in
      (said, (app_is, subst IsReady (ap (λ (x : Asked). x.schedule) same) (ready_in Machine.World app.cell_count (contents schedule) s is)))

  by_subject : (r : Result Application Status) → subject_in subject contents ≡ r →
      ok_of (r >>= (λ app. schedule_in Machine.World app.cell_count (contents schedule) >>= (λ s. Ok (record { app = app; schedule = s })))) ≡ Some a → IsRun (Some (Run subject schedule frames)) contents a
  by_subject (Err answer) is e = absurd cc
  by_subject (Ok app) is e =
      let h = by_schedule app (schedule_in Machine.World app.cell_count (contents schedule)) refl e in
      record {
        frames = frames;
        says = subst Said (sym is) h.0;
        promised = subst IsApplication (sym h.1.0) (subject_promised subject contents app is);
        ready = h.1.1;
      }

run_is : (command : Option Command) (contents : List ℕ → Option (List ℕ)) (a : Asked) → asked_at command contents ≡ Some a → IsRun command contents a
run_is None contents a e = absurd cc
run_is (Some (Plain subject schedule)) contents a e = absurd cc
run_is (Some (Run subject schedule frames)) contents a e = by_subject subject schedule frames contents a (subject_in subject contents) refl e

-- ---- its text

legal_text : (frames : Bool) (app : Application) (s : Schedule) → IsApplication app → IsReady s → s.snapshot ≡ None → IsLegalText app s.events (report_text frames app (setup_of s) s.events)
legal_text frames app s promised ready strict =
    record {
      lines = shown (report frames app (setup_of s) s.events);
      says = refl;
      legal = reports_are_legal kind spelling app promised (setup_of s) (ap mode_of strict) ready.header.hold s.events frames;
    }

bounded_text : (frames : Bool) (app : Application) (s : Schedule) → IsApplication app → IsReady s → (bound : ℕ) → s.snapshot ≡ Some bound → IsBoundedText app s.events (report_text frames app (setup_of s) s.events)
bounded_text frames app s promised ready bound snapshot =
    record {
      lines = shown (report frames app (setup_of s) s.events);
      says = refl;
      bounded = reports_lose kind spelling app promised (setup_of s) bound (ap mode_of snapshot) ready.header.hold s.events frames;
    }

-- what is written for a text, by its answer
wrote : (answer : Status) (text : List ℕ) (old new : Option (List ℕ)) → Answers answer (Ok text) old new → Wrote answer text old new
wrote status.Done text old new h = h
wrote status.Usage text old new h = absurd h
wrote (status.ProgramRefused at why) text old new h = absurd h
wrote (status.ScheduleRefused line why) text old new h = absurd h
wrote status.InputFault text old new h = (0, h)
wrote status.OutputFault text old new h = h
wrote status.NoMemory text old new h = h

-- ---- what was told

module _ (answer : Status) (words : List (List ℕ)) (old new : Option (List ℕ)) where
  legal_at : (contents : List ℕ → Option (List ℕ)) → Answers answer (outcome words contents) old new → (o : Option Asked) → asked words contents ≡ o →
      IfSome o (λ run. run.schedule.snapshot ≡ None → WroteLegal answer run old new)
  legal_at contents told None e = tt
  legal_at contents told (Some a) e = λ strict.
      let r = run_is (form_of words) contents a e in
      let text = report_text r.frames a.app (setup_of a.schedule) a.schedule.events in
      record {
        text = text;
        legal = legal_text r.frames a.app a.schedule r.promised r.ready strict;
        wrote = wrote answer text old new (subst (λ (o : Result (List ℕ) Status). Answers answer o old new) r.says told);
      }

  pub legal_told : (told : Option (List ℕ → Option (List ℕ))) → IfSome told (λ contents. Answers answer (outcome words contents) old new) →
      IfSome told (λ contents. IfSome (asked words contents) (λ run. run.schedule.snapshot ≡ None → WroteLegal answer run old new))
  legal_told None h = tt
  legal_told (Some contents) h = legal_at contents h (asked words contents) refl

  bounded_by : (contents : List ℕ → Option (List ℕ)) → Answers answer (outcome words contents) old new → (a : Asked) → asked words contents ≡ Some a →
      (snapshot : Option ℕ) → a.schedule.snapshot ≡ snapshot → IfSome snapshot (λ _. WroteBounded answer a old new)
  bounded_by contents told a e None is = tt
  bounded_by contents told a e (Some bound) is =
      let r = run_is (form_of words) contents a e in
      let text = report_text r.frames a.app (setup_of a.schedule) a.schedule.events in
      record {
        text = text;
        bounded = bounded_text r.frames a.app a.schedule r.promised r.ready bound is;
        wrote = wrote answer text old new (subst (λ (o : Result (List ℕ) Status). Answers answer o old new) r.says told);
      }

  bounded_at : (contents : List ℕ → Option (List ℕ)) → Answers answer (outcome words contents) old new → (o : Option Asked) → asked words contents ≡ o →
      IfSome o (λ run. IfSome run.schedule.snapshot (λ _. WroteBounded answer run old new))
  bounded_at contents told None e = tt
  bounded_at contents told (Some a) e = bounded_by contents told a e a.schedule.snapshot refl

  pub bounded_told : (told : Option (List ℕ → Option (List ℕ))) → IfSome told (λ contents. Answers answer (outcome words contents) old new) →
      IfSome told (λ contents. IfSome (asked words contents) (λ run. IfSome run.schedule.snapshot (λ _. WroteBounded answer run old new)))
  bounded_told None h = tt
  bounded_told (Some contents) h = bounded_at contents h (asked words contents) refl

-- where nothing was written, memory may have run out
pub unwritten : (old : Option (List ℕ)) (o : Result (List ℕ) Status) → Answers status.NoMemory o old old
unwritten None (Ok text) = (0, tt)
unwritten (Some xs) (Ok text) = (0, sym (append-nil xs))
unwritten None (Err answer) = tt
unwritten (Some xs) (Err answer) = sym (append-nil xs)
