-- A program or a schedule that is loaded.
use Rattle.std.proofs.Common.{◌≡◌, List, ℕ, ◌<◌, ◌≤◌, true, false, nat_lt, ap, refl, sym, ◌∙◌, arith, length, take, length-take, subst, Option, Some, None, Result, Err, IfSome}
use Rattle.std.proofs.lemmas.Bool.{ltb-true, ltb-false, lt-ltb}
use Rattle.std.proofs.lemmas.List.{take_all}
use Rattle.rp_base.specs.Outside.{Loaded}
use Rattle.rp_app.specs.Application.{Application}
use Rattle.p4_check.specs.Checking.{CheckedProgram}
use Rattle.p4_checked.specs.Reading.{checked_of}
use Rattle.app_meaning.specs.Programs.{application}
use Rattle.sched_lang.specs.declared.schedule.Schedule.{Schedule}
use Rattle.sched_lang.specs.declared.schedule.SchedWhy.TheVariants as why
use Rattle.sched_lang.specs.Reading.{schedule_of}
use Rattle.run_core.specs.declared.status.Status.{Status}
use Rattle.run_core.specs.declared.loading.Machine.{Machine}
use Rattle.run_core.specs.Answers.{Loads}
use Rattle.run_core.specs.Outcomes.{fitting, judged, program_in, schedule_in}

-- the front of a program that is loaded is checked as the whole text
checked_of-front : (text : List ℕ) → checked_of (take 262145 text) ≡ checked_of text
checked_of-front text =
    elim (nat_lt 262144 (length text)) as (λ long. nat_lt 262144 (length text) ≡ long → checked_of (take 262145 text) ≡ checked_of text) [
      | true ↦ λ e.
          let long : 262144 < length text = ltb-true 262144 (length text) e in
          let cut : nat_lt 262144 (length (take 262145 text)) ≡ true = lt-ltb 262144 (length (take 262145 text)) (omega (arith, length-take 262145 text)) in
          rw (cut, e) refl
      | false ↦ λ e.
          let short : length text ≤ 262144 = ltb-false 262144 (length text) e in
          let all : take 262145 text ≡ text = take_all 262145 text (omega arith) in
          ap checked_of all
    ] refl

-- a text that is too long is refused as a whole
too_long : (text : List ℕ) → nat_lt 4194304 (length text) ≡ true → schedule_of text ≡ Err (0, why.TooLong)
unfolding schedule_of
too_long text e = rw e refl

-- the front of a schedule that is loaded fits as the whole text
fitting-front : (machine : Machine) (cells : ℕ) (text : List ℕ) → fitting machine cells (take 4194305 text) ≡ fitting machine cells text
fitting-front machine cells text =
    elim (nat_lt 4194304 (length text)) as (λ long. nat_lt 4194304 (length text) ≡ long → fitting machine cells (take 4194305 text) ≡ fitting machine cells text) [
      | true ↦ λ e.
          let long : 4194304 < length text = ltb-true 4194304 (length text) e in
          let cut : nat_lt 4194304 (length (take 4194305 text)) ≡ true = lt-ltb 4194304 (length (take 4194305 text)) (omega (arith, length-take 4194305 text)) in
          let whole : schedule_of text ≡ Err (0, why.TooLong) = too_long text e in
          let front : schedule_of (take 4194305 text) ≡ Err (0, why.TooLong) = too_long (take 4194305 text) cut in
          rw (whole, front) refl
      | false ↦ λ e.
          let short : length text ≤ 4194304 = ltb-false 4194304 (length text) e in
          let all : take 4194305 text ≡ text = take_all 4194305 text (omega arith) in
          ap (fitting machine cells) all
    ] refl

-- the application of a program that is loaded is that of its name's content, where contents are told
pub told_program : (told : Option (List ℕ → Option (List ℕ))) (name into : List ℕ) (r : Result CheckedProgram Status) → Loaded told name 262144 into →
    Loads (λ (c : CheckedProgram). application c.tree) r (judged (checked_of into)) → IfSome told (λ contents. Loads (λ (c : CheckedProgram). application c.tree) r (program_in (contents name)))
told_program None name into r h k = tt
told_program (Some contents) name into r h k =
    let view : CheckedProgram → Application = λ c. application c.tree in
    let P : Option (List ℕ) → Type 0 = λ content. Loads view r (program_in content) in
    let Q : Result Application Status → Type 0 = λ due. Loads view r due in
    subst P (sym h.1) (subst Q (ap judged (ap checked_of h.2 ∙ checked_of-front h.0)) k)

-- a schedule that is loaded is that of its name's content, where contents are told
pub told_schedule : (told : Option (List ℕ → Option (List ℕ))) (machine : Machine) (cells : ℕ) (name into : List ℕ) (r : Result Schedule Status) → Loaded told name 4194304 into →
    Loads (λ (s : Schedule). s) r (fitting machine cells into) → IfSome told (λ contents. Loads (λ (s : Schedule). s) r (schedule_in machine cells (contents name)))
told_schedule None machine cells name into r h k = tt
told_schedule (Some contents) machine cells name into r h k =
    let P : Option (List ℕ) → Type 0 = λ content. Loads (λ (s : Schedule). s) r (schedule_in machine cells content) in
    let Q : Result Schedule Status → Type 0 = λ due. Loads (λ (s : Schedule). s) r due in
    subst P (sym h.1) (subst Q (ap (fitting machine cells) h.2 ∙ fitting-front machine cells h.0) k)
