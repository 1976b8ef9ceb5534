use Rattle.std.proofs.Common.{arith, ◌≡◌, ◌++◌, List, length, ap, sym, ◌∙◌}
use Rattle.std.specs.Prelude.{option_to_list, ℕ, IfSome, ◌<◌}
use Rattle.std.proofs.lemmas.Grind.{common_steps}
use Rattle.std.proofs.lemmas.List.{append-nil}
use Rattle.sched_lang.specs.Words.{lines}
use Rattle.sched_lang.specs.Reading.{events_from}
use Rattle.sched_lang.proofs.Fronts.{with_front, with_front-line}
use Rattle.sched_lang.proofs.EventsReady.{count-one_more}
use Rattle.sched_lang.proofs.reading.events.Goals as goal
use Rattle.sched_lang.proofs.reading.events.Goals.{in-Some+in_ok-push, in_default}

pub loop-rest-preserved : goal.loop-rest-preserved
loop-rest-preserved c =
    let made : c.match-branch-2.events ≡ c.loop-rest.events ++ option_to_list c.in_ok-event.field-0 =
    elim c.match-branch-2.branch [
      | in-Some+in_ok-push w ↦ grind (arith, common_steps)
      | in_default w ↦ grind (arith, common_steps, append-nil)
    ] in
    let step = with_front-line c.args.header.now.switches c.args.header.now.chain c.loop-rest.number c.loop-rest.events c.in_ok-event.field-0 c.first_line.result.0.now (lines c.first_line.result.1.now) (grind (arith, common_steps, c.in_ok-event.ensures.value)) in
    let room : IfSome c.in_ok-event.field-0 (λ _. length c.loop-rest.events < 20000) = rw (← c.len.ensures) c.in_ok-event.ensures.room in
    record {
      same = rw made (step ∙ ap (λ (ls : List (List ℕ)). with_front c.loop-rest.events (events_from c.args.header.now.switches c.args.header.now.chain (length c.loop-rest.events) c.loop-rest.number ls)) (sym c.first_line.ensures.lines) ∙ c.loop-rest.invariant.same);
      count = rw made (count-one_more c.loop-rest.events c.in_ok-event.field-0 c.loop-rest.invariant.count room);
      within = omega (arith, c.first_line.ensures.shorter, c.loop-rest.invariant.within);
    }
