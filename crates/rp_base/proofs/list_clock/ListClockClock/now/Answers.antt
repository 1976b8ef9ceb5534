use Rattle.std.proofs.Common.{ap, ◌∙◌, List, ℕ}
use Rattle.rp_base.specs.Memory.{answer_at}
use Rattle.rp_base.proofs.Answers.{answers_grow}
use Rattle.rp_base.proofs.list_clock.ListClockClock.now.Goals as goal

pub returns-clause-answer : goal.returns-clause-answer
returns-clause-answer c =
    answers_grow c.args.self.now.coming.items c.args.self.now.answered c.saturating_add-self.result c.answer-now.result c.saturating_add-self.ensures
    (c.answer-now.ensures ∙ ap (λ (l : List ℕ). answer_at l c.args.self.now.answered) c.deref.ensures.value)
