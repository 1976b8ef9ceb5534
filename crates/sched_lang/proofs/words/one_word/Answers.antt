use Rattle.std.proofs.Common.{arith}
use Rattle.std.proofs.lemmas.Grind.{common_steps}
use Rattle.sched_lang.proofs.Cuts.{one-more}
use Rattle.sched_lang.proofs.words.one_word.Goals as goal

pub returns-in_default-Some : goal.returns-in_default-Some
returns-in_default-Some c = grind (arith, common_steps, one-more c.first_word.result.0.now c.in_default-Some.field-0-1.now)
