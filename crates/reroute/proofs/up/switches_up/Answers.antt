use Rattle.std.proofs.Common.{arith, Bool, false, length-append}
use Rattle.std.proofs.lemmas.Grind.{common_steps}
use Rattle.std.proofs.lemmas.List.{append-nil}
use Rattle.reroute.proofs.Lists.{numbers_more}
use Rattle.reroute.proofs.up.switches_up.Goals as goal
use Rattle.reroute.proofs.up.switches_up.Goals.{then-believed-n, else-believed-n}

pub loop-n-preserved : goal.loop-n-preserved
loop-n-preserved c =
    let more = numbers_more (λ (b : Bool). b) c.args.believed.now c.loop-n.n false c.loop-n-test.true in
    elim c.if-believed-n.branch [
      | then-believed-n w ↦ record { up = grind (arith, common_steps, more); fits = grind (arith, common_steps, length-append) }
      | else-believed-n w ↦ record { up = grind (arith, common_steps, more, append-nil); fits = grind (arith, common_steps) }
    ]
