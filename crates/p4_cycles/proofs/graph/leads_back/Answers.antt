use Rattle.std.proofs.Common.{◌≡◌, ◌<◌, ◌+◌, ◌-◌, length, Some, sym, ap, ◌∙◌, arith}
use Rattle.std.proofs.lemmas.Grind.{common_steps}
use Rattle.std.specs.Prelude.{slice_get}
use Rattle.p4_cycles.specs.Graphs.{targets, reached, joined}
use Rattle.p4_cycles.proofs.Floods.{reached_more}
use Rattle.p4_cycles.proofs.graph.leads_back.Goals as goal

pub loop-i-preserved : goal.loop-i-preserved
loop-i-preserved c =
    let g = c.args.g.now in
    let i = c.loop-i.i in
    let less : i < length g = grind (arith, common_steps) in
    let at : slice_get c.loop-i.found i ≡ Some c.in-Some.x = grind (arith, common_steps) in
    let joins : c.join-in-loop-i.new.self ≡ joined c.loop-i.found (targets g c.in-Some.x) = grind (arith, common_steps) in
    let more = reached_more g (length g) i c.in-Some.x c.loop-i.found less at in
    record {
      told = ap (reached (length g - (i + 1)) g (i + 1)) joins ∙ (sym more ∙ c.loop-i.invariant.told);
      within = omega (arith, less);
    }
