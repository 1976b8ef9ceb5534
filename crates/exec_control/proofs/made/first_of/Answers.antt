use Rattle.tree_eval.specs.Seen.{seen}
use Rattle.exec_control.proofs.Firsts.{first_more}
use Rattle.exec_control.proofs.made.first_of.Goals as goal

pub loop-l-preserved : goal.loop-l-preserved
loop-l-preserved c =
    first_more c.loop-l.steps c.push_first.new.steps c.args.ls.now c.loop-l.l-index c.l-item.result (seen c.args.sc) c.loop-l-test.true c.l-item.is c.in_ok-push_first.ensures c.loop-l.invariant
