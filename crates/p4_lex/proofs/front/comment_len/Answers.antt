use Rattle.std.proofs.Common.{arith}
use Rattle.p4_lex.proofs.Steps.{comment-step}
use Rattle.p4_lex.proofs.front.comment_len.Goals as goal

pub loop-at-preserved : goal.loop-at-preserved
loop-at-preserved c = record { within = omega arith; rest = comment-step c.args.bytes.now c.loop-at.at _ c.loop-at-test.true (cc) c.loop-at.invariant.rest }
