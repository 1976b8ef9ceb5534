use Rattle.std.proofs.Common.{Some}
use Rattle.mirror_buf.proofs.Taking.{left_over}
use Rattle.mirror_buf.proofs.buffer.MirrorBuf.acked.Goals as goal

pub returns-clause-copies : goal.returns-clause-copies
returns-clause-copies c =
    left_over c.args.slot (Some c.args.upto) c.args.self.now c.loop-moment.self c.take_first.new.self c.take_first.result c.in_default.is c.take_first.ensures
    c.loop-moment.invariant.slots c.loop-moment.invariant.rest
