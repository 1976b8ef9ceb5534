use Rattle.std.proofs.Common.{None}
use Rattle.mirror_buf.proofs.Taking.{left_over}
use Rattle.mirror_buf.proofs.buffer.MirrorBuf.give_up.Goals as goal

pub returns : goal.returns
returns c =
    left_over c.args.slot None c.args.self.now c.loop-moment.self c.take_first.new.self c.take_first.result c.in_default.is c.take_first.ensures
    c.loop-moment.invariant.slots c.loop-moment.invariant.rest
