use Rattle.mirror_buf.proofs.Standing.{buffer_put}
use Rattle.mirror_buf.proofs.buffer.MirrorBuf.put.Goals as goal

pub invariant_of-self : goal.invariant_of-self
invariant_of-self c =
    buffer_put c.self.inside.arena c.add.new.self c.args.kept c.add.result c.self.invariant c.args.self.now c.self.view_is c.requires.slot c.requires.number c.requires.sent
    c.add.ensures.free c.add.ensures.ok c.add.ensures.err
