use Rattle.std.proofs.Common.{◌∙◌, ap}
use Rattle.std.specs.Prelude.{length, filter}
use Rattle.mirror_buf.specs.Copies.{Copies, is_of}
use Rattle.mirror_buf.proofs.Taking.{slot_counted}
use Rattle.mirror_buf.proofs.buffer.MirrorBuf.count.Goals as goal

pub returns : goal.returns
returns c = c.count.ensures ∙ (slot_counted c.self.inside.arena c.self.invariant c.args.slot ∙ ap (λ (v : Copies). length (filter (is_of c.args.slot) v.copies)) c.self.view_is)
