use Rattle.std.proofs.Common.{refl}
use Rattle.key_table.proofs.KeyTables.{put_put}
use Rattle.switch_core.proofs.Over.{acked_same}
use Rattle.switch_core.proofs.switch.Switch.acked.Goals as goal

pub returns : goal.returns
returns c = rw (← c.self.view_is, c.released.ensures, c.put.ensures, c.in_ok-out.ensures.slot, c.in_ok-out.ensures.out, c.extend.ensures.slot, c.acknowledge-first.ensures.copies, c.acknowledge-first.ensures.first, put_put, acked_same) refl
