use Rattle.std.proofs.Common.{get_or}
use Rattle.lazy_snap.proofs.Picks.{after_write, snap_write}
use Rattle.lazy_snap.proofs.snap.LazySnap.write.Goals as goal

pub invariant_of-self : goal.invariant_of-self
invariant_of-self c =
    snap_write c.self.inside.cells c.set.new.self c.self.inside.kept.items c.keep.new.kept.items c.self.inside.turn c.args.cell c.args.v (get_or c.as_slice.result.now c.args.cell 0)
    c.self.invariant c.keep.ensures c.set.ensures

pub returns : goal.returns
returns c =
    after_write c.self.inside.cells c.set.new.self c.as_slice.result.now c.self.inside.kept.items c.keep.new.kept.items c.self.inside.turn c.self.inside.round c.args.self.now c.args.cell c.args.v
    c.self.invariant.both c.self.view_is c.as_slice.ensures c.keep.ensures c.set.ensures
