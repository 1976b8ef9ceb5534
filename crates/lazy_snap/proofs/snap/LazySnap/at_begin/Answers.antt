use Rattle.std.proofs.Common.{◌∙◌, ap, sym, get_or}
use Rattle.lazy_snap.specs.Picking.{picked_one}
use Rattle.lazy_snap.proofs.Picks.{at_seen, one_kept, one_not}
use Rattle.lazy_snap.proofs.snap.LazySnap.at_begin.Goals as goal

pub returns-then-kept-self : goal.returns-then-kept-self
returns-then-kept-self c =
    sym
    (at_seen c.self.inside.cells c.self.inside.kept.items c.self.inside.turn c.self.invariant.both c.self.inside.round c.args.self.now c.self.view_is c.requires.round c.args.at 0 c.index-kept.result.now c.requires.at
    ∙ (ap (λ k. picked_one c.self.inside.turn k (get_or c.self.inside.cells c.args.at 0)) (sym c.index-kept.ensures)
    ∙ one_kept c.self.inside.turn (get_or c.self.inside.cells c.args.at 0) c.index-kept.result.now c.if-kept-self.true))

pub returns-else-kept-self : goal.returns-else-kept-self
returns-else-kept-self c =
    ap (λ xs. get_or xs c.args.at 0) c.as_slice.ensures
    ∙ sym
    (at_seen c.self.inside.cells c.self.inside.kept.items c.self.inside.turn c.self.invariant.both c.self.inside.round c.args.self.now c.self.view_is c.requires.round c.args.at 0 c.index-kept.result.now c.requires.at
    ∙ (ap (λ k. picked_one c.self.inside.turn k (get_or c.self.inside.cells c.args.at 0)) (sym c.index-kept.ensures)
    ∙ one_not c.self.inside.turn (get_or c.self.inside.cells c.args.at 0) c.index-kept.result.now c.if-kept-self.false))
