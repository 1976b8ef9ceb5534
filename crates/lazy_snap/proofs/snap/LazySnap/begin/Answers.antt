use Rattle.std.proofs.Common.{◌∙◌, ap, Some}
use Rattle.lazy_snap.specs.Snap.{Snap}
use Rattle.lazy_snap.proofs.Picks.{begun_seen}
use Rattle.lazy_snap.proofs.snap.LazySnap.begin.Goals as goal

pub returns-clause-ok : goal.returns-clause-ok
returns-clause-ok c =
    begun_seen c.self.inside.cells c.self.inside.kept.items c.self.inside.turn c.self.invariant.both c.turned-self-inside.result c.turned-self-inside.new.kept.items c.args.round
    c.turned-self-inside.ensures.length c.turned-self-inside.ensures.past
    ∙ ap (λ (v : Snap). record { cells = v.cells; round = Some (c.args.round, v.cells) }) c.self.view_is
