use Rattle.std.proofs.Common.{subst}
use Rattle.proto_safety.specs.Frames.{Grows}
use Rattle.rp_world.specs.AppWorld.{AppWorld}
use Rattle.rp_world.proofs.Calls.{few_on, going_on}
use Rattle.rp_world.proofs.world.World.on.Goals as goal

pub on-requires-clause-sized : goal.on-requires-clause-sized
on-requires-clause-sized g c = c.is_sized.ensures c.args.self.now.setup c.requires.event

pub invariant_of-self : goal.invariant_of-self
invariant_of-self g c no_failure =
    going_on (g.A.App.meaning c.self.inside.app) c.self.inside.setup c.self.inside.state c.on.new.self c.in-Ok.lines (c.self.invariant c.if-self.false) c.args.e.now c.in-Ok.ensures.step c.in-Ok.ensures.run

pub returns-in-Ok-clause-few : goal.returns-in-Ok-clause-few
returns-in-Ok-clause-few g c =
    subst (λ (w : AppWorld g.row.A.Denot). Grows w.world.frames c.on.new.self.frames) c.self.view_is
    (few_on (g.A.App.meaning c.self.inside.app) c.self.inside.setup c.self.inside.state c.on.new.self c.in-Ok.lines (c.self.invariant c.if-self.false) c.args.e.now c.in-Ok.ensures.step)
