use Rattle.std.proofs.Common.{subst}
use Rattle.proto_safety.specs.Frames.{Grows}
use Rattle.rp_world.specs.AppWorld.{AppWorld}
use Rattle.rp_world.proofs.Calls.{few_hand}
use Rattle.rp_world.proofs.world.World.hand.Goals as goal

pub returns-in-Ok-clause-few : goal.returns-in-Ok-clause-few
returns-in-Ok-clause-few g c =
    subst (λ (w : AppWorld g.row.A.Denot). Grows w.world.frames c.hand.new.self.frames) c.self.view_is
    (few_hand (g.A.App.meaning c.self.inside.app) c.self.inside.setup c.self.inside.state c.hand.new.self c.in-Ok.lines (c.self.invariant c.if-self.false) c.args.i c.in-Ok.ensures.step)
