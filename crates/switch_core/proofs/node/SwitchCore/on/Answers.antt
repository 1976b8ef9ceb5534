use Rattle.std.proofs.Common.{◌<◌, ◌∙◌, ap, sym, subst, refl}
use Rattle.switch_core.specs.States.{Core, turn}
use Rattle.switch_core.proofs.Turns.{seen_steady, turn_is, turn_kept}
use Rattle.switch_core.proofs.node.SwitchCore.on.Goals as goal

pub on-requires-clause-steady : goal.on-requires-clause-steady
on-requires-clause-steady g c =
    seen_steady c.self.inside.cells c.self.inside.turns c.args.now (g.A.App.meaning c.args.app.now).cell_count c.self.inside.switch c.see.new.self c.see.ensures
    (c.requires.cells ∙ ap (λ (k : Core). k.cells) (sym c.self.view_is))
    (subst (λ (k : Core). k.turns < 4000000000) (sym c.self.view_is) c.requires.turns)
    (c.self.invariant c.if-self.false).1

pub invariant_of-self-in-Ok : goal.invariant_of-self-in-Ok
invariant_of-self-in-Ok g c =
    λ ok. turn_kept (g.A.App.meaning c.args.app.now) c.self.inside.cells c.self.inside.turns c.args.now c.self.inside.switch c.see.new.self c.on.new.self c.in-Ok.did c.args.input.now
    c.see.ensures c.in-Ok.ensures (c.requires.cells ∙ ap (λ (k : Core). k.cells) (sym c.self.view_is)) (c.self.invariant ok).1

pub returns-in-Ok-clause-step : goal.returns-in-Ok-clause-step
returns-in-Ok-clause-step g c =
    turn_is (g.A.App.meaning c.args.app.now)
    (record { state = c.self.inside.switch.state; latest = c.self.inside.latest; cells = c.self.inside.cells; turns = c.self.inside.turns; failed = c.self.inside.failed })
    c.args.now c.self.inside.switch c.see.new.self c.on.new.self c.in-Ok.did c.args.input.now refl c.see.ensures c.in-Ok.ensures
    ∙ ap (λ (k : Core). turn (g.A.App.meaning c.args.app.now) k c.args.now c.args.input.now) c.self.view_is
