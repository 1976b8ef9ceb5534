use Rattle.std.proofs.Common.{◌≡◌, ◌∙◌, ap, subst, sym}
use Rattle.proto_model.specs.EndLines.{end_lines}
use Rattle.run_history.specs.Shown.{shown}
use Rattle.world_state.specs.declared.state.WorldState.{WorldState}
use Rattle.world_state.specs.WorldStates.{world_of}
use Rattle.rp_world.specs.AppWorld.{AppWorld}
use Rattle.rp_world.specs.Begun.{IsGoing}
use Rattle.rp_world.proofs.world.World.closing.Goals as goal

pub returns-clause-ok : goal.returns-clause-ok
returns-clause-ok g c =
    let app = g.A.App.meaning c.self.inside.app in
    let going = c.self.invariant (ap (λ x. x.failed) (sym c.self-inside.view_is) ∙ c.if-self.false) in
    subst (λ (w : AppWorld g.row.A.Denot). c.in_ok-lines.lines ≡ shown (end_lines (g.A.App.meaning w.app).cell_count w.world)) c.self.view_is
    (c.in_ok-lines.ensures app c.self.inside.setup
    (subst (IsGoing app c.self.inside.setup) (ap (λ x. x.state) (sym c.self-inside.view_is)) going)
    (ap (λ x. x.setup.terms.mode) (sym c.self-inside.view_is))
    ∙ ap (λ (s : WorldState). shown (end_lines app.cell_count (world_of s))) (ap (λ x. x.state) c.self-inside.view_is))
