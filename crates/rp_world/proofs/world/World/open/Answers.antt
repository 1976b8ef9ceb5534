use Rattle.std.proofs.Common.{◌∙◌, sym, ap, subst}
use Rattle.proto_model.specs.World.{Setup, opened}
use Rattle.rp_world.specs.Begun.{IsFrom}
use Rattle.rp_world.proofs.Opening.{opened_from}
use Rattle.rp_world.proofs.world.World.open.Goals as goal

pub invariant_of-result : goal.invariant_of-result
invariant_of-result g c going =
    let app = g.A.App.meaning c.args.app in
    let setup : Setup = record { switches = c.setup.inside.switches; replicas = c.setup.inside.replicas; terms = c.setup.inside.terms; linked = c.setup.inside.linked } in
    record {
      run = c.in_ok-state.ensures.run app (sym c.cells-cells.ensures);
      from = subst (IsFrom setup) (sym (c.in_ok-state.ensures.made ∙ ap (λ n. opened n setup) c.cells-cells.ensures)) (opened_from app setup);
    }
