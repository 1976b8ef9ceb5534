use Rattle.std.proofs.Common.{◌∙◌, sym}
use Rattle.proto_model.specs.Routing.{picked}
use Rattle.world_state.proofs.NodeLists.{believed_numbers}
use Rattle.world_state.proofs.state.WorldState.pick.Goals as goal

pub returns-in-Some : goal.returns-in-Some
returns-in-Some c =
    let s = c.args.self.now in
    c.pick.ensures ∙ (λ i. picked (believed_numbers s.router.believed s.switches 0 c.requires.routed i) (sym c.in-Some.is i))

pub returns-in-None : goal.returns-in-None
returns-in-None c =
    let s = c.args.self.now in
    c.pick-in-None.ensures ∙ (λ i. picked (believed_numbers s.router.believed s.switches 0 c.requires.routed i) (sym c.in-None.is i))
