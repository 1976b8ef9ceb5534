use Rattle.std.proofs.Common.{◌≡◌, ◌∙◌, ap, sym, false, true, List, ℕ}
use Rattle.proto_model.specs.WorldStep.{Advances, rates_hold}
use Rattle.world_state.specs.WorldStates.{world_of}
use Rattle.world_state.proofs.WorldTests.{rates_are, time_refused, time_goes}
use Rattle.world_state.proofs.state.WorldState.time_act.Goals as goal

pub returns-then-not-rates_hold : goal.returns-then-not-rates_hold
returns-then-not-rates_hold g c =
    let ratio = c.args.self.now.terms.ratio in
    time_refused (world_of c.args.self.now) c.args.by.now c.requires.count
    (rates_are c.as_slice.result.now ratio false c.if-not-rates_hold.ensures ∙ ap (λ (xs : List ℕ). rates_hold xs ratio) c.as_slice.ensures)

pub returns : goal.returns
returns g c =
    let ratio = c.args.self.now.terms.ratio in
    ap (λ (xs : List ℕ). Advances xs) c.in_ok-copy.ensures
    ∙ time_goes (world_of c.args.self.now) c.args.by.now c.requires.count
    (rates_are c.as_slice.result.now ratio true c.if-not-rates_hold.ensures ∙ ap (λ (xs : List ℕ). rates_hold xs ratio) c.as_slice.ensures)
