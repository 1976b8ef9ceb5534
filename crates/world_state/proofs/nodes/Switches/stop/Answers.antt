use Rattle.std.proofs.Common.{◌≡◌, ◌∙◌, ap, length, arith, List}
use Rattle.proto_model.specs.WorldStep.{changed_at}
use Rattle.world_state.specs.declared.nodes.SwitchNode.{SwitchNode}
use Rattle.world_state.specs.Nodes.{switch_stops}
use Rattle.world_state.proofs.NodeLists.{past_changes, set_or_changes}
use Rattle.world_state.proofs.nodes.Switches.stop.Goals as goal

pub returns-then-at-len : goal.returns-then-at-len
returns-then-at-len c =
    let same : length c.self.inside.items.items ≡ length c.args.self.now = ap length c.self.view_is in
    past_changes c.args.self.now c.args.n switch_stops (omega (arith, same, c.len.ensures, c.if-at-len.true))

pub returns : goal.returns
returns c =
    set_or_changes c.self.inside.items.items c.args.n c.index_mut.result.now switch_stops (omega (arith, c.len.ensures, c.if-at-len.false)) c.index_mut.ensures.value
    ∙ ap (λ (xs : List SwitchNode). changed_at xs c.args.n switch_stops) c.self.view_is
