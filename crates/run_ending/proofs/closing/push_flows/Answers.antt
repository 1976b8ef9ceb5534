use Rattle.std.proofs.Common.{◌∙◌, ◌++◌, sym, ap, append_assoc}
use Rattle.std.specs.Map.Iter.{deref_pair}
use Rattle.std.specs.Prelude.{option_map}
use Rattle.run_ending.specs.Endings.{flow_shown}
use Rattle.run_ending.proofs.Flows.{each_more, each_stays}
use Rattle.run_ending.proofs.closing.push_flows.Goals as goal
use Rattle.run_ending.proofs.closing.push_flows.Goals.{in-Some+in_ok-push_flow, in_default}

pub loop-place-preserved : goal.loop-place-preserved
loop-place-preserved c =
    let shown = flow_shown c.args.mode c.args.grants.now c.args.epochs.now in
    elim c.match-at.branch [
      | in-Some+in_ok-push_flow w ↦
          w.lines-is ∙ w.in_ok-push_flow.ensures ∙ ap (λ ls. ls ++ shown (w.in-Some.key.now, w.in-Some.record.now)) c.loop-place.invariant ∙ append_assoc c.args.lines.now _ _
          ∙ ap (λ ls. c.args.lines.now ++ ls) (sym (each_more shown c.args.leases.now.records c.loop-place.place _ (sym c.at.ensures ∙ ap (option_map deref_pair) w.in-Some.is)))
      | in_default w ↦
          w.lines-is ∙ c.loop-place.invariant
          ∙ ap (λ ls. c.args.lines.now ++ ls) (sym (each_stays shown c.args.leases.now.records c.loop-place.place (sym c.at.ensures ∙ ap (option_map deref_pair) w.in_default.is)))
    ]
