use Rattle.std.proofs.Common.{◌∙◌, ◌++◌, sym, ap, append_assoc, append-nil}
use Rattle.std.specs.Map.Iter.{deref_pair}
use Rattle.std.specs.Prelude.{option_map}
use Rattle.plain_run.specs.Plain.{flow_lines}
use Rattle.plain_run.proofs.Rows.{row_more}
use Rattle.plain_run.proofs.switch.push_flows.Goals as goal
use Rattle.plain_run.proofs.switch.push_flows.Goals.{in-Some+in_ok-push_flow, in_default}

pub loop-place-preserved : goal.loop-place-preserved
loop-place-preserved c = elim c.match-at.branch [
  | in-Some+in_ok-push_flow w ↦
      w.lines-is ∙ w.in_ok-push_flow.ensures ∙ ap (λ ls. ls ++ flow_lines (w.in-Some.key.now, w.in-Some.flow.now)) c.loop-place.invariant ∙ append_assoc c.args.lines.now _ _
      ∙ ap (λ ls. c.args.lines.now ++ ls) (sym (row_more flow_lines c.args.flows.now c.loop-place.place _ (sym c.at.ensures ∙ ap (option_map deref_pair) w.in-Some.is)))
  | in_default w ↦
      w.lines-is ∙ c.loop-place.invariant
      ∙ ap (λ ls. c.args.lines.now ++ ls) (sym (row_more flow_lines c.args.flows.now c.loop-place.place _ (sym c.at.ensures ∙ ap (option_map deref_pair) w.in_default.is) ∙ append-nil _))
]
