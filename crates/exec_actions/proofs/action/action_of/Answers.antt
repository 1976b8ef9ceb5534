use Rattle.std.proofs.Common.{◌∙◌, ap, sym, subst, map}
use Rattle.exec_actions.specs.declared.action.Action.{Action}
use Rattle.exec_actions.specs.Acting.{param_of, run_action_at}
use Rattle.exec_actions.proofs.Passed.{acted}
use Rattle.tree_cells.specs.Fit.{Fit}
use Rattle.tree_eval.specs.Seen.{seen}
use Rattle.exec_actions.proofs.action.action_of.Goals as goal

pub block_of-requires : goal.block_of-requires
block_of-requires c = subst Fit (sym c.inside-inner.ensures.registers) c.requires

pub returns : goal.returns
returns c = λ args run.
    ap (λ (x : Action). run_action_at x args run) c.in_ok-action.ensures
    ∙ acted (seen c.args.sc) c.inside-inner.result c.args.a.now c.in_ok-params.params c.in_ok-body.body c.inside-inner.ensures.scope (c.in_ok-params.ensures ∙ ap (map (param_of (seen c.inside-inner.result))) c.as_slice.ensures) c.in_ok-body.ensures args run
