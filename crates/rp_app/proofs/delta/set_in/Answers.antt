use Rattle.std.proofs.Common.{arith, ◌≡◌, sym, ◌∙◌, leb, Some}
use Rattle.std.specs.List.{position}
use Rattle.std.proofs.lemmas.Grind.{common_steps}
use Rattle.rp_app.proofs.Deltas.{with_cell-last, with_cell-again, with_cell-between}
use Rattle.rp_app.proofs.delta.set_in.Goals as goal

pub returns-in_ok-push-in-None-clause-ok : goal.returns-in_ok-push-in-None-clause-ok
returns-in_ok-push-in-None-clause-ok c = grind (arith, common_steps, with_cell-last)

pub returns-then-index-cell-clause-ok : goal.returns-then-index-cell-clause-ok
returns-then-index-cell-clause-ok c =
    let place : position (λ d. leb c.args.cell d.0) c.args.pairs.now.items ≡ Some c.in-Some.i = cc (c.deref.ensures.value) in
    sym (with_cell-again c.args.pairs.now.items c.args.cell c.args.v c.in-Some.i c.index.result.now place (sym c.index.ensures) c.if-index-cell.true)

pub returns-in_ok-insert-in-Some-clause-ok : goal.returns-in_ok-insert-in-Some-clause-ok
returns-in_ok-insert-in-Some-clause-ok c =
    let place : position (λ d. leb c.args.cell d.0) c.args.pairs.now.items ≡ Some c.in-Some.i = cc (c.deref.ensures.value) in
    c.in_ok-insert-in-Some.ensures.items ∙ sym (with_cell-between c.args.pairs.now.items c.args.cell c.args.v c.in-Some.i c.index.result.now place (sym c.index.ensures) c.if-index-cell.false)
