use Rattle.std.proofs.Common.{◌≡◌, ◌+◌, ◌∷◌, [], ◌++◌, ◌∙◌}
use Rattle.std.proofs.lemmas.Result.{err_from_is_err_and}
use Rattle.rp_frame.specs.Reading.{members, member}
use Rattle.rp_frame.proofs.Loops.{goes_on, ends, is_done, below_more, all_above, with_cell-above}
use Rattle.rp_frame.proofs.lists.written_at.Goals as goal

pub returns-in_err-cell-clause-read : goal.returns-in_err-cell-clause-read
returns-in_err-cell-clause-read c =
    let p = err_from_is_err_and c.from_residual.result c.from_residual.ensures.1 in
    rw (p.1, p.2) (ends c.in_err-cell.field-0.0 member (λ d. d.0 + 1) c.loop.low c.loop.delta c.args.n c.loop.counter c.loop.place c.args.bytes.now (members member (λ d. d.0 + 1) 0 c.args.n c.args.at c.args.bytes.now) c.loop-test.true c.in_err-cell.ensures.read c.loop.invariant.read)

pub loop-preserved : goal.loop-preserved
loop-preserved c =
    let e : c.set.new.self ≡ c.loop.delta ++ (c.in_ok-cell.cell, c.in_ok-cell.v) ∷ [] =
    c.in_ok-set.ensures.ok ∙ with_cell-above c.loop.delta c.in_ok-cell.cell c.in_ok-cell.v (all_above c.loop.delta c.loop.low c.in_ok-cell.cell c.loop.invariant.below c.in_ok-cell.ensures.low) in
    record {
      read = rw e (goes_on member (λ d. d.0 + 1) c.loop.low c.loop.delta c.args.n c.loop.counter c.loop.place c.in_ok-cell.next c.args.bytes.now (c.in_ok-cell.cell, c.in_ok-cell.v) (members member (λ d. d.0 + 1) 0 c.args.n c.args.at c.args.bytes.now) c.loop-test.true c.in_ok-cell.ensures.read c.loop.invariant.read);
      within = c.in_ok-cell.ensures.within;
      below = rw e (below_more c.loop.delta c.loop.low c.in_ok-cell.cell c.in_ok-cell.v c.loop.invariant.below c.in_ok-cell.ensures.low);
    }

pub returns-clause-read : goal.returns-clause-read
returns-clause-read c = is_done member (λ d. d.0 + 1) c.loop.low c.loop.delta c.args.n c.loop.counter c.loop.place c.args.bytes.now (members member (λ d. d.0 + 1) 0 c.args.n c.args.at c.args.bytes.now) c.loop-test.false c.loop.invariant.read
