use Rattle.std.proofs.Common.{arith}
use Rattle.std.proofs.lemmas.Result.{err_from_is_err_and}
use Rattle.p4_lex.proofs.Steps.{tokens-fail, tokens-step, front_within, tokens-end}
use Rattle.p4_lex.proofs.tokens.tokens_of.Goals as goal

pub returns-in_err-front : goal.returns-in_err-front
returns-in_err-front c =
    let p = err_from_is_err_and c.from_residual.result c.from_residual.ensures.1 in
    rw (p.1, p.2) (tokens-fail c.args.text.now c.loop-at.at c.loop-at.fresh c.loop-at.tokens _ _ c.loop-at-test.true (rw c.split_at.ensures.back at c.in_err-front.ensures) c.loop-at.invariant.rest)

pub overflow_add-end : goal.overflow_add-end
overflow_add-end c =
    let fits = front_within c.args.text.now c.loop-at.at c.loop-at.fresh c.in_ok-front.front c.loop-at-test.true (rw c.split_at.ensures.back at c.in_ok-front.ensures) in
    omega (arith, fits.within)

pub push_front-requires : goal.push_front-requires
push_front-requires c =
    let fits = front_within c.args.text.now c.loop-at.at c.loop-at.fresh c.in_ok-front.front c.loop-at-test.true (rw c.split_at.ensures.back at c.in_ok-front.ensures) in
    omega (arith, fits.within)

pub loop-at-smaller : goal.loop-at-smaller
loop-at-smaller c =
    let fits = front_within c.args.text.now c.loop-at.at c.loop-at.fresh c.in_ok-front.front c.loop-at-test.true (rw c.split_at.ensures.back at c.in_ok-front.ensures) in
    omega (arith, fits.within, fits.some)

pub loop-at-preserved : goal.loop-at-preserved
loop-at-preserved c =
    let is = rw c.split_at.ensures.back at c.in_ok-front.ensures in
    let fits = front_within c.args.text.now c.loop-at.at c.loop-at.fresh c.in_ok-front.front c.loop-at-test.true is in
    record {
      within = omega (arith, fits.within);
      rest = rw c.in_ok-push_front.ensures (tokens-step c.args.text.now c.loop-at.at c.loop-at.fresh c.loop-at.tokens c.in_ok-front.front _ c.loop-at-test.true is c.loop-at.invariant.rest);
    }

pub returns : goal.returns
returns c = tokens-end c.args.text.now c.loop-at.at c.loop-at.fresh c.loop-at.tokens _ c.loop-at-test.false c.loop-at.invariant.rest
