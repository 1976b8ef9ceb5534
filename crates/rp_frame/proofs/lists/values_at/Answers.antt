use Rattle.std.proofs.Common.{◌≡◌, ◌∷◌, [], ◌++◌}
use Rattle.std.proofs.lemmas.Result.{err_from_is_err_and}
use Rattle.rp_frame.specs.Reading.{members, value}
use Rattle.rp_frame.proofs.Loops.{goes_on, ends, is_done}
use Rattle.rp_frame.proofs.lists.values_at.Goals as goal

pub returns-in_err-v-clause-read : goal.returns-in_err-v-clause-read
returns-in_err-v-clause-read c =
    let p = err_from_is_err_and c.from_residual.result c.from_residual.ensures.1 in
    rw (p.1, p.2) (ends c.in_err-v.field-0.0 (λ low. value) (λ v. 0) 0 c.loop.cells c.args.n c.loop.counter c.loop.place c.args.bytes.now (members (λ low. value) (λ v. 0) 0 c.args.n c.args.at c.args.bytes.now) c.loop-test.true c.in_err-v.ensures.read c.loop.invariant.read)

pub loop-preserved : goal.loop-preserved
loop-preserved c =
    let e : c.push.new.self ≡ c.loop.cells ++ c.in_ok-v.v ∷ [] = c.in_ok-push.ensures.ok in
    record {
      read = rw e (goes_on (λ low. value) (λ v. 0) 0 c.loop.cells c.args.n c.loop.counter c.loop.place c.in_ok-v.next c.args.bytes.now c.in_ok-v.v (members (λ low. value) (λ v. 0) 0 c.args.n c.args.at c.args.bytes.now) c.loop-test.true c.in_ok-v.ensures.read c.loop.invariant.read);
      within = c.in_ok-v.ensures.within;
    }

pub returns-clause-read : goal.returns-clause-read
returns-clause-read c = is_done (λ low. value) (λ v. 0) 0 c.loop.cells c.args.n c.loop.counter c.loop.place c.args.bytes.now (members (λ low. value) (λ v. 0) 0 c.args.n c.args.at c.args.bytes.now) c.loop-test.false c.loop.invariant.read
