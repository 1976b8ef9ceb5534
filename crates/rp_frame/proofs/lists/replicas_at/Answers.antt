use Rattle.std.proofs.Common.{◌≡◌, ◌+◌, ◌∷◌, [], ◌++◌, arith}
use Rattle.std.proofs.lemmas.Grind.{common_steps}
use Rattle.std.proofs.lemmas.Result.{err_from_is_err_and}
use Rattle.rp_frame.specs.Reading.{members, byte}
use Rattle.rp_frame.proofs.Loops.{goes_on, ends, is_done}
use Rattle.rp_frame.proofs.lists.replicas_at.Goals as goal

pub returns-in_err-b : goal.returns-in_err-b
returns-in_err-b c =
    let p = err_from_is_err_and c.from_residual.result c.from_residual.ensures.1 in
    rw (p.1, p.2) (ends c.in_err-b.field-0.0 (λ low. byte low 4) (λ b. b + 1) c.loop.low c.loop.chain c.args.n c.loop.counter c.loop.place c.args.bytes.now (members (λ low. byte low 4) (λ b. b + 1) 0 c.args.n c.args.at c.args.bytes.now) c.loop-test.true c.in_err-b.ensures.read c.loop.invariant.read)

pub loop-preserved : goal.loop-preserved
loop-preserved c =
    let e : c.push.new.self ≡ c.loop.chain ++ c.in_ok-b.b ∷ [] = c.push.ensures in
    record {
      read = rw e (goes_on (λ low. byte low 4) (λ b. b + 1) c.loop.low c.loop.chain c.args.n c.loop.counter c.loop.place c.in_ok-b.next c.args.bytes.now c.in_ok-b.b (members (λ low. byte low 4) (λ b. b + 1) 0 c.args.n c.args.at c.args.bytes.now) c.loop-test.true c.in_ok-b.ensures.read c.loop.invariant.read);
      within = c.in_ok-b.ensures.within;
      size = grind (arith, common_steps);
    }

pub returns : goal.returns
returns c = is_done (λ low. byte low 4) (λ b. b + 1) c.loop.low c.loop.chain c.args.n c.loop.counter c.loop.place c.args.bytes.now (members (λ low. byte low 4) (λ b. b + 1) 0 c.args.n c.args.at c.args.bytes.now) c.loop-test.false c.loop.invariant.read
