use Rattle.std.proofs.Common.{arith}
use Rattle.world_state.specs.WorldStates.{world_of}
use Rattle.world_state.proofs.WaitingKept.{least_more, none_taken}
use Rattle.world_state.proofs.state.WorldState.first_place.Goals as goal

pub loop-k-init : goal.loop-k-init
loop-k-init c = λ k x less at up. absurd (omega (arith, less))

pub loop-k-preserved : goal.loop-k-preserved
loop-k-preserved c =
    least_more (world_of c.args.self.now) c.args.self.now.cursors c.loop-k.k c.loop-k.least c.least_with-least.result (omega (arith, c.requires.cursors.count, c.loop-k-test.true)) c.loop-k.invariant c.least_with-least.ensures

pub returns : goal.returns
returns c = none_taken (world_of c.args.self.now) c.args.self.now.cursors c.loop-k.least c.requires.some c.requires.few c.requires.cursors (λ k x less at up. c.loop-k.invariant k x (omega (arith, less, c.loop-k-test.false)) at up)
