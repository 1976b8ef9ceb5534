use Rattle.std.proofs.Common.{◌≡◌, length}
use Rattle.proto_model.specs.World.{below}
use Rattle.reroute.proofs.chain.whole.Given as goal

abbrev pub invariant-loop-n : goal.invariant-loop-n
invariant-loop-n l = record {
  chain : l.chain ≡ below l.n;
  length : length l.chain ≡ l.n;
}
