use Rattle.std.proofs.Common.{◌≡◌, ◌≤◌, Bool, length, take}
use Rattle.proto_model.specs.World.{numbers_from}
use Rattle.reroute.proofs.up.switches_up.Given as goal

abbrev pub invariant-loop-n : goal.invariant-loop-n
invariant-loop-n l = record {
  up : l.up.items ≡ numbers_from (λ (b : Bool). b) 0 (take l.n l.believed);
  fits : length l.up.items ≤ l.n;
}
