use Rattle.std.proofs.Common.{◌≡◌, ◌+◌, take}
use Rattle.proto_model.specs.ReplicaRows.{forwards}
use Rattle.store_replica.proofs.state.ReplicaState.resend.Given as goal

abbrev pub invariant-loop-i : goal.invariant-loop-i
invariant-loop-i l = l.sent ≡ forwards l.fn.self (l.fn.self.known + 1) (take l.i l.fn.self.pending)
