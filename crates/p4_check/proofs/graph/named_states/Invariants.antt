use Rattle.std.proofs.Common.{◌≡◌, ◌+◌, drop}
use Rattle.p4_check.specs.Parsers.{named_states, no_states}
use Rattle.p4_check.proofs.graph.named_states.Given as goal

abbrev pub invariant-loop-t : goal.invariant-loop-t
invariant-loop-t l = record {
  told : named_states (drop l.t-index l.ts) l.states ≡ named_states l.ts no_states;
  next : l.states.next ≡ l.t-index + 1;
}
