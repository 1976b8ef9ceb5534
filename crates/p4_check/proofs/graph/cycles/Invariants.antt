use Rattle.std.proofs.Common.{◌≡◌, drop, None}
use Rattle.p4_check.specs.Parsers.{cycles, graph}
use Rattle.p4_check.proofs.graph.cycles.Given as goal

abbrev pub invariant-loop-t : goal.invariant-loop-t
invariant-loop-t l = cycles (graph l.names l.ts) l.names (drop l.t-index l.ts) l.first ≡ cycles (graph l.names l.ts) l.names l.ts None
