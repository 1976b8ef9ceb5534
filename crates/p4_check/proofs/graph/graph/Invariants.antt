use Rattle.std.proofs.Common.{◌≡◌, drop}
use Rattle.p4_check.specs.Parsers.{graph_of, graph}
use Rattle.p4_check.proofs.graph.graph.Given as goal

abbrev pub invariant-loop-t : goal.invariant-loop-t
invariant-loop-t l = graph_of l.names (drop l.t-index l.ts) l.g ≡ graph l.names l.ts
