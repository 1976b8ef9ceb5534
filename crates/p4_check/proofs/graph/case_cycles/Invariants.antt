use Rattle.std.proofs.Common.{◌≡◌, drop}
use Rattle.p4_check.specs.Parsers.{case_cycles}
use Rattle.p4_check.proofs.graph.case_cycles.Given as goal

abbrev pub invariant-loop-c : goal.invariant-loop-c
invariant-loop-c l = case_cycles l.s.graph l.names (drop l.c-index l.cs) l.first ≡ case_cycles l.s.graph l.names l.cs l.fn.found
