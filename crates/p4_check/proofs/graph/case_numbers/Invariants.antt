use Rattle.std.proofs.Common.{◌≡◌, drop, []}
use Rattle.p4_check.specs.Parsers.{case_numbers}
use Rattle.p4_check.proofs.graph.case_numbers.Given as goal

abbrev pub invariant-loop-c : goal.invariant-loop-c
invariant-loop-c l = case_numbers l.names (drop l.c-index l.cs) l.ns ≡ case_numbers l.names l.cs []
