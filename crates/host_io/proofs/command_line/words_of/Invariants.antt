use Rattle.std.proofs.Common.{◌≡◌, IfSome, drop, ◌-◌, ◌≤◌, take}
use Rattle.host_io.proofs.command_line.words_of.Given as goal

-- the words before place i are there
abbrev pub invariant-loop-i : goal.invariant-loop-i
invariant-loop-i g l = record {
  from : 1 ≤ l.i;
  words : IfSome (g.C.CommandLine.words l.line) (λ all. l.words ≡ take (l.i - 1) (drop 1 all));
}
