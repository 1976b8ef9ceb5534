use Rattle.std.proofs.Common.{◌≡◌, ◌≤◌, drop}
use Rattle.p4_part.specs.Counting.{deep, deep_from}
use Rattle.p4_part.proofs.deep.deep.Given as goal

abbrev pub invariant-loop-token : goal.invariant-loop-token
invariant-loop-token l = record {
  rest : deep_from l.counts (drop l.token-index l.tokens) ≡ deep l.fn.tokens;
  opened : l.counts.opened ≤ l.token-index;
  closed : l.counts.closed ≤ l.token-index;
  run : l.counts.run ≤ l.token-index;
  ifs : l.counts.ifs ≤ l.token-index;
  elses : l.counts.elses ≤ l.token-index;
}
