use Rattle.std.proofs.Common.{◌≡◌, ◌≤◌, ◌-◌, length, None}
use Rattle.std.specs.Prelude.{drop}
use Rattle.match_tables.specs.Winning.{number_of, winner, numbered}
use Rattle.match_tables.proofs.table.first_fit.Given as goal

abbrev pub invariant-loop-i : goal.invariant-loop-i
invariant-loop-i g l = record {
  rest : number_of (winner None l.keys (numbered l.i (drop l.i l.rows))) ≡ number_of (winner None l.keys (numbered 0 l.rows));
  later : l.fn.steps ≤ l.steps;
}

abbrev pub decreases-loop-i : goal.decreases-loop-i
decreases-loop-i g l = length l.rows - l.i
