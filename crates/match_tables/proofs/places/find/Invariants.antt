use Rattle.std.proofs.Common.{◌≡◌, ◌≤◌, ◌-◌, ◌+◌, ◌*◌, ◌^◌, length}
use Rattle.std.specs.Map.{lookup, keys_of}
use Rattle.match_tables.specs.Placing.{asked, Rising}
use Rattle.match_tables.specs.Standing.{is_same}
use Rattle.match_tables.proofs.places.find.Given as goal

abbrev pub invariant-loop-rest : goal.invariant-loop-rest
invariant-loop-rest g l = record {
  rises : Rising (keys_of l.rest);
  found : lookup (is_same (asked l.masks l.keys)) l.rest ≡ lookup (is_same (asked l.masks l.keys)) l.sorted;
  later : l.fn.steps ≤ l.steps;
  spent : 2 ^ (l.steps - l.fn.steps) * length l.rest ≤ length l.sorted;
  cost : 2 ^ (l.steps - l.fn.steps) ≤ 2 * length l.sorted + 1;
}

abbrev pub decreases-loop-rest : goal.decreases-loop-rest
decreases-loop-rest g l = length l.rest
