use Rattle.std.proofs.Common.{◌≡◌, ◌≤◌, ◌-◌, ◌+◌, ◌*◌, ◌^◌, length, None, ℕ, List}
use Rattle.std.specs.Prelude.{drop}
use Rattle.std.specs.Map.{lookup}
use Rattle.match_tables.specs.Placing.{searched}
use Rattle.match_tables.specs.Standing.{is_same}
use Rattle.match_tables.proofs.places.Places.look.Given as goal

abbrev pub invariant-loop-s : goal.invariant-loop-s
invariant-loop-s g l = record {
  found : searched (λ (x : List ℕ). lookup (is_same x) l.self.sorted) l.keys l.best (drop l.s-index l.self.masks) ≡ searched (λ (x : List ℕ). lookup (is_same x) l.self.sorted) l.keys None l.self.masks;
  later : l.fn.steps ≤ l.steps;
  start : l.s-index ≡ 0 → l.steps ≡ l.fn.steps;
  cost : length l.self.masks ≤ 1 → 2 ^ (l.steps - l.fn.steps) ≤ 2 * length l.self.sorted + 1;
}
