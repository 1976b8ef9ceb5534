use Rattle.std.proofs.Common.{◌≡◌, ◌≤◌, ◌<◌, ◌^◌, ◌+◌, length, true, ℕ, List}
use Rattle.std.specs.Prelude.{drop, slice_get, Some}
use Rattle.std.specs.List.{AllByRecursion, list_any}
use Rattle.std.specs.List.Sorted.{IsStrictlySortedBy}
use Rattle.std.specs.Ordering.{nat_cmp}
use Rattle.std.specs.Cmp.Lexicographic.{slice_cmp}
use Rattle.std.specs.Map.{lookup, keys_of}
use Rattle.match_tables.specs.declared.entries.MatchCond.{MatchCond}
use Rattle.match_tables.specs.Winning.{masks_of, prefix_of}
use Rattle.match_tables.specs.Placing.{first_at, ranked}
use Rattle.match_tables.specs.Standing.{is_same, IsOfRow}
use Rattle.match_tables.proofs.places.Places.of.Given as goal

abbrev pub invariant-loop-i : goal.invariant-loop-i
invariant-loop-i l = record {
  within : l.i ≤ length l.rows;
  finds : (x : List ℕ) → lookup (λ k. is_same x k.items) l.places.entries ≡ first_at x l.i (drop l.i l.rows);
  rises : IsStrictlySortedBy (λ a b. slice_cmp nat_cmp a.items b.items) (keys_of l.places.entries);
  ordered : IsStrictlySortedBy (λ a b. slice_cmp nat_cmp a.items b.items) l.masks.keys;
  few : length l.places.entries + l.i ≤ length l.rows;
  every : (j : ℕ) (r : List MatchCond) → l.i ≤ j → slice_get l.rows j ≡ Some r → list_any (λ k. is_same (ranked l.lpm (masks_of r)) k.items) l.masks.keys ≡ true;
  bounded : (j : ℕ) (r : List MatchCond) → l.i ≤ j → slice_get l.rows j ≡ Some r → prefix_of l.lpm (masks_of r) < 2 ^ 128;
  only : AllByRecursion (λ k. IsOfRow l.lpm l.rows k.items) l.masks.keys;
}

abbrev pub decreases-loop-i : goal.decreases-loop-i
decreases-loop-i l = l.i
