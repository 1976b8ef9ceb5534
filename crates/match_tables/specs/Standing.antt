-- What the sorted entries and the masks are of a table's rows.
use Rattle.std.specs.Prelude.{ℕ, ◌≡◌, ◌≤◌, ◌<◌, ◌^◌, Bool, List, length, Option, Some, slice_get, true}
use Rattle.std.specs.List.{list_any}
use Rattle.std.specs.List.{AllByRecursion}
use Rattle.std.specs.Ordering.{is_eq, nat_cmp}
use Rattle.std.specs.Cmp.Lexicographic.{slice_cmp}
use Rattle.std.specs.Map.{lookup, keys_of}
use Rattle.match_tables.specs.declared.entries.MatchCond.{MatchCond}
use Rattle.match_tables.specs.declared.places.Places.{Places}
use Rattle.match_tables.specs.Winning.{masks_of, prefix_of}
use Rattle.match_tables.specs.Placing.{ranked, first_at, Rising}

-- whether a list of numbers is this one
abbrev pub is_same : List ℕ → List ℕ → Bool
is_same x k = is_eq (slice_cmp nat_cmp x k)

-- the masks of a row
pub record IsOfRow (lpm : Option ℕ) (rows : List (List MatchCond)) (s : List ℕ) : Type 0 where
  pub row : List MatchCond
  pub number : ℕ
  pub there : slice_get rows number ≡ Some row
  pub same : s ≡ ranked lpm (masks_of row)

-- the sorted entries find the first row that is spelled so, and the masks are those of the rows, longest prefix first
pub record IsPlaced (lpm : Option ℕ) (rows : List (List MatchCond)) (p : Places) : Type 0 where
  pub finds : (x : List ℕ) → lookup (is_same x) p.sorted ≡ first_at x 0 rows
  pub rises : Rising (keys_of p.sorted)
  pub few : length p.sorted ≤ length rows
  pub ordered : Rising p.masks
  pub every : (i : ℕ) (r : List MatchCond) → slice_get rows i ≡ Some r → list_any (is_same (ranked lpm (masks_of r))) p.masks ≡ true
  pub bounded : (i : ℕ) (r : List MatchCond) → slice_get rows i ≡ Some r → prefix_of lpm (masks_of r) < 2 ^ 128
  pub only : AllByRecursion (IsOfRow lpm rows) p.masks
