-- What is kept of each cell, and the cells at the last begin.
use Rattle.std.specs.Prelude.{ℕ, zero, suc, ◌==◌, ◌≡◌, ◌≤◌, List, [], ◌∷◌, Option, option_map, if◌then◌else◌, All, length}
use Rattle.lazy_snap.specs.declared.kept.Kept.{Kept}
use Rattle.lazy_snap.specs.Snap.{Snap}

-- the kept value where it was kept this turn, else the cell
abbrev pub picked_one : ℕ → Kept → ℕ → ℕ
picked_one turn k c = if k.turn == turn then k.value else c

-- the kept value of each cell where it was kept this turn, else the cell
abbrev pub picked : ℕ → List Kept → List ℕ → List ℕ
picked turn [] cs = []
picked turn (k ∷ ks) [] = []
picked turn (k ∷ ks) (c ∷ cs) = picked_one turn k c ∷ picked turn ks cs

-- a value is kept, unless one was this turn
abbrev pub keep_at : ℕ → ℕ → ℕ → List Kept → List Kept
keep_at turn at value [] = []
keep_at turn zero value (k ∷ ks) = (if k.turn == turn then k else record { turn = turn; value = value }) ∷ ks
keep_at turn (suc at) value (k ∷ ks) = k ∷ keep_at turn at value ks

-- cells with what is kept of them, as snapshots are seen
abbrev pub seen : List ℕ → List Kept → ℕ → Option ℕ → Snap
seen cells kept turn round = record { cells = cells; round = option_map (λ n. (n, picked turn kept cells)) round }

-- no cell was kept in a later turn
pub record IsSnap (cells : List ℕ) (kept : List Kept) (turn : ℕ) : Type 0 where
  pub both : length kept ≡ length cells
  pub few : length cells ≤ 256
  pub past : All (λ (k : Kept). k.turn ≤ turn) kept
