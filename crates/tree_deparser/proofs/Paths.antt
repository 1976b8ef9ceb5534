-- Paths that have two names or not.
use Rattle.std.proofs.Common.{◌≡◌, ◌<◌, ◌≤◌, false, [], ◌∷◌, length, bytes_eq, refl, arith}
use Rattle.std.proofs.Math.Bool.{and-false}
use Rattle.app_meaning.specs.Slots.{Name, Path, path_eq}

-- a shorter path is another one
pub short_path : (p : Path) (n m : Name) → length p < 2 → path_eq p (n ∷ m ∷ []) ≡ false
short_path [] n m lt = refl
short_path (a ∷ []) n m lt = and-false (bytes_eq a n)
short_path (a ∷ b ∷ p) n m lt = absurd (omega (arith, lt))

-- a longer path is another one
pub long_path : (p : Path) (n m : Name) → 3 ≤ length p → path_eq p (n ∷ m ∷ []) ≡ false
long_path [] n m le = absurd (omega (arith, le))
long_path (a ∷ []) n m le = absurd (omega (arith, le))
long_path (a ∷ b ∷ []) n m le = absurd (omega (arith, le))
long_path (a ∷ b ∷ c ∷ p) n m le = rw (and-false (bytes_eq b m)) (and-false (bytes_eq a n))
