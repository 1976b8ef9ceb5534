-- The cells that a delta names are those that there are, also behind a write of one.
use Rattle.std.proofs.Common.{◌≡◌, ℕ, ◌<◌, [], ◌∷◌, All, inl, inr}
use Rattle.std.proofs.Common.{arith}
use Rattle.std.proofs.lemmas.Grind.{common_steps}
use Rattle.std.proofs.lemmas.Bool.{cases_order}
use Rattle.std.proofs.lemmas.List.Elements.{All-nil, All-cons, All-head, All-tail}
use Rattle.rp_app.specs.Application.{Delta, with_cell, cells_named}

lower : (d : ℕ × ℕ) (ds : Delta) (cell v : ℕ) → d.0 < cell → with_cell (d ∷ ds) cell v ≡ d ∷ with_cell ds cell v
lower d ds cell v h = grind (arith, common_steps)

same : (d : ℕ × ℕ) (ds : Delta) (cell v : ℕ) → d.0 ≡ cell → with_cell (d ∷ ds) cell v ≡ (cell, v) ∷ ds
same d ds cell v h = grind (arith, common_steps)

higher : (d : ℕ × ℕ) (ds : Delta) (cell v : ℕ) → cell < d.0 → with_cell (d ∷ ds) cell v ≡ (cell, v) ∷ d ∷ ds
higher d ds cell v h = grind (arith, common_steps)

pub within_with : (n : ℕ) (ds : Delta) (cell v : ℕ) → All (λ c. c < n) (cells_named ds) → cell < n → All (λ c. c < n) (cells_named (with_cell ds cell v))
within_with n [] cell v h lt = All-cons (λ c. c < n) cell [] lt (All-nil (λ c. c < n))
within_with n (d ∷ ds) cell v h lt =
    let rest = All-tail (λ (c : ℕ). c < n) d.0 (cells_named ds) h in
    elim (cases_order d.0 cell) as (λ _. All (λ c. c < n) (cells_named (with_cell (d ∷ ds) cell v))) [
      | inl e ↦ rw (same d ds cell v e) (All-cons (λ c. c < n) cell (cells_named ds) lt rest)
      | inr o ↦ elim o as (λ _. All (λ c. c < n) (cells_named (with_cell (d ∷ ds) cell v))) [
        | inl low ↦ rw (lower d ds cell v low) (All-cons (λ c. c < n) d.0 (cells_named (with_cell ds cell v)) (All-head (λ c. c < n) d.0 (cells_named ds) h) (within_with n ds cell v rest lt))
        | inr high ↦ rw (higher d ds cell v high) (All-cons (λ c. c < n) cell (cells_named (d ∷ ds)) lt h)
      ]
    ]
