use Rattle.std.proofs.Common.{◌⊎◌, ℕ, ◌<◌, ◌≡◌, [], ◌∷◌, inl, inr, refl, arith}
use Rattle.rp_app.specs.Application.{counting}
use Rattle.proto_model.specs.Loss.{IsBounded}
use Rattle.proto_safety.specs.NeededPremises.{unmarked}
use Rattle.loss_laws.specs.NeededPremises.{boundless_run, early_run, strict_run, unmarked_run}
use Rattle.loss_laws.proofs.losses.premises_are_needed.Goals as goal

-- the count is 1 in the store, and 0 over kept items
not_strict : IsBounded counting 100 strict_run → ⊥
not_strict h = cc h.flows.0.cells

-- the one update is the last one
not_boundless : IsBounded counting 0 boundless_run → ⊥
not_boundless h = let lt = h.flows.0.recent 1 in absurd (omega (arith, lt.0.0))

-- mark 5 of epoch 2 was released before mark 8 of epoch 1 was fed
not_early : IsBounded counting 100 early_run → ⊥
not_early h = turn_case 2 1 0 1 (omega arith) (h.order (97 ∷ []) 2 1 0 1 _ _ refl refl (_, _, (1, (omega arith, refl)), refl, refl, omega arith))
  where
    turn_case : (d e n m : ℕ) → e < d → (d < e) ⊎ ((d ≡ e) × (n < m)) → ⊥
    turn_case d e n m gt (inl lt) = omega (arith, lt, gt)
    turn_case d e n m gt (inr same) = omega (arith, same.0, gt)

-- the released mark was never fed
not_unmarked : IsBounded unmarked 100 unmarked_run → ⊥
not_unmarked h = cc (h.keyless.outputs.0 refl).1

pub returns : goal.returns
returns c = record { mode = not_strict; bound = not_boundless; terms = not_early; application = not_unmarked }
