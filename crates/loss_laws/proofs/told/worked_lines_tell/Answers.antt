use Rattle.std.proofs.Common.{[], ◌∷◌, refl, arith}
use Rattle.proto_safety.specs.SnapshotRow.{events, letters}
use Rattle.loss_laws.specs.BoundedLines.{BoundedLines}
use Rattle.loss_laws.specs.WorkedLines.{worked_lines}
use Rattle.loss_laws.proofs.told.worked_lines_tell.Goals as goal

-- two packets along the kept items count 2
not_kept : BoundedLines letters events (worked_lines 2 (1 ∷ 5 ∷ 6 ∷ 12 ∷ []) (18 ∷ []) 1) → ⊥
not_kept h = cc h.cells_kept.0

not_cells : BoundedLines letters events (worked_lines 1 (1 ∷ 5 ∷ 6 ∷ 12 ∷ []) (18 ∷ []) 2) → ⊥
not_cells h = cc h.cells_kept.0

not_twice : BoundedLines letters events (worked_lines 1 (1 ∷ 5 ∷ 6 ∷ 12 ∷ []) (12 ∷ 18 ∷ []) 1) → ⊥
not_twice h = h.each_once.1.1.1.0.0 refl

not_unfed : BoundedLines letters events (worked_lines 1 (1 ∷ 5 ∷ 6 ∷ 12 ∷ []) (18 ∷ 19 ∷ []) 1) → ⊥
not_unfed h = cc h.fed_with_key.0.1.1.1.1.1.0

-- mark 12 was released before mark 18 was fed
not_order : BoundedLines letters events (worked_lines 1 (1 ∷ 5 ∷ 6 ∷ 18 ∷ []) (12 ∷ []) 1) → ⊥
not_order h = h.in_order.0.1.1.1.0.0 (_, _, (3, (omega arith, refl)), refl, refl, omega arith)

pub returns : goal.returns
returns c = record { told = λ kind spelled. refl; kept = not_kept; cells = not_cells; twice = not_twice; unfed = not_unfed; order = not_order }
