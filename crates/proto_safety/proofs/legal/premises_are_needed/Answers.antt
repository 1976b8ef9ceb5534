use Rattle.std.proofs.Common.{refl, arith}
use Rattle.rp_app.specs.Application.{counting}
use Rattle.proto_model.specs.Legal.{IsLegal}
use Rattle.proto_safety.specs.NeededPremises.{snapshot_run, early_run, unmarked, unmarked_run}
use Rattle.proto_safety.proofs.legal.premises_are_needed.Goals as goal

-- the count is 0 in the store, and 1 after the list
not_snapshot : IsLegal counting snapshot_run → ⊥
not_snapshot h = cc h.cells_folded.0

-- the reader's mark stands before one that was released before it was fed
not_early : IsLegal counting early_run → ⊥
not_early h = h.in_order.0.1.0.0 (_, _, (1, (omega arith, refl)), refl, refl, omega arith)

-- the released mark was never fed
not_unmarked : IsLegal unmarked unmarked_run → ⊥
not_unmarked h = cc (h.released_without_key.0 refl).1

pub returns : goal.returns
returns c = record { mode = not_snapshot; terms = not_early; application = not_unmarked }
