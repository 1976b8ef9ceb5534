use Rattle.std.proofs.Common.{arith}
use Rattle.rp_app.specs.Application.{counting}
use Rattle.proto_model.specs.Loss.{IsBounded}
use Rattle.loss_laws.specs.NeededRules.{ack_run, chunk_run, forgetful_run, late_run}
use Rattle.loss_laws.proofs.losses.rules_are_needed.Goals as goal

-- of the two updates past the kept one the first is 200 before the second
not_forgetful : IsBounded counting 100 forgetful_run → ⊥
not_forgetful h = let lt = h.flows.0.recent 1 in absurd (omega (arith, lt.0.0))

-- of the two updates, none of them kept, the first is 100 before the second
not_late : IsBounded counting 100 late_run → ⊥
not_late h = let lt = h.flows.0.recent 1 in absurd (omega (arith, lt.0.0))

-- the count is 2 in the store, and 1 over the kept item
not_of_now : IsBounded counting 100 chunk_run → ⊥
not_of_now h = cc h.flows.0.cells

-- the count is 1 in the store, and 2 over the kept items
not_at_ack : IsBounded counting 100 ack_run → ⊥
not_at_ack h = cc h.flows.0.cells

pub returns : goal.returns
returns c = record { ages = not_forgetful; bound = not_late; chunks = not_of_now; counts = not_at_ack }
