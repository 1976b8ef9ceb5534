use Rattle.std.proofs.Common.{◌≡◌, ◌≢◌, ℕ, take}
use Rattle.proto_model.specs.Feeds.{Pairwise}
use Rattle.report_audit.proofs.apart.are_apart.Given as goal

abbrev pub invariant-loop-mark : goal.invariant-loop-mark
invariant-loop-mark l = record { keys : l.seen.keys ≡ take l.mark-index l.marks; apart : Pairwise (λ (a b : ℕ). a ≢ b) (take l.mark-index l.marks) }
