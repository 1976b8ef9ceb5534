use Rattle.std.proofs.Common.{◌≢◌, ◌∙◌, ◌↔◌, ℕ, List, IsTrue, subst}
use Rattle.std.specs.Prelude.{IfOk}
use Rattle.proto_model.specs.Feeds.{Pairwise}
use Rattle.report_audit.proofs.listed.released_once.Goals as goal

pub returns : goal.returns
returns g c = subst (λ (ms : List ℕ). IfOk c.are_apart.result (λ once. IsTrue once ↔ Pairwise (λ (a b : ℕ). a ≢ b) ms)) (c.as_slice.ensures ∙ c.in_ok-marks.ensures) c.are_apart.ensures
