use Rattle.std.proofs.Common.{◌∙◌}
use Rattle.tree_scope.specs.Scopes.{scopes_of}
use Rattle.held_app.proofs.program.HeldApp.of.Goals as goal

pub invariant_of-result : goal.invariant_of-result
invariant_of-result c = record {
  rewritten = ∣ c.tree.ensures.rewritten c.requires ∣₁;
  scoped = ∣ c.in_ok-scopes.ensures ∙ (λ i. scopes_of (c.tree.ensures.value i) (c.cells.ensures i)) ∣₁;
}
