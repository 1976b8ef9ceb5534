use Rattle.std.proofs.Common.{◌≡◌, ◌∙◌, ◌≤◌, sym, subst, ℕ, length}
use Rattle.p4_ast.specs.declared.program.P4Program.{P4Program}
use Rattle.app_meaning.specs.Programs.{cell_count}
use Rattle.tree_scope.specs.Scopes.{scopes_of}
use Rattle.held_app.proofs.Rewritten.{few_cells, few_in_tree, scopes_are}
use Rattle.held_app.proofs.program.HeldApp.ended.Goals as goal

pub run_in-requires-clause-scopes : goal.run_in-requires-clause-scopes
run_in-requires-clause-scopes c =
    scopes_are c.args.self.now.scopes (scopes_of c.args.self.now.program.tree c.args.self.now.program.cells) c.args.self.now.scoped
    ∙ (λ i. scopes_of (sym c.tree.ensures.value i) (sym c.requires i))

pub run_in-requires-clause-few : goal.run_in-requires-clause-few
run_in-requires-clause-few c =
    subst (λ (t : P4Program). cell_count t ≤ 256) (sym c.tree.ensures.value) (few_in_tree c.args.self.now.program.tree c.args.self.now.program.cells c.args.self.now.rewritten)

pub run_in-requires-clause-all : goal.run_in-requires-clause-all
run_in-requires-clause-all c = subst (λ (n : ℕ). n ≤ 256) (sym c.requires) (few_cells c.args.self.now.program.tree c.args.self.now.program.cells c.args.self.now.rewritten)
