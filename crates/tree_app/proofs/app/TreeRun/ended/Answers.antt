use Rattle.std.proofs.Common.{◌≡◌, ◌∙◌, ◌≤◌, ℕ, sym, subst, ap, length}
use Rattle.p4_ast.specs.declared.program.P4Program.{P4Program}
use Rattle.p4_check.specs.Checking.{CheckedProgram, IsSource}
use Rattle.app_meaning.specs.Programs.{cell_count}
use Rattle.tree_scope.specs.Scopes.{scopes_of}
use Rattle.check_laws.proofs.Sources.{few}
use Rattle.tree_app.proofs.Sources.{counts, ended_within}
use Rattle.tree_app.proofs.app.TreeRun.ended.Goals as goal

pub run_in-requires-clause-scopes : goal.run_in-requires-clause-scopes
run_in-requires-clause-scopes c =
    let tree : c.self.inside.app.now.tree ≡ c.tree.result.now = sym (ap (λ (x : CheckedProgram). x.tree) c.app.view_is) ∙ sym c.tree.ensures.value in
    let count : c.self.inside.app.now.cells ≡ length c.args.cells =
    sym (ap (λ (x : CheckedProgram). x.cells) c.app.view_is) ∙ counts c.app.inside.program.tree c.app.inside.program.cells c.app.invariant.1
    ∙ ap (λ (x : CheckedProgram). cell_count x.tree) (c.app.view_is ∙ c.self.view_is) ∙ sym c.requires in
    c.self.invariant ∙ (λ i. scopes_of (tree i) (count i))

pub run_in-requires-clause-few : goal.run_in-requires-clause-few
run_in-requires-clause-few c = subst (λ (t : P4Program). cell_count t ≤ 256) (sym c.tree.ensures.value) (few c.app.inside.program.tree c.app.inside.program.cells c.app.invariant.1)

pub run_in-requires-clause-all : goal.run_in-requires-clause-all
run_in-requires-clause-all c =
    let same : cell_count c.app.inside.program.tree ≡ length c.args.cells = ap (λ (x : CheckedProgram). cell_count x.tree) (c.app.view_is ∙ c.self.view_is) ∙ sym c.requires in
    subst (λ (n : ℕ). n ≤ 256) same (few c.app.inside.program.tree c.app.inside.program.cells c.app.invariant.1)

pub returns-clause-within : goal.returns-clause-within
returns-clause-within c =
    let source : IsSource c.tree.result.now c.app.inside.program.cells = subst (λ (t : P4Program). IsSource t c.app.inside.program.cells) (sym c.tree.ensures.value) c.app.invariant.1 in
    let many : length c.args.cells ≡ cell_count c.tree.result.now =
    c.requires ∙ sym (ap (λ (x : CheckedProgram). cell_count x.tree) (c.app.view_is ∙ c.self.view_is)) ∙ sym (ap cell_count c.tree.ensures.value) in
    ended_within c.tree.result.now c.app.inside.program.cells source c.args.cells c.args.p.now c.run_in.result many c.run_in.ensures
