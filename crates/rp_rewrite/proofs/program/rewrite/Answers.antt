use Rattle.std.proofs.Common.{◌≡◌, true, sym, ap, ◌∙◌}
use Rattle.app_meaning.specs.Slots.{Scope}
use Rattle.app_meaning.specs.Programs.{cell_count, control_scope}
use Rattle.tree_scope.specs.Scopes.{ProgramScopes, scopes_of}
use Rattle.p4_check.specs.Checking.{IsSource}
use Rattle.p4_check.specs.Rewriting.{Source, source_of, rewritten}
use Rattle.rp_rewrite.specs.Sources.{source_in}
use Rattle.check_laws.proofs.Sources.{few}
use Rattle.rp_rewrite.proofs.Accepted.{source_is, is_rewritten}
use Rattle.rp_rewrite.proofs.program.rewrite.Goals as goal

pub of-requires : goal.of-requires
of-requires c =
    let tree : c.tree.result.now ≡ c.args.c.now.tree = c.tree.ensures.value in
    λ none. rw (ap cell_count tree) (few c.args.c.now.tree c.args.c.now.cells (c.tree.ensures.source c.requires))

pub program-requires : goal.program-requires
program-requires c =
    let kept : Scope → Source = λ sc. record { types = sc.types; registers = sc.registers } in
    let source : IsSource c.args.c.now.tree c.args.c.now.cells = c.tree.ensures.source c.requires in
    let tree : c.tree.result.now ≡ c.args.c.now.tree = c.tree.ensures.value in
    let again : c.args.c.now.tree ≡ c.tree-2.result.now = sym c.tree-2.ensures.value in
    let cells : c.cells.result ≡ c.args.c.now.cells = c.cells.ensures in
    let scopes : c.in_ok-scopes.scopes ≡ scopes_of c.tree.result.now c.cells.result = c.in_ok-scopes.ensures in
    let seen : source_in c.control.result ≡ kept c.in_ok-scopes.scopes.control = ap kept c.control.ensures in
    seen ∙ ap (λ (s : ProgramScopes). kept s.control) scopes ∙ (λ i. kept (control_scope (tree i) (cells i)))
    ∙ source_is c.args.c.now.tree c.args.c.now.cells source ∙ ap source_of again

pub rewritten-requires : goal.rewritten-requires
rewritten-requires c =
    let h = is_rewritten c.args.c.now.tree c.args.c.now.cells (c.tree.ensures.source c.requires) in
    let made : c.in_ok-tree.tree ≡ rewritten c.tree-2.result.now = c.in_ok-tree.ensures in
    let tree : c.in_ok-tree.tree ≡ rewritten c.args.c.now.tree = made ∙ ap rewritten c.tree-2.ensures.value in
    let cells : c.cells-2.result ≡ c.args.c.now.cells = c.cells-2.ensures in
    (h.0, h.1, tree ∙ h.2, cells ∙ h.3)

pub returns : goal.returns
returns c =
    let made : c.in_ok-tree.tree ≡ rewritten c.tree-2.result.now = c.in_ok-tree.ensures in
    let tree : c.in_ok-tree.tree ≡ rewritten c.args.c.now.tree = made ∙ ap rewritten c.tree-2.ensures.value in
    let cells : c.cells-2.result ≡ c.args.c.now.cells = c.cells-2.ensures in
    c.rewritten.ensures ∙ (λ i. record { tree = tree i; cells = cells i; rewritten = true })
