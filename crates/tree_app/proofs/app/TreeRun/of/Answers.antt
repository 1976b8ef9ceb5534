use Rattle.std.proofs.Common.{◌≤◌, sym, subst}
use Rattle.p4_ast.specs.declared.program.P4Program.{P4Program}
use Rattle.app_meaning.specs.Programs.{cell_count}
use Rattle.check_laws.proofs.Sources.{few}
use Rattle.tree_app.proofs.app.TreeRun.of.Goals as goal

pub of-requires : goal.of-requires
of-requires c = λ source. subst (λ (t : P4Program). cell_count t ≤ 256) (sym c.tree.ensures.value) (few c.app.inside.program.tree c.app.inside.program.cells c.app.invariant.1)
