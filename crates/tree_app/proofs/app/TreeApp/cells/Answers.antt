use Rattle.std.proofs.Common.{◌∙◌, ap}
use Rattle.p4_check.specs.Checking.{CheckedProgram}
use Rattle.app_meaning.specs.Programs.{cell_count}
use Rattle.tree_app.proofs.Sources.{counts}
use Rattle.tree_app.proofs.app.TreeApp.cells.Goals as goal

pub returns : goal.returns
returns c = c.cells.ensures ∙ counts c.self.inside.program.tree c.self.inside.program.cells c.self.invariant.1 ∙ ap (λ (x : CheckedProgram). cell_count x.tree) c.self.view_is
