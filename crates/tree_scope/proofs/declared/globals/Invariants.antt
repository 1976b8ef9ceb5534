use Rattle.std.proofs.Common.{◌≡◌, drop}
use Rattle.std.specs.Prelude.{fold}
use Rattle.app_meaning.specs.Programs.{with_declaration, globals}
use Rattle.tree_scope.proofs.declared.globals.Given as goal

abbrev pub invariant-loop-d : goal.invariant-loop-d
invariant-loop-d l = fold with_declaration l.declared (drop l.d-index l.d-items) ≡ globals l.p
