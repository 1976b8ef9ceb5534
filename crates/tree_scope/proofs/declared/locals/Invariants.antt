use Rattle.std.proofs.Common.{◌≡◌, drop}
use Rattle.std.specs.Prelude.{fold}
use Rattle.app_meaning.specs.Programs.{with_local, locals}
use Rattle.tree_scope.proofs.declared.locals.Given as goal

abbrev pub invariant-loop-l : goal.invariant-loop-l
invariant-loop-l l = fold with_local l.declared (drop l.l-index l.l-items) ≡ locals l.p
