use Rattle.std.proofs.Common.{◌≡◌, drop, []}
use Rattle.p4_scope.specs.Scopes.{each}
use Rattle.p4_check.specs.Programs.{local_}
use Rattle.p4_check.proofs.control.locals.Given as goal

abbrev pub invariant-loop-l : goal.invariant-loop-l
invariant-loop-l l = each local_ (drop l.l-index l.ls) l.s l.done ≡ each local_ l.ls l.fn.s []
