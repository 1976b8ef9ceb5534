use Rattle.std.proofs.Common.{◌≡◌, drop, []}
use Rattle.p4_scope.specs.Scopes.{each}
use Rattle.p4_check.specs.Programs.{declaration_}
use Rattle.p4_check.proofs.program.declarations.Given as goal

abbrev pub invariant-loop-d : goal.invariant-loop-d
invariant-loop-d l = each declaration_ (drop l.d-index l.ds) l.s l.done ≡ each declaration_ l.ds l.fn.s []
