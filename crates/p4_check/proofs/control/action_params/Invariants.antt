use Rattle.std.proofs.Common.{◌≡◌, drop, []}
use Rattle.p4_scope.specs.Scopes.{each}
use Rattle.p4_check.specs.Programs.{action_param}
use Rattle.p4_check.proofs.control.action_params.Given as goal

abbrev pub invariant-loop-p : goal.invariant-loop-p
invariant-loop-p l = each action_param (drop l.p-index l.ps) l.s l.kinds ≡ each action_param l.ps l.fn.s []
