use Rattle.std.proofs.Common.{◌≡◌, ◌++◌, map, drop}
use Rattle.app_meaning.specs.Programs.{variable_slot, joined}
use Rattle.tree_scope.specs.Variables.{variables_in}
use Rattle.tree_scope.proofs.variables.+walk.Given as goal

abbrev pub invariant-push_stmts-loop-s : goal.invariant-push_stmts-loop-s
invariant-push_stmts-loop-s l =
    l.into ++ map (variable_slot l.types) (joined (map variables_in (drop l.s-index l.ss)))
    ≡ l.fn.into ++ map (variable_slot l.types) (joined (map variables_in l.ss))
