use Rattle.std.proofs.Common.{◌≡◌, map, drop}
use Rattle.app_meaning.specs.Statements.{in_turn, run_stmt}
use Rattle.tree_run.specs.Contexts.{context}
use Rattle.tree_run.proofs.walk.+walk.Given as goal

abbrev pub invariant-stmts-loop-x : goal.invariant-stmts-loop-x
invariant-stmts-loop-x g l =
    in_turn (map run_stmt (drop l.x-index l.xs)) (context l.sc (g.C.Calls.called l.calls) (g.C.Calls.applied l.calls)) l.run
    ≡ in_turn (map run_stmt l.xs) (context l.sc (g.C.Calls.called l.calls) (g.C.Calls.applied l.calls)) l.fn.run
