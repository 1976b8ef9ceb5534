use Rattle.std.proofs.Common.{◌≡◌, ◌++◌, map, drop}
use Rattle.p4_check.specs.Rewriting.{joined, rewrite_stmt}
use Rattle.rp_rewrite.specs.Sources.{source_in, closed}
use Rattle.rp_rewrite.proofs.walk.+walk.Given as goal

abbrev pub invariant-stmts-loop-x : goal.invariant-stmts-loop-x
invariant-stmts-loop-x l =
    closed l.outer (l.made ++ joined (map (rewrite_stmt (source_in l.sc)) (drop l.x-index l.xs)))
    ≡ joined (map (rewrite_stmt (source_in l.sc)) l.xs)
