use Rattle.std.proofs.Common.{◌≡◌, ◌-◌, [], length, map, drop}
use Rattle.p4_stmts.specs.Statements.{stmts, statement}
use Rattle.p4_stmts.proofs.walk.+walk.Given as goal

abbrev pub invariant-stmts-loop-x : goal.invariant-stmts-loop-x
invariant-stmts-loop-x l = record {
  count : l.left ≡ length l.xs - l.x-index;
  told : stmts (map statement (drop l.x-index l.xs)) l.s l.done ≡ stmts (map statement l.xs) l.fn.s [];
}
