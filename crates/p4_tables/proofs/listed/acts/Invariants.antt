use Rattle.std.proofs.Common.{◌≡◌, drop}
use Rattle.p4_tables.specs.Tables.{acts, none_listed}
use Rattle.p4_tables.proofs.listed.acts.Given as goal

abbrev pub invariant-loop-x : goal.invariant-loop-x
invariant-loop-x l = acts (drop l.x-index l.xs) l.s l.done ≡ acts l.xs l.s none_listed
