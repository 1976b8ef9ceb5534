use Rattle.std.proofs.Common.{◌≡◌, drop}
use Rattle.p4_scope.specs.Faults.{first_in}
use Rattle.p4_tables.specs.Tables.{arg_fault}
use Rattle.p4_tables.proofs.entry.args_fault.Given as goal

abbrev pub invariant-loop-e : goal.invariant-loop-e
invariant-loop-e l = first_in (arg_fault l.s) (drop l.e-index l.es) l.f ≡ first_in (arg_fault l.s) l.es l.fn.f
