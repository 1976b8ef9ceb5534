use Rattle.std.proofs.Common.{◌≡◌, min, take}
use Rattle.report_read.specs.Values.{value_of}
use Rattle.report_read.proofs.values.value_of.Given as goal

abbrev pub invariant-loop-b : goal.invariant-loop-b
invariant-loop-b l = l.value ≡ min (value_of (take l.b-index l.digits)) 18446744073709551616
