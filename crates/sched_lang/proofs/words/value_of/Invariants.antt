use Rattle.std.proofs.Common.{◌≡◌, min, take}
use Rattle.sched_lang.specs.Words.{value_of}
use Rattle.sched_lang.proofs.words.value_of.Given as goal

abbrev pub invariant-loop-b : goal.invariant-loop-b
invariant-loop-b l = l.value ≡ min (value_of (take l.b-index l.digits)) 10000000000
