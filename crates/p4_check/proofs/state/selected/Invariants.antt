use Rattle.std.proofs.Common.{◌≡◌, drop}
use Rattle.p4_check.specs.Parsers.{selected, none_selected}
use Rattle.p4_check.proofs.state.selected.Given as goal

abbrev pub invariant-loop-e : goal.invariant-loop-e
invariant-loop-e l = selected (drop l.e-index l.es) l.s l.done ≡ selected l.es l.s none_selected
