use Rattle.std.proofs.Common.{◌≡◌, ◌++◌, take}
use Rattle.p4_print.specs.Text.{text}
use Rattle.p4_print.specs.Shared.{all}
use Rattle.p4_print.proofs.written.write_all.Given as goal

abbrev pub invariant-loop-part : goal.invariant-loop-part
invariant-loop-part g l = l.out ≡ l.fn.out ++ text (all g.T.Written.tokens (take l.part-index l.parts))
