use Rattle.std.proofs.Common.{◌≡◌, ◌++◌, take}
use Rattle.report_audit.proofs.lists.push_all.Given as goal

abbrev pub invariant-loop-mark : goal.invariant-loop-mark
invariant-loop-mark l = l.marks ≡ l.fn.marks ++ take l.mark-index l.more
