use Rattle.std.proofs.Common.{◌≡◌, take}
use Rattle.report_audit.specs.Rising.{marks_keyed}
use Rattle.report_audit.proofs.listed.marks_keyed.Given as goal

abbrev pub invariant-loop-r : goal.invariant-loop-r
invariant-loop-r g l = l.marks ≡ marks_keyed (g.A.App.meaning l.fn.app) l.fn.feeds l.fn.keyed (take l.r-index l.releases)
