use Rattle.std.proofs.Common.{take}
use Rattle.proto_model.specs.Feeds.{Each}
use Rattle.report_audit.specs.Rising.{HasKey}
use Rattle.report_audit.proofs.lists.marks_have_key.Given as goal

abbrev pub invariant-loop-mark : goal.invariant-loop-mark
invariant-loop-mark g l = Each (HasKey (g.A.App.meaning l.fn.app) l.fn.feeds l.fn.key) (take l.mark-index l.marks)
