use Rattle.std.proofs.Common.{take}
use Rattle.proto_model.specs.Feeds.{Each}
use Rattle.report_audit.specs.Notes.{InTime}
use Rattle.report_audit.proofs.listed.released_in_time.Given as goal

abbrev pub invariant-loop-r : goal.invariant-loop-r
invariant-loop-r l = Each (InTime l.fn.notes.entries) (take l.r-index l.releases)
