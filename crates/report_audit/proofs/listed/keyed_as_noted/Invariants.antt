use Rattle.std.proofs.Common.{take}
use Rattle.proto_model.specs.Feeds.{Each}
use Rattle.report_audit.specs.Notes.{AsNoted}
use Rattle.report_audit.proofs.listed.keyed_as_noted.Given as goal

abbrev pub invariant-loop-r : goal.invariant-loop-r
invariant-loop-r g l = Each (AsNoted (g.A.App.meaning l.fn.app) l.fn.feeds l.fn.notes.entries) (take l.r-index l.releases)
