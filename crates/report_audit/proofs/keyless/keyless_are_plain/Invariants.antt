use Rattle.std.proofs.Common.{take}
use Rattle.proto_model.specs.Feeds.{Each}
use Rattle.report_audit.specs.Rising.{PlainIfKeyless}
use Rattle.report_audit.proofs.keyless.keyless_are_plain.Given as goal

abbrev pub invariant-loop-r : goal.invariant-loop-r
invariant-loop-r g l = Each (PlainIfKeyless (g.A.App.meaning l.fn.app) l.fn.feeds) (take l.r-index l.releases)
