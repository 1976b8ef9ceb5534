use Rattle.std.proofs.Common.{take}
use Rattle.rp_base.specs.declared.legality.Flow.{Flow}
use Rattle.proto_model.specs.Feeds.{Each}
use Rattle.report_audit.specs.Rising.{HasKey}
use Rattle.report_audit.proofs.lists.lists_have_keys.Given as goal

abbrev pub invariant-loop-flow : goal.invariant-loop-flow
invariant-loop-flow g l = Each (λ (flow : Flow). Each (HasKey (g.A.App.meaning l.fn.app) l.fn.feeds flow.key) flow.marks) (take l.flow-index l.flows)
