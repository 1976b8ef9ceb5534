use Rattle.std.proofs.Common.{◌≡◌, take}
use Rattle.proto_model.specs.Legal.{all_marks}
use Rattle.report_audit.proofs.lists.all_marks.Given as goal

abbrev pub invariant-loop-flow : goal.invariant-loop-flow
invariant-loop-flow l = l.marks ≡ all_marks (take l.flow-index l.flows)
