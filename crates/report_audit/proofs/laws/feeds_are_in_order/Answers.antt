use Rattle.proto_safety.specs.LegalLines.{is_refused}
use Rattle.report_audit.proofs.FeedsInOrder.{feeds_marked, feeds_rise}
use Rattle.report_audit.proofs.laws.feeds_are_in_order.Goals as goal

pub returns : goal.returns
returns c = record { rise = λ events lines. feeds_rise (is_refused lines) 1 events; marks = λ events lines. feeds_marked (is_refused lines) 1 events }
