use Rattle.std.proofs.Common.{◌≡◌, subst}
use Rattle.std.specs.Prelude.{IfOk}
use Rattle.switch_flows.proofs.Seen.{due_seen, resent_seen, on_ok}
use Rattle.switch_flows.proofs.flows.Flows.resend.Goals as goal

pub returns-clause-due : goal.returns-clause-due
returns-clause-due c = subst (λ xs. IfOk c.resend_due.result (λ due. due.items ≡ xs)) (due_seen c.self.inside.rows.entries c.self.inside.copies c.self.inside.latest c.args.self.now c.self.view_is c.args.age c.self.invariant) c.resend_due.ensures.due

pub returns-clause-copies : goal.returns-clause-copies
returns-clause-copies c = on_ok c.resend_due.result (resent_seen c.self.inside.rows.entries c.self.inside.copies c.self.inside.latest c.args.self.now c.self.view_is c.args.age c.self.invariant c.resend_due.new.copies) c.resend_due.ensures.copies
