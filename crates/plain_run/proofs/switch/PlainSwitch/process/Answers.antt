use Rattle.std.proofs.Common.{◌≡◌, ◌∙◌, ap, sym, subst, refl, Some, length, IfOk}
use Rattle.std.proofs.lemmas.List.{length-replicate}
use Rattle.plain_run.specs.Plain.{HaveCells, PlainFlow, keyed}
use Rattle.plain_run.specs.Running.{PlainRun}
use Rattle.plain_run.proofs.Flows.{flow_stored, have_got, have_put, on_some}
use Rattle.plain_run.proofs.switch.PlainSwitch.process.Goals as goal

pub process-requires : goal.process-requires
process-requires g c =
    record { cells = have_got (g.A.PlainApp.meaning c.self.inside.app).cell_count c.self.inside.flows c.args.key c.in-Some.flow.now c.self.invariant (sym c.in-Some.ensures.value) }

pub invariant_of-self : goal.invariant_of-self
invariant_of-self g c =
    let n = (g.A.PlainApp.meaning c.self.inside.app).cell_count in
    let many = have_got n c.self.inside.flows c.args.key c.in-Some.flow.now c.self.invariant (sym c.in-Some.ensures.value) in
    subst (HaveCells n) (sym (on_some c.get_mut.result c.in-Some.flow c.in-Some.is (c.get_mut.follows.holds c.process.new.self)))
    (have_put n c.self.inside.flows c.args.key c.process.new.self c.self.invariant (c.process.ensures.cells ∙ many))

pub returns-in-Some-clause-step : goal.returns-in-Some-clause-step
returns-in-Some-clause-step g c =
    let after = c.get_mut.follows.lender c.process.new.self in
    subst (λ (s : PlainRun g.row.A.Denot). IfOk c.process.result (λ out. (record { event = c.self.inside.event; flows = after }, out) ≡ keyed (g.A.PlainApp.meaning s.app) s.switch c.args.p.now c.args.key)) c.self.view_is
    (flow_stored (g.A.PlainApp.meaning c.self.inside.app) c.self.inside.event c.self.inside.flows after c.args.key c.args.p.now c.in-Some.flow.now c.process.new.self (Some c.in-Some.flow.now) c.process.result
    (sym c.in-Some.ensures.value) refl (on_some c.get_mut.result c.in-Some.flow c.in-Some.is (c.get_mut.follows.holds c.process.new.self)) c.process.ensures.turn)

pub invariant_of-self-2 : goal.invariant_of-self-2
invariant_of-self-2 g c =
    let n = (g.A.PlainApp.meaning c.self.inside.app).cell_count in
    subst (HaveCells n) (sym c.in_ok-put.ensures.ok)
    (have_put n c.get_mut.follows.lender-at-none c.args.key _ (subst (HaveCells n) (sym c.get_mut.follows.holds-at-none) c.self.invariant) (c.process-2.ensures.cells ∙ ap (λ (f : PlainFlow). length f.cells) c.in_ok-flow.ensures ∙ length-replicate _ 0 ∙ c.cells.ensures))
