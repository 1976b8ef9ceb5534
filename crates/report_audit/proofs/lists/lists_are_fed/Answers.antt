use Rattle.std.proofs.Common.{◌∙◌, ◌↔◌, IsTrue, subst, sym}
use Rattle.proto_safety.specs.LegalLines.{ListsAreFed}
use Rattle.rp_app.specs.Application.{Application}
use Rattle.report_audit.proofs.Parts.{Apart}
use Rattle.report_audit.proofs.Turns.{if_ok}
use Rattle.report_audit.proofs.lists.lists_are_fed.Goals as goal

pub returns : goal.returns
returns g c =
    let app : Application = g.A.App.meaning c.args.app.now in
    if_ok c.are_apart.result (λ once. IsTrue once ↔ Apart c.as_slice.result.now) (λ met. IsTrue met ↔ ListsAreFed app c.args.feeds.now c.args.flows.now)
    (λ once h. (
      λ e. record { fed_with_key = c.in_ok-lists_have_keys.ensures.0 c.if-not-branch.false; each_once = subst Apart (c.as_slice.ensures ∙ c.in_ok-marks.ensures) (h.0 e) },
      λ met. h.1 (subst Apart (sym (c.as_slice.ensures ∙ c.in_ok-marks.ensures)) met.each_once),
    ))
    c.are_apart.ensures
