use Rattle.std.proofs.Common.{◌↔◌, false, IsTrue}
use Rattle.proto_safety.specs.LegalLines.{KeylessAreFed}
use Rattle.rp_app.specs.Application.{Application}
use Rattle.report_audit.specs.Rising.{marks_keyed}
use Rattle.report_audit.proofs.Parts.{Apart}
use Rattle.report_audit.proofs.Once.{keyless_once}
use Rattle.report_audit.proofs.Turns.{if_ok}
use Rattle.report_audit.proofs.keyless.keyless_are_fed.Goals as goal

pub returns : goal.returns
returns g c =
    let app : Application = g.A.App.meaning c.args.app.now in
    let once_is = keyless_once app c.args.feeds.now c.args.releases.now in
    if_ok c.released_once.result (λ once. IsTrue once ↔ Apart (marks_keyed app c.args.feeds.now false c.args.releases.now)) (λ met. IsTrue met ↔ KeylessAreFed app c.args.feeds.now c.args.releases.now)
    (λ once h. (
      λ e. record { from_feed = c.in_ok-keyless_are_plain.ensures.0 c.if-not-branch.false; once = once_is.0 (h.0 e) },
      λ met. h.1 (once_is.1 met.once),
    ))
    c.released_once.ensures
