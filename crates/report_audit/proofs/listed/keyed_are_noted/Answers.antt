use Rattle.std.proofs.Common.{◌↔◌, true, IsTrue}
use Rattle.rp_app.specs.Application.{Application}
use Rattle.report_audit.specs.Rising.{marks_keyed}
use Rattle.report_audit.specs.Notes.{KeyedAreNoted}
use Rattle.report_audit.proofs.Parts.{Apart}
use Rattle.report_audit.proofs.Once.{keyed_once}
use Rattle.report_audit.proofs.Turns.{if_ok}
use Rattle.report_audit.proofs.listed.keyed_are_noted.Goals as goal

pub returns : goal.returns
returns g c =
    let app : Application = g.A.App.meaning c.args.app.now in
    let once_is = keyed_once app c.args.feeds.now c.args.releases.now in
    if_ok c.released_once.result (λ once. IsTrue once ↔ Apart (marks_keyed app c.args.feeds.now true c.args.releases.now))
    (λ met. IsTrue met ↔ KeyedAreNoted app c.args.feeds.now c.args.notes.now.entries c.args.releases.now)
    (λ once h. (
      λ e. record { as_noted = c.in_ok-keyed_as_noted.ensures.0 c.if-not-branch.false; once = once_is.0 (h.0 e) },
      λ met. h.1 (once_is.1 met.once),
    ))
    c.released_once.ensures
