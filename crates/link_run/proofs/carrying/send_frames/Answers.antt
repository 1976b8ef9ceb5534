use Rattle.std.proofs.Common.{◌≡◌, sym, subst, take}
use Rattle.rp_base.specs.Outside.{Grows}
use Rattle.link_run.specs.Datagrams.{datagrams_in}
use Rattle.link_run.proofs.Going.{front_went, on_err}
use Rattle.link_run.proofs.carrying.send_frames.Goals as goal

pub returns-in_err-send_one-clause-err : goal.returns-in_err-send_one-clause-err
returns-in_err-send_one-clause-err g c =
    let sent = g.L.Link.sent in
    let same : g.L.Link.sent c.send_one.new.link ≡ g.L.Link.sent c.loop-line.link = c.in_err-send_one.ensures.err in
    on_err c.from_residual.result
    (front_went (sent c.args.link.now) (sent c.send_one.new.link) c.args.lines.now c.loop-line.line-index
    (subst (λ now. Grows (g.L.Link.sent c.args.link.now) now (datagrams_in (take c.loop-line.line-index c.args.lines.now))) (sym same) c.loop-line.invariant.told))
