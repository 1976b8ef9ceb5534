use Rattle.std.proofs.Common.{◌≡◌, ◌≤◌, take}
use Rattle.rp_base.specs.Outside.{Grows}
use Rattle.link_run.specs.Datagrams.{datagrams_in}
use Rattle.link_run.proofs.carrying.send_frames.Given as goal

abbrev pub invariant-loop-line : goal.invariant-loop-line
invariant-loop-line g l = record {
  told : Grows (g.L.Link.sent l.fn.link) (g.L.Link.sent l.link) (datagrams_in (take l.line-index l.lines));
  heard : g.L.Link.received l.link ≡ g.L.Link.received l.fn.link;
  later : g.L.Link.faults l.fn.link ≤ g.L.Link.faults l.link;
}
