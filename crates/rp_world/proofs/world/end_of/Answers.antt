use Rattle.std.proofs.Common.{◌∙◌, sym, ap}
use Rattle.std.specs.Option.{option_copied}
use Rattle.rp_world.proofs.Ending.{closed_alone, closed_so}
use Rattle.rp_world.proofs.world.end_of.Goals as goal

pub returns-in_default : goal.returns-in_default
returns-in_default c = closed_alone c.args.state.now c.args.mode (sym c.committed.ensures ∙ ap option_copied c.in_default.is) c.end_alone.result c.end_alone.ensures

pub returns : goal.returns
returns c app setup going mode =
    closed_so app setup c.args.state.now going c.in-Some.last.now (sym c.committed.ensures ∙ ap option_copied c.in-Some.is) c.args.mode mode _ _ _ _ c.leases.ensures.records c.book.ensures
    (c.items.ensures ∙ ap (λ h. h.items) c.history-history.ensures) (c.rounds.ensures ∙ ap (λ h. h.rounds) c.history-history.ensures) c.in_ok-lines.lines c.in_ok-lines.ensures
