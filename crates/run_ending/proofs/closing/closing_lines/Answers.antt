use Rattle.std.proofs.Common.{◌∙◌}
use Rattle.run_ending.proofs.ClosingShown.{on_ok, closing_same}
use Rattle.run_ending.proofs.closing.closing_lines.Goals as goal

pub returns : goal.returns
returns c = on_ok c.lines_of.result c.lines_of.ensures (λ lines is cells w end. is ∙ closing_same cells w c.args.mode c.args.leases.now.records c.args.book.now c.args.items.now c.args.rounds.now end)
