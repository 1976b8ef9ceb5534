use Rattle.p4_cycles.proofs.Falling.{clear_law}
use Rattle.p4_cycles.proofs.graph.is_clear.Goals as goal

pub returns-clause-law : goal.returns-clause-law
returns-clause-law c = clear_law c.args.ranks.now c.args.g.now c.args.n
