use Rattle.p4_part.proofs.Paths.{long_alone}
use Rattle.p4_part.proofs.path.is_only.Goals as goal

pub returns-in-len2-up : goal.returns-in-len2-up
returns-in-len2-up c = long_alone c.args.text.now c.args._first.now c.args.more.now c.in-len2-up.len_at_least
