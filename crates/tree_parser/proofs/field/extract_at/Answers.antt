use Rattle.std.proofs.Common.{sym, arith}
use Rattle.tree_eval.specs.Seen.{seen}
use Rattle.tree_parser.proofs.Fields.{extract_past}
use Rattle.tree_parser.proofs.field.extract_at.Goals as goal

pub returns-else-header-len : goal.returns-else-header-len
returns-else-header-len c = sym (extract_past (seen c.args.sc) c.args.header c.args.values.now c.args.left.now (omega (arith, c.if-header-len.false, c.len.ensures)))
