use Rattle.std.proofs.Common.{◌≡◌, drop}
use Rattle.app_meaning.specs.Packets.{parser_steps}
use Rattle.tree_eval.specs.Seen.{seen}
use Rattle.tree_parser.proofs.state.steps.Given as goal

abbrev pub invariant-loop-s : goal.invariant-loop-s
invariant-loop-s l = parser_steps (seen l.sc) (drop l.s-index l.ss) (record { values = l.values; left = l.left }) ≡ parser_steps (seen l.sc) l.ss (record { values = l.fn.values; left = l.fn.left })
