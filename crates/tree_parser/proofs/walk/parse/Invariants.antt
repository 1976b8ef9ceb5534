use Rattle.std.proofs.Common.{◌≡◌, suc, length}
use Rattle.std.specs.Prelude.{codes}
use Rattle.app_meaning.specs.Packets.{parse_from}
use Rattle.tree_eval.specs.Seen.{seen}
use Rattle.tree_parser.proofs.walk.parse.Given as goal

abbrev pub invariant-loop-name : goal.invariant-loop-name
invariant-loop-name l =
    parse_from (suc l.turns) (seen l.sc) l.states l.name (record { values = l.values; left = l.left })
    ≡ parse_from (suc (length l.states)) (seen l.fn.sc) l.fn.states (codes "start") (record { values = l.fn.values; left = l.fn.left })

abbrev pub decreases-loop-name : goal.decreases-loop-name
decreases-loop-name l = l.turns
