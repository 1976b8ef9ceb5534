use Rattle.std.proofs.Common.{◌≡◌, take, map}
use Rattle.exec_actions.specs.Acting.{param_of}
use Rattle.tree_eval.specs.Seen.{seen}
use Rattle.exec_actions.proofs.action.params_of.Given as goal

abbrev pub invariant-loop-p : goal.invariant-loop-p
invariant-loop-p l = l.ps ≡ map (param_of (seen l.sc)) (take l.p-index l.params)
