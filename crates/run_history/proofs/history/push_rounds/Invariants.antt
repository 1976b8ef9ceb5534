use Rattle.std.proofs.Common.{◌≡◌, ◌++◌, map, take}
use Rattle.run_history.specs.Rounds.{round_begun}
use Rattle.run_history.proofs.history.push_rounds.Given as goal

abbrev pub invariant-loop-b : goal.invariant-loop-b
invariant-loop-b l = l.rounds.items ≡ l.fn.rounds.items ++ map (round_begun l.event l.items_before) (take l.b-index l.begun)
