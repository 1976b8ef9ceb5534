use Rattle.std.proofs.Common.{◌≡◌, ◌++◌, map, take}
use Rattle.run_ending.specs.Endings.{epoch_line}
use Rattle.run_ending.proofs.closing.push_epochs.Given as goal

abbrev pub invariant-loop-epoch : goal.invariant-loop-epoch
invariant-loop-epoch l = l.lines ≡ l.fn.lines ++ map (epoch_line l.epochs l.key) (take l.epoch-index l.granted)
