use Rattle.std.proofs.Common.{◌≡◌, take}
use Rattle.run_ending.specs.Endings.{serial_in}
use Rattle.run_ending.proofs.closing.serial.Given as goal

abbrev pub invariant-loop-epoch : goal.invariant-loop-epoch
invariant-loop-epoch l = l.marks ≡ serial_in l.epochs l.key (take l.epoch-index l.granted)
