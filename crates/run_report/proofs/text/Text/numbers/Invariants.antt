use Rattle.std.proofs.Common.{◌≡◌, ◌++◌, drop}
use Rattle.run_report.specs.Words.{decimals}
use Rattle.run_report.proofs.text.Text.numbers.Given as goal

abbrev pub invariant-loop-n : goal.invariant-loop-n
invariant-loop-n l = l.text ++ decimals (drop l.n-index l.numbers) ≡ l.fn.self ++ decimals l.numbers
