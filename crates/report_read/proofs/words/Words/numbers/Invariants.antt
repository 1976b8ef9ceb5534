use Rattle.std.proofs.Common.{◌≡◌, [], length, option_map}
use Rattle.report_read.specs.Words.{words_behind}
use Rattle.report_read.specs.Values.{numbers_after}
use Rattle.report_read.proofs.words.Words.numbers.Given as goal

abbrev pub invariant-loop-left : goal.invariant-loop-left
invariant-loop-left l = numbers_after l.numbers (words_behind (option_map (λ rest. rest.now) l.left)) ≡ numbers_after [] l.fn.self

abbrev pub decreases-loop-left : goal.decreases-loop-left
decreases-loop-left l = length (words_behind (option_map (λ rest. rest.now) l.left))
