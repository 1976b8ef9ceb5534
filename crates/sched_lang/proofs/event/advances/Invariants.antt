use Rattle.std.proofs.Common.{◌≡◌, [], Ok, length, fold, option_map}
use Rattle.sched_lang.specs.Words.{words_behind}
use Rattle.sched_lang.specs.EventForms.{one_more}
use Rattle.sched_lang.proofs.event.advances.Given as goal

abbrev pub invariant-loop-left : goal.invariant-loop-left
invariant-loop-left l =
    fold one_more l.read (words_behind (option_map (λ rest. rest.now) l.left)) ≡ fold one_more (Ok []) (words_behind (option_map (λ rest. rest.now) l.fn.args))

abbrev pub decreases-loop-left : goal.decreases-loop-left
decreases-loop-left l = length (words_behind (option_map (λ rest. rest.now) l.left))
