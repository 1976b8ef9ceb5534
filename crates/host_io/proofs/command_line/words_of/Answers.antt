use Rattle.std.proofs.Common.{◌≡◌, ◌≤◌, ◌+◌, ◌-◌, ◌++◌, ◌∷◌, [], IfSome, take, drop, arith}
use Rattle.host_io.proofs.Fronts.{word_more}
use Rattle.host_io.proofs.command_line.words_of.Goals as goal

pub loop-i-preserved : goal.loop-i-preserved
loop-i-preserved g c =
    let at : 1 ≤ c.loop-i.i = c.loop-i.invariant.from in
    let more : IfSome (g.C.CommandLine.words c.args.line.now) (λ all. c.loop-i.words ++ c.in-Some.word ∷ [] ≡ take (c.loop-i.i + 1 - 1) (drop 1 all)) =
    word_more _ c.loop-i.i c.loop-i.words c.in_ok-word.field-0 c.in-Some.word at c.loop-i.invariant.words c.in_ok-word.ensures c.in-Some.is in
    record { from = omega arith; words = rw (c.in_ok-push-in-Some.ensures.ok) more }
