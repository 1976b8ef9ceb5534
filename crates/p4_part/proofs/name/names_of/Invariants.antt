use Rattle.std.proofs.Common.{◌≡◌, ◌∷◌, []}
use Rattle.p4_grammar.specs.Forms.{many_at, taken_at}
use Rattle.p4_grammar.specs.Tokens.{name, in_hand, words_at}
use Rattle.p4_grammar.specs.ReadingExpressions.{names_at}
use Rattle.p4_lex.specs.declared.token.Sign.TheVariants as sign
use Rattle.p4_part.proofs.Loops.{with_front}
use Rattle.p4_part.proofs.name.names_of.Given as goal

abbrev pub invariant-loop-left : goal.invariant-loop-left
invariant-loop-left l = with_front l.names (many_at l.left (in_hand sign.Dot) (words_at (sign.Dot ∷ []) (taken_at name)) l.rest) ≡ names_at l.fn.fuel l.fn.tokens

abbrev pub decreases-loop-left : goal.decreases-loop-left
decreases-loop-left l = l.left
