use Rattle.std.proofs.Common.{◌≡◌, ◌∷◌, []}
use Rattle.p4_lex.specs.declared.token.Sign.TheVariants as sign
use Rattle.p4_grammar.specs.Forms.{many_at}
use Rattle.p4_grammar.specs.Tokens.{in_hand, words_at}
use Rattle.p4_part.proofs.Loops.{with_front}
use Rattle.p4_read.proofs.part.parts_behind.Given as goal

abbrev pub invariant-loop-left : goal.invariant-loop-left
invariant-loop-left g l = with_front l.parts (many_at l.left (in_hand sign.Comma) (words_at (sign.Comma ∷ []) (g.T.Part.reader l.fuel l.env)) l.rest) ≡ many_at l.fn.fuel (in_hand sign.Comma) (words_at (sign.Comma ∷ []) (g.T.Part.reader l.fn.fuel l.fn.env)) l.fn.tokens

abbrev pub decreases-loop-left : goal.decreases-loop-left
decreases-loop-left g l = l.left
