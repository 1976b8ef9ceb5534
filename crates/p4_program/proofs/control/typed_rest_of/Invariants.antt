use Rattle.std.proofs.Common.{◌≡◌, ◌∷◌, []}
use Rattle.p4_grammar.specs.Forms.{many_at}
use Rattle.p4_grammar.specs.Tokens.{in_hand, words_at}
use Rattle.p4_grammar.specs.Reading.{typed_at}
use Rattle.p4_program.specs.Controls.{typed_rest_at}
use Rattle.p4_lex.specs.declared.token.Sign.TheVariants as sign
use Rattle.p4_part.proofs.Loops.{with_front}
use Rattle.p4_program.proofs.control.typed_rest_of.Given as goal

abbrev pub invariant-loop-left : goal.invariant-loop-left
invariant-loop-left l = with_front l.params (many_at l.left (in_hand sign.Comma) (words_at (sign.Comma ∷ []) typed_at) l.rest) ≡ typed_rest_at l.fn.fuel l.fn.tokens

abbrev pub decreases-loop-left : goal.decreases-loop-left
decreases-loop-left l = l.left
