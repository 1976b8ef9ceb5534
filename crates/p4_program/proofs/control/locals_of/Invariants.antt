use Rattle.std.proofs.Common.{◌≡◌}
use Rattle.p4_lex.specs.declared.token.Sign.TheVariants as sign
use Rattle.p4_grammar.specs.Forms.{many_at}
use Rattle.p4_grammar.specs.Tokens.{but}
use Rattle.p4_grammar.specs.Reading.{local_at}
use Rattle.p4_part.proofs.Loops.{with_front}
use Rattle.p4_program.proofs.control.locals_of.Given as goal

abbrev pub invariant-loop-left : goal.invariant-loop-left
invariant-loop-left l = with_front l.locals (many_at l.left (but sign.Apply) (local_at l.fuel l.env) l.rest) ≡ many_at l.fn.fuel (but sign.Apply) (local_at l.fn.fuel l.fn.env) l.fn.tokens

abbrev pub decreases-loop-left : goal.decreases-loop-left
decreases-loop-left l = l.left
