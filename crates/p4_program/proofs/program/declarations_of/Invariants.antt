use Rattle.std.proofs.Common.{◌≡◌}
use Rattle.p4_grammar.specs.Forms.{steps_at}
use Rattle.p4_grammar.specs.Reading.{begins_declaration, declarations_at}
use Rattle.p4_program.specs.Declarations.{next_declaration_at}
use Rattle.p4_program.proofs.program.declarations_of.Given as goal

abbrev pub invariant-loop-left : goal.invariant-loop-left
invariant-loop-left l = steps_at l.left begins_declaration (next_declaration_at l.fuel) (l.env, l.declarations) l.rest ≡ declarations_at l.fn.fuel l.fn.tokens

abbrev pub decreases-loop-left : goal.decreases-loop-left
decreases-loop-left l = l.left
