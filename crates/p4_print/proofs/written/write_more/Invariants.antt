use Rattle.std.proofs.Common.{◌≡◌, ◌∷◌, ◌++◌, take}
use Rattle.p4_lex.specs.declared.token.Sign.TheVariants.{Comma}
use Rattle.p4_print.specs.Text.{text}
use Rattle.p4_print.specs.Shared.{all, the}
use Rattle.p4_print.proofs.written.write_more.Given as goal

abbrev pub invariant-loop-part : goal.invariant-loop-part
invariant-loop-part g l = l.out ≡ l.fn.out ++ text (all (λ x. the Comma ∷ g.T.Written.tokens x) (take l.part-index l.parts))
