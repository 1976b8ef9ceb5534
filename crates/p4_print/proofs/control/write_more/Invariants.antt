use Rattle.std.proofs.Common.{◌≡◌, ◌∷◌, ◌++◌, take}
use Rattle.p4_lex.specs.declared.token.Sign.TheVariants.{Comma}
use Rattle.p4_print.specs.Text.{text}
use Rattle.p4_print.specs.Shared.{all, the, argument_tokens}
use Rattle.p4_print.proofs.control.write_more.Given as goal

abbrev pub invariant-loop-param : goal.invariant-loop-param
invariant-loop-param l = l.out ≡ l.fn.out ++ text (all (λ p. the Comma ∷ argument_tokens p) (take l.param-index l.params))
