use Rattle.std.proofs.Common.{◌∷◌}
use Rattle.p4_lex.specs.declared.token.Sign.TheVariants.{Comma}
use Rattle.p4_print.specs.Shared.{the, argument_tokens}
use Rattle.p4_print.proofs.Steps.{grown, texts}
use Rattle.p4_print.proofs.control.write_more.Goals as goal

pub loop-param-preserved : goal.loop-param-preserved
loop-param-preserved c =
    grown (λ p. the Comma ∷ argument_tokens p) c.args.params.now c.loop-param.param-index c.param-item.result _ _ _ c.loop-param-test.true c.param-item.is c.loop-param.invariant
    (rw (c.in_ok-write_argument.ensures, c.in_ok-append.ensures.ok) (simp texts))
