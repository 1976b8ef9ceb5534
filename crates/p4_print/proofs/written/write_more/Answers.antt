use Rattle.std.proofs.Common.{◌∷◌}
use Rattle.p4_lex.specs.declared.token.Sign.TheVariants.{Comma}
use Rattle.p4_print.specs.Shared.{the}
use Rattle.p4_print.proofs.Steps.{grown, texts}
use Rattle.p4_print.proofs.written.write_more.Goals as goal

pub loop-part-preserved : goal.loop-part-preserved
loop-part-preserved g c =
    grown (λ x. the Comma ∷ g.T.Written.tokens x) c.args.parts.now c.loop-part.part-index c.part-item.result _ _ _ c.loop-part-test.true c.part-item.is c.loop-part.invariant
    (rw (c.in_ok-write.ensures, c.in_ok-append.ensures.ok) (simp texts))
