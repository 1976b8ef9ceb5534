use Rattle.std.proofs.Common.{◌∷◌}
use Rattle.p4_lex.specs.declared.token.Sign.TheVariants.{Dot}
use Rattle.p4_print.specs.Shared.{the, name_tokens}
use Rattle.p4_print.proofs.Steps.{grown, texts}
use Rattle.p4_print.proofs.shared.write_fields.Goals as goal

pub loop-name-preserved : goal.loop-name-preserved
loop-name-preserved c =
    grown (λ n. the Dot ∷ name_tokens n) c.args.names.now c.loop-name.name-index c.name-item.result _ _ _ c.loop-name-test.true c.name-item.is c.loop-name.invariant
    (rw (c.in_ok-write.ensures, c.in_ok-append.ensures.ok) (simp texts))
