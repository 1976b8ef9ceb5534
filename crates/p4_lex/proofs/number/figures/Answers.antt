use Rattle.std.proofs.Common.{sym, ◌∙◌}
use Rattle.p4_lex.proofs.Figures.{figures-stop}
use Rattle.p4_lex.proofs.number.figures.Goals as goal

pub returns-in_err-value : goal.returns-in_err-value
returns-in_err-value c =
    c.from_residual-in_err-value.ensures
    ∙ sym (figures-stop c.args.base c.loop-c.behind c.loop-c.value c.args.digits.now c.loop-c.c-index c.in_ok-d.d _ c.requires c.loop-c-test.true c.if-c-eq95.false (sym c.digit.ensures ∙ c.in_ok-d.was) (sym c.with_digit.ensures ∙ c.in_err-value.was) c.loop-c.invariant.rest)
