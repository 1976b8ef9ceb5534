use Rattle.std.proofs.Common.{◌≡◌, ◌∙◌, ap, sym, Option, Some, arith}
use Rattle.std.proofs.lemmas.Grind.{common_steps}
use Rattle.app_data.specs.declared.scope.Register.{Register}
use Rattle.app_meaning.specs.Slots.{text, named_register}
use Rattle.app_meaning.specs.Statements.{write_to}
use Rattle.app_meaning.specs.Expressions.{eval}
use Rattle.p4_ast.specs.declared.expression.P4Expr.{P4Expr}
use Rattle.exec_code.specs.declared.step.Step.{Step}
use Rattle.exec_code.specs.declared.step.Writing.{Writing}
use Rattle.exec_code.specs.Steps.{Does, run_step, write_at}
use Rattle.exec_code.proofs.StepRules.{step-Write}
use Rattle.tree_eval.specs.Seen.{seen}
use Rattle.exec_steps.proofs.Written.{written}
use Rattle.exec_steps.proofs.statement.write_of.Goals as goal

pub returns : goal.returns
returns c = λ ns run.
    let sc = seen c.args.sc in
    let w = c.args.w.now in
    let g : Register = c.in-Some.g.now in
    let there : named_register (text w.name) c.args.sc.registers.now ≡ Some g = grind (arith, common_steps) in
    let made : c.in_ok-new.field-0 ≡ record { cells = (g.first, g.size); first = c.in_ok-first.first; second = c.in_ok-second.second } = grind (arith, common_steps) in
    ap (λ (s : Step). run_step s ns run) c.in_ok-boxed.ensures
    ∙ ap (λ (f : Does). f ns run) (step-Write c.in_ok-new.field-0)
    ∙ ap (λ (x : Writing). write_at x run) made
    ∙ written sc g.first g.size c.in_ok-first.first w.expr c.in_ok-second.second w.second (λ values. c.in_ok-first.ensures values ∙ ap (λ (e : P4Expr). eval e sc values) c.get.ensures) (λ values. c.in_ok-second.ensures values) run
    ∙ sym (ap (λ (o : Option Register). write_to sc w o run) there)
