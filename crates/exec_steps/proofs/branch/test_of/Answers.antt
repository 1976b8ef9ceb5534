use Rattle.std.proofs.Common.{◌∙◌, ap, sym, ℕ, Option}
use Rattle.p4_ast.specs.declared.statement.P4Cond.{P4Cond}
use Rattle.exec_code.specs.declared.step.Test.{Test}
use Rattle.exec_code.specs.declared.step.Test.TheVariants as tested
use Rattle.exec_code.specs.Steps.{test_at}
use Rattle.app_meaning.specs.Statements.{test}
use Rattle.tree_run.specs.Contexts.{context}
use Rattle.exec_steps.proofs.Written.{outcomes}
use Rattle.exec_steps.proofs.branch.test_of.Goals as goal

pub returns-in_ok-new-in-Apply : goal.returns-in_ok-new-in-Apply
returns-in_ok-new-in-Apply c = λ called applied ns tied run.
    ap (λ (t : Test). test_at t ns run) c.in_ok-new-in-Apply.ensures
    ∙ ap (λ (i : Option ℕ). test_at (tested.Hits i c.wanted.result) ns run) c.table_number.ensures
    ∙ outcomes c.args.sc c.args.locals.now c.in-Apply.at c.in-Apply.negated c.in-Apply.name c.in-Apply.outcome c.wanted.result c.wanted.ensures called applied ns tied run
    ∙ sym (ap (λ (x : P4Cond). test x (context c.args.sc called applied) run) c.in-Apply.is)
