use Rattle.std.proofs.Common.{◌∙◌, ap}
use Rattle.p4_ast.specs.declared.expression.P4Expr.{P4Expr}
use Rattle.app_meaning.specs.Expressions.{eval}
use Rattle.tree_eval.specs.Seen.{seen}
use Rattle.exec_tables.proofs.Growing.{keys_more}
use Rattle.exec_tables.proofs.made.keys_of.Goals as goal

pub loop-k-preserved : goal.loop-k-preserved
loop-k-preserved c = λ values.
    keys_more (seen c.args.sc) values c.loop-k.cs c.push.new.self c.in_ok-code_of.field-0 c.args.keys.now c.loop-k.k-index c.k-item.result c.loop-k-test.true c.k-item.is c.in_ok-push.ensures.ok (c.loop-k.invariant values) (c.in_ok-code_of.ensures values ∙ ap (λ (e : P4Expr). eval e (seen c.args.sc) values) c.get.ensures)
