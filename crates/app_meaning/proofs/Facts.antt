-- Facts about statements, one equation for each variant.
use Rattle.std.proofs.Common.{◌≡◌, ℕ, List, map, Option, Some, None, option_map}
use Rattle.p4_ast.specs.declared.control.P4Var.{P4Var}
use Rattle.p4_ast.specs.declared.statement.P4Assign.{P4Assign}
use Rattle.p4_ast.specs.declared.statement.P4Read.{P4Read}
use Rattle.p4_ast.specs.declared.statement.P4Write.{P4Write}
use Rattle.p4_ast.specs.declared.statement.P4Keystmt.{P4Keystmt}
use Rattle.p4_ast.specs.declared.statement.P4Valid.{P4Valid}
use Rattle.p4_ast.specs.declared.statement.P4Apply.{P4Apply}
use Rattle.p4_ast.specs.declared.statement.P4Callstmt.{P4Callstmt}
use Rattle.p4_ast.specs.declared.statement.P4Cond.{P4Cond}
use Rattle.p4_ast.specs.declared.statement.P4Stmt.{P4Stmt}
use Rattle.p4_ast.specs.declared.statement.P4Stmt.TheVariants as stmt
use Rattle.p4_ast.specs.declared.statement.P4Stmt.TheOpen as layer
use Rattle.p4_ast.specs.declared.statement.P4Stmt.TheOpen.{P4Stmt-F, P4Block-F, P4If-F}
use Rattle.p4_ast.specs.declared.statement.P4Block.{P4Block, roll-P4Block, fold-roll-P4Block}
use Rattle.p4_ast.specs.declared.statement.P4If.{P4If, roll-P4If, fold-roll-P4If}
use Rattle.p4_ast.proofs.Folds.{fold_stmt-Block, fold_stmt-Var, fold_stmt-Assign, fold_stmt-Read, fold_stmt-Write, fold_stmt-Keystmt, fold_stmt-Valid, fold_stmt-Apply, fold_stmt-Callstmt, fold_stmt-If}
use Rattle.app_meaning.specs.Premises.{Reach, Facts, stmt_facts_step, block_facts_step, if_facts_step, stmt_facts, block_facts, if_facts}

pub facts-Block : (reach : Reach) (x : P4Block) → stmt_facts reach (stmt.Block x) ≡ stmt_facts_step reach (layer.Block (block_facts reach x))
facts-Block reach x = fold_stmt-Block Facts Facts Facts (stmt_facts_step reach) block_facts_step (if_facts_step reach) x

pub facts-Var : (reach : Reach) (x : P4Var) → stmt_facts reach (stmt.Var x) ≡ stmt_facts_step reach (layer.Var x)
facts-Var reach x = fold_stmt-Var Facts Facts Facts (stmt_facts_step reach) block_facts_step (if_facts_step reach) x

pub facts-Assign : (reach : Reach) (x : P4Assign) → stmt_facts reach (stmt.Assign x) ≡ stmt_facts_step reach (layer.Assign x)
facts-Assign reach x = fold_stmt-Assign Facts Facts Facts (stmt_facts_step reach) block_facts_step (if_facts_step reach) x

pub facts-Read : (reach : Reach) (x : P4Read) → stmt_facts reach (stmt.Read x) ≡ stmt_facts_step reach (layer.Read x)
facts-Read reach x = fold_stmt-Read Facts Facts Facts (stmt_facts_step reach) block_facts_step (if_facts_step reach) x

pub facts-Write : (reach : Reach) (x : P4Write) → stmt_facts reach (stmt.Write x) ≡ stmt_facts_step reach (layer.Write x)
facts-Write reach x = fold_stmt-Write Facts Facts Facts (stmt_facts_step reach) block_facts_step (if_facts_step reach) x

pub facts-Keystmt : (reach : Reach) (x : P4Keystmt) → stmt_facts reach (stmt.Keystmt x) ≡ stmt_facts_step reach (layer.Keystmt x)
facts-Keystmt reach x = fold_stmt-Keystmt Facts Facts Facts (stmt_facts_step reach) block_facts_step (if_facts_step reach) x

pub facts-Valid : (reach : Reach) (x : P4Valid) → stmt_facts reach (stmt.Valid x) ≡ stmt_facts_step reach (layer.Valid x)
facts-Valid reach x = fold_stmt-Valid Facts Facts Facts (stmt_facts_step reach) block_facts_step (if_facts_step reach) x

pub facts-Apply : (reach : Reach) (x : P4Apply) → stmt_facts reach (stmt.Apply x) ≡ stmt_facts_step reach (layer.Apply x)
facts-Apply reach x = fold_stmt-Apply Facts Facts Facts (stmt_facts_step reach) block_facts_step (if_facts_step reach) x

pub facts-Callstmt : (reach : Reach) (x : P4Callstmt) → stmt_facts reach (stmt.Callstmt x) ≡ stmt_facts_step reach (layer.Callstmt x)
facts-Callstmt reach x = fold_stmt-Callstmt Facts Facts Facts (stmt_facts_step reach) block_facts_step (if_facts_step reach) x

pub facts-If : (reach : Reach) (x : P4If) → stmt_facts reach (stmt.If x) ≡ stmt_facts_step reach (layer.If (if_facts reach x))
facts-If reach x = fold_stmt-If Facts Facts Facts (stmt_facts_step reach) block_facts_step (if_facts_step reach) x

pub facts-block : (reach : Reach) (at : ℕ) (ss : List P4Stmt) → block_facts reach (roll-P4Block (record { at = at; stmts = ss })) ≡ block_facts_step (record { at = at; stmts = map (stmt_facts reach) ss })
facts-block reach at ss = fold-roll-P4Block Facts Facts Facts (stmt_facts_step reach) block_facts_step (if_facts_step reach) (record { at = at; stmts = ss })

pub facts-if : (reach : Reach) (at : ℕ) (c : P4Cond) (b : P4Block) (o : Option P4Block) → if_facts reach (roll-P4If (record { at = at; cond = c; then = b; else_ = o })) ≡ if_facts_step reach (record { at = at; cond = c; then = block_facts reach b; else_ = option_map (block_facts reach) o })
facts-if reach at c b None = fold-roll-P4If Facts Facts Facts (stmt_facts_step reach) block_facts_step (if_facts_step reach) (record { at = at; cond = c; then = b; else_ = None })
facts-if reach at c b (Some x) = fold-roll-P4If Facts Facts Facts (stmt_facts_step reach) block_facts_step (if_facts_step reach) (record { at = at; cond = c; then = b; else_ = Some x })
