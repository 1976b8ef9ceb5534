-- Statements without their places.
use Rattle.std.specs.Prelude.{map, option_map}
use Rattle.p4_ast.specs.declared.control.P4Var.{P4Var}
use Rattle.p4_ast.specs.declared.statement.P4Assign.{P4Assign}
use Rattle.p4_ast.specs.declared.statement.P4Read.{P4Read}
use Rattle.p4_ast.specs.declared.statement.P4Write.{P4Write}
use Rattle.p4_ast.specs.declared.statement.P4Keystmt.{P4Keystmt}
use Rattle.p4_ast.specs.declared.statement.P4Valid.{P4Valid}
use Rattle.p4_ast.specs.declared.statement.P4Apply.{P4Apply}
use Rattle.p4_ast.specs.declared.statement.P4Callstmt.{P4Callstmt}
use Rattle.p4_ast.specs.declared.statement.P4Cond.{P4Cond}
use Rattle.p4_ast.specs.declared.statement.P4Cond.TheVariants as cond
use Rattle.p4_ast.specs.declared.statement.P4Stmt.{P4Stmt, fold-P4Stmt}
use Rattle.p4_ast.specs.declared.statement.P4Stmt.TheOpen as layer
use Rattle.p4_ast.specs.declared.statement.P4Stmt.TheOpen.{P4Stmt-F, P4Block-F, P4If-F}
use Rattle.p4_ast.specs.declared.statement.P4Stmt.TheVariants as stmt
use Rattle.p4_ast.specs.declared.statement.P4Block.{P4Block, fold-P4Block, roll-P4Block}
use Rattle.p4_ast.specs.declared.statement.P4If.{P4If, fold-P4If, roll-P4If}
use Rattle.p4_ast.specs.Bare.{bare_name, bare_path, bare_left, bare_type, bare_expr}

abbrev pub bare_var : P4Var → P4Var
bare_var v = record { at = 0; type_ = bare_type v.type_; name = bare_name v.name; expr = option_map bare_expr v.expr }

abbrev pub bare_assign : P4Assign → P4Assign
bare_assign a = record { at = 0; left = bare_left a.left; expr = bare_expr a.expr }

abbrev pub bare_read : P4Read → P4Read
bare_read r = record { at = 0; left = bare_left r.left; type_ = option_map bare_type r.type_; name = bare_name r.name; expr = option_map bare_expr r.expr }

abbrev pub bare_write : P4Write → P4Write
bare_write w = record { at = 0; name = bare_name w.name; expr = bare_expr w.expr; second = option_map bare_expr w.second }

abbrev pub bare_keystmt : P4Keystmt → P4Keystmt
bare_keystmt k = record { at = 0; expr = bare_expr k.expr }

abbrev pub bare_valid : P4Valid → P4Valid
bare_valid v = record { at = 0; path = bare_path v.path; validity = v.validity }

abbrev pub bare_apply : P4Apply → P4Apply
bare_apply a = record { at = 0; name = bare_name a.name }

abbrev pub bare_callstmt : P4Callstmt → P4Callstmt
bare_callstmt c = record { at = 0; name = bare_name c.name; args = map bare_expr c.args }

abbrev pub bare_cond : P4Cond → P4Cond
bare_cond (cond.Expr e) = cond.Expr (bare_expr e)
bare_cond (cond.Apply at negated name outcome) = cond.Apply 0 negated (bare_name name) outcome

abbrev pub bare_stmt_step : P4Stmt-F P4Stmt P4Block P4If → P4Stmt
bare_stmt_step (layer.Block b) = stmt.Block b
bare_stmt_step (layer.Var v) = stmt.Var (bare_var v)
bare_stmt_step (layer.Assign a) = stmt.Assign (bare_assign a)
bare_stmt_step (layer.Read r) = stmt.Read (bare_read r)
bare_stmt_step (layer.Write w) = stmt.Write (bare_write w)
bare_stmt_step (layer.Keystmt k) = stmt.Keystmt (bare_keystmt k)
bare_stmt_step (layer.Valid v) = stmt.Valid (bare_valid v)
bare_stmt_step (layer.Apply a) = stmt.Apply (bare_apply a)
bare_stmt_step (layer.Callstmt c) = stmt.Callstmt (bare_callstmt c)
bare_stmt_step (layer.If i) = stmt.If i

abbrev pub bare_block_step : P4Block-F P4Stmt P4Block P4If → P4Block
bare_block_step b = roll-P4Block (record { at = 0; stmts = b.stmts })

abbrev pub bare_if_step : P4If-F P4Stmt P4Block P4If → P4If
bare_if_step i = roll-P4If (record { at = 0; cond = bare_cond i.cond; then = i.then; else_ = i.else_ })

abbrev pub bare_stmt : P4Stmt → P4Stmt
bare_stmt = fold-P4Stmt P4Stmt P4Block P4If bare_stmt_step bare_block_step bare_if_step

abbrev pub bare_block : P4Block → P4Block
bare_block = fold-P4Block P4Stmt P4Block P4If bare_stmt_step bare_block_step bare_if_step

abbrev pub bare_if : P4If → P4If
bare_if = fold-P4If P4Stmt P4Block P4If bare_stmt_step bare_block_step bare_if_step
