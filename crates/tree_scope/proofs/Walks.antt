-- The variables that statements declare, one equation for each variant, and lists that are put together piece by piece.
use Rattle.std.proofs.Common.{◌≡◌, List, [], ◌∷◌, ◌++◌, map, ap, ◌∙◌, sym}
use Rattle.std.specs.Prelude.{option_map}
use Rattle.std.proofs.lemmas.List.{map-append}
use Rattle.p4_ast.specs.declared.control.P4Var.{P4Var}
use Rattle.p4_ast.specs.declared.statement.P4Assign.{P4Assign}
use Rattle.p4_ast.specs.declared.statement.P4Read.{P4Read}
use Rattle.p4_ast.specs.declared.statement.P4Write.{P4Write}
use Rattle.p4_ast.specs.declared.statement.P4Keystmt.{P4Keystmt}
use Rattle.p4_ast.specs.declared.statement.P4Valid.{P4Valid}
use Rattle.p4_ast.specs.declared.statement.P4Apply.{P4Apply}
use Rattle.p4_ast.specs.declared.statement.P4Callstmt.{P4Callstmt}
use Rattle.p4_ast.specs.declared.statement.P4Stmt.TheVariants as stmt
use Rattle.p4_ast.specs.declared.statement.P4Block.{P4Block, out-P4Block}
use Rattle.p4_ast.specs.declared.statement.P4If.{P4If, out-P4If}
use Rattle.p4_ast.proofs.Folds.{fold_block, fold_if, fold_stmt-Block, fold_stmt-Var, fold_stmt-Assign, fold_stmt-Read, fold_stmt-Write, fold_stmt-Keystmt, fold_stmt-Valid, fold_stmt-Apply, fold_stmt-Callstmt, fold_stmt-If}
use Rattle.app_data.specs.declared.scope.Slot.{Slot}
use Rattle.app_meaning.specs.Programs.{stmt_variables, block_variables, if_variables, joined, in_else, variables_of}
use Rattle.tree_scope.specs.Variables.{variables_in, variables_of_if}
pub use Rattle.std.proofs.lemmas.List.{append_assoc}

abbrev Vars : Type 0
Vars = List P4Var

pub in-Block : (b : P4Block) → variables_in (stmt.Block b) ≡ variables_of b
in-Block b = fold_stmt-Block Vars Vars Vars stmt_variables block_variables if_variables b

pub in-Var : (v : P4Var) → variables_in (stmt.Var v) ≡ v ∷ []
in-Var v = fold_stmt-Var Vars Vars Vars stmt_variables block_variables if_variables v

pub in-Assign : (a : P4Assign) → variables_in (stmt.Assign a) ≡ []
in-Assign a = fold_stmt-Assign Vars Vars Vars stmt_variables block_variables if_variables a

pub in-Read : (r : P4Read) → variables_in (stmt.Read r) ≡ []
in-Read r = fold_stmt-Read Vars Vars Vars stmt_variables block_variables if_variables r

pub in-Write : (w : P4Write) → variables_in (stmt.Write w) ≡ []
in-Write w = fold_stmt-Write Vars Vars Vars stmt_variables block_variables if_variables w

pub in-Keystmt : (k : P4Keystmt) → variables_in (stmt.Keystmt k) ≡ []
in-Keystmt k = fold_stmt-Keystmt Vars Vars Vars stmt_variables block_variables if_variables k

pub in-Valid : (v : P4Valid) → variables_in (stmt.Valid v) ≡ []
in-Valid v = fold_stmt-Valid Vars Vars Vars stmt_variables block_variables if_variables v

pub in-Apply : (a : P4Apply) → variables_in (stmt.Apply a) ≡ []
in-Apply a = fold_stmt-Apply Vars Vars Vars stmt_variables block_variables if_variables a

pub in-Callstmt : (c : P4Callstmt) → variables_in (stmt.Callstmt c) ≡ []
in-Callstmt c = fold_stmt-Callstmt Vars Vars Vars stmt_variables block_variables if_variables c

pub in-If : (i : P4If) → variables_in (stmt.If i) ≡ variables_of_if i
in-If i = fold_stmt-If Vars Vars Vars stmt_variables block_variables if_variables i

pub of_block : (b : P4Block) → variables_of b ≡ joined (map variables_in (out-P4Block b).stmts)
of_block b = fold_block Vars Vars Vars stmt_variables block_variables if_variables b

pub of_if : (i : P4If) → variables_of_if i ≡ variables_of (out-P4If i).then ++ in_else (option_map variables_of (out-P4If i).else_)
of_if i = fold_if Vars Vars Vars stmt_variables block_variables if_variables i

-- two lists of variables go behind slots as one
pub joined_more : (f : P4Var → Slot) (out : List Slot) (vs more : List P4Var) → out ++ map f (vs ++ more) ≡ out ++ map f vs ++ map f more
joined_more f out vs more = ap (λ rest. out ++ rest) (map-append f vs more) ∙ sym (append_assoc out (map f vs) (map f more))

pub ruleset variables = (in-Block, in-Var, in-Assign, in-Read, in-Write, in-Keystmt, in-Valid, in-Apply, in-Callstmt, in-If)
