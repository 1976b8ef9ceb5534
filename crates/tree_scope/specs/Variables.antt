-- The variables that statements declare.
use Rattle.std.specs.Prelude.{List}
use Rattle.p4_ast.specs.declared.control.P4Var.{P4Var}
use Rattle.p4_ast.specs.declared.statement.P4Stmt.{P4Stmt, fold-P4Stmt}
use Rattle.p4_ast.specs.declared.statement.P4If.{P4If, fold-P4If}
use Rattle.app_meaning.specs.Programs.{stmt_variables, block_variables, if_variables}

-- the variables that are declared in a statement, also in inner ones
abbrev pub variables_in : P4Stmt → List P4Var
variables_in = fold-P4Stmt (List P4Var) (List P4Var) (List P4Var) stmt_variables block_variables if_variables

-- the variables that are declared in the branches of an `if`
abbrev pub variables_of_if : P4If → List P4Var
variables_of_if = fold-P4If (List P4Var) (List P4Var) (List P4Var) stmt_variables block_variables if_variables
