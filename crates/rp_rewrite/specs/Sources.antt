-- What the rewriting goes by, and how far a block is.
use Rattle.std.specs.Prelude.{List, [], ◌∷◌, ◌++◌, Some, codes}
use Rattle.p4_ast.specs.declared.expression.P4Expr.{P4Expr}
use Rattle.p4_ast.specs.declared.expression.P4Expr.TheVariants as expr
use Rattle.p4_ast.specs.declared.statement.P4Stmt.{P4Stmt}
use Rattle.p4_ast.specs.declared.statement.P4Stmt.TheVariants as stmt
use Rattle.app_data.specs.declared.scope.Scope.{Scope as ScopeValue}
use Rattle.p4_check.specs.Rewriting.{Source, name, bit, held_only}

-- the types and the cells that a scope names
abbrev pub source_in : ScopeValue → Source
source_in sc = record { types = sc.types.now; registers = sc.registers.now }

-- a write of a value to the cell at an index among all cells
abbrev pub cells_write : P4Expr → P4Expr → P4Stmt
cells_write i v = stmt.Write (record { at = 0; name = name (codes "rp_cells"); expr = i; second = Some (expr.Cast 0 (bit 64) v) })

-- lists of which each ends with a `flow_key`, the outermost first, and a list behind them, which runs under the lease alone
abbrev pub closed : List (List P4Stmt) → List P4Stmt → List P4Stmt
closed [] last = last
closed (outer ∷ inner) last = outer ++ held_only (closed inner last) ∷ []
