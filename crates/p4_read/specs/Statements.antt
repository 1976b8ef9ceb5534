-- Parts of statements that are functions of their own.
use Rattle.std.specs.Prelude.{ℕ, List, [], ◌∷◌}
use Rattle.p4_lex.specs.declared.token.Sign.TheVariants as sign
use Rattle.p4_ast.specs.declared.name.P4Name.{P4Name}
use Rattle.p4_ast.specs.declared.name.P4Left.{P4Left}
use Rattle.p4_ast.specs.declared.expression.P4Expr.{P4Expr}
use Rattle.p4_ast.specs.declared.parser.P4Step.{P4Step}
use Rattle.p4_ast.specs.declared.statement.P4Stmt.TheVariants as stmt
use Rattle.p4_ast.specs.declared.statement.P4Validity.TheVariants as validity
use Rattle.p4_grammar.specs.declared.mark.Piece.{Piece}
use Rattle.p4_grammar.specs.declared.mark.Piece.TheVariants as piece
use Rattle.p4_grammar.specs.Forms.{Reader, bind_at, done_at, either_at, taken_at}
use Rattle.p4_grammar.specs.Tokens.{name, in_hand, words_at, called}
use Rattle.p4_grammar.specs.Values.{Env}
use Rattle.p4_grammar.specs.Trees.{alone, apply_piece, call_piece}
use Rattle.p4_grammar.specs.ReadingExpressions.{names_at, args_at}
use Rattle.p4_grammar.specs.ReadingStatements.{or_valid_at, assign_at, path_led_at}
use Rattle.p4_grammar.specs.Reading.{or_extract_at, state_assign_at}
use Rattle.p4_part.specs.Made.{called_in}
use Rattle.std.specs.Prelude.{codes}

-- the end of an assignment
abbrev pub assigned_expr_at : P4Left → P4Expr → Reader Piece
assigned_expr_at left e = words_at (sign.Semicolon ∷ []) (done_at (piece.Stmt left.at (stmt.Assign (record { at = left.at; left = left; expr = e }))))

-- behind a path that isn't a cell's and `write`
abbrev pub called_or_assign_at : ℕ → Env → List P4Name → Reader Piece
called_or_assign_at n env names = or_valid_at validity.SetValid (called_in (codes "setValid") names) (or_valid_at validity.SetInvalid (called_in (codes "setInvalid") names) (assign_at n env names))

-- behind the name of a table and a dot
abbrev pub applied_stmt_at : P4Name → Reader Piece
applied_stmt_at x = words_at (sign.Apply ∷ sign.Open ∷ sign.Close ∷ sign.Semicolon ∷ []) (done_at (apply_piece x))

-- behind a name, where a dot follows
abbrev pub dot_led_at : ℕ → Env → P4Name → Reader Piece
dot_led_at n env x = words_at (sign.Dot ∷ []) (either_at (in_hand sign.Apply) (applied_stmt_at x)
    (bind_at (taken_at name) λ y. bind_at (names_at n) λ ys. path_led_at n env x (y ∷ ys)))

-- behind the name of an action
abbrev pub call_stmt_at : ℕ → Env → P4Name → Reader Piece
call_stmt_at n env x = bind_at (args_at n env) λ args. words_at (sign.Semicolon ∷ []) (done_at (call_piece x args))

-- behind the path of a statement in a state
abbrev pub step_behind_at : ℕ → Env → P4Name → List P4Name → Reader P4Step
step_behind_at n env x xs = or_extract_at n (alone (called (codes "extract") x xs)) (state_assign_at n env (x ∷ xs))
