-- What code for trees and paths says beside the grammar's own words.
use Rattle.std.specs.Prelude.{◌≡◌, ℕ, List, [], ◌∷◌, Result, Ok, Err, Option, Some, None}
use Rattle.p4_lex.specs.declared.token.Token.{Token}
use Rattle.p4_ast.specs.declared.name.P4Name.{P4Name}
use Rattle.p4_ast.specs.declared.expression.P4BinaryOp.{P4BinaryOp}
use Rattle.p4_ast.specs.declared.expression.P4Expr.{P4Expr}
use Rattle.p4_ast.specs.declared.expression.P4Expr.TheVariants as expr
use Rattle.p4_grammar.specs.Forms.{Reader}
use Rattle.p4_grammar.specs.Tokens.{called}
use Rattle.p4_grammar.specs.Values.{later}
use Rattle.p4_grammar.specs.declared.mark.Spelled.{Spelled}
use Rattle.p4_part.specs.declared.end.ReadEnd.{ReadEnd}
use Rattle.p4_part.specs.declared.end.ReadEnd.TheVariants as ends

-- What a function returned is what reading gives, unless memory ran out.
abbrev pub Gives : {X Y : Type 0} → (X → Y) → Result X ReadEnd → Result Y (List Token) → Type 0
Gives view (Ok x) read = read ≡ Ok (view x)
Gives view (Err ends.NoMemory) read = Unit {0}
Gives view (Err (ends.At rest)) read = read ≡ Err rest.now

-- What a function returned that takes no memory is what reading gives.
abbrev pub Finds : {X Y E : Type 0} → (X → Y) → (E → List Token) → Result X E → Result Y (List Token) → Type 0
Finds view at (Ok x) read = read ≡ Ok (view x)
Finds view at (Err e) read = read ≡ Err (at e)

-- What was made is this, unless memory ran out.
abbrev pub Makes : {A : Type 0} → Result A ReadEnd → A → Type 0
Makes (Ok x) right = right ≡ x
Makes (Err ends.NoMemory) right = Unit {0}
Makes (Err (ends.At rest)) right = ⊥

-- a test's value where it has one
abbrev pub of_option : {A : Type 0} → Option A → Result A (Unit {0})
of_option (Some x) = Ok x
of_option None = Err tt

-- the path before its last name, where that has this text and isn't alone
abbrev pub called_in : List ℕ → List P4Name → Option (List P4Name)
called_in text [] = None
called_in text (x ∷ xs) = called text x xs

-- what follows a path, by its first name and the others
abbrev pub led : {A : Type 0} → (P4Name → List P4Name → Reader A) → List P4Name → Reader A
led f [] w = Err w
led f (x ∷ xs) w = f x xs w

-- an operation on two operands, of which the first stands at this place
abbrev pub compound_with : P4BinaryOp → ℕ → P4Expr → Spelled → Spelled
compound_with op at left y = record { at = at; expr = expr.Binary at op left y.expr; mark = later y.mark }

-- a choice at this place
abbrev pub choice_with : ℕ → P4Expr → P4Expr → Spelled → Spelled
choice_with at test first z = record { at = at; expr = expr.Choice at test first z.expr; mark = later z.mark }
