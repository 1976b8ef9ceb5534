-- What a program is checked as.
use Rattle.std.specs.Prelude.{◌≡◌, ⊤, ℕ, Bool, false, Result, Ok, Err, Some, None}
use Rattle.p4_ast.specs.declared.program.P4Program.{P4Program}
use Rattle.p4_check.specs.declared.end.CheckEnd.{CheckEnd}
use Rattle.p4_check.specs.declared.end.CheckEnd.TheVariants as end
use Rattle.p4_check.specs.Programs.{bad_tree, checked, cells_of}
use Rattle.p4_check.specs.Rewriting.{rewritten}

-- A checked program: its tree with the width of each literal, how many cells it has, and whether it is a rewritten one.
pub record CheckedProgram : Type 0 where
  pub tree : P4Program
  pub cells : ℕ
  pub rewritten : Bool

-- the tree and the number of cells of an accepted program
abbrev pub IsSource : P4Program → ℕ → Type 0
IsSource tree cells = (p : P4Program) × (bad_tree p ≡ None) × (tree ≡ checked p) × (cells ≡ cells_of p)

-- what an accepted program's tree is rewritten to, and the number of its cells
abbrev pub IsRewritten : P4Program → ℕ → Type 0
IsRewritten tree cells = (p : P4Program) × (bad_tree p ≡ None) × (tree ≡ rewritten (checked p)) × (cells ≡ cells_of p)

-- An accepted program's checked form, or the place and the cause; want of memory has none.
abbrev pub Checks : Result CheckedProgram CheckEnd → P4Program → Type 0
Checks (Ok c) p = (bad_tree p ≡ None) × (c ≡ record { tree = checked p; cells = cells_of p; rewritten = false })
Checks (Err (end.Refused f)) p = bad_tree p ≡ Some f
Checks (Err end.NoMemory) p = ⊤
