-- What statements become, one equation for each variant.
use Rattle.std.proofs.Common.{◌≡◌, ℕ, suc, ◌+◌, ◌<◌, Bool, false, List, ◌∷◌, ◌++◌, [], map, length, drop, refl, sym, ap, ◌∙◌, if◌then◌else◌, arith}
use Rattle.std.specs.Prelude.{true, option_map}
use Rattle.p4_ast.specs.declared.control.P4Var.{P4Var}
use Rattle.p4_ast.specs.declared.statement.P4Assign.{P4Assign}
use Rattle.p4_ast.specs.declared.statement.P4Read.{P4Read}
use Rattle.p4_ast.specs.declared.statement.P4Write.{P4Write}
use Rattle.p4_ast.specs.declared.statement.P4Keystmt.{P4Keystmt}
use Rattle.p4_ast.specs.declared.statement.P4Valid.{P4Valid}
use Rattle.p4_ast.specs.declared.statement.P4Apply.{P4Apply}
use Rattle.p4_ast.specs.declared.statement.P4Callstmt.{P4Callstmt}
use Rattle.p4_ast.specs.declared.statement.P4Stmt.{P4Stmt}
use Rattle.p4_ast.specs.declared.statement.P4Stmt.TheVariants as stmt
use Rattle.p4_ast.specs.declared.statement.P4Block.{P4Block, out-P4Block, roll-P4Block}
use Rattle.p4_ast.specs.declared.statement.P4If.{P4If, out-P4If, roll-P4If}
use Rattle.p4_ast.proofs.Folds.{fold_block, fold_if, fold_stmt-Block, fold_stmt-Var, fold_stmt-Assign, fold_stmt-Read, fold_stmt-Write, fold_stmt-Keystmt, fold_stmt-Valid, fold_stmt-Apply, fold_stmt-Callstmt, fold_stmt-If}
use Rattle.app_meaning.specs.Slots.{text, named_register}
use Rattle.p4_check.specs.Rewriting.{Source, Piece, held_only, plain_piece, one_stmt, new_read, new_write, stmt_rewrite, block_rewrite, if_rewrite, joined, rewrite_stmt, rewrite_block, rewrite_if}
use Rattle.rp_rewrite.specs.Sources.{closed}
use Rattle.std.proofs.Math.ListN.{get_or}
use Rattle.std.proofs.Math.Seq.{drop-cons}
pub use Rattle.std.proofs.lemmas.List.{append_assoc}

module _ (src : Source) where
  pub piece-Block : (b : P4Block) → rewrite_stmt src (stmt.Block b) ≡ one_stmt (stmt.Block (rewrite_block src b))
  piece-Block b = fold_stmt-Block Piece P4Block P4If (stmt_rewrite src) block_rewrite if_rewrite b

  pub piece-Var : (v : P4Var) → rewrite_stmt src (stmt.Var v) ≡ one_stmt (stmt.Var v)
  piece-Var v = fold_stmt-Var Piece P4Block P4If (stmt_rewrite src) block_rewrite if_rewrite v

  pub piece-Assign : (a : P4Assign) → rewrite_stmt src (stmt.Assign a) ≡ one_stmt (stmt.Assign a)
  piece-Assign a = fold_stmt-Assign Piece P4Block P4If (stmt_rewrite src) block_rewrite if_rewrite a

  pub piece-Read : (r : P4Read) → rewrite_stmt src (stmt.Read r) ≡ plain_piece (new_read src.types r (named_register (text r.name) src.registers))
  piece-Read r = fold_stmt-Read Piece P4Block P4If (stmt_rewrite src) block_rewrite if_rewrite r

  pub piece-Write : (w : P4Write) → rewrite_stmt src (stmt.Write w) ≡ plain_piece (new_write w (named_register (text w.name) src.registers))
  piece-Write w = fold_stmt-Write Piece P4Block P4If (stmt_rewrite src) block_rewrite if_rewrite w

  pub piece-Keystmt : (k : P4Keystmt) → rewrite_stmt src (stmt.Keystmt k) ≡ record { is_key = true; stmts = stmt.Keystmt k ∷ [] }
  piece-Keystmt k = fold_stmt-Keystmt Piece P4Block P4If (stmt_rewrite src) block_rewrite if_rewrite k

  pub piece-Valid : (v : P4Valid) → rewrite_stmt src (stmt.Valid v) ≡ one_stmt (stmt.Valid v)
  piece-Valid v = fold_stmt-Valid Piece P4Block P4If (stmt_rewrite src) block_rewrite if_rewrite v

  pub piece-Apply : (a : P4Apply) → rewrite_stmt src (stmt.Apply a) ≡ one_stmt (stmt.Apply a)
  piece-Apply a = fold_stmt-Apply Piece P4Block P4If (stmt_rewrite src) block_rewrite if_rewrite a

  pub piece-Callstmt : (c : P4Callstmt) → rewrite_stmt src (stmt.Callstmt c) ≡ one_stmt (stmt.Callstmt c)
  piece-Callstmt c = fold_stmt-Callstmt Piece P4Block P4If (stmt_rewrite src) block_rewrite if_rewrite c

  pub piece-If : (i : P4If) → rewrite_stmt src (stmt.If i) ≡ one_stmt (stmt.If (rewrite_if src i))
  piece-If i = fold_stmt-If Piece P4Block P4If (stmt_rewrite src) block_rewrite if_rewrite i

  pub block_is : (b : P4Block) → rewrite_block src b ≡ roll-P4Block (record { at = (out-P4Block b).at; stmts = joined (map (rewrite_stmt src) (out-P4Block b).stmts) })
  block_is b = fold_block Piece P4Block P4If (stmt_rewrite src) block_rewrite if_rewrite b

  pub if_is : (i : P4If) → rewrite_if src i ≡ roll-P4If (record { at = (out-P4If i).at; cond = (out-P4If i).cond; then = rewrite_block src (out-P4If i).then; else_ = option_map (rewrite_block src) (out-P4If i).else_ })
  if_is i = fold_if Piece P4Block P4If (stmt_rewrite src) block_rewrite if_rewrite i

pub ruleset pieces = (piece-Block, piece-Var, piece-Assign, piece-Read, piece-Write, piece-Keystmt, piece-Valid, piece-Apply, piece-Callstmt, piece-If)

-- the last list goes on behind the innermost `flow_key`
pub closed_last : (outer : List (List P4Stmt)) (inner last : List P4Stmt) → closed (outer ++ inner ∷ []) last ≡ closed outer (inner ++ held_only last ∷ [])
closed_last [] inner last = refl
closed_last (o ∷ outer) inner last = ap (λ made. o ++ held_only made ∷ []) (closed_last outer inner last)

-- the statements from a place on are that one and those behind it
pub rest_is : (src : Source) (xs : List P4Stmt) (i : ℕ) (x : P4Stmt) → i < length xs → x ≡ get_or xs i x → map (rewrite_stmt src) (drop i xs) ≡ rewrite_stmt src x ∷ map (rewrite_stmt src) (drop (i + 1) xs)
rest_is src xs i x within is =
    let next : suc i ≡ i + 1 = omega arith in
    ap (map (rewrite_stmt src)) (drop-cons xs i x within) ∙ (λ j. rewrite_stmt src (sym is j) ∷ map (rewrite_stmt src) (drop (next j) xs))

-- behind a plain statement its block goes on
pub goes_on : (p : Piece) (before : List P4Stmt) (ps : List Piece) → p.is_key ≡ false → (before ++ p.stmts) ++ joined ps ≡ before ++ joined (p ∷ ps)
goes_on p before ps plain =
    append_assoc before p.stmts (joined ps)
    ∙ ap (λ (k : Bool). before ++ (p.stmts ++ (if k then held_only (joined ps) ∷ [] else joined ps))) (sym plain)

-- behind a `flow_key` a branch begins
pub branches_off : (p : Piece) (outer : List (List P4Stmt)) (before : List P4Stmt) (ps : List Piece) → p.is_key ≡ true →
    closed (outer ++ (before ++ p.stmts) ∷ []) (joined ps) ≡ closed outer (before ++ joined (p ∷ ps))
branches_off p outer before ps key =
    closed_last outer (before ++ p.stmts) (joined ps)
    ∙ ap (closed outer) (append_assoc before p.stmts (held_only (joined ps) ∷ [])
    ∙ ap (λ (k : Bool). before ++ (p.stmts ++ (if k then held_only (joined ps) ∷ [] else joined ps))) (sym key))
