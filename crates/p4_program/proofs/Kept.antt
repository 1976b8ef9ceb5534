-- Statements of a block that are read in turn, at the ends of their loop.
use Rattle.std.proofs.Common.{◌≡◌, ℕ, zero, suc, ◌<◌, Bool, true, false, List, [], Result, Ok, Err, Bor, refl, sym, ap, ◌∙◌, arith}
use Rattle.p4_lex.specs.declared.token.Token.{Token}
use Rattle.p4_lex.specs.declared.token.Sign.TheVariants as sign
use Rattle.p4_ast.specs.declared.statement.P4Stmt.{P4Stmt}
use Rattle.p4_ast.specs.declared.statement.P4Block.{P4Block}
use Rattle.p4_grammar.specs.declared.mark.Piece.{Piece}
use Rattle.p4_grammar.specs.Tokens.{is, but}
use Rattle.p4_grammar.specs.Trees.{block_of}
use Rattle.p4_program.specs.Blocks.{block_rest_at}
use Rattle.p4_grammar.specs.Forms.{Reader, hand, many_at, taken_at}
use Rattle.p4_part.specs.Made.{Gives}
use Rattle.p4_part.specs.declared.end.ReadEnd.{ReadEnd}
use Rattle.p4_part.specs.declared.end.ReadEnd.TheVariants as ends
use Rattle.p4_part.proofs.Loops.{kept_done, closed_with}

pub kept_none : (p : Reader Piece) (at : ℕ) (front : List P4Stmt) (m : ℕ) (w : List Token) → front ≡ [] → closed_with at front (many_at m (but sign.CloseBrace) p w) ≡ block_rest_at m p at w
kept_none p at front m w none = ap (λ (t : List P4Stmt). closed_with at t (many_at m (but sign.CloseBrace) p w)) none

pub kept_closed : (test : Token → Bool) (p : Reader Piece) (at : ℕ) (front : List P4Stmt) (m : ℕ) (w after : List Token) (end : ℕ) (r : Result (P4Block × List Token) (List Token)) → 0 < m → hand test w ≡ false → taken_at (is sign.CloseBrace) w ≡ Ok (end, after) → closed_with at front (many_at m test p w) ≡ r → r ≡ Ok (block_of at front, after)
kept_closed test p at front m w after end r pos h e inv = kept_done test p at front m w r pos h inv ∙ rw e refl

pub kept_unclosed : (test : Token → Bool) (p : Reader Piece) (at : ℕ) (front : List P4Stmt) (m : ℕ) (w e : List Token) (r : Result (P4Block × List Token) (List Token)) → 0 < m → hand test w ≡ false → taken_at (is sign.CloseBrace) w ≡ Err e → closed_with at front (many_at m test p w) ≡ r → r ≡ Err e
kept_unclosed test p at front m w e r pos h fault inv = kept_done test p at front m w r pos h inv ∙ rw fault refl

pub kept_stops : (test : Token → Bool) (p : Reader Piece) (at : ℕ) (front : List P4Stmt) (m : ℕ) (w : List Token) (e : ReadEnd) (r : Result (P4Block × List Token) (List Token)) → 0 < m → hand test w ≡ true → Gives {X = Piece × Bor (List Token)} (λ x. (x.0, x.1.now)) (Err e) (p w) → closed_with at front (many_at m test p w) ≡ r → Gives {X = P4Block × Bor (List Token)} (λ x. (x.0, x.1.now)) (Err e) r
kept_stops test p at front m w ends.NoMemory r pos h fault inv = tt
kept_stops test p at front zero w (ends.At e) r pos h fault inv = absurd (omega arith)
kept_stops test p at front (suc k) w (ends.At e) r pos h fault inv = sym inv ∙ rw (h, fault) refl
