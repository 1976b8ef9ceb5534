-- A block behind its first sign, and a branch behind `else`.
use Rattle.std.specs.Prelude.{ℕ, [], ◌∷◌, Some}
use Rattle.p4_lex.specs.declared.token.Sign.TheVariants as sign
use Rattle.p4_ast.specs.declared.statement.P4Block.{P4Block}
use Rattle.p4_ast.specs.declared.statement.P4Cond.{P4Cond}
use Rattle.p4_grammar.specs.declared.mark.Piece.{Piece}
use Rattle.p4_grammar.specs.Forms.{Reader, bind_at, done_at, many_at}
use Rattle.p4_grammar.specs.Tokens.{but, words_at}
use Rattle.p4_grammar.specs.Trees.{kept_all, block_of, branch, is_open, opened, if_stmt}

-- a block behind its `{` at this place, with the statements that p reads
abbrev pub block_rest_at : ℕ → Reader Piece → ℕ → Reader P4Block
block_rest_at n p at = bind_at (many_at n (but sign.CloseBrace) p) λ ps. words_at (sign.CloseBrace ∷ []) (done_at (block_of at (kept_all ps)))

-- an `else` and the branch that p reads, behind an `if` at this place with its block
abbrev pub behind_else_at : ℕ → P4Cond → P4Block → Reader Piece → Reader Piece
behind_else_at at c then p = words_at (sign.Else ∷ []) (bind_at p λ r. done_at (opened (is_open r) at (if_stmt at c then (Some (branch r)))))
