use Rattle.std.proofs.Common.{◌≡◌, ◌+◌, true, false, List, ◌∷◌, ◌++◌, [], sym, ap, ◌∙◌, map, drop}
use Rattle.p4_check.specs.Rewriting.{Source, Piece, joined, rewrite_stmt}
use Rattle.rp_rewrite.specs.Sources.{source_in, closed}
use Rattle.rp_rewrite.proofs.Pieces.{rest_is, goes_on, branches_off}
use Rattle.rp_rewrite.proofs.walk.+walk.Goals as goal
use Rattle.rp_rewrite.proofs.walk.+walk.Goals.{stmts-then-branch+in_ok-push, stmts-else-branch}

pub stmts-loop-x-preserved : goal.stmts-loop-x-preserved
stmts-loop-x-preserved t c =
    let src : Source = source_in c.args.sc in
    let p : Piece = rewrite_stmt src c.x-item.result in
    let ps : List Piece = map (rewrite_stmt src) (drop (c.loop-x.x-index + 1) c.args.xs.now) in
    let rest = rest_is src c.args.xs.now c.loop-x.x-index c.x-item.result c.loop-x-test.true c.x-item.is in
    let stmts : c.push_stmt.new.into ≡ c.loop-x.made ++ p.stmts = c.in_ok-push_stmt.ensures.stmts in
    let known = ap (λ qs. closed c.loop-x.outer (c.loop-x.made ++ joined qs)) (sym rest) ∙ c.loop-x.invariant in
    elim c.if-branch.branch [
      | stmts-then-branch+in_ok-push w ↦
          let key : p.is_key ≡ true = sym c.in_ok-push_stmt.ensures.key ∙ w.if-branch.true in
          let outer : c.if-branch.outer ≡ c.loop-x.outer ++ (c.loop-x.made ++ p.stmts) ∷ [] =
          w.outer-is ∙ w.in_ok-push.ensures.ok ∙ ap (λ ss. c.loop-x.outer ++ ss ∷ []) stmts in
          let made : c.if-branch.made ≡ [] = w.made-is ∙ w.new-made-then-branch.ensures in
          (λ j. closed (outer j) (made j ++ joined ps)) ∙ branches_off p c.loop-x.outer c.loop-x.made ps key ∙ known
      | stmts-else-branch w ↦
          let plain : p.is_key ≡ false = sym c.in_ok-push_stmt.ensures.key ∙ w.if-branch.false in
          let made : c.if-branch.made ≡ c.loop-x.made ++ p.stmts = w.made-is ∙ stmts in
          (λ j. closed (w.outer-is j) (made j ++ joined ps)) ∙ ap (closed c.loop-x.outer) (goes_on p c.loop-x.made ps plain) ∙ known
    ]
