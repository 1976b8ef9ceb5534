use Rattle.std.proofs.Common.{◌≡◌, None, arith}
use Rattle.std.proofs.lemmas.Bool.{false≢true}
use Rattle.std.proofs.lemmas.Grind.{common_steps}
use Rattle.p4_check.specs.Programs.{bad_tree, checked, cells_of}
use Rattle.p4_check.proofs.checked.check.Goals as goal

pub invariant_of-result : goal.invariant_of-result
invariant_of-result c = (
  λ h.
      let clean : bad_tree c.args.t ≡ None = grind (arith, common_steps) in
      let tree : c.with_parts-tree.result ≡ checked c.args.t = grind (arith, common_steps) in
      let cells : c.min-cells.result ≡ cells_of c.args.t = grind (arith, common_steps) in
      (c.args.t, clean, tree, cells),
  λ h. absurd (false≢true h),
)
