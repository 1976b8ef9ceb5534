use Rattle.std.proofs.Common.{refl, sym, subst, ◌∙◌, ◌≡◌}
use Rattle.std.specs.Prelude.{All, IsSome}
use Rattle.link_arena.specs.Lists.{find}
use Rattle.mirror_buf.specs.Copies.{due_ids}
use Rattle.mirror_buf.proofs.Members.{named_kept}
use Rattle.mirror_buf.proofs.tests.named_as.Goals as goal

pub loop-i-init : goal.loop-i-init
loop-i-init g c =
    let names : c.due.new.into.items ≡ due_ids 2000 900 64 c.args.buffer.now.copies = c.due.ensures.ids ∙ rw c.new-names.ensures refl in
    subst (All (λ id. IsSome (find id c.args.buffer.now.copies))) (sym names) (named_kept 2000 900 64 c.args.buffer.now.copies)
