use Rattle.std.proofs.Common.{◌∙◌, ap, sym, subst}
use Rattle.mirror_buf.specs.Copies.{Copies, sent_by, resent}
use Rattle.mirror_buf.specs.Places.{IsBuffer, Each, seen}
use Rattle.mirror_buf.proofs.Listing.{each_of_all}
use Rattle.mirror_buf.proofs.Standing.{buffer_again, again_seen, found_all, live_stays}
use Rattle.mirror_buf.proofs.buffer.MirrorBuf.resent.Goals as goal

pub move_to_back-requires : goal.move_to_back-requires
move_to_back-requires c = live_stays c.self.inside.arena c.args.id c.args.now c.get_mut.result.now c.get_mut.ensures.value

pub invariant_of-self : goal.invariant_of-self
invariant_of-self c =
    subst IsBuffer (sym c.move_to_back.ensures)
    (buffer_again c.self.inside.arena c.args.id c.args.now c.get_mut.result.now c.self.invariant (found_all c.self.inside.arena c.args.id c.get_mut.result.now c.self.invariant c.get_mut.ensures.value)
    (subst (λ (v : Copies). Each (sent_by c.args.now) v.copies) (sym c.self.view_is) (each_of_all (sent_by c.args.now) c.args.self.now.copies c.requires.sent)))

pub returns : goal.returns
returns c =
    ap seen c.move_to_back.ensures
    ∙ (again_seen c.self.inside.arena c.args.id c.args.now c.get_mut.result.now c.self.invariant (found_all c.self.inside.arena c.args.id c.get_mut.result.now c.self.invariant c.get_mut.ensures.value)
    ∙ ap (λ v. resent v c.args.id c.args.now) c.self.view_is)
