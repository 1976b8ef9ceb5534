use Rattle.std.proofs.Common.{◌∙◌, sym, subst, Some, None, ◌≡◌}
use Rattle.link_arena.specs.Lists.{first_id}
use Rattle.mirror_buf.specs.Places.{IsBuffer, list_at}
use Rattle.mirror_buf.proofs.Standing.{buffer_off}
use Rattle.mirror_buf.proofs.Taking.{none_seen, past_seen, some_seen}
use Rattle.mirror_buf.proofs.buffer.MirrorBuf.take_first.Goals as goal

pub returns-in_default : goal.returns-in_default
returns-in_default c =
    let none : first_id (list_at c.self.inside.arena.a c.args.slot) ≡ None = sym c.front.ensures ∙ c.in_default.is in
    none_seen c.self.inside.arena c.self.invariant c.args.slot c.args.limit c.args.self.now c.self.view_is none

pub returns-then-is_past : goal.returns-then-is_past
returns-then-is_past c =
    let first : first_id (list_at c.self.inside.arena.a c.args.slot) ≡ Some c.in-Some.id = sym c.front.ensures ∙ c.in-Some.is in
    past_seen c.self.inside.arena c.self.invariant c.args.slot c.args.limit c.args.self.now c.self.view_is c.in-Some.id c.get.result.now first c.get.ensures.b (sym c.is_past.ensures ∙ c.if-is_past.true)

pub invariant_of-self : goal.invariant_of-self
invariant_of-self c = subst IsBuffer (sym c.remove.ensures.lists) (buffer_off c.self.inside.arena c.in-Some.id c.self.invariant)

pub returns : goal.returns
returns c =
    let first : first_id (list_at c.self.inside.arena.a c.args.slot) ≡ Some c.in-Some.id = sym c.front.ensures ∙ c.in-Some.is in
    some_seen c.self.inside.arena c.self.invariant c.args.slot c.args.limit c.args.self.now c.self.view_is c.in-Some.id c.get.result.now c.remove.result first c.get.ensures.b c.remove.ensures.value (sym c.is_past.ensures ∙ c.if-is_past.false) c.remove.new.self c.remove.ensures.lists
