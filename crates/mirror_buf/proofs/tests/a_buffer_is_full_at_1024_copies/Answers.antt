use Rattle.std.proofs.Common.{sym, subst, ◌+◌, ◌*◌, ◌<◌, not}
use Rattle.std.specs.Prelude.{All}
use Rattle.std.proofs.lemmas.List.Elements.{All-filter}
use Rattle.mirror_buf.specs.Copies.{Copies, Named, is_of}
use Rattle.mirror_buf.proofs.tests.a_buffer_is_full_at_1024_copies.Goals as goal

pub keep-requires-2-clause-made : goal.keep-requires-2-clause-made
keep-requires-2-clause-made g c =
    subst (λ (v : Copies). All (λ (d : Named). (d.1.number * 16 + d.1.slot < 1025) × (d.1.sent < 1025)) v.copies) (sym c.give_up.ensures)
    (All-filter (λ d. not (is_of 3 d)) (λ (d : Named). (d.1.number * 16 + d.1.slot < 1025) × (d.1.sent < 1025)) c.keep.new.buffer.copies c.keep.ensures.made)
