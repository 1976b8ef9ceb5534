use Rattle.std.proofs.Common.{◌<◌, ◌*◌}
use Rattle.mirror_buf.specs.Copies.{Named}
use Rattle.mirror_buf.proofs.Members.{acked_keeps}
use Rattle.mirror_buf.proofs.tests.every_second_slot_is_acknowledged.Goals as goal

pub loop-half-preserved : goal.loop-half-preserved
loop-half-preserved g c =
    let first = acked_keeps (λ (d : Named). d.1.sent < 1024) c.loop-half.buffer c.acked.new.self (2 * c.loop-half.half) 31 16 c.acked.ensures.copies c.loop-half.invariant.slots c.loop-half.invariant.sent in
    let second = acked_keeps (λ (d : Named). d.1.sent < 1024) c.acked.new.self c.acked-in-loop-half.new.self (2 * c.loop-half.half) 31 16 c.acked-in-loop-half.ensures.copies first.0 first.1 in
    let third = acked_keeps (λ (d : Named). d.1.sent < 1024) c.acked-in-loop-half.new.self c.acked-in-loop-half-2.new.self (2 * c.loop-half.half) 1000 16 c.acked-in-loop-half-2.ensures.copies second.0 second.1 in
    record { slots = third.0; sent = third.1 }
