use Rattle.std.proofs.Common.{◌≡◌, ◌<◌, ◌∙◌, refl, ap, arith, length, set, get_or, ◌+◌}
use Rattle.std.specs.Prelude.{None, Option, ℕ}
use Rattle.circular_buffer.specs.Buffer.{Buffer, buffer}
use Rattle.switch_slot.specs.Rings.{emptied_place}
use Rattle.switch_slot.proofs.Marks.{emptied_to, empties_next, emptied_length}
use Rattle.switch_slot.proofs.ring.empty_places.Goals as goal

pub empty_at-requires : goal.empty_at-requires
empty_at-requires c =
    let items : c.loop-i.places.items ≡ emptied_to c.args.places.now.items c.args.mark c.loop-i.i = ap (λ (b : Buffer (Option ℕ)). b.items) c.loop-i.invariant in
    omega (arith, ap length items, emptied_length c.args.places.now.items c.args.mark c.loop-i.i (omega (arith, c.loop-i-test.true, c.len-i-end.ensures.len)), c.loop-i-test.true, c.len-i-end.ensures.len)

pub loop-i-preserved : goal.loop-i-preserved
loop-i-preserved c =
    let items : c.loop-i.places.items ≡ emptied_to c.args.places.now.items c.args.mark c.loop-i.i = ap (λ (b : Buffer (Option ℕ)). b.items) c.loop-i.invariant in
    let room : c.loop-i.places.capacity ≡ c.args.places.now.capacity = ap (λ (b : Buffer (Option ℕ)). b.capacity) c.loop-i.invariant in
    let within : c.loop-i.i < length c.args.places.now.items = omega (arith, c.loop-i-test.true, c.len-i-end.ensures.len) in
    let step : set c.loop-i.places.items c.loop-i.i (emptied_place c.args.mark (get_or c.loop-i.places.items c.loop-i.i None)) ≡ emptied_to c.args.places.now.items c.args.mark (c.loop-i.i + 1) =
    empties_next c.loop-i.places.items (set c.loop-i.places.items c.loop-i.i (emptied_place c.args.mark (get_or c.loop-i.places.items c.loop-i.i None))) c.args.places.now.items c.args.mark c.loop-i.i items within refl in
    c.empty_at.ensures ∙ (λ j. buffer (step j) (room j))
