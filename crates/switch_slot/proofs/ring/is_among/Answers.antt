use Rattle.std.proofs.Common.{◌∙◌, ap, sym, arith, None}
use Rattle.std.specs.List.{list_any}
use Rattle.std.proofs.lemmas.List.{take_all}
use Rattle.std.proofs.lemmas.List.Folds.{list_any_at}
use Rattle.proto_model.specs.Ring.{holds}
use Rattle.switch_slot.proofs.Marks.{remembers_any}
use Rattle.switch_slot.proofs.ring.is_among.Goals as goal

pub returns-then-is_at : goal.returns-then-is_at
returns-then-is_at c = sym (remembers_any c.args.places.now c.args.mark ∙ list_any_at (holds c.args.mark) c.args.places.now c.loop-place.place-index None c.loop-place-test.true (sym c.if-is_at.ensures))

pub returns : goal.returns
returns c =
    let all = take_all c.loop-place.place-index c.args.places.now (omega arith) in
    sym (remembers_any c.args.places.now c.args.mark ∙ ap (list_any (holds c.args.mark)) (sym all) ∙ c.loop-place.invariant)
