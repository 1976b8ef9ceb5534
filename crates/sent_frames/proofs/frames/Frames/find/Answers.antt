use Rattle.std.proofs.Common.{◌≡◌, ◌∙◌, ap, sym, Some, None}
use Rattle.proto_model.specs.Handing.{found_from}
use Rattle.rp_frame.specs.Spelling.{spelling}
use Rattle.sent_frames.specs.FirstFrames.{first_place, going, place_in, right_place}
use Rattle.sent_frames.proofs.FirstFrames.{looked}
use Rattle.sent_frames.proofs.FoundFrames.{found_is}
use Rattle.sent_frames.proofs.frames.Frames.find.Goals as goal

pub returns-in_err-place : goal.returns-in_err-place
returns-in_err-place c =
    let none : first_place c.args.bytes.now c.self.inside.items.items ≡ None =
    sym (looked c.self.inside.items.items (place_in c.self.inside.firsts) c.self.invariant.1 c.args.bytes.now)
    ∙ (ap (λ ss. right_place c.args.bytes.now ss (place_in c.self.inside.firsts c.args.bytes.now)) (sym c.deref.ensures.value) ∙ (sym c.place_of.ensures ∙ c.in_err-place.was)) in
    c.from_residual.ensures
    ∙ (ap (going c.args.to c.self.inside.items.items) (sym none)
    ∙ (found_is c.args.to c.args.bytes.now c.self.inside.items.items c.self.invariant.0 ∙ ap (found_from spelling c.args.to c.args.bytes.now 0) c.self.view_is))

pub returns : goal.returns
returns c =
    let place : first_place c.args.bytes.now c.self.inside.items.items ≡ Some c.in_ok-place.place =
    sym (looked c.self.inside.items.items (place_in c.self.inside.firsts) c.self.invariant.1 c.args.bytes.now)
    ∙ (ap (λ ss. right_place c.args.bytes.now ss (place_in c.self.inside.firsts c.args.bytes.now)) (sym c.deref.ensures.value) ∙ (sym c.place_of.ensures ∙ c.in_ok-place.was)) in
    let went : going c.args.to c.self.inside.items.items (Some c.in_ok-place.place) ≡ c.going.result =
    ap (λ ss. going c.args.to ss (Some c.in_ok-place.place)) (sym c.deref-2.ensures.value) ∙ sym c.going.ensures in
    sym went
    ∙ (ap (going c.args.to c.self.inside.items.items) (sym place)
    ∙ (found_is c.args.to c.args.bytes.now c.self.inside.items.items c.self.invariant.0 ∙ ap (found_from spelling c.args.to c.args.bytes.now 0) c.self.view_is))
