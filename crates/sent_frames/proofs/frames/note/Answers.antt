use Rattle.std.proofs.Common.{◌≡◌, Some, None, sym, ◌∙◌}
use Rattle.sent_frames.specs.FirstFrames.{first_place, place_in}
use Rattle.sent_frames.proofs.FirstFrames.{first_noted_on_ok, known, looked, noted_on}
use Rattle.sent_frames.proofs.frames.note.Goals as goal

pub returns-in-Some-clause-next : goal.returns-in-Some-clause-next
returns-in-Some-clause-next c =
    let frames = c.args.frames.now in
    let bytes = c.args.bytes.now in
    let there : first_place c.args.bytes.now c.args.frames.now ≡ Some c.in-Some._place =
    sym (looked c.args.frames.now (place_in c.args.firsts.now) c.requires bytes) ∙ (sym c.place_of.ensures ∙ c.in-Some.is) in
    known frames (place_in c.args.firsts.now) bytes c.in-Some._place c.requires there

pub returns-in-None-clause-kept : goal.returns-in-None-clause-kept
returns-in-None-clause-kept c =
    let none : first_place c.args.bytes.now c.args.frames.now ≡ None =
    sym (looked c.args.frames.now (place_in c.args.firsts.now) c.requires c.args.bytes.now) ∙ (sym c.place_of.ensures ∙ c.in-None.is) in
    noted_on c.args.frames.now (place_in c.args.firsts.now) (place_in c.put.new.self) c.args.bytes.now c.requires none c.put.result c.put.ensures.ok c.put.ensures.err

pub returns-in-None-clause-next : goal.returns-in-None-clause-next
returns-in-None-clause-next c =
    let none : first_place c.args.bytes.now c.args.frames.now ≡ None =
    sym (looked c.args.frames.now (place_in c.args.firsts.now) c.requires c.args.bytes.now) ∙ (sym c.place_of.ensures ∙ c.in-None.is) in
    first_noted_on_ok c.args.frames.now (place_in c.args.firsts.now) (place_in c.put.new.self) c.args.bytes.now c.requires none c.put.result c.put.ensures.ok
