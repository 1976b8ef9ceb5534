use Rattle.std.proofs.Common.{Some, cond, ap, ◌∙◌}
use Rattle.std.specs.Str.{bytes_eq}
use Rattle.sent_frames.specs.FirstFrames.{place_in}
use Rattle.sent_frames.proofs.KeyedPlaces.{set_at}
use Rattle.sent_frames.proofs.first_places.FirstPlaces.put.Goals as goal

pub returns-clause-ok : goal.returns-clause-ok
returns-clause-ok c =
    let updates = c.in_ok-insert.ensures.updates in
    λ x.
    set_at (λ k. k.items) c.args.self.now.places.entries c.insert.new.self.entries c.in_ok-key.key c.args.place updates.1 updates.3 x
    ∙ ap (λ bytes. cond (bytes_eq x bytes) (Some c.args.place) (place_in c.args.self.now x)) c.in_ok-key.ensures.items
