use Rattle.std.proofs.Common.{◌≡◌, ◌≤◌, ◌<◌, ◌*◌, refl, arith, length}
use Rattle.lazy_snap.specs.Snap.{base}
use Rattle.lazy_snap.proofs.Picks.{length_seen, chunk_more, chunk_whole}
use Rattle.lazy_snap.proofs.snap.LazySnap.chunk.Goals as goal

pub loop-at-preserved : goal.loop-at-preserved
loop-at-preserved c =
    let was = c.loop-at.invariant in
    let size : length (base c.args.self.now) ≡ length c.args.self.now.cells =
    length_seen c.self.inside.cells c.self.inside.kept.items c.self.inside.turn c.self.invariant.both c.self.inside.round c.args.self.now c.self.view_is c.requires.round in
    let within : c.loop-at.at < length (base c.args.self.now) = omega (arith, c.loop-at-test.true, was.until, size) in
    record {
      start = refl;
      after = omega (arith, was.after);
      until = was.until;
      items = chunk_more (base c.args.self.now) c.loop-at.into.items c.push.new.self.items (32 * c.args.i) c.loop-at.at c.at_begin.result was.after within was.items c.push.ensures.items c.at_begin.ensures;
    }

pub returns : goal.returns
returns c =
    let was = c.loop-at.invariant in
    let size : length (base c.args.self.now) ≡ length c.args.self.now.cells =
    length_seen c.self.inside.cells c.self.inside.kept.items c.self.inside.turn c.self.invariant.both c.self.inside.round c.args.self.now c.self.view_is c.requires.round in
    let fits : 32 * c.args.i ≤ length c.args.self.now.cells = omega (arith, c.requires.chunk) in
    let start : 32 * c.args.i ≤ c.min-at-end.result = omega (arith, was.until, fits) in
    let last : c.loop-at.at ≡ c.min-at-end.result = omega (arith, c.loop-at-test.false, c.loop-at.auto.at-end start) in
    chunk_whole (base c.args.self.now) c.loop-at.into.items (32 * c.args.i) c.loop-at.at (omega (arith, size, fits)) (omega (arith, last, was.until, size)) was.items
