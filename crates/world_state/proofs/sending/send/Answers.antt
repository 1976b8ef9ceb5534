use Rattle.world_state.proofs.Sends.{frames_more, lines_more}
use Rattle.world_state.proofs.sending.send.Goals as goal

pub loop-m-preserved : goal.loop-m-preserved
loop-m-preserved c =
    record {
      sent = frames_more c.args.event c.args.frames.now c.args.sent.now c.loop-m.m-index c.m-item.result c.loop-m-test.true c.m-item.is
          c.loop-m.frames c.send_one.new.frames c.loop-m.invariant.sent c.in_ok-send_one.ensures.frames;
      shows = lines_more c.args.event c.args.frames.now c.args.sent.now c.loop-m.m-index c.m-item.result c.loop-m-test.true c.m-item.is
          c.loop-m.frames c.args.lines.now c.loop-m.lines c.send_one.new.lines c.loop-m.invariant.sent c.loop-m.invariant.shows c.in_ok-send_one.ensures.lines;
    }
