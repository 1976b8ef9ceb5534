use Rattle.link_trace.proofs.Sent.{event_tells, hand_tells}
use Rattle.link_trace.proofs.lines_tell_frames.Goals as goal

pub returns : goal.returns
returns c = record { events = event_tells; hands = hand_tells }
