use Rattle.proto_safety.proofs.Packets.MarksStand as stands
use Rattle.proto_safety.proofs.marks.marks_are_released_once.Goals as goal

pub returns : goal.returns
returns c = stands.released_once
