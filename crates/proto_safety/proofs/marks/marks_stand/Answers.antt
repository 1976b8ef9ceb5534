use Rattle.proto_safety.proofs.Packets.MarksStand as stands
use Rattle.proto_safety.proofs.marks.marks_stand.Goals as goal

pub returns : goal.returns
returns c = stands.marks_stand
